-- A number as 64 bits hold it: the largest that they hold stands for every larger one.
use Rattle.std.specs.Prelude.{ℕ, ◌-◌, ◌^◌, min}
use Rattle.sql_build_depth.specs.declared.depth.Depths.{Depths}

abbrev pub capped : ℕ → ℕ
capped n = min n (2 ^ 64 - 1)

abbrev pub capped_depths : Depths → Depths
capped_depths d = record {
  selection = capped d.selection;
  sources = capped d.sources;
  condition = capped d.condition;
  deepest = capped d.deepest;
  boxed = d.boxed;
}

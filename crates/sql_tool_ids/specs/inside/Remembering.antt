-- The map in which the program looks ids up.
use Rattle.std.specs.Prelude.{◌≡◌, ℕ, List, map}
use Rattle.std.specs.BTreeMap.{BTreeMap, IsOrdered, btree_map_len}
use Rattle.sql_schema.specs.Declarations.{Declarations}
use Rattle.sql_dialect.specs.declared.backend.Dialect.{Dialect}
use Rattle.sql_rules.specs.Lists.{Each}
use Rattle.sql_rows.specs.declared.cache.RequestKey.{RequestKey}
use Rattle.sql_rows.specs.contracts.cache.NamedRequestOrd.TheImpl as key_ord
use Rattle.sql_tool_build.specs.Judgement.{Judges, Made}
use Rattle.sql_tool_build.specs.Output.{Line, StatementRequest, line_shape, lines_text}
use Rattle.sql_tool_build.specs.inside.Keys.{Tells, line_key, seen_at}
use Rattle.sql_tool_ids.specs.Memory.{AreLinesAfter, Memory, after_lines, no_memory}

abbrev pub IsSorted : BTreeMap RequestKey ℕ → Type 0
IsSorted seen = IsOrdered (key_ord.ghosts).cmp seen

-- The map has the numbers of what is remembered: of the keys of lines that have its shapes.
pub record Remembers (schema : Declarations) (seen : BTreeMap RequestKey ℕ) (m : Memory) : Type 0 where
  pub lines : List Line
  pub shapes : map line_shape lines ≡ m.shapes
  pub judged : Each (λ l. (d : Dialect) × (m : Made) × Judges schema d m l.judgement) lines
  pub tells : Tells (seen_at seen) (map line_key lines)
  pub count : btree_map_len seen ≡ m.count
  pub sorted : IsSorted seen

-- the text is the lines of these requests, and the map has the numbers of what is remembered after them
abbrev pub AreWrittenAfter : ℕ → Declarations → BTreeMap RequestKey ℕ → List StatementRequest → List ℕ → Type 0
AreWrittenAfter most schema seen rs text =
    (ls : List Line) × AreLinesAfter most schema no_memory rs ls × Remembers schema seen (after_lines most no_memory ls)
    × (text ≡ lines_text ls)

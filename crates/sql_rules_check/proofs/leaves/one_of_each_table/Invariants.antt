use Rattle.std.proofs.Common.{◌≡◌, map, take}
use Rattle.sql_schema.specs.declared.declaration.TableDecl.{TableDecl}
use Rattle.sql_origin.specs.Borrowed.{origin_of}
use Rattle.sql_rules.specs.Lists.{AnyOf}
use Rattle.sql_rules_check.specs.inside.Tables.{Cover, Holds}
use Rattle.sql_rules_check.proofs.leaves.one_of_each_table.Given as goal

abbrev pub invariant-loop-leaf : goal.invariant-loop-leaf
invariant-loop-leaf l = record {
  held : (t : TableDecl) → Holds l.tables t → AnyOf (λ k. k.table ≡ t) (map origin_of l.kept.items);
  all : Cover (map origin_of l.kept.items) (map origin_of (take l.leaf-index l.leaves));
  among : Cover (map origin_of l.leaves) (map origin_of l.kept.items);
}

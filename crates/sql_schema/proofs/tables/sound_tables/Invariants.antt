use Rattle.std.proofs.Common.{◌≡◌, ◌++◌, false}
use Rattle.std.specs.List.{list_any}
use Rattle.sql_schema.specs.Refusals.{is_unsound}
use Rattle.sql_schema.proofs.tables.sound_tables.Given as goal

abbrev pub invariant-loop-decl : goal.invariant-loop-decl
invariant-loop-decl l =
    (l.tables.items ++ l.decl-iterator.rest.items ≡ l.fn.decls.items)
    × (list_any is_unsound l.decl-iterator.rest.items ≡ false)

use Rattle.std.proofs.Common.{◌≡◌, drop}
use Rattle.std.specs.Cmp.Lexicographic.{slice_cmp}
use Rattle.sql_schema.specs.inside.Tables.{sized_cmp}
use Rattle.sql_schema.proofs.compared.cmp_columns.Given as goal

abbrev pub invariant-loop-column : goal.invariant-loop-column
invariant-loop-column l = slice_cmp sized_cmp (drop l.column-index l.one) l.rest ≡ slice_cmp sized_cmp l.one l.other

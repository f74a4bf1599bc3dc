-- What there is among what may be absent.
use Rattle.std.specs.Prelude.{ℕ, List, Option, Some, None}
use Rattle.std.specs.List.{filter_map}
use Rattle.sql_grammar.specs.MarkTree.{Name}
use Rattle.sql_audit_resolution.specs.declared.column_use.ColumnUse.{ColumnUse}
use Rattle.sql_audit_resolution.specs.declared.column_use.Meaning.{Meaning}
use Rattle.sql_audit_resolution.specs.declared.column_use.Meaning.TheVariants.{Nothing, Several, Column}

abbrev pub known : List (Option Name) → List Name
known tables = filter_map (λ name. name) tables

abbrev pub column_of : Meaning → Option ColumnUse
column_of Nothing = None
column_of Several = None
column_of (Column c) = Some c

abbrev pub columns_among : List Meaning → List ColumnUse
columns_among meanings = filter_map column_of meanings

-- The least refusal in two parts: what tables alone are refused for, and what relations are.
use Rattle.std.specs.Prelude.{List, Option, Some, None, if◌then◌else◌}
use Rattle.std.specs.List.{list_any}
use Rattle.sql_schema.specs.declared.declaration.TableDecl.{TableDecl}
use Rattle.sql_schema.specs.declared.error.SchemaError.{SchemaError}
use Rattle.sql_schema.specs.declared.error.SchemaError.TheVariants.{DuplicateTable, NoColumns, DuplicateColumn, UnknownKey, UnknownTable, BadJoinable}
use Rattle.sql_schema.specs.Declarations.{Declarations}
use Rattle.sql_schema.specs.Refusals.{has_duplicate_table, lacks_columns, has_duplicate_column, lacks_key, names_unknown_table, has_bad_joinable}

unfoldable pub tables_refusal : List TableDecl → Option SchemaError
tables_refusal tables =
    if has_duplicate_table tables then Some DuplicateTable
    else if list_any lacks_columns tables then Some NoColumns
    else if list_any has_duplicate_column tables then Some DuplicateColumn
    else if list_any lacks_key tables then Some UnknownKey
    else None

unfoldable pub relations_refusal : Declarations → Option SchemaError
relations_refusal s =
    if names_unknown_table s then Some UnknownTable else if has_bad_joinable s then Some BadJoinable else None

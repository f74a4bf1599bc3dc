-- The tests that `==` computes of types and declarations. A law says that each of them is equality.
use Rattle.std.specs.Prelude.{Bool}
use Rattle.sql_schema.specs.declared.declaration.ColumnDecl.{ColumnDecl}
use Rattle.sql_schema.specs.declared.declaration.TableDecl.{TableDecl}
use Rattle.sql_schema.specs.declared.types.SqlType.{SqlType}
use Rattle.sql_schema.specs.contracts.declaration.ColumnDeclPartialEq.TheImpl as column_eq
use Rattle.sql_schema.specs.contracts.declaration.TableDeclPartialEq.TheImpl as table_eq
use Rattle.sql_schema.specs.contracts.types.SqlTypePartialEq.TheImpl as type_eq

abbrev pub same_type : SqlType → SqlType → Bool
same_type = (type_eq.ghosts).eq

abbrev pub same_column : ColumnDecl → ColumnDecl → Bool
same_column = (column_eq.ghosts).eq

abbrev pub same_table : TableDecl → TableDecl → Bool
same_table = (table_eq.ghosts).eq

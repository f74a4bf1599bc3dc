-- Databases, and the rows from which an expression takes the values of columns (PostgreSQL, Value Expressions, Column
-- References; SELECT, FROM Clause).
use Rattle.std.specs.Prelude.{List, [], ◌∷◌, ◌++◌, map, if◌then◌else◌}
use Rattle.sql_schema.specs.Equality.{same_column}
use Rattle.sql_schema.specs.declared.declaration.ColumnDecl.{ColumnDecl}
use Rattle.sql_schema.specs.declared.declaration.TableDecl.{TableDecl}
use Rattle.sql_pass.specs.declared.value.Value.{Value}
use Rattle.sql_pass.specs.declared.value.Value.TheVariants as V
use Rattle.sql_node.specs.Tree.{Origin, Form, unboxed, boxed, From, no_source, from}
use Rattle.sql_origin.specs.Leaves.{Leaf}
use Rattle.sql_origin.specs.Origins.{same_origin}
use Rattle.sql_rows_meaning.specs.Rows.{Row}

-- the rows of each table, an order among them being of no account
abbrev pub Database : Type 0
Database = TableDecl → List Row

-- One row of each of some tables and aliases: those of the row at hand first, then those that the clause around the statement
-- sees.
abbrev pub Frame : Type 0
Frame = List (Origin × Row)

-- the row of that table or alias, the first where there are two
abbrev pub row_of : Origin → Frame → Row
row_of o [] = []
row_of o (entry ∷ f) = if same_origin o entry.0 then entry.1 else row_of o f

-- the value at the column's index
abbrev pub value_in : ColumnDecl → List ColumnDecl → Row → Value
value_in c (d ∷ ds) (v ∷ vs) = if same_column d c then v else value_in c ds vs
value_in c _ _ = V.Null

abbrev pub value_of : Origin → ColumnDecl → Frame → Value
value_of o c f = value_in c o.table.columns (row_of o f)

-- NULL in each column of each leaf: what stands in for a right row that is missing
abbrev pub nulls : List Leaf → Frame
nulls ls = map (λ l. (l.origin, map (λ c. V.Null) l.origin.table.columns)) ls

-- The frame that WHERE sees, as `widest` says it of names: its row, and what the clause around the statement sees. A boxed statement
-- and one without a source see their own alone.
abbrev pub where_sees : Form → From → Frame → Frame → Frame
where_sees (unboxed l) no_source row outer = []
where_sees (unboxed l) (from f) row outer = row ++ outer
where_sees (boxed d n) f row outer = row

-- The leaves and the columns of a statement in the order in which they are written, and when a report says of each column its own
-- source. What stands in a membership among no values is written nowhere on dialects that write a place for each value.
use Rattle.std.specs.Prelude.{◌≡◌, ℕ, List, [], ◌∷◌, ◌++◌, map, Some, slice_get}
use Rattle.sql_dialect.specs.Syntax.{array}
use Rattle.sql_dialect.specs.declared.backend.Dialect.{Dialect}
use Rattle.sql_dialect.specs.declared.syntax.ArrayComparison.{ArrayComparison}
use Rattle.sql_dialect.specs.declared.syntax.ArrayComparison.TheVariants.{AnsiSqlArrayComparison, PgStyleArrayComparison}
use Rattle.sql_schema.specs.declared.declaration.ColumnDecl.{ColumnDecl}
use Rattle.sql_pass.specs.declared.value.Value.{Value}
use Rattle.sql_node.specs.Tree.{Origin, Expr, column, value, list, count_star, nullable, unary, count, compared, joined, exists, single, among_values, among_rows, Exprs, no_exprs, more_exprs, Items, no_items, more_items, MaybeExpr, no_expr, an_expr, Source, of_table, of_alias, join, From, no_source, from, Distinct, every, distinct, distinct_on, Order, no_order, order_by, Statement, select, combination}
use Rattle.sql_origin.specs.Origins.{a_table, an_alias}
use Rattle.sql_audit_resolution.specs.declared.column_use.ColumnUse.{ColumnUse}
use Rattle.sql_audit.specs.declared.report.AuditReport.{AuditReport}

-- what stands before IN, where it is written
abbrev pub kept : {X : Type 0} → ArrayComparison → List Value → List X → List X
kept PgStyleArrayComparison vs xs = xs
kept AnsiSqlArrayComparison [] xs = []
kept AnsiSqlArrayComparison (v ∷ vs) xs = xs

-- ## Leaves

abbrev mutual
  pub sources_expr : Dialect → Expr → List Origin
  sources_expr d (column o c) = []
  sources_expr d (value t x) = []
  sources_expr d (list es) = sources_exprs d es
  sources_expr d count_star = []
  sources_expr d (nullable e) = sources_expr d e
  sources_expr d (unary n e) = sources_expr d e
  sources_expr d (count e) = sources_expr d e
  sources_expr d (compared by a b) = sources_expr d a ++ sources_expr d b
  sources_expr d (joined by a b) = sources_expr d a ++ sources_expr d b
  sources_expr d (exists q) = sources d q
  sources_expr d (single q) = sources d q
  sources_expr d (among_values n e t vs) = kept (array d) vs (sources_expr d e)
  sources_expr d (among_rows n e q) = sources_expr d e ++ sources d q

  pub sources_exprs : Dialect → Exprs → List Origin
  sources_exprs d no_exprs = []
  sources_exprs d (more_exprs e es) = sources_expr d e ++ sources_exprs d es

  pub sources_items : Dialect → Items → List Origin
  sources_items d no_items = []
  sources_items d (more_items e by is) = sources_expr d e ++ sources_items d is

  pub sources_maybe : Dialect → MaybeExpr → List Origin
  sources_maybe d no_expr = []
  sources_maybe d (an_expr e) = sources_expr d e

  pub sources_source : Dialect → Source → List Origin
  sources_source d (of_table t only sample) = a_table t ∷ []
  sources_source d (of_alias a t) = an_alias a t ∷ []
  sources_source d (join k l r on) = sources_source d l ++ (sources_source d r ++ sources_maybe d on)

  pub sources_from : Dialect → From → List Origin
  sources_from d no_source = []
  sources_from d (from s) = sources_source d s

  pub sources_distinct : Dialect → Distinct → List Origin
  sources_distinct d every = []
  sources_distinct d distinct = []
  sources_distinct d (distinct_on e) = sources_expr d e

  pub sources_order : Dialect → Order → List Origin
  sources_order d no_order = []
  sources_order d (order_by is) = sources_items d is

  pub sources : Dialect → Statement → List Origin
  sources d (select default e f u w o rows g h form marks) =
      sources_distinct d u ++ (sources_expr d e ++ (sources_from d f ++ (sources_maybe d w
      ++ (sources_maybe d g ++ (sources_maybe d h ++ sources_order d o)))))
  sources d (combination by all a b o rows) = sources d a ++ sources d b

-- ## Columns

-- a column with what it is one of
abbrev pub Owned : Type 0
Owned = Origin × ColumnDecl

abbrev mutual
  pub columns_expr : Dialect → Expr → List Owned
  columns_expr d (column o c) = (o, c) ∷ []
  columns_expr d (value t x) = []
  columns_expr d (list es) = columns_exprs d es
  columns_expr d count_star = []
  columns_expr d (nullable e) = columns_expr d e
  columns_expr d (unary n e) = columns_expr d e
  columns_expr d (count e) = columns_expr d e
  columns_expr d (compared by a b) = columns_expr d a ++ columns_expr d b
  columns_expr d (joined by a b) = columns_expr d a ++ columns_expr d b
  columns_expr d (exists q) = columns_in d q
  columns_expr d (single q) = columns_in d q
  columns_expr d (among_values n e t vs) = kept (array d) vs (columns_expr d e)
  columns_expr d (among_rows n e q) = columns_expr d e ++ columns_in d q

  pub columns_exprs : Dialect → Exprs → List Owned
  columns_exprs d no_exprs = []
  columns_exprs d (more_exprs e es) = columns_expr d e ++ columns_exprs d es

  pub columns_items : Dialect → Items → List Owned
  columns_items d no_items = []
  columns_items d (more_items e by is) = columns_expr d e ++ columns_items d is

  pub columns_maybe : Dialect → MaybeExpr → List Owned
  columns_maybe d no_expr = []
  columns_maybe d (an_expr e) = columns_expr d e

  pub columns_source : Dialect → Source → List Owned
  columns_source d (of_table t only sample) = []
  columns_source d (of_alias a t) = []
  columns_source d (join k l r on) = columns_source d l ++ (columns_source d r ++ columns_maybe d on)

  pub columns_from : Dialect → From → List Owned
  columns_from d no_source = []
  columns_from d (from s) = columns_source d s

  pub columns_distinct : Dialect → Distinct → List Owned
  columns_distinct d every = []
  columns_distinct d distinct = []
  columns_distinct d (distinct_on e) = columns_expr d e

  pub columns_order : Dialect → Order → List Owned
  columns_order d no_order = []
  columns_order d (order_by is) = columns_items d is

  pub columns_in : Dialect → Statement → List Owned
  columns_in d (select default e f u w o rows g h form marks) =
      columns_distinct d u ++ (columns_expr d e ++ (columns_from d f ++ (columns_maybe d w
      ++ (columns_maybe d g ++ (columns_maybe d h ++ columns_order d o)))))
  columns_in d (combination by all a b o rows) = columns_in d a ++ columns_in d b

-- ## Reports

-- the two lists are as long, and R holds of each two elements at one place
abbrev pub AllPairs : {X Y : Type 0} → (X → Y → Type 0) → List X → List Y → Type 0
AllPairs R [] [] = Unit {0}
AllPairs R [] (y ∷ ys) = ⊥
AllPairs R (x ∷ xs) [] = ⊥
AllPairs R (x ∷ xs) (y ∷ ys) = R x y × AllPairs R xs ys

-- the use is of that column, and its leaf is the column's own source
abbrev pub IsOwn : List Origin → ColumnUse → Owned → Type 0
IsOwn os u c =
    (u.table ≡ c.0.table.name) × (u.column ≡ c.1.name) × (slice_get os u.leaf ≡ Some c.0)

-- the report has the table of each leaf of the statement, and of each column its own source
abbrev pub IsOwnReport : Dialect → Statement → AuditReport → Type 0
IsOwnReport d s r =
    (r.tables ≡ map (λ o. o.table.name) (sources d s)) × AllPairs (IsOwn (sources d s)) r.uses (columns_in d s)

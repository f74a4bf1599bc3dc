-- Four whole statements, whose normal trees the grammar has as examples.
use Rattle.std.specs.Prelude.{ℕ, ℤ, pos, List, [], ◌∷◌, ◌++◌, map, Option, Some, None, true, false, codes}
use Rattle.sql_schema.specs.declared.declaration.ColumnDecl.{ColumnDecl}
use Rattle.sql_schema.specs.declared.declaration.TableDecl.{TableDecl}
use Rattle.sql_schema.specs.declared.types.Base.TheVariants as base
use Rattle.sql_schema.specs.declared.types.SqlType.{SqlType}
use Rattle.sql_dialect.specs.declared.backend.Dialect.TheVariants.{Mysql}
use Rattle.sql_dialect.specs.declared.combination.Combinator.TheVariants.{Union, Except}
use Rattle.sql_dialect.specs.declared.combination.DuplicateRule.TheVariants.{Distinct as DistinctRows, All}
use Rattle.sql_pass.specs.declared.value.Value.TheVariants as v
use Rattle.sql_leaf.specs.Marking.{unmarked}
use Rattle.sql_leaf.specs.declared.limit_offset.LimitOffsetClause.{LimitOffsetClause}
use Rattle.sql_leaf.specs.declared.locking.LockMode.TheVariants.{ForUpdate}
use Rattle.sql_leaf.specs.declared.locking.LockingClause.TheVariants.{NoLockingClause, LockingClause as Locked}
use Rattle.sql_leaf.specs.declared.locking.Modifier.TheVariants.{SkipLocked}
use Rattle.sql_leaf.specs.declared.position.Direction.TheVariants.{Desc}
use Rattle.sql_leaf.specs.declared.table_source.JoinKind.TheVariants.{LeftOuter}
use Rattle.sql_leaf.specs.declared.table_source.TablesampleMethod.TheVariants.{SystemMethod}
use Rattle.sql_node.specs.Tree.{Form, unboxed, boxed, Expr, column, value, list, count_star, compared, among_values, no_exprs, more_exprs, no_items, more_items, MaybeExpr, no_expr, an_expr, Source, of_table, of_alias, join, no_source, from, every, distinct_on, no_order, order_by, Statement, select, combination}
use Rattle.sql_leaf.specs.declared.operator.Comparison.TheVariants.{Eq, Gt}

abbrev pub whole_number : SqlType
whole_number = record { base = base.Integer; nullable = false }

-- a table whose key is all its columns
abbrev pub table : Option (List ℕ) → List ℕ → List ColumnDecl → TableDecl
table schema name columns =
    record {
      name = name;
      sql_name = name;
      schema = schema;
      columns = columns;
      primary_key = map (λ c. c.name) columns;
    }

abbrev pub decl : List ℕ → ColumnDecl
decl name = record { name = name; sql_name = name; ty = whole_number; max_length = None }

abbrev pub rows : Option ℤ → Option ℤ → LimitOffsetClause
rows limit offset = record { limit_clause = limit; offset_clause = offset }

-- On Pg: a distinct selection, a join with a sample, an array, a page and a lock.
abbrev pub users : TableDecl
users = table None (codes "users") (decl (codes "id") ∷ [])

abbrev pub posts : TableDecl
posts = table (Some (codes "blog")) (codes "posts") (decl (codes "user_id") ∷ [])

abbrev pub user_id : Expr
user_id = column (record { alias = Some (codes "u"); table = users }) (decl (codes "id"))

abbrev pub author : Expr
author = column (record { alias = None; table = posts }) (decl (codes "user_id"))

abbrev pub users_and_posts : Source
users_and_posts =
    join LeftOuter (of_alias (codes "u") users)
    (of_table posts true (Some (record { method = SystemMethod; portion = pos 10; seed = None })))
    (an_expr (compared Eq user_id author))

abbrev pub pg_statement : Statement
pg_statement =
    select false (list (more_exprs user_id (more_exprs count_star no_exprs))) (from users_and_posts)
    (distinct_on user_id)
    (an_expr (among_values false user_id whole_number (v.Integer (pos 1) ∷ v.Integer (pos 2) ∷ [])))
    (order_by (more_items user_id Desc no_items))
    (rows (Some (pos 5)) None) no_expr no_expr (unboxed (Locked ForUpdate SkipLocked)) unmarked

-- On Mysql: a union of two selections, one with a list and one with an offset alone, in the order of its first column.
abbrev pub letters : TableDecl
letters = table None (codes "a") (decl (codes "x") ∷ [])

abbrev pub column_x : Expr
column_x = column (record { alias = None; table = letters }) (decl (codes "x"))

abbrev pub select_x : Option ℤ → MaybeExpr → MaybeExpr → MaybeExpr → Form → Statement
select_x offset w by h form =
    select false column_x (from (of_table letters false None)) every w no_order (rows None offset) by h form unmarked

abbrev pub mysql_statement : Statement
mysql_statement =
    combination Union All
    (select_x None (an_expr (among_values true column_x whole_number (v.Integer (pos 1) ∷ v.Integer (pos 2) ∷ [])))
    no_expr no_expr (unboxed NoLockingClause))
    (select_x (Some (pos 7)) no_expr no_expr no_expr (boxed Mysql false))
    (Some (record { column = record { 0 = 1 }; direction = Desc } ∷ [])) (rows None None)

-- On Sqlite: groups, without what a selection gives whose condition is false whatever the row.
abbrev pub sqlite_statement : Statement
sqlite_statement =
    combination Except DistinctRows
    (select_x None no_expr (an_expr column_x)
    (an_expr (compared Gt count_star (value whole_number (v.Integer (pos 3))))) (unboxed NoLockingClause))
    (select false (value whole_number (v.Integer (pos 4))) no_source every
    (an_expr (among_values false column_x whole_number [])) no_order (rows None None) no_expr no_expr
    (unboxed NoLockingClause) unmarked) None (rows None (Some (pos 2)))

-- On Bracket: the rows to skip stand before those to take.
abbrev pub bracket_statement : Statement
bracket_statement =
    select false column_x (from (of_table letters false None)) every
    (an_expr (among_values false column_x whole_number (v.Integer (pos 1) ∷ v.Integer (pos 2) ∷ []))) no_order
    (rows (Some (pos 5)) (Some (pos 7))) no_expr no_expr (unboxed NoLockingClause) unmarked

-- ---- their texts

abbrev pub pg_text : List ℕ
pg_text =
    codes
    "SELECT DISTINCT ON (\"u\".\"id\") \"u\".\"id\", COUNT(*) FROM (\"users\" AS \"u\" LEFT OUTER JOIN  ONLY \"blog\".\"posts\""
    ++ (codes " TABLESAMPLE SYSTEM($1) ON (\"u\".\"id\" = \"blog\".\"posts\".\"user_id\"))"
    ++ codes " WHERE (\"u\".\"id\" = ANY($2)) ORDER BY \"u\".\"id\" DESC LIMIT $3 FOR UPDATE SKIP LOCKED")

abbrev pub mysql_text : List ℕ
mysql_text =
    codes "(SELECT `a`.`x` FROM `a` WHERE (`a`.`x` NOT IN (?, ?))) UNION ALL "
    ++ codes "(SELECT `a`.`x` FROM `a` LIMIT 18446744073709551615  OFFSET ?) ORDER BY 1 DESC"

abbrev pub sqlite_text : List ℕ
sqlite_text =
    codes "SELECT * FROM (SELECT `a`.`x` FROM `a` GROUP BY `a`.`x` HAVING (COUNT(*) > ?))"
    ++ codes " EXCEPT SELECT * FROM (SELECT ? WHERE (1=0)) LIMIT -1  OFFSET ?"

abbrev pub bracket_text : List ℕ
bracket_text =
    codes "SELECT [a].[x] FROM [a] WHERE ([a].[x] IN (@p1, @p2)) OFFSET @p3 ROWS FETCH NEXT @p4 ROWS ONLY"

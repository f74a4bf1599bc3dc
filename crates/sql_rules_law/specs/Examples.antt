-- Declarations that make a schema, and statements over it.
use Rattle.std.specs.Prelude.{pos, List, [], ◌∷◌, Some, None, true, false, codes}
use Rattle.sql_schema.specs.Declarations.{Declarations}
use Rattle.sql_schema.specs.declared.declaration.ColumnDecl.{ColumnDecl}
use Rattle.sql_schema.specs.declared.declaration.TableDecl.{TableDecl}
use Rattle.sql_pass.specs.declared.value.Value.{Value}
use Rattle.sql_pass.specs.declared.value.Value.TheVariants.{Integer}
use Rattle.sql_leaf.specs.Marking.{unmarked}
use Rattle.sql_leaf.specs.declared.locking.LockingClause.TheVariants.{NoLockingClause}
use Rattle.sql_leaf.specs.declared.operator.Unary.TheVariants.{IsNotNull}
use Rattle.sql_leaf.specs.declared.operator.Comparison.TheVariants.{Eq}
use Rattle.sql_node.specs.Tree.{unboxed, Expr, column, value, list, unary, compared, among_values, no_exprs, more_exprs, no_expr, an_expr, of_table, from, every, no_order, Statement, select}
use Rattle.sql_normal.specs.Examples.{decl, rows, table, whole_number}

abbrev pub id : ColumnDecl
id = decl (codes "id")

abbrev pub users : TableDecl
users = table None (codes "users") (id ∷ [])

abbrev pub user_id : Expr
user_id = column (record { alias = None; table = users }) id

abbrev pub one_table : Declarations
one_table = record { tables = users ∷ []; joinables = []; together = [] }

-- `SELECT "users"."id" FROM "users" WHERE ("users"."id" IS NOT NULL) LIMIT $1`
abbrev pub first_users : Statement
first_users =
    select false (list (more_exprs user_id no_exprs)) (from (of_table users false None)) every
    (an_expr (unary IsNotNull user_id)) no_order (rows (Some (pos 5)) None) no_expr no_expr
    (unboxed NoLockingClause) unmarked

-- `SELECT "users"."id" FROM "users" WHERE` a condition
abbrev pub users_where : Expr → Statement
users_where e =
    select false (list (more_exprs user_id no_exprs)) (from (of_table users false None)) every (an_expr e) no_order
    (rows None None) no_expr no_expr (unboxed NoLockingClause) unmarked

-- `("users"."id" = $1)`
abbrev pub users_where_id : Value → Statement
users_where_id x = users_where (compared Eq user_id (value whole_number x))

-- `("users"."id" = ANY($1))`
abbrev pub users_among : List Value → Statement
users_among xs = users_where (among_values false user_id whole_number xs)

-- lists of two lengths
abbrev pub one_value : List Value
one_value = Integer (pos 1) ∷ []

abbrev pub two_values : List Value
two_values = Integer (pos 1) ∷ (Integer (pos 2) ∷ [])

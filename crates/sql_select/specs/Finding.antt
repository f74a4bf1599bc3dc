-- The rows whose key has given values (diesel, `FindDsl`).
use Rattle.std.specs.Prelude.{ℕ, List, [], ◌∷◌, Bool, true, false, length, nat_eq, Option, None, Some, option_map}
use Rattle.sql_schema.specs.Columns.{column_in}
use Rattle.sql_leaf.specs.declared.operator.Comparison.TheVariants.{Eq}
use Rattle.sql_leaf.specs.declared.operator.Logic.TheVariants.{And}
use Rattle.sql_node.specs.Tree.{Statement, Expr, compared, joined, MaybeExpr, no_expr, an_expr, From, no_source, from, Source, of_table, of_alias, join, Origin}
use Rattle.sql_expr.specs.Calls.{beside}
use Rattle.sql_origin.specs.Origins.{a_table, an_alias, column_under}
use Rattle.sql_select.specs.Clauses.{Clauses, changed}

-- the table or alias that is the whole source
abbrev pub single_leaf : Source → Option Origin
single_leaf (of_table t only sample) = Some (a_table t)
single_leaf (of_alias a t) = Some (an_alias a t)
single_leaf (join k l r on) = None

abbrev pub only_leaf : From → Option Origin
only_leaf no_source = None
only_leaf (from s) = single_leaf s

abbrev pub in_front : Option Expr → List Expr → List Expr
in_front None es = es
in_front (Some e) es = e ∷ es

-- the columns of these names; a table has every column of its key
abbrev pub columns_named : Origin → List (List ℕ) → List Expr
columns_named o [] = []
columns_named o (k ∷ ks) = in_front (option_map (column_under o.alias) (column_in o.table k)) (columns_named o ks)

abbrev pub key_columns : Origin → List Expr
key_columns o = columns_named o o.table.primary_key

-- each column equals the value at its place
abbrev pub equal_each : List Expr → List Expr → List Expr
equal_each [] vs = []
equal_each (c ∷ cs) [] = []
equal_each (c ∷ cs) (v ∷ vs) = compared Eq c v ∷ equal_each cs vs

abbrev pub and_then : Expr → MaybeExpr → Expr
and_then e no_expr = e
and_then e (an_expr f) = joined And e f

-- `(a AND (b AND c))`, where c follows the list
abbrev pub all_before : List Expr → MaybeExpr → MaybeExpr
all_before [] behind = behind
all_before (e ∷ es) behind = an_expr (and_then e (all_before es behind))

-- the columns of the key have these values
abbrev pub has_key : Origin → List Expr → MaybeExpr
has_key o vs = all_before (equal_each (key_columns o) vs) no_expr

abbrev pub and_maybe : MaybeExpr → MaybeExpr → MaybeExpr
and_maybe w no_expr = w
and_maybe w (an_expr e) = an_expr (beside And w e)

abbrev pub found_by : Bool → Origin → List Expr → Clauses → Clauses
found_by false o vs c = record c { marks = record (c.marks) { key_count = true } }
found_by true o vs c = record c { condition = and_maybe c.condition (has_key o vs) }

abbrev pub found_in : Option Origin → List Expr → Clauses → Clauses
found_in None vs c = record c { marks = record (c.marks) { find_source = true } }
found_in (Some o) vs c = found_by (nat_eq (length (key_columns o)) (length vs)) o vs c

-- One more condition: the key has these values. Where the source is not one table or alias, or there are more or fewer values
-- than columns of the key, the mark alone.
abbrev pub found : List Expr → Statement → Statement
found vs = changed (λ c. found_in (only_leaf c.source) vs c)

-- Which JSON is a query, an expression, a source or a call, and which one it is.
--
-- The number that falls is a bound on the nesting. It changes nothing (`depth_changes_nothing`): `serde_json` reads no
-- value that nests deeper than 127, and each step down takes one from the bound and one level or more of the value.
use Rattle.std.specs.Prelude.{ℕ, zero, suc, List, Bool, false, ◌||◌, codes, Option, Some, None, is_some, option_map, if◌then◌else◌}
use Rattle.std.specs.Str.{bytes_eq}
use Rattle.serde_json.specs.Data.{Data, Items, null, boolean, number, string, array, object}
use Rattle.serde_json.specs.Find.{get, at, as_bool, as_str, as_array}
use Rattle.sql_dialect.specs.declared.backend.Dialect.{Dialect}
use Rattle.sql_leaf.specs.declared.position.Direction.{Direction}
use Rattle.sql_leaf.specs.declared.position.Direction.TheVariants as direction
use Rattle.sql_leaf.specs.declared.position.PositionalItem.{PositionalItem}
use Rattle.sql_leaf.specs.declared.table_source.JoinKind.{JoinKind}
use Rattle.sql_leaf.specs.declared.table_source.Tablesample.{Tablesample}
use Rattle.sql_build_syntax.specs.Forms.{stand}
use Rattle.sql_build_syntax.specs.Tree.{Expr, list, count_star, column, field, bind, unary, binary, exists, single_value, quantified, Membership, values, rows, Source, of_table, of_alias, join, Start, from, select, Query, query, Call, plain, clause, join_with, find, order, then_order_by, limit, offset, into_boxed, combine, positional_order_by}
use Rattle.sql_build_syntax.specs.View.{Item, exprs_of, items_of, calls_of, maybe_of}
use Rattle.sql_build_syntax.specs.declared.call.PlainCall.{PlainCall}
use Rattle.sql_build_syntax.specs.declared.expr.BinaryOperator.{BinaryOperator}
use Rattle.sql_build_syntax.specs.declared.expr.Quantified.{Quantified}
use Rattle.sql_build_syntax.specs.declared.form.Form.TheVariants as form
use Rattle.sql_build_syntax.specs.declared.name.AliasName.{AliasName}
use Rattle.sql_build_syntax.specs.declared.name.ColumnName.{ColumnName}
use Rattle.sql_build_syntax.specs.declared.name.FieldName.{FieldName}
use Rattle.sql_build_syntax.specs.declared.name.TableName.{TableName}
use Rattle.sql_tool_document.specs.Members.{if_some, if_any, text_at, has, single, only_member, each, each_if_any, two_of, argument_of}
use Rattle.sql_tool_document.specs.Names.{dialect_of, type_of, unary_of, binary_of, quantified_of, side_join_of, method_of, direction_of, plain_of, clause_of, join_of, combination_of}
use Rattle.sql_tool_document.specs.Scalar.{◌>>=◌, whole, small_of, medium_of, place_number_of, value_of}

-- ---- expressions

-- `"count_star"`
abbrev pub count_star_of : List ℕ → Option Expr
count_star_of s = if bytes_eq s (codes "count_star") then Some count_star else None

-- `[table,column]`
unfoldable pub column_name_of : Data → Option ColumnName
column_name_of d = do
  two ← two_of d
  table ← as_str two.0
  name ← as_str two.1
  Some (record { table = table; column = name })

-- `[alias,table,column]`
unfoldable pub field_name_of : Data → Option FieldName
field_name_of d = do
  alias ← at 0 d >>= as_str
  table ← at 1 d >>= as_str
  name ← at 2 d >>= as_str
  if is_some (at 3 d) then None else Some (record { alias = alias; table = table; column = name })

-- `[TYPE,VALUE]`
unfoldable pub bind_of : Data → Option Expr
bind_of d = do
  two ← two_of d
  type_name ← as_str two.0
  ty ← type_of type_name
  value ← value_of ty.base two.1
  Some (bind ty value)

-- `[TYPE,[VALUE..]]`
unfoldable pub values_of : Data → Option Membership
values_of d = do
  two ← two_of d
  type_name ← as_str two.0
  ty ← type_of type_name
  items ← as_array two.1
  vs ← each (value_of ty.base) items
  Some (values ty vs)

-- `{"list":[TYPE,[VALUE..]]}` or QUERY; exactly one of `list`, `from` and `select` stands
unfoldable pub membership_of : (Data → Option Query) → Data → Option Membership
membership_of subquery d =
    if_some (get (codes "list") d) (λ l. if has (codes "from") d || has (codes "select") d then None else values_of l)
    (option_map rows (subquery d))

-- `[EXPR,EXPR]`
unfoldable pub binary_expr : (Data → Option Expr) → BinaryOperator → Data → Option Expr
binary_expr expr operator d = do
  two ← two_of d
  left ← expr two.0
  right ← expr two.1
  Some (binary operator left right)

-- `[EXPR,MEMBERSHIP]`
unfoldable pub quantified_expr : (Data → Option Expr) → (Data → Option Query) → Quantified → Data → Option Expr
quantified_expr expr subquery operator d = do
  two ← two_of d
  left ← expr two.0
  membership ← membership_of subquery two.1
  Some (quantified operator left membership)

unfoldable pub operation : (Data → Option Expr) → (Data → Option Query) → List ℕ → Data → Option Expr
operation expr subquery name d =
    if_some (unary_of name) (λ o. option_map (unary o) (expr d))
    (if_some (binary_of name) (λ o. binary_expr expr o d)
    (quantified_of name >>= λ o. quantified_expr expr subquery o d))

-- an expression that is an object, by the name and the value of its one member
unfoldable pub member_expr : (Data → Option Expr) → (Data → Option Query) → List ℕ × Data → Option Expr
member_expr expr subquery m =
    if bytes_eq m.0 (codes "col") then option_map column (column_name_of m.1)
    else if bytes_eq m.0 (codes "field") then option_map field (field_name_of m.1)
    else if bytes_eq m.0 (codes "bind") then bind_of m.1
    else if bytes_eq m.0 (codes "exists") then option_map exists (subquery m.1)
    else if bytes_eq m.0 (codes "single_value") then option_map single_value (subquery m.1)
    else operation expr subquery m.0 m.1

-- ---- sources

abbrev pub flag_of : Option Data → Option Bool
flag_of None = Some false
flag_of (Some d) = as_bool d

-- `[METHOD,portion]` or `[METHOD,portion,seed]`
unfoldable pub sample_of : Data → Option Tablesample
sample_of d = do
  name ← at 0 d >>= as_str
  method ← method_of name
  portion ← at 1 d >>= small_of
  seed ← if_any medium_of (at 2 d)
  if is_some (at 3 d) then None else Some (record { method = method; portion = portion; seed = seed })

-- `{"table":name,["only":truth value],["sample":SAMPLE]}`
unfoldable pub table_name_of : Data → Option TableName
table_name_of d = do
  table ← text_at (codes "table") d
  only ← flag_of (get (codes "only") d)
  sample ← if_any sample_of (get (codes "sample") d)
  Some (record { table = table; only = only; sample = sample })

-- `{"alias":text,"of":name}`
unfoldable pub alias_name_of : Data → Option AliasName
alias_name_of d = do
  alias ← text_at (codes "alias") d
  of ← text_at (codes "of") d
  Some (record { alias = alias; of = of })

-- `["inner" or "left",SOURCE,SOURCE]`, and the condition where it stands
unfoldable pub join_source_of : (Data → Option Expr) → (Data → Option Source) → Option Data → Data → Option Source
join_source_of expr source on d = do
  name ← at 0 d >>= as_str
  kind ← side_join_of name
  left ← at 1 d >>= source
  right ← at 2 d >>= source
  condition ← if_any expr on
  if is_some (at 3 d) then None else Some (join kind left right (maybe_of condition))

-- of three that may stand exactly one does, and what it gives
abbrev pub one_of_three : {A : Type 0} → Option Data → Option A → Option Data → Option A → Option Data
    → (Data → Option A) → Option A
one_of_three (Some x) a None b None f = a
one_of_three None a (Some y) b None f = b
one_of_three None a None b (Some z) f = f z
one_of_three None a None b None f = None
one_of_three (Some x) a (Some y) b None f = None
one_of_three (Some x) a None b (Some z) f = None
one_of_three None a (Some y) b (Some z) f = None
one_of_three (Some x) a (Some y) b (Some z) f = None

-- ---- queries

-- exactly one of `from` and `select` stands
abbrev pub start_of : (Data → Option Expr) → (Data → Option Source) → Option Data → Option Data → Option Start
start_of expr source (Some s) None = option_map from (source s)
start_of expr source None (Some e) = option_map select (expr e)
start_of expr source None None = None
start_of expr source (Some s) (Some e) = None

-- a query whose calls stand, each on the form that the calls before it give
unfoldable pub query_from : Start → List Call → Option Query
query_from start calls = if stand form.Select (calls_of calls) then Some (query start (calls_of calls)) else None

-- ---- calls

-- what follows a name that says the direction: `{"asc":X}`
abbrev pub directed : List ℕ × Data → Option (Direction × Data)
directed m = option_map (λ o. (o, m.1)) (direction_of m.0)

-- ITEM: EXPR, `{"asc":EXPR}` or `{"desc":EXPR}`
unfoldable pub item_of : (Data → Option Expr) → Data → Option Item
item_of expr d =
    if_some (only_member d >>= directed) (λ m. option_map (λ e. (e, m.0)) (expr m.1))
    (option_map (λ e. (e, direction.None)) (expr d))

abbrev pub position : Direction → ℕ → PositionalItem
position o n = record { column = record { 0 = n }; direction = o }

-- PLACE: a u32, `{"asc":u32}` or `{"desc":u32}`
unfoldable pub place_of : Data → Option PositionalItem
place_of d =
    if_some (only_member d >>= directed) (λ m. option_map (position m.0) (place_number_of m.1))
    (option_map (position direction.None) (place_number_of d))

unfoldable pub plain_call : PlainCall → Data → Option Call
plain_call c d = if is_some (at 1 d) then None else Some (plain c)

-- SOURCE, or SOURCE and EXPR for ON
unfoldable pub join_call : (Data → Option Expr) → (Data → Option Source) → JoinKind → Data → Option Call
join_call expr source kind d = do
  s ← at 1 d >>= source
  on ← if_any expr (at 2 d)
  if is_some (at 3 d) then None else Some (join_with kind s (maybe_of on))

abbrev pub dialect_named : Data → Option Dialect
dialect_named d = as_str d >>= dialect_of

-- a dialect, or none for that of the request
unfoldable pub boxed_call : Data → Option Call
boxed_call d = do
  dialect ← if_any dialect_named (at 1 d)
  if is_some (at 2 d) then None else Some (into_boxed dialect)

-- a call whose argument is an array
unfoldable pub list_call : (Data → Option Expr) → List ℕ → Items → Option Call
list_call expr name ds =
    if bytes_eq name (codes "find") then option_map (λ es. find (exprs_of es)) (each expr ds)
    else if bytes_eq name (codes "order") then option_map (λ is. order (items_of is)) (each (item_of expr) ds)
    else if bytes_eq name (codes "order_by") then option_map (λ is. order (items_of is)) (each (item_of expr) ds)
    else if bytes_eq name (codes "then_order_by")
    then option_map (λ is. then_order_by (items_of is)) (each (item_of expr) ds)
    else if bytes_eq name (codes "positional_order_by") then option_map positional_order_by (each place_of ds)
    else None

-- a call whose argument is a number or an array
unfoldable pub argument_call : (Data → Option Expr) → List ℕ → Data → Option Call
argument_call expr name d =
    if bytes_eq name (codes "limit") then option_map limit (whole d)
    else if bytes_eq name (codes "offset") then option_map offset (whole d)
    else as_array d >>= list_call expr name

abbrev pub last_call : (Data → Option Expr) → List ℕ → Data → Option Call
last_call expr name d =
    if bytes_eq name (codes "into_boxed") then boxed_call d else argument_of d >>= argument_call expr name

-- a call of that name, whose arguments follow the name in the array
unfoldable pub named_call : (Data → Option Expr) → (Data → Option Source) → (Data → Option Query) → List ℕ → Data
    → Option Call
named_call expr source subquery name d =
    if_some (plain_of name) (λ c. plain_call c d)
    (if_some (clause_of name) (λ c. argument_of d >>= λ a. option_map (clause c) (expr a))
    (if_some (join_of name) (λ k. join_call expr source k d)
    (if_some (combination_of name) (λ c. argument_of d >>= λ a. option_map (combine c.0 c.1) (subquery a))
    (last_call expr name d))))

-- ---- what nests

unfoldable mutual
  -- EXPR: an array of EXPR, `"count_star"`, or an object of one member
  pub expr_of : ℕ → Data → Option Expr
  expr_of zero d = None
  expr_of (suc n) null = None
  expr_of (suc n) (boolean b) = None
  expr_of (suc n) (number m) = None
  expr_of (suc n) (string s) = count_star_of s
  expr_of (suc n) (array ds) = option_map (λ es. list (exprs_of es)) (each (expr_of n) ds)
  expr_of (suc n) (object ms) = single ms >>= member_expr (expr_of n) (query_of n)

  -- SOURCE: a table, an alias or a join
  pub source_of : ℕ → Data → Option Source
  source_of zero d = None
  source_of (suc n) d =
      one_of_three (get (codes "table") d) (option_map of_table (table_name_of d))
      (get (codes "alias") d) (option_map of_alias (alias_name_of d))
      (get (codes "join") d) (join_source_of (expr_of n) (source_of n) (get (codes "on") d))

  -- QUERY: `{"from":SOURCE,["calls":[CALL..]]}` or `{"select":EXPR,["calls":[CALL..]]}`
  pub query_of : ℕ → Data → Option Query
  query_of zero d = None
  query_of (suc n) d =
      start_of (expr_of n) (source_of n) (get (codes "from") d) (get (codes "select") d) >>= λ start.
      each_if_any (call_of n) (get (codes "calls") d) >>= λ calls.
      query_from start calls

  -- CALL: `[name,ARGUMENT..]`
  pub call_of : ℕ → Data → Option Call
  call_of zero d = None
  call_of (suc n) d = (at 0 d >>= as_str) >>= λ name. named_call (expr_of n) (source_of n) (query_of n) name d

-- more than the deepest value that `serde_json` reads
abbrev pub nesting_bound : ℕ
nesting_bound = 128

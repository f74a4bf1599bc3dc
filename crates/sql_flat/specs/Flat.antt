-- A statement as a tree of nodes of one kind, in the order in which they are written, and its flat list: each node before its
-- children, with the index after its last descendant.
use Rattle.std.specs.Prelude.{true, false, Bool, ℕ, Option, None, Some, List, []}
use Rattle.sql_leaf.specs.declared.limit_offset.LimitOffsetClause.{LimitOffsetClause}
use Rattle.sql_leaf.specs.declared.marks.Marks.{Marks}
use Rattle.sql_leaf.specs.declared.position.PositionalItem.{PositionalItem}
use Rattle.sql_flat_law.specs.Rose.{Rose, node, Roses, none, more, leaf, one, two, roses_of, flat}
use Rattle.sql_node.specs.Tree as t
use Rattle.sql_node.specs.Tree.{unboxed, boxed, Expr, column, value, list, count_star, nullable, unary, count, compared, joined, exists, single, among_values, among_rows, Exprs, no_exprs, more_exprs, Items, no_items, more_items, MaybeExpr, no_expr, an_expr, Source, of_table, of_alias, join, From, no_source, from, Distinct, every, distinct, distinct_on, Order, no_order, order_by, Statement, select, combination}
use Rattle.sql_flat.specs.declared.kind.FlatKind.{FlatKind}
use Rattle.sql_flat.specs.declared.kind.FlatKind.TheVariants as K
use Rattle.sql_flat.specs.declared.kind.FlatNode.{FlatNode}
use Rattle.sql_flat.specs.declared.kind.Form.{Form}
use Rattle.sql_flat.specs.declared.kind.Form.TheVariants as form
use Rattle.sql_flat.specs.declared.kind.Selecting.{Selecting}
use Rattle.sql_flat.specs.declared.kind.Uniqueness.{Uniqueness}
use Rattle.sql_flat.specs.declared.kind.Uniqueness.TheVariants as unique

abbrev pub flat_node : FlatKind → ℕ → FlatNode
flat_node k e = record { kind = k; end = e }

abbrev pub form_of : t.Form → Form
form_of (unboxed l) = form.Unboxed l
form_of (boxed d n) = form.Boxed d n

abbrev pub uniqueness : Distinct → Uniqueness
uniqueness every = unique.Every
uniqueness distinct = unique.Distinct
uniqueness (distinct_on e) = unique.DistinctOn

abbrev pub has_on : MaybeExpr → Bool
has_on no_expr = false
has_on (an_expr e) = true

abbrev pub positions_roses : Option (List PositionalItem) → Roses FlatKind
positions_roses None = none
positions_roses (Some ps) = one (node K.Positions (roses_of (λ p. leaf (K.Position p)) ps))

-- what a select statement has beside its clauses
abbrev pub selecting_of : Bool → Distinct → LimitOffsetClause → t.Form → Marks → Selecting
selecting_of default u rows f marks =
    record { default = default; unique = uniqueness u; rows = rows; form = form_of f; marks = marks }

abbrev mutual
  pub expr_rose : Expr → Rose FlatKind
  expr_rose (column o c) = leaf (K.Column o.alias (record { table = o.table; decl = c }))
  expr_rose (value t v) = leaf (K.Value t v)
  expr_rose (list es) = node K.List (exprs_roses es)
  expr_rose count_star = leaf K.CountStar
  expr_rose (nullable e) = node K.Nullable (one (expr_rose e))
  expr_rose (unary u e) = node (K.Unary u) (one (expr_rose e))
  expr_rose (count e) = node K.Count (one (expr_rose e))
  expr_rose (compared by a b) = node (K.Compared by) (two (expr_rose a) (expr_rose b))
  expr_rose (joined by a b) = node (K.Joined by) (two (expr_rose a) (expr_rose b))
  expr_rose (exists q) = node K.Exists (one (rose q))
  expr_rose (single q) = node K.Single (one (rose q))
  expr_rose (among_values n e t vs) =
      node (K.Among n true) (two (expr_rose e) (node (K.Values t) (roses_of (λ v. leaf (K.Element t v)) vs)))
  expr_rose (among_rows n e q) = node (K.Among n false) (two (expr_rose e) (rose q))

  pub exprs_roses : Exprs → Roses FlatKind
  exprs_roses no_exprs = none
  exprs_roses (more_exprs e es) = more (expr_rose e) (exprs_roses es)

  pub items_roses : Items → Roses FlatKind
  items_roses no_items = none
  items_roses (more_items e by is) = more (node (K.Item by) (one (expr_rose e))) (items_roses is)

  -- a clause of one expression, where there is one, before those that follow
  pub maybe_roses : FlatKind → MaybeExpr → Roses FlatKind → Roses FlatKind
  maybe_roses k no_expr rest = rest
  maybe_roses k (an_expr e) rest = more (node k (one (expr_rose e))) rest

  pub source_rose : Source → Rose FlatKind
  source_rose (of_table t only sample) = leaf (K.Table (record { table = t; only = only; sample = sample }))
  source_rose (of_alias a t) = leaf (K.Alias (record { name = a; table = t }))
  source_rose (join k l r on) =
      node (K.Join k (has_on on)) (more (source_rose l) (more (source_rose r) (maybe_roses K.On on none)))

  pub from_roses : From → Roses FlatKind → Roses FlatKind
  from_roses no_source rest = rest
  from_roses (from f) rest = more (node K.From (one (source_rose f))) rest

  pub distinct_roses : Distinct → Roses FlatKind → Roses FlatKind
  distinct_roses every rest = rest
  distinct_roses distinct rest = rest
  distinct_roses (distinct_on e) rest = more (node K.DistinctOn (one (expr_rose e))) rest

  pub order_roses : Order → Roses FlatKind
  order_roses no_order = none
  order_roses (order_by is) = one (node K.OrderBy (items_roses is))

  pub rose : Statement → Rose FlatKind
  rose (select default e f u w o rows g h form marks) =
      node (K.Select (selecting_of default u rows form marks))
      (distinct_roses u
      (more (expr_rose e)
      (from_roses f
      (maybe_roses K.Where w (maybe_roses K.GroupBy g (maybe_roses K.Having h (order_roses o)))))))
  rose (combination by all a b o rows) =
      node (K.Combination (record { combinator = by; duplicates = all; rows = rows }))
      (more (node K.Side (one (rose a))) (more (node K.Side (one (rose b))) (positions_roses o)))

abbrev pub flat_of : Statement → List FlatNode
flat_of s = flat flat_node 0 (rose s) []

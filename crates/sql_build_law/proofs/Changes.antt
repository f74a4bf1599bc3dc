-- Each call keeps a statement to what a schema declares, where what it is given is kept to that.
use Rattle.std.proofs.Common.{ℕ, List, [], ◌∷◌, length, nat_eq, Bool, true, false, Option, Some, None, option_map, IfSome}
use Rattle.sql_schema.specs.Columns.{column_in}
use Rattle.sql_schema.specs.Declarations.{Declarations}
use Rattle.sql_dialect.specs.declared.backend.Dialect.{Dialect}
use Rattle.sql_leaf.specs.declared.limit_offset.LimitOffsetClause.{LimitOffsetClause}
use Rattle.sql_leaf.specs.declared.locking.LockMode.{LockMode}
use Rattle.sql_leaf.specs.declared.locking.LockingClause.TheVariants.{NoLockingClause, LockingClause as Locked}
use Rattle.sql_leaf.specs.declared.locking.Modifier.{Modifier}
use Rattle.sql_leaf.specs.declared.position.PositionalItem.{PositionalItem}
use Rattle.sql_leaf.specs.declared.table_source.JoinKind.{JoinKind}
use Rattle.sql_leaf.specs.declared.operator.Logic.{Logic}
use Rattle.sql_leaf.specs.declared.operator.Logic.TheVariants.{And}
use Rattle.sql_node.specs.Tree.{Origin, Form, unboxed, boxed, Expr, Items, no_items, more_items, MaybeExpr, no_expr, an_expr, Source, of_table, of_alias, join, From, no_source, from, Distinct, Order, no_order, order_by, Statement, select, combination}
use Rattle.sql_expr.specs.Calls.{beside}
use Rattle.sql_expr.specs.Joining.{Side}
use Rattle.sql_source.specs.Joins.{alone, joined_by}
use Rattle.sql_origin.specs.Origins.{column_under}
use Rattle.sql_select.specs.Changes.{columns_as_selected, selected, nulled_in, nulled, with_distinct, filtered, grouped, with_having, items_then, items_in, ordered, ordered_then, locked_in, locked, modified_in, modified, boxed_in, boxed_for, ordered_by_places}
use Rattle.sql_select.specs.Clauses.{Clauses, changed, rows_changed}
use Rattle.sql_select.specs.Finding.{single_leaf, only_leaf, in_front, columns_named, key_columns, equal_each, and_then, all_before, has_key, and_maybe, found_by, found_in, found}
use Rattle.sql_select.specs.Joins.{from_map, default_over, selection_over, resourced_by, joined}
use Rattle.sql_rules.specs.Lists.{Each}
use Rattle.sql_build_law.proofs.Known.{KnownExpr, KnownItems, KnownMaybe, KnownSource, KnownFrom, KnownDistinct, KnownOrder, Known, KnownClauses, KnownOrigin, KnownColumn, KnownOption, KnownSide}
use Rattle.sql_build_law.proofs.Lists.{if_map}
use Rattle.sql_build_law.proofs.Sources.{column-known, default-known, joined-known}

module _ (schema : Declarations) where
  -- ## What all changes of clauses have in common

  changed-known : (f : Clauses → Clauses) → ((c : Clauses) → KnownClauses schema c → KnownClauses schema (f c))
      → (s : Statement) → Known schema s → Known schema (changed f s)
  changed-known f g (select d e s u w o r x y form m) h =
      g (record {
        selection = (d, e);
        source = s;
        distinct = u;
        condition = w;
        order = o;
        rows = r;
        group_by = x;
        having = y;
        form = form;
        marks = m;
      })
      h
  changed-known f g (combination by all a b o r) h = h

  pub rows-known : (f : LimitOffsetClause → LimitOffsetClause) (s : Statement) → Known schema s
      → Known schema (rows_changed f s)
  rows-known f (select d e s u w o r x y form m) h = h
  rows-known f (combination by all a b o r) h = h

  pub places-known : (is : List PositionalItem) (s : Statement) → Known schema s → Known schema (ordered_by_places is s)
  places-known is (select d e s u w o r x y form m) h = h
  places-known is (combination by all a b o r) h = h

  -- ## Selections

  pub selected-known : (e : Expr) (s : Statement) → KnownExpr schema e → Known schema s → Known schema (selected e s)
  selected-known e s k =
      changed-known (λ c. record c { selection = (false, e); form = columns_as_selected c.form })
      (λ c h. (k, h.1, h.2, h.3, h.4, h.5, h.6)) s

  nulled_in-known : (form : Form) (c : Clauses) → KnownClauses schema c → KnownClauses schema (nulled_in form c)
  nulled_in-known (unboxed l) c h = h
  nulled_in-known (boxed d n) c h = h

  pub nulled-known : (s : Statement) → Known schema s → Known schema (nulled s)
  nulled-known = changed-known (λ c. nulled_in c.form c) (λ c. nulled_in-known c.form c)

  pub distinct-known : (u : Distinct) (s : Statement) → KnownDistinct schema u → Known schema s
      → Known schema (with_distinct u s)
  distinct-known u s k =
      changed-known (λ c. record c { distinct = u }) (λ c h. (h.0, h.1, k, h.3, h.4, h.5, h.6)) s

  -- ## Conditions

  beside-known : (by : Logic) (w : MaybeExpr) (e : Expr) → KnownMaybe schema w → KnownExpr schema e
      → KnownExpr schema (beside by w e)
  beside-known by no_expr e h k = k
  beside-known by (an_expr old) e h k = (h, k)

  pub filtered-known : (by : Logic) (e : Expr) (s : Statement) → KnownExpr schema e → Known schema s
      → Known schema (filtered by e s)
  filtered-known by e s k =
      changed-known (λ c. record c { condition = an_expr (beside by c.condition e) })
      (λ c h. (h.0, h.1, h.2, beside-known by c.condition e h.3 k, h.4, h.5, h.6)) s

  pub grouped-known : (e : Expr) (s : Statement) → KnownExpr schema e → Known schema s → Known schema (grouped e s)
  grouped-known e s k =
      changed-known (λ c. record c { group_by = an_expr e }) (λ c h. (h.0, h.1, h.2, h.3, h.4, k, h.6)) s

  pub having-known : (e : Expr) (s : Statement) → KnownExpr schema e → Known schema s → Known schema (with_having e s)
  having-known e s k =
      changed-known (λ c. record c { having = an_expr e }) (λ c h. (h.0, h.1, h.2, h.3, h.4, h.5, k)) s

  -- ## Orders

  then-known : (is js : Items) → KnownItems schema is → KnownItems schema js → KnownItems schema (items_then is js)
  then-known no_items js h k = k
  then-known (more_items e by is) js h k = (h.0, then-known is js h.1 k)

  items_in-known : (o : Order) → KnownOrder schema o → KnownItems schema (items_in o)
  items_in-known no_order h = tt
  items_in-known (order_by is) h = h

  pub ordered-known : (is : Items) (s : Statement) → KnownItems schema is → Known schema s → Known schema (ordered is s)
  ordered-known is s k =
      changed-known (λ c. record c { order = order_by is }) (λ c h. (h.0, h.1, h.2, h.3, k, h.5, h.6)) s

  pub ordered_then-known : (is : Items) (s : Statement) → KnownItems schema is → Known schema s
      → Known schema (ordered_then is s)
  ordered_then-known is s k =
      changed-known (λ c. record c { order = order_by (items_then (items_in c.order) is) })
      (λ c h. (h.0, h.1, h.2, h.3, then-known (items_in c.order) is (items_in-known c.order h.4) k, h.5, h.6)) s

  -- ## Locks and boxes, which hold no names

  locked_in-known : (mode : LockMode) (form : Form) (c : Clauses) → KnownClauses schema c
      → KnownClauses schema (locked_in mode form c)
  locked_in-known mode (unboxed l) c h = h
  locked_in-known mode (boxed d n) c h = h

  pub locked-known : (mode : LockMode) (s : Statement) → Known schema s → Known schema (locked mode s)
  locked-known mode = changed-known (λ c. locked_in mode c.form c) (λ c. locked_in-known mode c.form c)

  modified_in-known : (w : Modifier) (form : Form) (c : Clauses) → KnownClauses schema c
      → KnownClauses schema (modified_in w form c)
  modified_in-known w (unboxed NoLockingClause) c h = h
  modified_in-known w (unboxed (Locked mode _)) c h = h
  modified_in-known w (boxed d n) c h = h

  pub modified-known : (w : Modifier) (s : Statement) → Known schema s → Known schema (modified w s)
  modified-known w = changed-known (λ c. modified_in w c.form c) (λ c. modified_in-known w c.form c)

  boxed_in-known : (d : Dialect) (form : Form) (c : Clauses) → KnownClauses schema c
      → KnownClauses schema (boxed_in d form c)
  boxed_in-known d (unboxed l) c h = h
  boxed_in-known d (boxed e n) c h = h

  pub boxed-known : (d : Dialect) (s : Statement) → Known schema s → Known schema (boxed_for d s)
  boxed-known d = changed-known (λ c. boxed_in d c.form c) (λ c. boxed_in-known d c.form c)

  -- ## Keys

  leaf-known : (s : Source) → KnownSource schema s → IfSome (single_leaf s) (KnownOrigin schema)
  leaf-known (of_table t only sample) h = h
  leaf-known (of_alias a t) h = h
  leaf-known (join k l r on) h = tt

  only_leaf-known : (f : From) → KnownFrom schema f → IfSome (only_leaf f) (KnownOrigin schema)
  only_leaf-known no_source h = tt
  only_leaf-known (from s) h = leaf-known s h

  front-known : (o : Option Expr) (es : List Expr) → KnownOption schema o → Each (KnownExpr schema) es
      → Each (KnownExpr schema) (in_front o es)
  front-known None es h k = k
  front-known (Some e) es h k = (h, k)

  columns-known : (o : Origin) → KnownOrigin schema o → (ks : List (List ℕ))
      → Each (KnownExpr schema) (columns_named o ks)
  columns-known o h [] = tt
  columns-known o h (k ∷ ks) =
      front-known (option_map (column_under o.alias) (column_in o.table k)) (columns_named o ks)
      (if_map (KnownColumn schema) (KnownExpr schema) (column_under o.alias) (λ c known. known) (column_in o.table k)
      (column-known schema o.table h k))
      (columns-known o h ks)

  equal-known : (cs vs : List Expr) → Each (KnownExpr schema) cs → Each (KnownExpr schema) vs
      → Each (KnownExpr schema) (equal_each cs vs)
  equal-known [] vs h k = tt
  equal-known (c ∷ cs) [] h k = tt
  equal-known (c ∷ cs) (v ∷ vs) h k = ((h.0, k.0), equal-known cs vs h.1 k.1)

  and_then-known : (e : Expr) (w : MaybeExpr) → KnownExpr schema e → KnownMaybe schema w
      → KnownExpr schema (and_then e w)
  and_then-known e no_expr h k = h
  and_then-known e (an_expr f) h k = (h, k)

  all-known : (es : List Expr) (behind : MaybeExpr) → Each (KnownExpr schema) es → KnownMaybe schema behind
      → KnownMaybe schema (all_before es behind)
  all-known [] behind h k = k
  all-known (e ∷ es) behind h k = and_then-known e (all_before es behind) h.0 (all-known es behind h.1 k)

  and_maybe-known : (w k : MaybeExpr) → KnownMaybe schema w → KnownMaybe schema k → KnownMaybe schema (and_maybe w k)
  and_maybe-known w no_expr h k = h
  and_maybe-known w (an_expr e) h k = beside-known And w e h k

  found_by-known : (b : Bool) (o : Origin) (vs : List Expr) (c : Clauses) → KnownOrigin schema o
      → Each (KnownExpr schema) vs → KnownClauses schema c → KnownClauses schema (found_by b o vs c)
  found_by-known false o vs c k g h = h
  found_by-known true o vs c k g h = (
    h.0,
    h.1,
    h.2,
    and_maybe-known c.condition (has_key o vs) h.3
        (all-known (equal_each (key_columns o) vs) no_expr
        (equal-known (key_columns o) vs (columns-known o k o.table.primary_key) g) tt),
    h.4,
    h.5,
    h.6,
  )

  found_in-known : (o : Option Origin) (vs : List Expr) (c : Clauses) → IfSome o (KnownOrigin schema)
      → Each (KnownExpr schema) vs → KnownClauses schema c → KnownClauses schema (found_in o vs c)
  found_in-known None vs c k g h = h
  found_in-known (Some o) vs c k g h = found_by-known (nat_eq (length (key_columns o)) (length vs)) o vs c k g h

  pub found-known : (vs : List Expr) (s : Statement) → Each (KnownExpr schema) vs → Known schema s
      → Known schema (found vs s)
  found-known vs s g =
      changed-known (λ c. found_in (only_leaf c.source) vs c)
      (λ c h. found_in-known (only_leaf c.source) vs c (only_leaf-known c.source h.1) g h) s

  -- ## Joins

  default_over-known : (f : From) (p : Bool × Expr) → KnownFrom schema f → KnownExpr schema p.1
      → KnownExpr schema (default_over f p).1
  default_over-known no_source p h k = k
  default_over-known (from s) (true, e) h k = default-known schema s h
  default_over-known (from s) (false, e) h k = k

  selection-known : (form : Form) (f : From) (p : Bool × Expr) → KnownFrom schema f → KnownExpr schema p.1
      → KnownExpr schema (selection_over form f p).1
  selection-known (unboxed l) f p h k = default_over-known f p h k
  selection-known (boxed d n) f p h k = k

  resourced-known : (f : From) (c : Clauses) → KnownFrom schema f → KnownClauses schema c
      → KnownClauses schema (resourced_by f c)
  resourced-known f c k h = (selection-known c.form f c.selection k h.0, k, h.2, h.3, h.4, h.5, h.6)

  from-known : (f : Source → Source) → ((s : Source) → KnownSource schema s → KnownSource schema (f s)) → (s : From)
      → KnownFrom schema s → KnownFrom schema (from_map f s)
  from-known f g no_source h = tt
  from-known f g (from s) h = g s h

  pub join-known : (k : JoinKind) (right : Side) (s : Statement) → KnownSide schema right → Known schema s
      → Known schema (joined schema k right s)
  join-known k right s g =
      let f : Source → Source = λ left. (joined_by schema k (alone left) right).source in
      changed-known (λ c. resourced_by (from_map f c.source) c)
      (λ c h. resourced-known (from_map f c.source) c
      (from-known f (λ left known. joined-known schema k (alone left) right (known, tt) g) c.source h.1) h)
      s

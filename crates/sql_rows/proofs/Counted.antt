-- A statement with an id orders by no place, so its places are counted.
use Rattle.std.proofs.Common.{◌≡◌, Bool, true, false, ◌&&◌, List, [], ◌∷◌, ◌++◌, Option, Some, None, cond}
use Rattle.std.specs.Cmp.{first_so, second_so}
use Rattle.sql_leaf.specs.declared.position.PositionalItem.{PositionalItem}
use Rattle.sql_node.specs.Tree.{Expr, column, value, list, count_star, nullable, unary, count, compared, joined, exists, single, among_values, among_rows, Exprs, no_exprs, more_exprs, Items, no_items, more_items, MaybeExpr, no_expr, an_expr, Source, of_table, of_alias, join, From, no_source, from, Distinct, every, distinct, distinct_on, Order, no_order, order_by, Statement, select, combination}
use Rattle.sql_shape.specs.Nodes.{all_expr, all_exprs, all_items, all_maybe, all_source, all_from, all_distinct, all_order}
use Rattle.sql_shape.specs.Ids.{lacks_places, id_tests, has_id}
use Rattle.sql_key.specs.Keys.{key, id_of}
use Rattle.sql_flat.specs.declared.kind.FlatNode.{FlatNode}
use Rattle.sql_rules.specs.Counted.{OrderIsCounted, PartIsCounted, PlacesAreCounted}
use Rattle.sql_rules.specs.Lists.{Each}
use Rattle.sql_rules.specs.Scope.{View, Part, origins, origins_of, widest, in_expr, in_exprs, in_items, in_maybe, in_source, in_from, in_distinct, in_order, parts}
use Rattle.sql_rules_law.proofs.Lists.{each_append}

record Are (ps : List Part) : Type 0 where
  pub counted : Each PartIsCounted ps

none : Are []
none = record { counted = tt }

both : {ps qs : List Part} {a b : Bool} → (a ≡ true → Are ps) → (b ≡ true → Are qs) → (a && b) ≡ true → Are (ps ++ qs)
both {ps} {qs} {a} {b} f g h =
    record { counted = each_append PartIsCounted ps qs (f (first_so a b h)).counted (g (second_so a b h)).counted }

no_places : (o : Option (List PositionalItem)) → lacks_places o ≡ true → OrderIsCounted o
no_places None h = tt
no_places (Some []) h = tt
no_places (Some (p ∷ ps)) h = absurd (cc)

mutual
  expr-counted : (e : Expr) (v : View) → all_expr id_tests e ≡ true → Are (in_expr v e)
  expr-counted (column o c) v h = none
  expr-counted (value t x) v h = none
  expr-counted (list es) v h = exprs-counted es v h
  expr-counted count_star v h = none
  expr-counted (nullable e) v h = expr-counted e v h
  expr-counted (unary n e) v h = expr-counted e v h
  expr-counted (count e) v h = expr-counted e v h
  expr-counted (compared by a b) v h = both (expr-counted a v) (expr-counted b v) h
  expr-counted (joined by a b) v h = both (expr-counted a v) (expr-counted b v) h
  expr-counted (exists q) v h = statement-counted q v h
  expr-counted (single q) v h = statement-counted q v h
  expr-counted (among_values n e t xs) v h = expr-counted e v (first_so (all_expr id_tests e) false h)
  expr-counted (among_rows n e q) v h = both (expr-counted e v) (statement-counted q v) h

  exprs-counted : (es : Exprs) (v : View) → all_exprs id_tests es ≡ true → Are (in_exprs v es)
  exprs-counted no_exprs v h = none
  exprs-counted (more_exprs e es) v h = both (expr-counted e v) (exprs-counted es v) h

  items-counted : (is : Items) (v : View) → all_items id_tests is ≡ true → Are (in_items v is)
  items-counted no_items v h = none
  items-counted (more_items e by is) v h = both (expr-counted e v) (items-counted is v) h

  maybe-counted : (e : MaybeExpr) (v : View) → all_maybe id_tests e ≡ true → Are (in_maybe v e)
  maybe-counted no_expr v h = none
  maybe-counted (an_expr e) v h = expr-counted e v h

  source-counted : (s : Source) → all_source id_tests s ≡ true → Are (in_source s)
  source-counted (of_table t only sample) h = none
  source-counted (of_alias a t) h = none
  source-counted (join k a b on) h =
      both (source-counted a) (both (source-counted b) (maybe-counted on (origins a ++ origins b))) h

  from-counted : (f : From) → all_from id_tests f ≡ true → Are (in_from f)
  from-counted no_source h = none
  from-counted (from s) h = source-counted s h

  distinct-counted : (u : Distinct) (v : View) → all_distinct id_tests u ≡ true → Are (in_distinct v u)
  distinct-counted every v h = none
  distinct-counted distinct v h = none
  distinct-counted (distinct_on e) v h = expr-counted e v h

  order-counted : (o : Order) (v : View) → all_order id_tests o ≡ true → Are (in_order v o)
  order-counted no_order v h = none
  order-counted (order_by is) v h = items-counted is v h

  statement-counted : (s : Statement) (outer : View) → has_id s ≡ true → Are (parts outer s)
  statement-counted (select default e f u w o rows g x form marks) outer h =
      let v : View = origins_of f in
      let ends = both (maybe-counted g v) (both (maybe-counted x v) (order-counted o v)) in
      let wheres = both (maybe-counted w (widest form f outer)) ends in
      let all = both (distinct-counted u v) (both (expr-counted e v) (both (from-counted f) wheres)) in
      record { counted = (tt, (both (λ k. none) all h).counted) }
  statement-counted (combination by all a b o rows) outer h =
      let g = second_so (has_id a) _ h in
      record {
        counted = (
          no_places o (second_so (has_id b) (lacks_places o) g),
          (both (statement-counted a outer) (λ k. statement-counted b outer (first_so (has_id b) (lacks_places o) k)) h).counted,
        );
      }

pub counted : (s : Statement) (k : List FlatNode) → id_of s ≡ Some k → PlacesAreCounted s
counted s k h = (statement-counted s [] (go (has_id s) h)).counted
  where
    go : (b : Bool) → cond b (Some (key s)) None ≡ Some k → b ≡ true
    go true e = λ i. true
    go false e = absurd (cc)

-- Two changes of values that agree on all that passes tests are one for a statement that passes them.
use Rattle.std.proofs.Common.{◌≡◌, Bool, true, ◌&&◌, ◌||◌, List, refl, ap}
use Rattle.std.specs.Cmp.{first_so, second_so}
use Rattle.sql_schema.specs.declared.types.SqlType.{SqlType}
use Rattle.sql_pass.specs.declared.value.Value.{Value}
use Rattle.sql_node.specs.Tree.{Expr, column, value, list, count_star, nullable, unary, count, compared, joined, exists, single, among_values, among_rows, Exprs, no_exprs, more_exprs, Items, no_items, more_items, MaybeExpr, no_expr, an_expr, Source, of_table, of_alias, join, From, no_source, from, Distinct, every, distinct, distinct_on, Order, no_order, order_by, Statement, select, combination}
use Rattle.sql_shape.specs.Nodes.{NodeTests, is_unboxed, all_expr, all_exprs, all_items, all_maybe, all_source, all_from, all_distinct, all_order, all_statement}
use Rattle.sql_shape.specs.Shape.{blank_rows, change_expr, change_exprs, change_items, change_maybe, change_source, change_from, change_distinct, change_order, change}

-- two parts are what they are made, where what holds of both holds of each
two : {X Y Z : Type 0} (f : X → Y → Z) {x x' : X} {y y' : Y} {b c : Bool} → (b ≡ true → x ≡ x') → (c ≡ true → y ≡ y')
    → (b && c) ≡ true → f x y ≡ f x' y'
two f {x} {x'} {y} {y'} {b} {c} p q k =
    let h = p (first_so b c k) in
    let g = q (second_so b c k) in
    λ i. f (h i) (g i)

module _
    (tests : NodeTests)
    (v w : SqlType → Value → Value)
    (l m : SqlType → List Value → List Value)
    (on-value : (t : SqlType) (x : Value) → tests.value t x ≡ true → v t x ≡ w t x)
    (on-values : (t : SqlType) (xs : List Value) → tests.values t xs ≡ true → l t xs ≡ m t xs)
  where
    mutual
      expr-agrees : (e : Expr) → all_expr tests e ≡ true → change_expr v l e ≡ change_expr w m e
      expr-agrees (column o c) k = refl
      expr-agrees (value t x) k = ap (value t) (on-value t x k)
      expr-agrees (list es) k = ap list (exprs-agrees es k)
      expr-agrees count_star k = refl
      expr-agrees (nullable e) k = ap nullable (expr-agrees e k)
      expr-agrees (unary n e) k = ap (unary n) (expr-agrees e k)
      expr-agrees (count e) k = ap count (expr-agrees e k)
      expr-agrees (compared by a b) k = two (compared by) (expr-agrees a) (expr-agrees b) k
      expr-agrees (joined by a b) k = two (joined by) (expr-agrees a) (expr-agrees b) k
      expr-agrees (exists q) k = ap exists (statement-agrees q k)
      expr-agrees (single q) k = ap single (statement-agrees q k)
      expr-agrees (among_values n e t xs) k =
          two (λ e xs. among_values n e t xs) (expr-agrees e) (on-values t xs) k
      expr-agrees (among_rows n e q) k = two (among_rows n) (expr-agrees e) (statement-agrees q) k

      exprs-agrees : (es : Exprs) → all_exprs tests es ≡ true
          → change_exprs v l es ≡ change_exprs w m es
      exprs-agrees no_exprs k = refl
      exprs-agrees (more_exprs e es) k = two more_exprs (expr-agrees e) (exprs-agrees es) k

      items-agrees : (is : Items) → all_items tests is ≡ true
          → change_items v l is ≡ change_items w m is
      items-agrees no_items k = refl
      items-agrees (more_items e by is) k = two (λ e is. more_items e by is) (expr-agrees e) (items-agrees is) k

      maybe-agrees : (e : MaybeExpr) → all_maybe tests e ≡ true
          → change_maybe v l e ≡ change_maybe w m e
      maybe-agrees no_expr k = refl
      maybe-agrees (an_expr e) k = ap an_expr (expr-agrees e k)

      source-agrees : (s : Source) → all_source tests s ≡ true
          → change_source v l s ≡ change_source w m s
      source-agrees (of_table t only sample) k = refl
      source-agrees (of_alias a t) k = refl
      source-agrees (join by a b on) k =
          two (λ a (r : Source × MaybeExpr). join by a r.0 r.1) (source-agrees a)
          (two (λ b on. (b, on)) (source-agrees b) (maybe-agrees on)) k

      from-agrees : (f : From) → all_from tests f ≡ true
          → change_from v l f ≡ change_from w m f
      from-agrees no_source k = refl
      from-agrees (from s) k = ap from (source-agrees s k)

      distinct-agrees : (u : Distinct) → all_distinct tests u ≡ true
          → change_distinct v l u ≡ change_distinct w m u
      distinct-agrees every k = refl
      distinct-agrees distinct k = refl
      distinct-agrees (distinct_on e) k = ap distinct_on (expr-agrees e k)

      order-agrees : (o : Order) → all_order tests o ≡ true
          → change_order v l o ≡ change_order w m o
      order-agrees no_order k = refl
      order-agrees (order_by is) k = ap order_by (items-agrees is k)

      pub statement-agrees : (s : Statement) → all_statement tests s ≡ true → change v l s ≡ change w m s
      statement-agrees (select default e f u w o rows g h form marks) k =
          let k0 = second_so (tests.boxed || is_unboxed form) _ k in
          let k1 = second_so (all_distinct tests u) _ k0 in
          let k2 = second_so (all_expr tests e) _ k1 in
          let k3 = second_so (all_from tests f) _ k2 in
          let k4 = second_so (all_maybe tests w) _ k3 in
          let k5 = second_so (all_maybe tests g) _ k4 in
          let pu = distinct-agrees u (first_so (all_distinct tests u) _ k0) in
          let pe = expr-agrees e (first_so (all_expr tests e) _ k1) in
          let pf = from-agrees f (first_so (all_from tests f) _ k2) in
          let pw = maybe-agrees w (first_so (all_maybe tests w) _ k3) in
          let pg = maybe-agrees g (first_so (all_maybe tests g) _ k4) in
          let ph = maybe-agrees h (first_so (all_maybe tests h) (all_order tests o) k5) in
          let po = order-agrees o (second_so (all_maybe tests h) (all_order tests o) k5) in
          λ i. select default (pe i) (pf i) (pu i) (pw i) (po i) (blank_rows rows) (pg i) (ph i) form marks
      statement-agrees (combination by all a b o rows) k =
          two (λ a b. combination by all a b o (blank_rows rows)) (statement-agrees a)
          (λ h. statement-agrees b (first_so (all_statement tests b) (tests.places o) h)) k

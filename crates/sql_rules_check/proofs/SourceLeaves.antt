-- The leaves that the loop from the first node to the last reads ahead are those of the statement's source.
use Rattle.std.proofs.Common.{append-nil, ◌≡◌, List, [], ◌∷◌, ◌++◌, map, refl, sym, ap, ◌∙◌}
use Rattle.sql_leaf.specs.declared.table_source.JoinKind.{JoinKind}
use Rattle.sql_leaf.specs.declared.table_source.JoinKind.TheVariants.{Inner, LeftOuter}
use Rattle.sql_flat_law.specs.Rose.{Rose, Roses, none, more}
use Rattle.sql_flat_law.specs.Folds.{gathered}
use Rattle.sql_node.specs.Tree.{Origin, Form, unboxed, boxed, Expr, column, value, list, count_star, nullable, unary, count, compared, joined, exists, single, among_values, among_rows, MaybeExpr, no_expr, an_expr, Source, of_table, of_alias, join, From, no_source, from, Distinct, every, distinct, distinct_on, Order, no_order, order_by}
use Rattle.sql_origin.specs.Leaves.{Leaf, leaves, in_right_side}
use Rattle.sql_origin.specs.Origins.{a_table, an_alias}
use Rattle.sql_rules.specs.Scope.{View, origins, origins_of, widest}
use Rattle.sql_flat.specs.Flat.{expr_rose, maybe_roses, source_rose, from_roses, distinct_roses, order_roses, form_of}
use Rattle.sql_flat.specs.declared.kind.FlatKind.{FlatKind}
use Rattle.sql_flat.specs.declared.kind.FlatKind.TheVariants as K
use Rattle.sql_rules_check.specs.inside.Views.{leaf_at, is_passed, leaves_in, widened}

abbrev gathered_leaves : Rose FlatKind → View
gathered_leaves = gathered leaf_at is_passed

no-leaf : (e : Expr) → gathered_leaves (expr_rose e) ≡ []
no-leaf (column o c) = refl
no-leaf (value t x) = refl
no-leaf (list es) = refl
no-leaf count_star = refl
no-leaf (nullable e) = refl
no-leaf (unary n e) = refl
no-leaf (count e) = refl
no-leaf (compared by a b) = refl
no-leaf (joined by a b) = refl
no-leaf (exists q) = refl
no-leaf (single q) = refl
no-leaf (among_values n e t xs) = refl
no-leaf (among_rows n e q) = refl

same-origins : (k : JoinKind) (ls : List Leaf) → map (λ l. l.origin) (map (in_right_side k) ls) ≡ map (λ l. l.origin) ls
same-origins k [] = refl
same-origins Inner (l ∷ ls) = ap (λ v. l.origin ∷ v) (same-origins Inner ls)
same-origins LeftOuter (l ∷ ls) = ap (λ v. l.origin ∷ v) (same-origins LeftOuter ls)

pub map-append : {X Y : Type 0} (f : X → Y) (xs ys : List X) → map f (xs ++ ys) ≡ map f xs ++ map f ys
map-append f [] ys = refl
map-append f (x ∷ xs) ys = ap (λ v. f x ∷ v) (map-append f xs ys)

pub origins-join : (k : JoinKind) (l r : Source) (on : MaybeExpr) → origins (join k l r on) ≡ origins l ++ origins r
origins-join k l r on =
    map-append (λ l. l.origin) (leaves l) (map (in_right_side k) (leaves r))
    ∙ ap (λ v. origins l ++ v) (same-origins k (leaves r))

no-on : (on : MaybeExpr) → leaves_in (maybe_roses K.On on none) ≡ []
no-on no_expr = refl
no-on (an_expr e) = refl

sides-leaves : (l r : Source) (on : MaybeExpr) → gathered_leaves (source_rose l) ≡ origins l
    → gathered_leaves (source_rose r) ≡ origins r
    → leaves_in (more (source_rose l) (more (source_rose r) (maybe_roses K.On on none))) ≡ origins l ++ origins r
sides-leaves l r on h g = rw (h, g, no-on on) (ap (λ v. origins l ++ v) (append-nil (origins r)))

source-leaves : (f : Source) → gathered_leaves (source_rose f) ≡ origins f
source-leaves (of_table t only sample) = refl
source-leaves (of_alias a t) = refl
source-leaves (join k l r on) =
    sides-leaves l r on (source-leaves l) (source-leaves r) ∙ sym (origins-join k l r on)

pub join-leaves : (l r : Source) (on : MaybeExpr)
    → leaves_in (more (source_rose l) (more (source_rose r) (maybe_roses K.On on none))) ≡ origins l ++ origins r
join-leaves l r on = sides-leaves l r on (source-leaves l) (source-leaves r)

order-leaves : (o : Order) → leaves_in (order_roses o) ≡ []
order-leaves no_order = refl
order-leaves (order_by is) = refl

clause-leaves : (w g h : MaybeExpr) (o : Order)
    → leaves_in (maybe_roses K.Where w (maybe_roses K.GroupBy g (maybe_roses K.Having h (order_roses o)))) ≡ []
clause-leaves no_expr no_expr no_expr o = order-leaves o
clause-leaves no_expr no_expr (an_expr h) o = order-leaves o
clause-leaves no_expr (an_expr g) no_expr o = order-leaves o
clause-leaves no_expr (an_expr g) (an_expr h) o = order-leaves o
clause-leaves (an_expr w) no_expr no_expr o = order-leaves o
clause-leaves (an_expr w) no_expr (an_expr h) o = order-leaves o
clause-leaves (an_expr w) (an_expr g) no_expr o = order-leaves o
clause-leaves (an_expr w) (an_expr g) (an_expr h) o = order-leaves o

from-leaves : (f : From) (rest : Roses FlatKind) → leaves_in rest ≡ []
    → leaves_in (from_roses f rest) ≡ origins_of f
from-leaves no_source rest h = h
from-leaves (from f) rest h = rw (source-leaves f, h) (append-nil (origins f ++ []) ∙ append-nil (origins f))

distinct-leaves : (u : Distinct) (rest : Roses FlatKind) → leaves_in (distinct_roses u rest) ≡ leaves_in rest
distinct-leaves every rest = refl
distinct-leaves distinct rest = refl
distinct-leaves (distinct_on e) rest = refl

-- the clauses of a select statement below its node
abbrev pub select_roses : Expr → From → Distinct → MaybeExpr → Order → MaybeExpr → MaybeExpr → Roses FlatKind
select_roses e f u w o g h =
    distinct_roses u
    (more (expr_rose e)
    (from_roses f (maybe_roses K.Where w (maybe_roses K.GroupBy g (maybe_roses K.Having h (order_roses o))))))

pub select-leaves : (e : Expr) (f : From) (u : Distinct) (w : MaybeExpr) (o : Order) (g h : MaybeExpr)
    → leaves_in (select_roses e f u w o g h) ≡ origins_of f
select-leaves e f u w o g h =
    let rest = maybe_roses K.Where w (maybe_roses K.GroupBy g (maybe_roses K.Having h (order_roses o))) in
    distinct-leaves u (more (expr_rose e) (from_roses f rest))
    ∙ ap (λ v. v ++ leaves_in (from_roses f rest)) (no-leaf e)
    ∙ from-leaves f rest (clause-leaves w g h o)

some-leaf : (f : Source) → (o : Origin) × (os : View) × (origins f ≡ o ∷ os)
some-leaf (of_table t only sample) = (a_table t, [], refl)
some-leaf (of_alias a t) = (an_alias a t, [], refl)
some-leaf (join k l r on) =
    let h = some-leaf l in
    (h.0, h.1 ++ origins r, origins-join k l r on ∙ ap (λ v. v ++ origins r) h.2)

pub widens : (form : Form) (f : From) (outer : View) → widened (form_of form) (origins_of f) outer ≡ widest form f outer
widens (unboxed l) no_source outer = refl
widens (unboxed l) (from f) outer =
    let h = some-leaf f in rw h.2 refl
widens (boxed d n) no_source outer = refl
widens (boxed d n) (from f) outer = refl

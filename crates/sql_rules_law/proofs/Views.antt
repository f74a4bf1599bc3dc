-- What a clause sees is a part of what WHERE sees.
use Rattle.std.proofs.Common.{◌≡◌, List, [], ◌∷◌, ◌++◌, map, refl, sym, ap, ◌∙◌, subst, append_assoc}
use Rattle.std.proofs.lemmas.List.{append-nil}
use Rattle.sql_leaf.specs.declared.table_source.JoinKind.{JoinKind}
use Rattle.sql_leaf.specs.declared.table_source.JoinKind.TheVariants.{Inner, LeftOuter}
use Rattle.sql_node.specs.Tree.{Origin, Items, no_items, more_items, MaybeExpr, no_expr, an_expr, Source, of_table, of_alias, join, From, no_source, from, Distinct, every, distinct, distinct_on, Order, no_order, order_by, Form, unboxed, boxed}
use Rattle.sql_origin.specs.Leaves.{Leaf, leaves, in_right_side}
use Rattle.sql_rules.specs.Lists.{Each, AnyPair}
use Rattle.sql_rules.specs.Scope.{View, origins, origins_of, widest, Select, Place, in_on, in_where, in_group_by, in_having, Clause, clauses, maybe_clause, ons, ons_of, distinct_clause, item_clauses, order_clauses, own}
use Rattle.sql_rules_law.proofs.Lists.{each_map, each_append, pair_left, pair_right}

-- ## The leaves of a join, as far as names go

origins-append : (xs ys : List Leaf)
    → map (λ (l : Leaf). l.origin) (xs ++ ys) ≡ map (λ (l : Leaf). l.origin) xs ++ map (λ (l : Leaf). l.origin) ys
origins-append [] ys = refl
origins-append (x ∷ xs) ys = ap (λ v. x.origin ∷ v) (origins-append xs ys)

origins-padded : (k : JoinKind) (ls : List Leaf)
    → map (λ (l : Leaf). l.origin) (map (in_right_side k) ls) ≡ map (λ (l : Leaf). l.origin) ls
origins-padded k [] = refl
origins-padded Inner (l ∷ ls) = ap (λ v. l.origin ∷ v) (origins-padded Inner ls)
origins-padded LeftOuter (l ∷ ls) = ap (λ v. l.origin ∷ v) (origins-padded LeftOuter ls)

origins-join : (k : JoinKind) (l r : Source) (on : MaybeExpr) → origins (join k l r on) ≡ origins l ++ origins r
origins-join k l r on =
    origins-append (leaves l) (map (in_right_side k) (leaves r))
    ∙ ap (λ v. origins l ++ v) (origins-padded k (leaves r))

-- ## Parts of a view

abbrev pub IsPart : View → View → Type 0
IsPart v w = (a b : View) × (w ≡ a ++ (v ++ b))

part_self : (v : View) → IsPart v v
part_self v = ([], [], sym (append-nil v))

part_left : (v a b : View) → IsPart v a → IsPart v (a ++ b)
part_left v a b h =
    (h.0, h.1 ++ b, ap (λ x. x ++ b) h.2 ∙ append_assoc h.0 (v ++ h.1) b ∙ ap (λ x. h.0 ++ x) (append_assoc v h.1 b))

part_right : (v a b : View) → IsPart v b → IsPart v (a ++ b)
part_right v a b h = (a ++ h.0, h.1, ap (λ x. a ++ x) h.2 ∙ sym (append_assoc a h.0 (v ++ h.1)))

own_part : (f : Form) (s : From) (outer : View) (v : View) → IsPart v (origins_of s) → IsPart v (widest f s outer)
own_part (unboxed l) no_source outer v h = h
own_part (unboxed l) (from f) outer v h = part_left v (origins f) outer h
own_part (boxed d n) s outer v h = h

maybe_part : (p : Place) (v w : View) (e : MaybeExpr) → IsPart v w → Each (λ c. IsPart c.view w) (maybe_clause p v e)
maybe_part p v w no_expr h = tt
maybe_part p v w (an_expr e) h = (h, tt)

ons_part : (f : Source) → Each (λ c. IsPart c.view (origins f)) (ons f)
ons_part (of_table t o s) = tt
ons_part (of_alias a t) = tt
ons_part (join k l r on) =
    let both : View = origins l ++ origins r in
    subst (λ w. Each (λ c. IsPart c.view w) (ons (join k l r on))) (sym (origins-join k l r on)) (
    each_append _ (ons l) (ons r ++ maybe_clause in_on both on)
    (each_map _ _ (λ c h. part_left c.view (origins l) (origins r) h) (ons l) (ons_part l))
    (each_append _ (ons r) (maybe_clause in_on both on)
    (each_map _ _ (λ c h. part_right c.view (origins l) (origins r) h) (ons r) (ons_part r))
    (maybe_part in_on both both on (part_self both))))

ons_of_part : (f : From) → Each (λ c. IsPart c.view (origins_of f)) (ons_of f)
ons_of_part no_source = tt
ons_of_part (from f) = ons_part f

distinct_part : (v : View) (u : Distinct) → Each (λ c. IsPart c.view v) (distinct_clause v u)
distinct_part v every = tt
distinct_part v distinct = tt
distinct_part v (distinct_on e) = (part_self v, tt)

items_part : (v : View) (is : Items) → Each (λ c. IsPart c.view v) (item_clauses v is)
items_part v no_items = tt
items_part v (more_items e by is) = (part_self v, items_part v is)

order_part : (v : View) (o : Order) → Each (λ c. IsPart c.view v) (order_clauses v o)
order_part v no_order = tt
order_part v (order_by is) = items_part v is

pub clauses_part : (outer : View) (s : Select)
    → Each (λ c. IsPart c.view (widest s.form s.source outer)) (clauses outer s)
clauses_part outer s =
    let wide : View = widest s.form s.source outer in
    let wider : (c : Clause) → IsPart c.view (own s) → IsPart c.view wide =
    λ c h. own_part s.form s.source outer c.view h in
    let own_in : IsPart (own s) wide = own_part s.form s.source outer (own s) (part_self (own s)) in
    each_append _ (distinct_clause (own s) s.distinctness) _
    (each_map _ _ wider _ (distinct_part (own s) s.distinctness)) (
      own_in,
      each_append _ (ons_of s.source) _ (each_map _ _ wider _ (ons_of_part s.source))
          (each_append _ (maybe_clause in_where wide s.where_by) _
          (maybe_part in_where wide wide s.where_by (part_self wide))
          (each_append _ (maybe_clause in_group_by (own s) s.group_by) _
          (maybe_part in_group_by (own s) wide s.group_by own_in)
          (each_append _ (maybe_clause in_having (own s) s.having_by) _
          (maybe_part in_having (own s) wide s.having_by own_in)
          (each_map _ _ wider _ (order_part (own s) s.order))))),
    )

pub pair_in_part : (R : Origin → Origin → Type 0) (v w : View) → IsPart v w → AnyPair R v → AnyPair R w
pair_in_part R v w h p = subst (AnyPair R) (sym h.2) (pair_right R h.0 (v ++ h.1) (pair_left R v h.1 p))

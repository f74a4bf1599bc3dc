-- An aggregate, a subselect or a GROUP BY, by a test of nodes.
use Rattle.std.proofs.Common.{◌≡◌, ◌⊎◌, inl, inr, List, [], ◌∷◌, ◌++◌, Bool, true, false, Option, None, Some, refl}
use Rattle.std.specs.Bool.{Decides}
use Rattle.std.specs.List.{list_any}
use Rattle.std.proofs.lemmas.Bool.{false≢true}
use Rattle.sql_leaf.specs.declared.position.PositionalItem.{PositionalItem}
use Rattle.sql_flat_law.specs.Rose.{Roses}
use Rattle.sql_node.specs.Tree.{Expr, column, value, list, count_star, nullable, unary, count, compared, joined, exists, single, among_values, among_rows, Items, no_items, more_items, MaybeExpr, no_expr, an_expr, Source, of_table, of_alias, join, From, no_source, from, Distinct, every, distinct, distinct_on, Order, no_order, order_by, Statement}
use Rattle.sql_rules.specs.Lists.{AnyOf}
use Rattle.sql_rules.specs.Rules.{Present}
use Rattle.sql_rules.specs.Scope.{View, Part, a_select, a_combination, parts, Place, in_selection, in_distinct_on, in_on, in_where, in_group_by, in_having, in_order_by, Clause, Select, clauses, own, widest, origins, maybe_clause, ons, ons_of, distinct_clause, item_clauses, order_clauses, nodes}
use Rattle.sql_rules.proofs.Lists.{any_left, any_right}
use Rattle.sql_rules.proofs.Loops.{any_each, any_split}
use Rattle.sql_flat.specs.Flat.{flat_of}
use Rattle.sql_flat.specs.declared.kind.FlatKind.{FlatKind}
use Rattle.sql_flat.specs.declared.kind.FlatKind.TheVariants as K
use Rattle.sql_flat.specs.declared.kind.FlatNode.{FlatNode}
use Rattle.sql_rules_check.specs.inside.Known.{Known}
use Rattle.sql_rules_check.proofs.Absent.{Never, NoCombination, NoSelect, NoSource}
use Rattle.sql_rules_check.proofs.Alternatives.{any-either}
use Rattle.sql_rules_check.proofs.Decided.{decides-nodes, decides-rule}
use Rattle.sql_rules_check.proofs.Seen as seen
use Rattle.sql_guard_law.specs.Tenant.{IsBeyond, IsOutOfKind}
use Rattle.sql_guard.specs.inside.Kinds.{is_beyond, is_out}

abbrev Beyond : View → FlatKind → Roses FlatKind → Type 0
Beyond v k ts = is_beyond k ≡ true

abbrev IsGroup : Place → Type 0
IsGroup in_group_by = Unit {0}
IsGroup _ = ⊥

abbrev Grouped : Place → Roses FlatKind → Type 0
Grouped p ts = IsGroup p

itself : (b : Bool) → Decides b (b ≡ true)
itself b = (λ h. h, λ h. h)

never : Decides false ⊥
never = (λ e. absurd (false≢true e), λ h. absurd h)

node-decides : (v : View) (k : FlatKind) (w : Known)
    → Decides (is_out k) (seen.of_kind Beyond Grouped Never Never NoSelect NoCombination NoSource v k w)
node-decides v (K.Column a c) w = itself false
node-decides v (K.Value t x) w = itself false
node-decides v K.List w = itself false
node-decides v K.CountStar w = itself true
node-decides v K.Nullable w = itself false
node-decides v (K.Unary u) w = itself false
node-decides v K.Count w = itself true
node-decides v (K.Compared by) w = itself false
node-decides v (K.Joined by) w = itself false
node-decides v K.Exists w = itself true
node-decides v K.Single w = itself true
node-decides v (K.Among n l) w = itself (is_beyond (K.Among n l))
node-decides v K.GroupBy w = (λ e. tt, λ h. refl)
node-decides v _ w = never

-- ---- expressions

to-expr : (v : View) (e : Expr) → seen.OfExpr Beyond Grouped Never Never NoSelect NoCombination NoSource v e → IsBeyond e
to-expr v (column o c) h = absurd (false≢true h)
to-expr v (value t x) h = absurd (false≢true h)
to-expr v (list es) h = absurd (false≢true h)
to-expr v count_star h = tt
to-expr v (nullable e) h = absurd (false≢true h)
to-expr v (unary u e) h = absurd (false≢true h)
to-expr v (count e) h = tt
to-expr v (compared by a b) h = absurd (false≢true h)
to-expr v (joined by a b) h = absurd (false≢true h)
to-expr v (exists q) h = tt
to-expr v (single q) h = tt
to-expr v (among_values n e t xs) h = absurd (false≢true h)
to-expr v (among_rows n e q) h = tt

of-expr : (v : View) (e : Expr) → IsBeyond e → seen.OfExpr Beyond Grouped Never Never NoSelect NoCombination NoSource v e
of-expr v (column o c) h = absurd h
of-expr v (value t x) h = absurd h
of-expr v (list es) h = absurd h
of-expr v count_star h = refl
of-expr v (nullable e) h = absurd h
of-expr v (unary u e) h = absurd h
of-expr v (count e) h = refl
of-expr v (compared by a b) h = absurd h
of-expr v (joined by a b) h = absurd h
of-expr v (exists q) h = refl
of-expr v (single q) h = refl
of-expr v (among_values n e t xs) h = absurd h
of-expr v (among_rows n e q) h = refl

-- ---- a GROUP BY among the clauses

abbrev G : Clause → Type 0
G c = IsGroup c.place

past : (xs ys : List Clause) → (AnyOf G xs → ⊥) → AnyOf G (xs ++ ys) → AnyOf G ys
past xs ys n h = elim (any_split G xs ys h) [ inl p ↦ absurd (n p) | inr q ↦ q ]

no-distinct : (v : View) (u : Distinct) → AnyOf G (distinct_clause v u) → ⊥
no-distinct v every h = h
no-distinct v distinct h = h
no-distinct v (distinct_on e) (inl p) = p
no-distinct v (distinct_on e) (inr h) = h

no-maybe : (p : Place) → (IsGroup p → ⊥) → (v : View) (m : MaybeExpr) → AnyOf G (maybe_clause p v m) → ⊥
no-maybe p n v no_expr h = h
no-maybe p n v (an_expr e) (inl q) = n q
no-maybe p n v (an_expr e) (inr h) = h

no-ons : (f : Source) → AnyOf G (ons f) → ⊥
no-ons (of_table t only sample) h = h
no-ons (of_alias a t) h = h
no-ons (join k l r on) h =
    no-maybe in_on (λ q. q) (origins l ++ origins r) on
    (past (ons r) (maybe_clause in_on (origins l ++ origins r) on) (no-ons r)
    (past (ons l) (ons r ++ maybe_clause in_on (origins l ++ origins r) on) (no-ons l) h))

no-ons-of : (f : From) → AnyOf G (ons_of f) → ⊥
no-ons-of no_source h = h
no-ons-of (from f) h = no-ons f h

no-items : (v : View) (is : Items) → AnyOf G (item_clauses v is) → ⊥
no-items v no_items h = h
no-items v (more_items e by is) (inl p) = p
no-items v (more_items e by is) (inr h) = no-items v is h

no-order-by : (v : View) (o : Order) → AnyOf G (order_clauses v o) → ⊥
no-order-by v no_order h = h
no-order-by v (order_by is) h = no-items v is h

present : (v : View) (m : MaybeExpr) → AnyOf G (maybe_clause in_group_by v m) → Present m
present v no_expr h = h
present v (an_expr e) h = tt

select-first : (v : View) (e : Expr) (cs : List Clause)
    → AnyOf G (record { place = in_selection; view = v; expr = e } ∷ cs) → AnyOf G cs
select-first v e cs (inl p) = absurd p
select-first v e cs (inr h) = h

grouped-there : (outer : View) (s : Select) → AnyOf G (clauses outer s) → Present s.group_by
grouped-there outer s h =
    let v = own s in
    let w = widest s.form s.source outer in
    let order = order_clauses v s.order in
    let having = maybe_clause in_having v s.having_by in
    let group = maybe_clause in_group_by v s.group_by in
    let condition = maybe_clause in_where w s.where_by in
    let after = group ++ (having ++ order) in
    let g =
    past condition after (no-maybe in_where (λ q. q) w s.where_by)
    (past (ons_of s.source) (condition ++ after) (no-ons-of s.source)
    (select-first v s.selection (ons_of s.source ++ (condition ++ after))
    (past (distinct_clause v s.distinctness) _ (no-distinct v s.distinctness) h))) in
    elim (any_split G group (having ++ order) g) [
      | inl p ↦ present v s.group_by p
      | inr q ↦ absurd
          (no-order-by v s.order (past having order (no-maybe in_having (λ r. r) v s.having_by) q))
    ]

there : (v : View) (m : MaybeExpr) → Present m
    → AnyOf (seen.ClauseOut Beyond Grouped Never Never NoSelect NoCombination NoSource) (maybe_clause in_group_by v m)
there v no_expr h = absurd h
there v (an_expr e) h = inl (inl tt)

of-group : (outer : View) (s : Select) → Present s.group_by
    → AnyOf (seen.ClauseOut Beyond Grouped Never Never NoSelect NoCombination NoSource) (clauses outer s)
of-group outer s h =
    let C = seen.ClauseOut Beyond Grouped Never Never NoSelect NoCombination NoSource in
    let v = own s in
    let w = widest s.form s.source outer in
    any_right C (distinct_clause v s.distinctness) _
    (inr (any_right C (ons_of s.source) _
    (any_right C (maybe_clause in_where w s.where_by) _
    (any_left C (maybe_clause in_group_by v s.group_by) _ (there v s.group_by h)))))

-- ---- parts

a-group : (p : Place) (e : Expr)
    → seen.OfPlace Beyond Grouped Never Never NoSelect NoCombination NoSource p e → IsGroup p
a-group in_selection e h = h
a-group in_distinct_on e h = h
a-group in_on e h = h
a-group in_where e h = h
a-group in_group_by e h = h
a-group in_having e h = h
a-group in_order_by e h = h

to-clause : (c : Clause) → seen.ClauseOut Beyond Grouped Never Never NoSelect NoCombination NoSource c
    → AnyOf IsBeyond (nodes c.expr) ⊎ G c
to-clause c (inl p) = inr (a-group c.place c.expr p)
to-clause c (inr q) =
    inl (any_each (seen.OfExpr Beyond Grouped Never Never NoSelect NoCombination NoSource c.view) IsBeyond
    (to-expr c.view) (nodes c.expr) q)

no-source : (f : Source) → seen.OfSource Beyond Grouped Never Never NoSelect NoCombination NoSource f → ⊥
no-source (of_table t only sample) h = h
no-source (of_alias a t) h = h
no-source (join k l r on) (inl h) = h
no-source (join k l r on) (inr (inl h)) = no-source l h
no-source (join k l r on) (inr (inr h)) = no-source r h

no-from : (f : From) → seen.OfFrom Beyond Grouped Never Never NoSelect NoCombination NoSource f → ⊥
no-from no_source h = h
no-from (from f) h = no-source f h

no-order : (o : Order) → seen.OfOrder Beyond Grouped Never Never NoSelect NoCombination NoSource o → ⊥
no-order no_order h = h
no-order (order_by is) h = h

no-positions : (o : Option (List PositionalItem))
    → seen.OfPositions Beyond Grouped Never Never NoSelect NoCombination NoSource o → ⊥
no-positions None h = h
no-positions (Some ps) h = h

to-part : (p : Part) → seen.PartOut Beyond Grouped Never Never NoSelect NoCombination NoSource p → IsOutOfKind p
to-part (a_select outer s) (inl (inl h)) =
    elim (any-either (seen.ClauseOut Beyond Grouped Never Never NoSelect NoCombination NoSource)
    (λ c. AnyOf IsBeyond (nodes c.expr)) G to-clause (clauses outer s) h) [
      | inl p ↦ inl p
      | inr q ↦ inr (grouped-there outer s q)
    ]
to-part (a_select outer s) (inl (inr h)) = absurd h
to-part (a_select outer s) (inr (inl h)) = absurd (no-from s.source h)
to-part (a_select outer s) (inr (inr h)) = absurd (no-order s.order h)
to-part (a_combination c) (inl h) = h
to-part (a_combination c) (inr h) = no-positions c.order h

of-part : (p : Part) → IsOutOfKind p → seen.PartOut Beyond Grouped Never Never NoSelect NoCombination NoSource p
of-part (a_select outer s) (inl h) =
    inl (inl (any_each (λ c. AnyOf IsBeyond (nodes c.expr))
    (seen.ClauseOut Beyond Grouped Never Never NoSelect NoCombination NoSource)
    (λ c q. inr (any_each IsBeyond (seen.OfExpr Beyond Grouped Never Never NoSelect NoCombination NoSource c.view)
    (of-expr c.view) (nodes c.expr) q)) (clauses outer s) h))
of-part (a_select outer s) (inr h) = inl (inl (of-group outer s h))
of-part (a_combination c) h = absurd h

pub out-of-kind : (s : Statement) (nodes : List FlatNode) (b : Bool) → nodes ≡ flat_of s
    → b ≡ list_any (λ x. is_out x.kind) nodes → Decides b (AnyOf IsOutOfKind (parts [] s))
out-of-kind s nodes b is h =
    decides-rule Beyond Grouped Never Never NoSelect NoCombination NoSource IsOutOfKind to-part of-part (parts [] s) b
    (decides-nodes Beyond Grouped Never Never NoSelect NoCombination NoSource is_out node-decides s nodes b is h)

-- What is in the clauses of a statement that keeps the rule TypeMismatch has types.
use Rattle.std.proofs.Common.{◌≡◌, ◌||◌, List, [], ◌∷◌, ◌++◌, map, Option, Some, None, refl, ap, ap₂, ◌∙◌, inl, inr}
use Rattle.std.specs.List.{list_any}
use Rattle.std.specs.Option.{is_none}
use Rattle.sql_schema.specs.declared.types.SqlType.{SqlType}
use Rattle.sql_node.specs.Tree.{Expr, Items, no_items, more_items, MaybeExpr, no_expr, an_expr, Source, of_table, of_alias, join, From, no_source, from, Distinct, every, distinct, distinct_on, Order, no_order, order_by}
use Rattle.sql_rules.specs.Lists.{AnyOf}
use Rattle.sql_rules.specs.Rules.{IsIllTyped, IsIllTypedClause}
use Rattle.sql_rules.specs.Scope.{View, Select, clauses, own, origins, nodes, flat, ons, ons_of, in_on, in_where, in_group_by, in_having, widest, maybe_clause, distinct_clause, item_clauses, order_clauses}
use Rattle.sql_rules.specs.Types.{given, element_types, type_of}
use Rattle.sql_rules.specs.inside.Misfits.{misfit}
use Rattle.sql_rules.proofs.Lists.{any_left, any_right}
use Rattle.sql_rules.proofs.Nulled.{elements}
use Rattle.sql_rules.proofs.TypeLaws.{ill_typed-decides}

abbrev pub IsTyped : Expr → Type 0
IsTyped e = (ts : List SqlType) × (element_types (given e) ≡ map Some ts)

abbrev pub HasType : Expr → Type 0
HasType e = (t : SqlType) × (type_of e ≡ Some t)

abbrev pub IsTypedKey : Distinct → Type 0
IsTypedKey every = Unit {0}
IsTypedKey distinct = Unit {0}
IsTypedKey (distinct_on e) = IsTyped e

abbrev pub AreTypedItems : Items → Type 0
AreTypedItems no_items = Unit {0}
AreTypedItems (more_items e by is) = HasType e × AreTypedItems is

abbrev pub IsTypedOrder : Order → Type 0
IsTypedOrder no_order = Unit {0}
IsTypedOrder (order_by is) = AreTypedItems is

abbrev pub IsTypedMaybe : MaybeExpr → Type 0
IsTypedMaybe no_expr = Unit {0}
IsTypedMaybe (an_expr e) = IsTyped e

abbrev pub IsTypedCondition : MaybeExpr → Type 0
IsTypedCondition no_expr = Unit {0}
IsTypedCondition (an_expr e) = HasType e

abbrev pub IsTypedSource : Source → Type 0
IsTypedSource (of_table t only sample) = Unit {0}
IsTypedSource (of_alias a t) = Unit {0}
IsTypedSource (join kind l r on) = IsTypedSource l × IsTypedSource r × IsTypedCondition on

abbrev pub IsTypedFrom : From → Type 0
IsTypedFrom no_source = Unit {0}
IsTypedFrom (from s) = IsTypedSource s

pub record IsTypedSelect (s : Select) : Type 0 where
  pub selection : IsTyped s.selection
  pub source : IsTypedFrom s.source
  pub key : IsTypedKey s.distinctness
  pub condition : IsTypedCondition s.where_by
  pub group : IsTypedMaybe s.group_by
  pub having : IsTypedCondition s.having_by
  pub order : IsTypedOrder s.order

-- ---- each clause

pub typed-top : (e : Expr) → ¬ AnyOf IsIllTyped (nodes e) → (t : SqlType) × (type_of e ≡ Some t)
typed-top e n = go (type_of e) refl
  where
    go : (o : Option SqlType) → type_of e ≡ o → (t : SqlType) × (o ≡ Some t)
    go None q = absurd (n ((ill_typed-decides e).0 (ap (λ o. is_none o || list_any misfit (nodes e)) q)))
    go (Some t) q = (t, refl)

all-typed : (es : List Expr) → ¬ AnyOf (λ e. AnyOf IsIllTyped (nodes e)) es
    → (ts : List SqlType) × (map type_of es ≡ map Some ts)
all-typed [] n = ([], refl)
all-typed (e ∷ es) n =
    let head = typed-top e (λ i. n (inl i)) in
    let rest = all-typed es (λ i. n (inr i)) in
    (head.0 ∷ rest.0, ap₂ ◌∷◌ head.1 rest.1)

pub flat-typed : (e : Expr) → ¬ AnyOf (λ x. AnyOf IsIllTyped (nodes x)) (flat e) → IsTyped e
flat-typed e n = let all = all-typed (flat e) n in (all.0, elements e ∙ all.1)

free_left : {X : Type 0} (P : X → Type 0) (xs ys : List X) → ¬ AnyOf P (xs ++ ys) → ¬ AnyOf P xs
free_left P xs ys h i = h (any_left P xs ys i)

free_right : {X : Type 0} (P : X → Type 0) (xs ys : List X) → ¬ AnyOf P (xs ++ ys) → ¬ AnyOf P ys
free_right P xs ys h i = h (any_right P xs ys i)

key-typed : (v : View) (u : Distinct) → ¬ AnyOf IsIllTypedClause (distinct_clause v u) → IsTypedKey u
key-typed v every n = tt
key-typed v distinct n = tt
key-typed v (distinct_on e) n = flat-typed e (λ i. n (inl (inl i)))

pub items-typed : (v : View) (is : Items) → ¬ AnyOf IsIllTypedClause (item_clauses v is) → AreTypedItems is
items-typed v no_items n = tt
items-typed v (more_items e by is) n =
    (typed-top e (λ i. n (inl (inl (inl i)))), items-typed v is (λ i. n (inr i)))

order-typed : (v : View) (o : Order) → ¬ AnyOf IsIllTypedClause (order_clauses v o) → IsTypedOrder o
order-typed v no_order n = tt
order-typed v (order_by is) n = items-typed v is n

group-typed : (v : View) (g : MaybeExpr) → ¬ AnyOf IsIllTypedClause (maybe_clause in_group_by v g) → IsTypedMaybe g
group-typed v no_expr n = tt
group-typed v (an_expr e) n = flat-typed e (λ i. n (inl (inl i)))

where-typed : (v : View) (c : MaybeExpr) → ¬ AnyOf IsIllTypedClause (maybe_clause in_where v c) → IsTypedCondition c
where-typed v no_expr n = tt
where-typed v (an_expr e) n = typed-top e (λ i. n (inl (inl (inl i))))

having-typed : (v : View) (c : MaybeExpr) → ¬ AnyOf IsIllTypedClause (maybe_clause in_having v c) → IsTypedCondition c
having-typed v no_expr n = tt
having-typed v (an_expr e) n = typed-top e (λ i. n (inl (inl (inl i))))

on-typed : (v : View) (c : MaybeExpr) → ¬ AnyOf IsIllTypedClause (maybe_clause in_on v c) → IsTypedCondition c
on-typed v no_expr n = tt
on-typed v (an_expr e) n = typed-top e (λ i. n (inl (inl (inl i))))

source-typed : (s : Source) → ¬ AnyOf IsIllTypedClause (ons s) → IsTypedSource s
source-typed (of_table t only sample) n = tt
source-typed (of_alias a t) n = tt
source-typed (join kind l r on) n =
    let here = maybe_clause in_on (origins l ++ origins r) on in
    let after = free_right IsIllTypedClause (ons l) (ons r ++ here) n in (
      source-typed l (free_left IsIllTypedClause (ons l) (ons r ++ here) n),
      source-typed r (free_left IsIllTypedClause (ons r) here after),
      on-typed (origins l ++ origins r) on (free_right IsIllTypedClause (ons r) here after),
    )

from-typed : (f : From) → ¬ AnyOf IsIllTypedClause (ons_of f) → IsTypedFrom f
from-typed no_source n = tt
from-typed (from s) n = source-typed s n

pub select-typed : (outer : View) (s : Select) → ¬ AnyOf IsIllTypedClause (clauses outer s) → IsTypedSelect s
select-typed outer s n =
    let v = own s in
    let w = widest s.form s.source outer in
    let n1 = free_right IsIllTypedClause (distinct_clause v s.distinctness) _ n in
    let n2 = free_right IsIllTypedClause (ons_of s.source) _ (λ i. n1 (inr i)) in
    let n3 = free_right IsIllTypedClause (maybe_clause in_where w s.where_by) _ n2 in
    let n4 = free_right IsIllTypedClause (maybe_clause in_group_by v s.group_by) _ n3 in
    record {
      selection = flat-typed s.selection (λ i. n1 (inl (inl i)));
      source = from-typed s.source (free_left IsIllTypedClause (ons_of s.source) _ (λ i. n1 (inr i)));
      key = key-typed v s.distinctness (free_left IsIllTypedClause (distinct_clause v s.distinctness) _ n);
      condition = where-typed w s.where_by (free_left IsIllTypedClause (maybe_clause in_where w s.where_by) _ n2);
      group = group-typed v s.group_by (free_left IsIllTypedClause (maybe_clause in_group_by v s.group_by) _ n3);
      having = having-typed v s.having_by
          (free_left IsIllTypedClause (maybe_clause in_having v s.having_by) (order_clauses v s.order) n4);
      order = order-typed v s.order
          (free_right IsIllTypedClause (maybe_clause in_having v s.having_by) (order_clauses v s.order) n4);
    }

-- What the type of an expression says of its operands' types.
use Rattle.std.proofs.Common.{◌≡◌, Bool, true, false, ◌&&◌, ◌||◌, List, [], ◌∷◌, ◌++◌, map, Option, Some, None, refl, sym, ap, subst, if◌then◌else◌}
use Rattle.sql_schema.specs.Equality.{same_type}
use Rattle.sql_schema.specs.declared.types.Base.TheVariants as base
use Rattle.sql_schema.specs.declared.types.SqlType.{SqlType}
use Rattle.sql_schema.proofs.ExactTypes.{exact-base, exact-type}
use Rattle.sql_pass.specs.declared.value.Value.{Value}
use Rattle.sql_leaf.specs.declared.operator.Unary.{Unary}
use Rattle.sql_rules.specs.Types.{Given, one, many, is_bool, all_fit, only_type, element_types, bool_type, as_nullable, not_type, unary_type, compared_type, joined_type, single_type, among_type}
use Rattle.sql_rows_meaning.proofs.Facts.{nulled, truth}

pub some_same : {A : Type 0} (a b : A) → Some a ≡ Some b → a ≡ b
some_same a b e = cc

-- the one type of a scalar
pub one-typed : (o : Option SqlType) (ts : List SqlType) → o ∷ [] ≡ map Some ts → (t : SqlType) × (o ≡ Some t)
    × (ts ≡ t ∷ [])
one-typed o [] e = absurd cc
one-typed o (t ∷ []) e = (t, cc, refl)
one-typed o (t ∷ (u ∷ us)) e = absurd cc

pub only-typed : (g : Given) (t : SqlType) → only_type g ≡ Some t → element_types g ≡ map Some (t ∷ [])
only-typed (one o) t e = ap (λ x. x ∷ []) e
only-typed (many os) t e = absurd cc

pub not-typed : (o : Option SqlType) (t : SqlType) → not_type o ≡ Some t → (o ≡ Some t) × (t.base ≡ base.Bool)
not-typed None t e = absurd cc
not-typed (Some u) t e = go (is_bool u) refl e
  where
    go : (b : Bool) → is_bool u ≡ b → (if b then Some u else None) ≡ Some t → (Some u ≡ Some t) × (t.base ≡ base.Bool)
    go true h f = (f, subst (λ w. w.base ≡ base.Bool) (some_same u t f) (exact-base u.base base.Bool h))
    go false h f = absurd cc

-- its operand has a type
pub unary-typed : (u : Unary) (o : Option SqlType) (t : SqlType) → unary_type u o ≡ Some t → (w : SqlType) × (o ≡ Some w)
unary-typed u None t e = absurd cc
unary-typed u (Some w) t e = (w, refl)

pub compared-typed : (o p : Option SqlType) (t : SqlType) → compared_type o p ≡ Some t
    → (u : SqlType) × (o ≡ Some u) × (p ≡ Some u) × (t ≡ truth u.nullable)
compared-typed None p t e = absurd cc
compared-typed (Some u) None t e = absurd cc
compared-typed (Some u) (Some w) t e = go (same_type u w) refl e
  where
    go : (b : Bool) → same_type u w ≡ b → (if b then bool_type u.nullable else None) ≡ Some t
        → (x : SqlType) × (Some u ≡ Some x) × (Some w ≡ Some x) × (t ≡ truth x.nullable)
    go true h f = (u, refl, ap Some (sym (exact-type u w h)), sym (some_same _ t f))
    go false h f = absurd cc

pub joined-typed : (o p : Option SqlType) (t : SqlType) → joined_type o p ≡ Some t
    → (u w : SqlType) × (o ≡ Some u) × (p ≡ Some w) × (t ≡ truth (u.nullable || w.nullable))
joined-typed None p t e = absurd cc
joined-typed (Some u) None t e = absurd cc
joined-typed (Some u) (Some w) t e = go (is_bool u && is_bool w) e
  where
    go : (b : Bool) → (if b then bool_type (u.nullable || w.nullable) else None) ≡ Some t
        → (x y : SqlType) × (Some u ≡ Some x) × (Some w ≡ Some y) × (t ≡ truth (x.nullable || y.nullable))
    go true f = (u, w, refl, refl, sym (some_same _ t f))
    go false f = absurd cc

pub single-typed : (os : List (Option SqlType)) (t : SqlType) → single_type os ≡ Some t → os ≡ map Some (t ∷ [])
single-typed [] t e = absurd cc
single-typed (o ∷ []) t e = ap (λ x. x ∷ []) e
single-typed (o ∷ (p ∷ os)) t e = absurd cc

pub nulled-typed : (o : Option SqlType) (t : SqlType) → as_nullable o ≡ Some t → (u : SqlType) × (o ≡ Some u)
    × (t ≡ nulled u)
nulled-typed None t e = absurd cc
nulled-typed (Some u) t e = (u, refl, sym (some_same _ t e))

pub among-typed : (o : Option SqlType) (w : SqlType) (xs : List Value) (t : SqlType) → among_type o w xs ≡ Some t
    → (all_fit w xs ≡ true) × (compared_type o (Some w) ≡ Some t)
among-typed o w xs t e = go (all_fit w xs) refl e
  where
    go : (b : Bool) → all_fit w xs ≡ b → (if b then compared_type o (Some w) else None) ≡ Some t
        → (all_fit w xs ≡ true) × (compared_type o (Some w) ≡ Some t)
    go true h f = (h, f)
    go false h f = absurd cc

-- ---- lists of types

cons_parts : {A : Type 0} (a b : A) (xs ys : List A) → a ∷ xs ≡ b ∷ ys → (a ≡ b) × (xs ≡ ys)
cons_parts a b xs ys e = (cc, cc)

pub all_nulled-typed : (os : List (Option SqlType)) (ts : List SqlType) → map as_nullable os ≡ map Some ts
    → (us : List SqlType) × (os ≡ map Some us) × (ts ≡ map nulled us)
all_nulled-typed [] [] e = ([], refl, refl)
all_nulled-typed [] (t ∷ ts) e = absurd cc
all_nulled-typed (o ∷ os) [] e = absurd cc
all_nulled-typed (o ∷ os) (t ∷ ts) e =
    let p = cons_parts (as_nullable o) (Some t) (map as_nullable os) (map Some ts) e in
    let (u, o_is, t_is) = nulled-typed o t p.0 in
    let (us, os_are, ts_are) = all_nulled-typed os ts p.1 in
    (u ∷ us, λ i. o_is i ∷ os_are i, λ i. t_is i ∷ ts_are i)

pub split-typed : (os ps : List (Option SqlType)) (ts : List SqlType) → os ++ ps ≡ map Some ts
    → (us ws : List SqlType) × (os ≡ map Some us) × (ps ≡ map Some ws) × (ts ≡ us ++ ws)
split-typed [] ps ts e = ([], ts, refl, e, refl)
split-typed (o ∷ os) ps [] e = absurd cc
split-typed (o ∷ os) ps (t ∷ ts) e =
    let p = cons_parts o (Some t) (os ++ ps) (map Some ts) e in
    let (us, ws, os_are, ps_are, ts_are) = split-typed os ps ts p.1 in
    (t ∷ us, ws, λ i. p.0 i ∷ os_are i, ps_are, ap (λ xs. t ∷ xs) ts_are)

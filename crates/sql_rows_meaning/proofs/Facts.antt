-- Values that fit or are NULL for a cause, and what operators make of them.
use Rattle.std.proofs.Common.{◌≡◌, Bool, true, false, not, ◌&&◌, ◌||◌, List, [], ◌∷◌, refl, inl, inr, ◌⊎◌, arith}
use Rattle.sql_schema.specs.declared.types.Base.TheVariants as base
use Rattle.sql_schema.specs.declared.types.SqlType.{SqlType}
use Rattle.sql_pass.specs.declared.value.Value.{Value}
use Rattle.sql_pass.specs.declared.value.Value.TheVariants as V
use Rattle.sql_leaf.specs.declared.operator.Unary.TheVariants.{IsNull, IsNotNull}
use Rattle.sql_leaf.specs.declared.operator.Comparison.{Comparison}
use Rattle.sql_leaf.specs.declared.operator.Comparison.TheVariants.{Eq}
use Rattle.sql_leaf.specs.declared.operator.Logic.{Logic}
use Rattle.sql_leaf.specs.declared.operator.Logic.TheVariants.{And, Or}
use Rattle.sql_rules.specs.Lists.{Each}
use Rattle.sql_rules.specs.Types.{fits}
use Rattle.sql_rows_meaning.specs.Values.{is_null, is_true, is_false, compares, compared_value, joined_value, not_value, any_value, unary_value, among_value}

pub or_true : (a b : Bool) → (a || b) ≡ true → (a ≡ true) ⊎ (b ≡ true)
or_true true b h = inl refl
or_true false b h = inr h

abbrev pub nulled : SqlType → SqlType
nulled t = record { base = t.base; nullable = true }

abbrev pub truth : Bool → SqlType
truth n = record { base = base.Bool; nullable = n }

abbrev pub Fits : SqlType → Value → Type 0
Fits t v = fits t v ≡ true

-- The value fits the type, or is NULL for a cause.
abbrev pub Fit : Type 0 → SqlType → Value → Type 0
Fit B t v = Fits t v ⊎ (v ≡ V.Null) × B

pub Fit-weaken : {B C : Type 0} (t : SqlType) (v : Value) → (B → C) → Fit B t v → Fit C t v
Fit-weaken t v f (inl h) = inl h
Fit-weaken t v f (inr h) = inr (h.0, f h.1)

pub Fit-no_cause : {B : Type 0} (t : SqlType) (v : Value) → (B → ⊥) → Fit B t v → Fits t v
Fit-no_cause t v n (inl h) = h
Fit-no_cause t v n (inr h) = absurd (n h.1)

fits_nulled : (t : SqlType) (v : Value) → Fits t v → Fits (nulled t) v
fits_nulled t V.Null h = refl
fits_nulled t (V.SmallInt x) h = h
fits_nulled t (V.Integer x) h = h
fits_nulled t (V.BigInt x) h = h
fits_nulled t (V.Text x) h = h
fits_nulled t (V.Binary x) h = h
fits_nulled t (V.Bool x) h = h

null_fits : (t : SqlType) (v : Value) → v ≡ V.Null → Fits (nulled t) v
null_fits t v e = rw e refl

pub Fit-nullable : {B : Type 0} (t : SqlType) (v : Value) → Fit B t v → Fits (nulled t) v
Fit-nullable t v (inl h) = fits_nulled t v h
Fit-nullable t v (inr h) = null_fits t v h.0

-- why a value is NULL
pub fits_null : (t : SqlType) (v : Value) → Fits t v → is_null v ≡ true → t.nullable ≡ true
fits_null t V.Null h n = h
fits_null t (V.SmallInt x) h n = absurd (grind arith)
fits_null t (V.Integer x) h n = absurd (grind arith)
fits_null t (V.BigInt x) h n = absurd (grind arith)
fits_null t (V.Text x) h n = absurd (grind arith)
fits_null t (V.Binary x) h n = absurd (grind arith)
fits_null t (V.Bool x) h n = absurd (grind arith)

pub cause : {B : Type 0} (t : SqlType) (v : Value) → Fit B t v → is_null v ≡ true → (t.nullable ≡ true) ⊎ B
cause t v (inl h) n = inl (fits_null t v h n)
cause t v (inr h) n = inr h.1

-- true or false, or NULL for a cause
abbrev pub TruthOr : Type 0 → Value → Type 0
TruthOr C v = ((b : Bool) × (v ≡ V.Bool b)) ⊎ (v ≡ V.Null) × C

pub TruthOr-weaken : {B C : Type 0} (v : Value) → (B → C) → TruthOr B v → TruthOr C v
TruthOr-weaken v f (inl h) = inl h
TruthOr-weaken v f (inr h) = inr (h.0, f h.1)

fits_truth : (n b : Bool) → Fits (truth n) (V.Bool b)
fits_truth n b = refl

-- such a value fits Bool, where the cause is that the type is nullable, or another
pub TruthOr-fits : {B : Type 0} (n : Bool) (v : Value) → TruthOr ((n ≡ true) ⊎ B) v → Fit B (truth n) v
TruthOr-fits n v (inl h) = inl (rw h.1 (fits_truth n h.0))
TruthOr-fits n v (inr (e, inl h)) = inl (rw e h)
TruthOr-fits n v (inr (e, inr h)) = inr (e, h)

-- one of two is NULL
abbrev pub OneNull : Value → Value → Type 0
OneNull x y = (is_null x ≡ true) ⊎ (is_null y ≡ true)

compared_truth : (by : Comparison) (x y : Value) (c : Bool) → (is_null x || is_null y) ≡ c
    → TruthOr (OneNull x y) (compared_value by x y)
unfolding compared_value
compared_truth by x y true e = inr (rw e refl, or_true _ _ e)
compared_truth by x y false e = inl (compares by x y, rw e refl)

pub compared-truth : (by : Comparison) (x y : Value) → TruthOr (OneNull x y) (compared_value by x y)
compared-truth by x y = compared_truth by x y (is_null x || is_null y) refl

and_truth : (x y : Value) (f c : Bool) → (is_false x || is_false y) ≡ f → (is_null x || is_null y) ≡ c
    → TruthOr (OneNull x y) (joined_value And x y)
unfolding joined_value
and_truth x y true c d e = inl (false, rw d refl)
and_truth x y false true d e = inr (rw (d, e) refl, or_true _ _ e)
and_truth x y false false d e = inl (is_true x && is_true y, rw (d, e) refl)

or_truth : (x y : Value) (f c : Bool) → (is_true x || is_true y) ≡ f → (is_null x || is_null y) ≡ c
    → TruthOr (OneNull x y) (joined_value Or x y)
unfolding joined_value
or_truth x y true c d e = inl (true, rw d refl)
or_truth x y false true d e = inr (rw (d, e) refl, or_true _ _ e)
or_truth x y false false d e = inl (false, rw (d, e) refl)

pub joined-truth : (by : Logic) (x y : Value) → TruthOr (OneNull x y) (joined_value by x y)
joined-truth And x y = and_truth x y _ _ refl refl
joined-truth Or x y = or_truth x y _ _ refl refl

not_truth : (x : Value) (c : Bool) → is_null x ≡ c → TruthOr (is_null x ≡ true) (not_value x)
unfolding not_value
not_truth x true e = inr (rw e refl, e)
not_truth x false e = inl (not (is_true x), rw e refl)

pub not-truth : (x : Value) → TruthOr (is_null x ≡ true) (not_value x)
not-truth x = not_truth x (is_null x) refl

pub null_is_null : {C : Type 0} (v : Value) → TruthOr C v → is_null v ≡ true → C
null_is_null v (inl (b, e)) n = absurd (let f : is_null (V.Bool b) ≡ true = rw e at n in grind arith)
null_is_null v (inr h) n = h.1

-- a membership is NULL only where the value is, or one of those it is compared with
any-truth : {C : Type 0} (x : Value) (ys : List Value) → (is_null x ≡ true → C)
    → Each (λ y. is_null y ≡ true → C) ys → TruthOr C (any_value x ys)
unfolding any_value
any-truth x [] hx hs = inl (false, refl)
any-truth {C} x (y ∷ ys) hx hs =
    TruthOr-weaken _ (why (any-truth x ys hx hs.1)) (joined-truth Or (compared_value Eq x y) (any_value x ys))
  where
    either : OneNull x y → C
    either (inl h) = hx h
    either (inr h) = hs.0 h

    why : TruthOr C (any_value x ys) → OneNull (compared_value Eq x y) (any_value x ys) → C
    why rest (inl n) = either (null_is_null _ (compared-truth Eq x y) n)
    why rest (inr n) = null_is_null _ rest n

pub among-truth : {C : Type 0} (negated : Bool) (x : Value) (ys : List Value) → (is_null x ≡ true → C)
    → Each (λ y. is_null y ≡ true → C) ys → TruthOr C (among_value negated x ys)
among-truth false x ys hx hs = any-truth x ys hx hs
among-truth true x ys hx hs =
    TruthOr-weaken _ (null_is_null _ (any-truth x ys hx hs)) (not-truth (any_value x ys))

pub null_test_fits : (x : Value) → Fits (truth false) (unary_value IsNull x)
null_test_fits x = refl

pub not_null_fits : (x : Value) → Fits (truth false) (unary_value IsNotNull x)
not_null_fits x = refl

-- The step for each kind of expression, from what holds of its operands.
use Rattle.std.proofs.Common.{◌≡◌, Bool, true, false, ◌||◌, List, [], ◌∷◌, ◌++◌, map, Option, Some, None, refl, sym, subst, ◌∙◌, inl, inr, ◌⊎◌}
use Rattle.std.specs.List.{AllZip}
use Rattle.std.proofs.lemmas.Bool.{and_parts, or_left, or_right}
use Rattle.sql_schema.specs.declared.types.Base.TheVariants as base
use Rattle.sql_schema.specs.declared.types.SqlType.{SqlType}
use Rattle.sql_pass.specs.declared.value.Value.{Value}
use Rattle.sql_node.specs.Tree.{Form, unboxed, boxed}
use Rattle.sql_leaf.specs.declared.operator.Unary.{Unary}
use Rattle.sql_leaf.specs.declared.operator.Unary.TheVariants.{Not, IsNull, IsNotNull}
use Rattle.sql_leaf.specs.declared.operator.Comparison.{Comparison}
use Rattle.sql_leaf.specs.declared.operator.Logic.{Logic}
use Rattle.sql_rules.specs.Lists.{Each}
use Rattle.sql_rules.specs.Types.{Given, fits, all_fit, as_nullable, not_type, unary_type, compared_type, joined_type, single_type, among_type, form_columns, element_types, all_nullable}
use Rattle.sql_rules.proofs.Nulled.{nulled_elements}
use Rattle.sql_rows_meaning.specs.Answers.{first_value, single_value}
use Rattle.sql_rows_meaning.specs.Fitting.{RowFits}
use Rattle.sql_rows_meaning.specs.Rows.{Row}
use Rattle.sql_rows_meaning.specs.Values.{is_null, compared_value, joined_value, not_value, unary_value, among_value}
use Rattle.sql_rows_meaning.proofs.Facts.{nulled, truth, Fits, Fit, Fit-weaken, Fit-no_cause, Fit-nullable, fits_null, cause, OneNull, TruthOr-weaken, TruthOr-fits, compared-truth, joined-truth, not-truth, among-truth, null_test_fits, not_null_fits}
use Rattle.sql_rows_meaning.proofs.Typed.{some_same, one-typed, not-typed, compared-typed, joined-typed, single-typed, nulled-typed, among-typed, all_nulled-typed, split-typed}
use Rattle.sql_rows_meaning.proofs.Lists.{Each-weaken, AllZip-append, AllZip-weaken, AllZip-map}

-- each of the values fits its type, or is NULL for a cause
abbrev pub AllFit : Type 0 → List SqlType → List Value → Type 0
AllFit C ts vs = AllZip (Fit C) ts vs

-- of an expression with one type
pub one-step : (C : Type 0) (o : Option SqlType) (w : Value) (ts : List SqlType) (vs : List Value) → o ∷ []
    ≡ map Some ts
    → vs ≡ w ∷ [] → ((t : SqlType) → o ≡ Some t → Fit C t w) → AllFit C ts vs
one-step C o w ts vs e g step = let (t, is, are) = one-typed o ts e in rw (are, g) (step t is, tt)

two_causes : {C : Type 0} (n : Bool) (t u : SqlType) (x y : Value) → (t.nullable ≡ true → n ≡ true)
    → (u.nullable ≡ true → n ≡ true) → Fit C t x → Fit C u y → OneNull x y → (n ≡ true) ⊎ C
two_causes {C} n t u x y tn un hx hy (inl h) = go (cause t x hx h)
  where
    go : (t.nullable ≡ true) ⊎ C → (n ≡ true) ⊎ C
    go (inl e) = inl (tn e)
    go (inr c) = inr c
two_causes {C} n t u x y tn un hx hy (inr h) = go (cause u y hy h)
  where
    go : (u.nullable ≡ true) ⊎ C → (n ≡ true) ⊎ C
    go (inl e) = inl (un e)
    go (inr c) = inr c

pub compared-step : (C : Type 0) (by : Comparison) (x y : Value) (o p : Option SqlType) (t : SqlType)
    → compared_type o p ≡ Some t → ((u : SqlType) → o ≡ Some u → Fit C u x) → ((u : SqlType) → p ≡ Some u → Fit C u y)
    → Fit C t (compared_value by x y)
compared-step C by x y o p t e hx hy =
    let (u, o_is, p_is, t_is) = compared-typed o p t e in
    rw t_is (TruthOr-fits u.nullable _
    (TruthOr-weaken _ (two_causes u.nullable u u x y (λ n. n) (λ n. n) (hx u o_is) (hy u p_is))
    (compared-truth by x y)))

pub joined-step : (C : Type 0) (by : Logic) (x y : Value) (o p : Option SqlType) (t : SqlType)
    → joined_type o p ≡ Some t → ((u : SqlType) → o ≡ Some u → Fit C u x) → ((u : SqlType) → p ≡ Some u → Fit C u y)
    → Fit C t (joined_value by x y)
joined-step C by x y o p t e hx hy =
    let (u, w, o_is, p_is, t_is) = joined-typed o p t e in
    rw t_is (TruthOr-fits (u.nullable || w.nullable) _ (TruthOr-weaken _
    (two_causes (u.nullable || w.nullable) u w x y (or_left u.nullable w.nullable) (or_right u.nullable w.nullable)
    (hx u o_is) (hy w p_is))
    (joined-truth by x y)))

is_truth : (t : SqlType) → t.base ≡ base.Bool → truth t.nullable ≡ t
is_truth t e = λ i. record { base = sym e i; nullable = t.nullable }

not-step : (C : Type 0) (x : Value) (o : Option SqlType) (t : SqlType) → not_type o ≡ Some t
    → ((u : SqlType) → o ≡ Some u → Fit C u x) → Fit C t (not_value x)
not-step C x o t e hx =
    let (o_is, t_bool) = not-typed o t e in
    subst (λ u. Fit C u (not_value x)) (is_truth t t_bool)
    (TruthOr-fits t.nullable _ (TruthOr-weaken _ (cause t x (hx t o_is)) (not-truth x)))

pub unary-step : (C : Type 0) (u : Unary) (x : Value) (o : Option SqlType) (t : SqlType) → unary_type u o ≡ Some t
    → ((w : SqlType) → o ≡ Some w → Fit C w x) → Fit C t (unary_value u x)
unary-step C u x None t e hx = absurd cc
unary-step C Not x (Some w) t e hx = not-step C x (Some w) t e hx
unary-step C IsNull x (Some w) t e hx = inl (subst (λ u. Fits u (unary_value IsNull x)) (some_same _ t e) (null_test_fits x))
unary-step C IsNotNull x (Some w) t e hx = inl (subst (λ u. Fits u (unary_value IsNotNull x)) (some_same _ t e) (not_null_fits x))

-- a membership, where the values that it is compared with fit a type
among-fits : (C : Type 0) (negated : Bool) (x : Value) (ys : List Value) (u : SqlType) → Fit C u x → Each (Fits u) ys
    → Fit C (truth u.nullable) (among_value negated x ys)
among-fits C negated x ys u hx hys =
    TruthOr-fits u.nullable _ (among-truth negated x ys (cause u x hx)
    (Each-weaken (Fits u) (λ y. is_null y ≡ true → (u.nullable ≡ true) ⊎ C)
    (λ y fit n. inl (fits_null u y fit n)) ys hys))

all_fit-each : (t : SqlType) (vs : List Value) → all_fit t vs ≡ true → Each (Fits t) vs
all_fit-each t [] h = tt
all_fit-each t (v ∷ vs) h = let p = and_parts (fits t v) (all_fit t vs) h in (p.0, all_fit-each t vs p.1)

pub among_values-step : (C : Type 0) (negated : Bool) (x : Value) (xs : List Value) (w : SqlType) (o : Option SqlType)
    (t : SqlType)
    → among_type o w xs ≡ Some t → ((u : SqlType) → o ≡ Some u → Fit C u x) → Fit C t (among_value negated x xs)
among_values-step C negated x xs w o t e hx =
    let (fit, compared) = among-typed o w xs t e in
    let (u, o_is, w_is, t_is) = compared-typed o (Some w) t compared in
    rw t_is (among-fits C negated x xs u (hx u o_is)
    (subst (λ s. Each (Fits s) xs) (some_same w u w_is) (all_fit-each w xs fit)))

first_values : (t : SqlType) (rows : List Row) → Each (RowFits (t ∷ [])) rows → Each (Fits t) (map first_value rows)
first_values t [] h = tt
first_values t ([] ∷ rows) h = absurd h.0
first_values t ((v ∷ vs) ∷ rows) h = (h.0.0, first_values t rows h.1)

pub among_rows-step : (C : Type 0) (negated : Bool) (x : Value) (rows : List Row) (o : Option SqlType)
    (os : List (Option SqlType)) (t : SqlType)
    → compared_type o (single_type os) ≡ Some t → ((u : SqlType) → o ≡ Some u → Fit C u x)
    → ((ts : List SqlType) → os ≡ map Some ts → Each (RowFits ts) rows)
    → Fit C t (among_value negated x (map first_value rows))
among_rows-step C negated x rows o os t e hx fit =
    let (u, o_is, w_is, t_is) = compared-typed o (single_type os) t e in
    rw t_is (among-fits C negated x (map first_value rows) u (hx u o_is)
    (first_values u rows (fit (u ∷ []) (single-typed os u w_is))))

single_fits : (t : SqlType) (rows : List Row) → Each (RowFits (t ∷ [])) rows → Fits (nulled t) (single_value rows)
single_fits t [] h = refl
single_fits t ([] ∷ rows) h = absurd h.0
single_fits t ((v ∷ vs) ∷ rows) h = Fit-nullable {B = ⊥} t v (inl h.0.0)

pub single-step : (C : Type 0) (rows : List Row) (os : List (Option SqlType)) (t : SqlType)
    → as_nullable (single_type os) ≡ Some t
    → ((ts : List SqlType) → os ≡ map Some ts → Each (RowFits ts) rows) → Fit C t (single_value rows)
single-step C rows os t e fit =
    let (u, is, t_is) = nulled-typed (single_type os) t e in
    inl (subst (λ w. Fits w (single_value rows)) (sym t_is) (single_fits u rows (fit (u ∷ []) (single-typed os u is))))

pub nullable-step : (C D : Type 0) (g : Given) (ts : List SqlType) (vs : List Value) → element_types (all_nullable g)
    ≡ map Some ts
    → ((us : List SqlType) → element_types g ≡ map Some us → AllFit C us vs) → AllFit D ts vs
nullable-step C D g ts vs e h =
    let (us, are, ts_are) = all_nulled-typed (element_types g) ts (sym (nulled_elements g) ∙ e) in
    rw ts_are (AllZip-map (Fit C) (Fit D) nulled (λ t v f. inl (Fit-nullable t v f)) us vs (h us are))

pub no_exprs-step : (C : Type 0) (ts : List SqlType) (vs : List Value) → [] ≡ map Some ts → vs ≡ [] → AllFit C ts vs
no_exprs-step C [] vs e g = rw g tt
no_exprs-step C (t ∷ ts) vs e g = absurd cc

pub more_exprs-step : (C : Type 0) (os ps : List (Option SqlType)) (ts : List SqlType) (xs ys vs : List Value) → os
    ++ ps ≡ map Some ts
    → vs ≡ xs ++ ys → ((us : List SqlType) → os ≡ map Some us → AllFit C us xs)
    → ((ws : List SqlType) → ps ≡ map Some ws → AllFit C ws ys)
    → AllFit C ts vs
more_exprs-step C os ps ts xs ys vs e g h k =
    let (us, ws, os_are, ps_are, ts_are) = split-typed os ps ts e in
    rw (ts_are, g) (AllZip-append (Fit C) us ws xs ys (h us os_are) (k ws ps_are))

pub all-weaken : (C D : Type 0) (ts : List SqlType) (vs : List Value) → (C → D) → AllFit C ts vs → AllFit D ts vs
all-weaken C D ts vs f h = AllZip-weaken (Fit C) (Fit D) (λ t v x. Fit-weaken t v f x) ts vs h

pub no_cause-fits : (C : Type 0) (ts : List SqlType) (vs : List Value) → (C → ⊥) → AllFit C ts vs → RowFits ts vs
no_cause-fits C ts vs n h = AllZip-weaken (Fit C) Fits (λ t v f. Fit-no_cause t v n f) ts vs h

-- a boxed statement may make its columns nullable
pub form-fits : (form : Form) (os : List (Option SqlType)) (ts : List SqlType) → form_columns form os ≡ map Some ts
    → (us : List SqlType) × (os ≡ map Some us) × ((row : Row) → RowFits us row → RowFits ts row)
form-fits (unboxed l) os ts e = (ts, e, λ row h. h)
form-fits (boxed d false) os ts e = (ts, e, λ row h. h)
form-fits (boxed d true) os ts e =
    let (us, are, ts_are) = all_nulled-typed os ts e in
    (us, are, λ row h. rw ts_are (AllZip-map Fits Fits nulled (λ t v f. Fit-nullable {B = ⊥} t v (inl f)) us row h))

-- Filters of lists.
use Rattle.std.proofs.Common.{◌≡◌, Bool, true, false, not, ◌&&◌, List, [], ◌∷◌, ◌++◌, map, refl, sym, ap, ap₂, subst, ◌∙◌, arith, IsPermutation, filter, cond, append_assoc, append-nil}
use Rattle.std.proofs.lemmas.List.Sorted.{IsPermutation-trans, IsPermutation-append_left, IsPermutation-append_right, IsPermutation-append_comm, IsPermutation-filter_both}
use Rattle.sql_rules.specs.Lists.{Each}
use Rattle.sql_rows_meaning.specs.Rows.{IsPart}
use Rattle.sql_rows_meaning.proofs.Lists.{Each-front, Each-weaken, Each-permutation}
use Rattle.sql_rows_meaning.proofs.Permutations.{filter-append, filter-permutation}

pub filter-map : {A B : Type 0} (q : B → Bool) (h : A → B) (xs : List A) → filter q (map h xs)
    ≡ map h (filter (λ x. q (h x)) xs)
filter-map q h [] = refl
filter-map q h (x ∷ xs) = go (q (h x)) (filter-map q h xs)
  where
    go : (b : Bool) → filter q (map h xs) ≡ map h (filter (λ x. q (h x)) xs)
        → cond b (h x ∷ filter q (map h xs)) (filter q (map h xs))
        ≡ map h (cond b (x ∷ filter (λ x. q (h x)) xs) (filter (λ x. q (h x)) xs))
    go true e = ap (λ zs. h x ∷ zs) e
    go false e = e

pub filter-same : {A : Type 0} (q r : A → Bool) (xs : List A) → Each (λ x. q x ≡ r x) xs → filter q xs ≡ filter r xs
filter-same q r [] h = refl
filter-same q r (x ∷ xs) h = rw h.0 (ap (λ zs. cond (r x) (x ∷ zs) zs) (filter-same q r xs h.1))

pub filter-all : {A : Type 0} (q : A → Bool) (xs : List A) → Each (λ x. q x ≡ true) xs → filter q xs ≡ xs
filter-all q [] h = refl
filter-all q (x ∷ xs) h = rw h.0 (ap (λ zs. x ∷ zs) (filter-all q xs h.1))

pub filter-none : {A : Type 0} (q : A → Bool) (xs : List A) → Each (λ x. q x ≡ false) xs → filter q xs ≡ []
filter-none q [] h = refl
filter-none q (x ∷ xs) h = rw h.0 (filter-none q xs h.1)

pub filter-both : {A : Type 0} (q r : A → Bool) (xs : List A) → filter q (filter r xs) ≡ filter (λ x. r x && q x) xs
filter-both q r [] = refl
filter-both q r (x ∷ xs) = go (r x) (filter-both q r xs)
  where
    go : (b : Bool) → filter q (filter r xs) ≡ filter (λ x. r x && q x) xs
        → filter q (cond b (x ∷ filter r xs) (filter r xs))
        ≡ cond (b && q x) (x ∷ filter (λ x. r x && q x) xs) (filter (λ x. r x && q x) xs)
    go true e = ap (λ zs. cond (q x) (x ∷ zs) zs) e
    go false e = e

pub filtered-pass : {A : Type 0} (q : A → Bool) (xs : List A) → Each (λ x. q x ≡ true) (filter q xs)
filtered-pass q [] = tt
filtered-pass q (x ∷ xs) = go (q x) refl (filtered-pass q xs)
  where
    go : (b : Bool) → q x ≡ b → Each (λ x. q x ≡ true) (filter q xs)
        → Each (λ x. q x ≡ true) (cond b (x ∷ filter q xs) (filter q xs))
    go true e h = (e, h)
    go false e h = h

pub Each-always : {A : Type 0} (P : A → Type 0) → ((a : A) → P a) → (xs : List A) → Each P xs
Each-always P f [] = tt
Each-always P f (x ∷ xs) = (f x, Each-always P f xs)

not_true : (b : Bool) → not b ≡ true → b ≡ false
not_true true e = absurd (grind arith)
not_true false e = refl

-- a part of what passes comes from a part of the whole, by the rows that fail beside it
pub part-widened : {A : Type 0} (may_lack : Bool) (q : A → Bool) (ws ys : List A) → IsPart may_lack (filter q ws) ys
    → (zs : List A) × IsPart may_lack ws zs × (filter q zs ≡ ys)
part-widened {A} may_lack q ws ys p = (ys ++ fails, record { rest = p.rest; order = order; whole = p.whole }, filtered)
  where
    fails : List A
    fails = filter (λ x. not (q x)) ws

    order : IsPermutation ws ((ys ++ fails) ++ p.rest)
    order =
        IsPermutation-trans ws (filter q ws ++ fails) _ (IsPermutation-filter_both q (λ x. not (q x)) (λ x. refl) ws)
        (IsPermutation-trans _ ((ys ++ p.rest) ++ fails) _
        (IsPermutation-append_left fails (filter q ws) (ys ++ p.rest) p.order)
        (subst (λ l. IsPermutation ((ys ++ p.rest) ++ fails) l) (sym (append_assoc ys fails p.rest))
        (subst (λ l. IsPermutation l (ys ++ (fails ++ p.rest))) (sym (append_assoc ys p.rest fails))
        (IsPermutation-append_right ys (p.rest ++ fails) (fails ++ p.rest) (IsPermutation-append_comm p.rest fails)))))

    pass : Each (λ x. q x ≡ true) ys
    pass = Each-front _ ys p.rest (Each-permutation _ (filter q ws) (ys ++ p.rest) p.order (filtered-pass q ws))

    fail : Each (λ x. q x ≡ false) fails
    fail =
        Each-weaken (λ x. not (q x) ≡ true) (λ x. q x ≡ false) (λ x e. not_true (q x) e) fails
        (filtered-pass (λ x. not (q x)) ws)

    filtered : filter q (ys ++ fails) ≡ ys
    filtered = filter-append q ys fails ∙ (ap₂ ◌++◌ (filter-all q ys pass) (filter-none q fails fail) ∙ append-nil ys)

pub part-filtered : {A : Type 0} (may_lack : Bool) (q : A → Bool) (ws zs : List A) → IsPart may_lack ws zs
    → IsPart may_lack (filter q ws) (filter q zs)
part-filtered may_lack q ws zs p = record {
  rest = filter q p.rest;
  order =
      subst (λ l. IsPermutation (filter q ws) l) (filter-append q zs p.rest)
      (filter-permutation q ws (zs ++ p.rest) p.order);
  whole = λ e. ap (filter q) (p.whole e);
}

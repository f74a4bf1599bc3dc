-- The keys of a cache's pairs, behind a look-up and behind a put.
use Rattle.std.proofs.Common.{◌≡◌, ℕ, zero, suc, ◌-◌, Bool, true, false, true≢false, cond, ◌||◌, List, [], ◌∷◌, ◌++◌, Option, Some, None, is_some, take, length, ◌<◌, Contains, refl, sym, ap, ◌∙◌, subst, arith}
use Rattle.std.specs.List.{list_any, slice_get}
use Rattle.std.specs.Map.{keys_of, lookup, lookup_entry, remove_entry}
use Rattle.std.specs.Option.{option_map_or}
use Rattle.lru.specs.LruCache.{LruCache, promoted, put_entries}
use Rattle.lru.proofs.CallerLemmas.{Contains-lookup_entry}
use Rattle.lru.proofs.Splits.{Contains-head, Contains-tail}

-- ## Whether a key is there

module _ {K V : Type 0} (test : K → Bool) where
  pub is-there : (es : List (K × V)) → is_some (lookup test es) ≡ list_any test (keys_of es)
  is-there [] = refl
  is-there (e ∷ es) = go (test e.0) (is-there es)
    where
      go : (b : Bool) → is_some (lookup test es) ≡ list_any test (keys_of es)
          → is_some (cond b (Some e.1) (lookup test es)) ≡ b || list_any test (keys_of es)
      go true h = refl
      go false h = h

  entry-there : (es : List (K × V)) → is_some (lookup_entry test es) ≡ list_any test (keys_of es)
  entry-there [] = refl
  entry-there (e ∷ es) = go (test e.0) (entry-there es)
    where
      go : (b : Bool) → is_some (lookup_entry test es) ≡ list_any test (keys_of es)
          → is_some (cond b (Some e) (lookup_entry test es)) ≡ b || list_any test (keys_of es)
      go true h = refl
      go false h = h

-- each key that passes the test is that one
abbrev pub Finds : {K V : Type 0} → (K → Bool) → K → List (K × V) → Type 0
Finds {K} {V} test k es = (e : K × V) → Contains es e → test e.0 ≡ true → k ≡ e.0

-- a key that passes is among the keys, where each that passes is the one
pub among : {K V : Type 0} (test : K → Bool) (k : K) (es : List (K × V)) → Finds test k es
    → list_any test (keys_of es) ≡ true → Contains (keys_of es) k
among test k [] exact h = absurd (true≢false (sym h))
among {K} {V} test k (f ∷ es) exact h =
    go (test f.0) refl h (among test k es (λ e there t. exact e (Contains-tail f es e there) t))
  where
    go : (b : Bool) → test f.0 ≡ b → b || list_any test (keys_of es) ≡ true
        → (list_any test (keys_of es) ≡ true → Contains (keys_of es) k) → Contains (keys_of (f ∷ es)) k
    go true t g later =
        subst (Contains (keys_of (f ∷ es))) (sym (exact f (Contains-head f es) t)) (Contains-head f.0 (keys_of es))
    go false t g later = Contains-tail f.0 (keys_of es) k (later g)

-- a key among the keys stands in an entry
pub entry-of : {K V : Type 0} (es : List (K × V)) (k : K) → Contains (keys_of es) k → (v : V) × Contains es (k, v)
entry-of [] k (i, l, e) = let n : i < 0 = l in absurd (omega (arith, n))
entry-of (f ∷ es) k (zero, l, e) = (f.1, (0, omega arith, λ i. (e i, f.1)))
entry-of (f ∷ es) k (suc i, l, e) =
    let n : suc i < suc (length (keys_of es)) = l in
    let m : i < length (keys_of es) = omega (arith, n) in
    let (v, there) = entry-of es k (i, m, e) in
    (v, Contains-tail f es (k, v) there)

-- ## Behind a look-up

-- keys are cut at one, and it is gone
abbrev IsCut : {K : Type 0} → K → List K → List K → Type 0
IsCut {K} k ks after = (front : List K) × (back : List K) × (ks ≡ front ++ k ∷ back) × (after ≡ front ++ back)

-- keys are cut at one, and it stands in front
abbrev pub IsFound : {K : Type 0} → K → List K → List K → Type 0
IsFound {K} k ks after = (front : List K) × (back : List K) × (ks ≡ front ++ k ∷ back) × (after ≡ k ∷ (front ++ back))

module _ {K V : Type 0} (test : K → Bool) (k : K) where
  later : (f : K × V) (es : List (K × V)) → Finds test k (f ∷ es) → Finds test k es
  later f es exact e there t = exact e (Contains-tail f es e there) t

  cut : (es : List (K × V)) → Finds test k es → (e : K × V) → lookup_entry test es ≡ Some e
      → IsCut k (keys_of es) (keys_of (remove_entry test es))
  cut [] exact e h = absurd (cc)
  cut (f ∷ es) exact e h =
      (elim (test f.0) as (λ y. test f.0 ≡ y → cond y (Some f) (lookup_entry test es) ≡ Some e
      → IsCut k (keys_of (f ∷ es)) (keys_of (cond y es (f ∷ remove_entry test es)))) [
        | true ↦ λ t g. ([], keys_of es, (λ i. sym (exact f (Contains-head f es) t) i ∷ keys_of es), refl)
        | false ↦ λ t g.
            let on = cut es (later f es exact) e g in
            (f.0 ∷ on.0, on.1, ap (λ ks. f.0 ∷ ks) on.2, ap (λ ks. f.0 ∷ ks) on.3)
      ])
      refl h

  pub found : (es : List (K × V)) → Finds test k es → is_some (lookup test es) ≡ true
      → IsFound k (keys_of es) (keys_of (promoted test es))
  found es exact h = go (lookup_entry test es) refl
    where
      go : (o : Option (K × V)) → lookup_entry test es ≡ o
          → IsFound k (keys_of es) (keys_of (option_map_or (λ e. e ∷ remove_entry test es) o es))
      go None n =
          let there : is_some (lookup_entry test es) ≡ true = entry-there test es ∙ sym (is-there test es) ∙ h in
          absurd (true≢false (sym there ∙ ap is_some n))
      go (Some e) s =
          let c = cut es exact e s in
          let at = Contains-lookup_entry test es e s in
          let key : e.0 ≡ k = sym (exact e at.0 at.1) in
          (c.0, c.1, c.2, (λ i. key i ∷ c.3 i))

  pub not-found : (es : List (K × V)) → is_some (lookup test es) ≡ false → promoted test es ≡ es
  not-found es h = go (lookup_entry test es) refl
    where
      go : (o : Option (K × V)) → lookup_entry test es ≡ o
          → option_map_or (λ e. e ∷ remove_entry test es) o es ≡ es
      go None n = refl
      go (Some e) s =
          let none : is_some (lookup_entry test es) ≡ false = entry-there test es ∙ sym (is-there test es) ∙ h in
          absurd (true≢false (sym (ap is_some s) ∙ none))

-- ## Behind a put

keys-take : {K V : Type 0} (n : ℕ) (es : List (K × V)) → keys_of (take n es) ≡ take n (keys_of es)
keys-take zero es = refl
keys-take (suc n) [] = refl
keys-take (suc n) (e ∷ es) = ap (λ ks. e.0 ∷ ks) (keys-take n es)

-- a pair whose key is not there goes first, and the last one goes where there are as many as may be
pub after-put : {K V : Type 0} (eq : K → K → Bool) (c : LruCache K V) (k : K) (v : V)
    → list_any (eq k) (keys_of c.entries) ≡ false
    → keys_of (put_entries eq c k v) ≡ k ∷ take (c.cap - 1) (keys_of c.entries)
after-put {K} {V} eq c k v n = go (lookup_entry (eq k) c.entries) refl
  where
    go : (o : Option (K × V)) → lookup_entry (eq k) c.entries ≡ o
        → keys_of (option_map_or (λ e. (e.0, v) ∷ remove_entry (eq k) c.entries) o ((k, v) ∷ take (c.cap - 1) c.entries))
        ≡ k ∷ take (c.cap - 1) (keys_of c.entries)
    go None h = ap (λ ks. k ∷ ks) (keys-take (c.cap - 1) c.entries)
    go (Some e) h = let t : true ≡ false = sym (ap is_some h) ∙ entry-there (eq k) c.entries ∙ n in absurd (cc)

-- ## The first

pub no-first : {K V : Type 0} (es : List (K × V)) → None ≡ slice_get es 0 → keys_of es ≡ []
no-first [] h = refl
no-first (e ∷ es) h = let a : None ≡ Some e = h in absurd (cc)

-- the first entry is there, under the first key
pub first-there : {K V : Type 0} (es : List (K × V)) (e : K × V) (k : K) → Some e ≡ slice_get es 0
    → slice_get (keys_of es) 0 ≡ Some k → Contains es (k, e.1)
first-there [] e k h g = let a : Some e ≡ None = h in absurd (cc)
first-there (f ∷ es) e k h g =
    let a : Some e ≡ Some f = h in
    let b : Some f.0 ≡ Some k = g in
    let same : e ≡ f = cc in
    let key : f.0 ≡ k = cc in
    (0, omega arith, λ i. (key i, sym (ap (λ p. p.1) same) i))

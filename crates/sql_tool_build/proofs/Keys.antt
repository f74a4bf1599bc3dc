-- The index of the first request of a key, as a list of requests grows at its end.
use Rattle.std.proofs.Common.{◌≡◌, ℕ, suc, ◌+◌, Bool, true, false, cond, Option, Some, None, List, [], ◌∷◌, ◌++◌, length, refl, sym, ap, ◌∙◌, arith}
use Rattle.std.specs.Option.{option_or, unwrap_or}
use Rattle.std.specs.Ordering.{is_eq}
use Rattle.std.specs.BTreeMap as tree
use Rattle.std.specs.BTreeMap.{BTreeMap}
use Rattle.std.specs.Cmp.{Equal-is}
use Rattle.sql_tool_build.specs.inside.Keys.{same_key, index_from, seen_at, IsKept, Tells}
use Rattle.sql_rows.specs.declared.cache.RequestKey.{RequestKey}
use Rattle.sql_rows.specs.contracts.cache.NamedRequestOrd.TheImpl as request_ord
use Rattle.sql_rows.specs.contracts.cache.NamedRequestOrd.TheImpl.Laws.{matches_eq-law, total-law}
use Rattle.sql_rows.specs.contracts.cache.NamedRequestEq.TheImpl.Laws.{laws-law}

pub index-append : (n : ℕ) (xs ys : List (Option RequestKey)) (q : RequestKey)
    → index_from n (xs ++ ys) q ≡ option_or (index_from n xs q) (index_from (n + length xs) ys q)
index-append n [] ys q = ap (λ m. index_from m ys q) (omega arith)
index-append n (None ∷ xs) ys q =
    index-append (n + 1) xs ys q ∙ ap (λ m. option_or (index_from (n + 1) xs q) (index_from m ys q)) (omega arith)
index-append n (Some x ∷ xs) ys q =
    here (same_key x q)
    (index-append (n + 1) xs ys q ∙ ap (λ m. option_or (index_from (n + 1) xs q) (index_from m ys q)) (omega arith))
  where
    here : (b : Bool) → index_from (n + 1) (xs ++ ys) q ≡ option_or (index_from (n + 1) xs q) (index_from (n + suc (length xs)) ys q)
        → cond b (Some n) (index_from (n + 1) (xs ++ ys) q)
        ≡ option_or (cond b (Some n) (index_from (n + 1) xs q)) (index_from (n + suc (length xs)) ys q)
    here true h = refl
    here false h = h

option_or-none : (o : Option ℕ) → o ≡ option_or o None
option_or-none None = refl
option_or-none (Some x) = refl

-- a look-up that does not tell apart what `==` does not
abbrev pub IsBlind : (RequestKey → Option ℕ) → Type 0
IsBlind f = (a b : RequestKey) → same_key a b ≡ true → f a ≡ f b

-- `==` agrees with the map's order
pub blind : (seen : BTreeMap RequestKey ℕ) → IsBlind (seen_at seen)
blind seen a b h =
    let tie = (Equal-is ((request_ord.ghosts).cmp a b)).0 (sym (matches_eq-law a b) ∙ h) in
    λ i. tree.get_by (λ x. total-law.congr a b x tie i) seen

-- one more number, at a key that a look-up f has, and at a new one
pub kept-seen : (f : RequestKey → Option ℕ) → IsBlind f → (s : RequestKey) (p n : ℕ) → f s ≡ Some p
    → IsKept f f n (Some s)
kept-seen f one s p n h q = here (same_key s q) (one s q)
  where
    here : (b : Bool) → (b ≡ true → f s ≡ f q) → f q ≡ option_or (f q) (cond b (Some n) None)
    here true i = let k : f q ≡ Some p = sym (i refl) ∙ h in rw k refl
    here false i = option_or-none (f q)

pub kept-new : (f : RequestKey → Option ℕ) → IsBlind f → (s : RequestKey) (n : ℕ) → f s ≡ None → (q : RequestKey)
    → cond (is_eq ((request_ord.ghosts).cmp s q)) (Some n) (f q) ≡ option_or (f q) (index_from n (Some s ∷ []) q)
kept-new f one s n h q = ap (λ b. cond b (Some n) (f q)) (sym (matches_eq-law s q)) ∙ here (same_key s q) (one s q)
  where
    here : (b : Bool) → (b ≡ true → f s ≡ f q) → cond b (Some n) (f q) ≡ option_or (f q) (cond b (Some n) None)
    here true i = let k : f q ≡ None = sym (i refl) ∙ h in rw k refl
    here false i = option_or-none (f q)

-- the index of a key that comes after xs: what f has, or else its own
pub index-told : (f : RequestKey → Option ℕ) (xs ys : List (Option RequestKey)) (s : RequestKey) (n : ℕ) → Tells f xs
    → n ≡ 1 + length xs → Some (unwrap_or (f s) n) ≡ index_from 1 (xs ++ Some s ∷ ys) s
index-told f xs ys s n tells at =
    found (f s) ∙ ap (λ o. option_or o (Some n)) (tells s)
    ∙ ap (option_or (index_from 1 xs s))
    (ap Some at
    ∙ sym (ap (λ b. cond b (Some (1 + length xs)) (index_from (1 + length xs + 1) ys s)) (laws-law.refl s)))
    ∙ sym (index-append 1 xs (Some s ∷ ys) s)
  where
    found : (o : Option ℕ) → Some (unwrap_or o n) ≡ option_or o (Some n)
    found None = refl
    found (Some x) = refl

-- a look-up in xs and one more
pub tells-more : (f g : RequestKey → Option ℕ) (xs : List (Option RequestKey)) (o : Option RequestKey) (n : ℕ)
    → Tells f xs → n ≡ 1 + length xs → IsKept f g n o
    → Tells g (xs ++ o ∷ [])
tells-more f g xs o n tells at kept q =
    kept q ∙ ap (λ p. option_or p (index_from n (o ∷ []) q)) (tells q)
    ∙ ap (λ m. option_or (index_from 1 xs q) (index_from m (o ∷ []) q)) at ∙ sym (index-append 1 xs (o ∷ []) q)

-- The lines of bytes that come in pieces.
use Rattle.std.proofs.Common.{◌≡◌, ◌∙◌, ◌≤◌, ◌<◌, ◌+◌, ℕ, true, false, cond, List, [], ◌∷◌, ◌++◌, length, take, drop, get_or, refl, ap, sym, append_assoc}
use Rattle.std.proofs.lemmas.List.{at_drop_more, at_drop_all, take_all, take_more}
use Rattle.std.specs.Prelude.{◌==◌}
use Rattle.sql_tool_lines.specs.Lines.{ended_after, last_line, unended_after}

pub ended-append : (begun xs ys : List ℕ)
    → ended_after begun (xs ++ ys) ≡ ended_after begun xs ++ ended_after (unended_after begun xs) ys
ended-append begun [] ys = refl
ended-append begun (b ∷ bs) ys =
    elim (b == 10) as (λ t. cond t (begun ∷ ended_after [] (bs ++ ys)) (ended_after (begun ++ b ∷ []) (bs ++ ys))
    ≡ cond t (begun ∷ ended_after [] bs) (ended_after (begun ++ b ∷ []) bs)
    ++ ended_after (cond t (unended_after [] bs) (unended_after (begun ++ b ∷ []) bs)) ys) [
      | true ↦ ap (λ ls. begun ∷ ls) (ended-append [] bs ys)
      | false ↦ ended-append (begun ++ b ∷ []) bs ys
    ]

pub unended-append : (begun xs ys : List ℕ) → unended_after begun (xs ++ ys) ≡ unended_after (unended_after begun xs) ys
unended-append begun [] ys = refl
unended-append begun (b ∷ bs) ys =
    elim (b == 10) as (λ t. cond t (unended_after [] (bs ++ ys)) (unended_after (begun ++ b ∷ []) (bs ++ ys))
    ≡ unended_after (cond t (unended_after [] bs) (unended_after (begun ++ b ∷ []) bs)) ys) [
      | true ↦ unended-append [] bs ys
      | false ↦ unended-append (begun ++ b ∷ []) bs ys
    ]

-- a byte that ends no line, and one that does
pub ended-on : (begun bytes : List ℕ) (i d : ℕ) → i < length bytes → (get_or bytes i d == 10) ≡ false
    → ended_after begun bytes ≡ ended_after (begun ++ take i bytes) (drop i bytes)
    → ended_after begun bytes ≡ ended_after (begun ++ take (i + 1) bytes) (drop (i + 1) bytes)
ended-on begun bytes i d within other h =
    let b = get_or bytes i d in
    let so = begun ++ take i bytes in
    h ∙ at_drop_more (ended_after so) bytes i d within
    ∙ ap (λ t. cond t (so ∷ ended_after [] (drop (i + 1) bytes)) (ended_after (so ++ b ∷ []) (drop (i + 1) bytes))) other
    ∙ ap (λ u. ended_after u (drop (i + 1) bytes))
    (append_assoc begun (take i bytes) (b ∷ []) ∙ ap (λ u. begun ++ u) (sym (take_more bytes i d within)))

pub unended-on : (begun bytes : List ℕ) (i d : ℕ) → i < length bytes → (get_or bytes i d == 10) ≡ false
    → unended_after begun bytes ≡ unended_after (begun ++ take i bytes) (drop i bytes)
    → unended_after begun bytes ≡ unended_after (begun ++ take (i + 1) bytes) (drop (i + 1) bytes)
unended-on begun bytes i d within other h =
    let b = get_or bytes i d in
    let so = begun ++ take i bytes in
    h ∙ at_drop_more (unended_after so) bytes i d within
    ∙ ap (λ t. cond t (unended_after [] (drop (i + 1) bytes)) (unended_after (so ++ b ∷ []) (drop (i + 1) bytes))) other
    ∙ ap (λ u. unended_after u (drop (i + 1) bytes))
    (append_assoc begun (take i bytes) (b ∷ []) ∙ ap (λ u. begun ++ u) (sym (take_more bytes i d within)))

pub ended-at : (begun bytes : List ℕ) (i d : ℕ) → i < length bytes → (get_or bytes i d == 10) ≡ true
    → ended_after begun bytes ≡ ended_after (begun ++ take i bytes) (drop i bytes)
    → ended_after begun bytes ≡ (begun ++ take i bytes) ∷ ended_after [] (drop (i + 1) bytes)
ended-at begun bytes i d within is h =
    let b = get_or bytes i d in
    let so = begun ++ take i bytes in
    h ∙ at_drop_more (ended_after so) bytes i d within
    ∙ ap (λ t. cond t (so ∷ ended_after [] (drop (i + 1) bytes)) (ended_after (so ++ b ∷ []) (drop (i + 1) bytes))) is

pub unended-at : (begun bytes : List ℕ) (i d : ℕ) → i < length bytes → (get_or bytes i d == 10) ≡ true
    → unended_after begun bytes ≡ unended_after (begun ++ take i bytes) (drop i bytes)
    → unended_after begun bytes ≡ unended_after [] (drop (i + 1) bytes)
unended-at begun bytes i d within is h =
    let b = get_or bytes i d in
    let so = begun ++ take i bytes in
    h ∙ at_drop_more (unended_after so) bytes i d within
    ∙ ap (λ t. cond t (unended_after [] (drop (i + 1) bytes)) (unended_after (so ++ b ∷ []) (drop (i + 1) bytes))) is

-- no byte ends a line
pub ended-none : (begun bytes : List ℕ) (i : ℕ) → length bytes ≤ i
    → ended_after begun bytes ≡ ended_after (begun ++ take i bytes) (drop i bytes) → ended_after begun bytes ≡ []
ended-none begun bytes i all h = h ∙ at_drop_all (ended_after (begun ++ take i bytes)) bytes i all

pub unended-none : (begun bytes : List ℕ) (i : ℕ) → length bytes ≤ i
    → unended_after begun bytes ≡ unended_after (begun ++ take i bytes) (drop i bytes) → unended_after begun bytes ≡ begun ++ bytes
unended-none begun bytes i all h =
    h ∙ at_drop_all (unended_after (begun ++ take i bytes)) bytes i all ∙ ap (λ u. begun ++ u) (take_all i bytes all)

-- the next line
pub ended-next : (lines : List (List ℕ)) (whole : List (List ℕ)) (begun rest next : List ℕ) (i : ℕ)
    → whole ≡ lines ++ ended_after begun rest
    → ended_after begun rest ≡ (begun ++ take i rest) ∷ ended_after [] (drop (i + 1) rest) → next ≡ drop (i + 1) rest
    → whole ≡ (lines ++ (begun ++ take i rest) ∷ []) ++ ended_after [] next
ended-next lines whole begun rest next i so found is =
    so ∙ ap (λ x. lines ++ x) found
    ∙ sym (append_assoc lines ((begun ++ take i rest) ∷ []) (ended_after [] (drop (i + 1) rest)))
    ∙ ap (λ u. (lines ++ (begun ++ take i rest) ∷ []) ++ ended_after [] u) (sym is)

pub last-one : (line : List ℕ) → (line ≡ [] → ⊥) → last_line line ≡ line ∷ []
last-one [] h = absurd (h refl)
last-one (b ∷ bs) h = refl

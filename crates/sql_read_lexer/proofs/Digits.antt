-- Which digits number a placeholder.
use Rattle.std.proofs.Common.{◌≡◌, ℕ, ◌+◌, ◌-◌, ◌*◌, ◌<◌, ◌≤◌, List, [], ◌∷◌, Some, None, true, false, if◌then◌else◌, get_or, length, drop, refl, sym, ◌∙◌, arith}
use Rattle.std.proofs.lemmas.List.{at_drop_all}
use Rattle.std.proofs.lemmas.Bool.Decides.{nat_tests}
use Rattle.sql_grammar.specs.Spelling as spell
use Rattle.sql_grammar.specs.Spelling.{value_after, value_of, is_placeholder_number}

-- more digits make no smaller number
pub value-grows : (n : ℕ) (ds : List ℕ) → n ≤ value_after n ds
unfolding spell.value_after
value-grows n [] = omega arith
value-grows n (c ∷ cs) = let more = value-grows (10 * n + (c - 48)) cs in omega (arith, more)

pub low : (ds : List ℕ) → get_or ds 0 0 ≤ 48 → is_placeholder_number ds ≡ false
unfolding spell.is_placeholder_number
low [] h = refl
low (c ∷ cs) h = grind (arith, nat_tests)

pub high : (ds : List ℕ) → 4294967295 < value_of ds → is_placeholder_number ds ≡ false
unfolding spell.is_placeholder_number
high [] h = refl
high (c ∷ cs) h = grind (arith, nat_tests)

pub within : (ds : List ℕ) → 48 < get_or ds 0 0 → value_of ds ≤ 4294967295 → is_placeholder_number ds ≡ true
unfolding spell.is_placeholder_number
within [] first small = absurd (omega (arith, first))
within (c ∷ cs) first small = grind (arith, nat_tests)

pub low-none : (ds : List ℕ) → get_or ds 0 0 ≤ 48
    → None ≡ (if is_placeholder_number ds then Some (value_of ds) else None)
low-none ds h = rw (low ds h) refl

pub high-none : (ds : List ℕ) → 4294967295 < value_of ds
    → None ≡ (if is_placeholder_number ds then Some (value_of ds) else None)
high-none ds h = rw (high ds h) refl

pub within-some : (ds : List ℕ) → 48 < get_or ds 0 0 → value_of ds ≤ 4294967295
    → Some (value_of ds) ≡ (if is_placeholder_number ds then Some (value_of ds) else None)
within-some ds first small = rw (within ds first small) refl

pub empty-none : (ds : List ℕ) → length ds ≡ 0
    → None ≡ (if is_placeholder_number ds then Some (value_of ds) else None)
empty-none [] h = low-none [] (omega arith)
empty-none (c ∷ cs) h = absurd (omega (arith, h))

-- once it is too great it stays so
pub step-high : (n d : ℕ) (ds rest : List ℕ) → value_after n (d ∷ rest) ≡ value_of ds → 4294967295 < 10 * n + (d - 48)
    → 4294967295 < value_of ds
unfolding spell.value_after
step-high n d ds rest e h = let more = value-grows (10 * n + (d - 48)) rest in omega (arith, more, e, h)

pub whole-value : (n i : ℕ) (ds : List ℕ) → length ds ≤ i → value_after n (drop i ds) ≡ value_of ds → n ≡ value_of ds
unfolding spell.value_after
whole-value n i ds h e = sym (at_drop_all (value_after n) ds i h) ∙ e

-- The five functions take lists one after the other.
use Rattle.std.proofs.Common.{◌≡◌, ℕ, Bool, true, false, ◌&&◌, List, [], ◌∷◌, ◌++◌, refl, sym, ap, ◌∙◌, append_assoc, arith}
use Rattle.std.proofs.lemmas.Grind.{common_steps}
use Rattle.sql_dialect.specs.declared.backend.Dialect.{Dialect}
use Rattle.sql_pass.specs.Held.{Held, text_so_far, collected, safe, shown, noop, after}
use Rattle.sql_pass.specs.Pieces.{Piece, text_at, count_at, value_at, safe_at, noop_at, text_of, count_of, values_of, is_safe, is_noop}

pub text_of-append : (d : Dialect) (n : ℕ) (ps qs : List Piece)
    → text_of d n (ps ++ qs) ≡ text_of d n ps ++ text_of d (count_of d n ps) qs
text_of-append d n [] qs = refl
text_of-append d n (p ∷ ps) qs =
    ap (λ t. text_at d n p ++ t) (text_of-append d (count_at d n p) ps qs)
    ∙ sym (append_assoc (text_at d n p) (text_of d (count_at d n p) ps)
    (text_of d (count_of d (count_at d n p) ps) qs))

pub count_of-append : (d : Dialect) (n : ℕ) (ps qs : List Piece)
    → count_of d n (ps ++ qs) ≡ count_of d (count_of d n ps) qs
count_of-append d n [] qs = refl
count_of-append d n (p ∷ ps) qs = count_of-append d (count_at d n p) ps qs

pub values_of-append : (ps qs : List Piece) → values_of (ps ++ qs) ≡ values_of ps ++ values_of qs
values_of-append [] qs = refl
values_of-append (p ∷ ps) qs =
    ap (λ t. value_at p ++ t) (values_of-append ps qs) ∙ sym (append_assoc (value_at p) (values_of ps) (values_of qs))

and_assoc : (a b c : Bool) → ((a && b) && c) ≡ (a && (b && c))
and_assoc true b c = refl
and_assoc false b c = refl

pub is_safe-append : (ps qs : List Piece) → is_safe (ps ++ qs) ≡ (is_safe ps && is_safe qs)
is_safe-append [] qs = refl
is_safe-append (p ∷ ps) qs =
    ap (λ t. safe_at p && t) (is_safe-append ps qs) ∙ sym (and_assoc (safe_at p) (is_safe ps) (is_safe qs))

pub is_noop-append : (ps qs : List Piece) → is_noop (ps ++ qs) ≡ (is_noop ps && is_noop qs)
is_noop-append [] qs = refl
is_noop-append (p ∷ ps) qs =
    ap (λ t. noop_at p && t) (is_noop-append ps qs) ∙ sym (and_assoc (noop_at p) (is_noop ps) (is_noop qs))

pub after-append : {D : Type 0} (d : Dialect) (h : Held D) (ps qs : List Piece) → after d (after d h ps) qs ≡ after d h (ps ++ qs)
unfolding after
after-append d (text_so_far x t n) ps qs =
    grind (arith, common_steps, text_of-append d n ps qs, count_of-append d n ps qs)
after-append d (collected x c) ps qs = grind (arith, common_steps, values_of-append ps qs)
after-append d (safe x b) ps qs =
    ap (safe x) (and_assoc b (is_safe ps) (is_safe qs) ∙ ap (λ t. b && t) (sym (is_safe-append ps qs)))
after-append d (shown x vs) ps qs = grind (arith, common_steps, values_of-append ps qs)
after-append d (noop x b) ps qs =
    ap (noop x) (and_assoc b (is_noop ps) (is_noop qs) ∙ ap (λ t. b && t) (sym (is_noop-append ps qs)))

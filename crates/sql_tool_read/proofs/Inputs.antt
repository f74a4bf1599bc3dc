-- The text of an input is UTF-8.
use Rattle.std.proofs.Common.{◌≡◌, ◌∙◌, ℕ, List, Bool, true, false, cond, Option, None, Some, ap, option_copied, refl, subst, sym, Bor, Result, Ok, Err, MatchResult}
use Rattle.std.specs.Result.{result_ok}
use Rattle.std.specs.Str.{IsUtf8, is_utf8}
use Rattle.std.proofs.lemmas.Str.{IsUtf8-from_is_utf8, is_utf8-from_IsUtf8}
use Rattle.sql_tool_read.specs.Input.{input_text, without_newline}

pub text-some : (bytes text : List ℕ) → text ≡ without_newline bytes → IsUtf8 text → input_text bytes ≡ Some text
unfolding input_text
text-some bytes text is utf8 =
    let yes = is_utf8-from_IsUtf8 (without_newline bytes) (subst IsUtf8 is utf8) in
    ap (λ b. cond b (Some (without_newline bytes)) None) yes ∙ ap Some (sym is)

no-text : (text : List ℕ) (b : Bool) → is_utf8 text ≡ b → ¬ IsUtf8 text → cond b (Some text) None ≡ None
no-text text true is other = absurd (other (IsUtf8-from_is_utf8 text is))
no-text text false is other = refl

pub text-none : (bytes : List ℕ) → ¬ IsUtf8 (without_newline bytes) → input_text bytes ≡ None
unfolding input_text
text-none bytes other = no-text (without_newline bytes) (is_utf8 (without_newline bytes)) refl other

-- what `from_utf8` says of the bytes before the newline
pub decoded : {E : Type 0} (bytes before : List ℕ) (r : Result (Bor (List ℕ)) E) (Why : E → Type 0)
    → before ≡ without_newline bytes
    → MatchResult r (λ s. (s.now ≡ before) × IsUtf8 before) (λ e. ¬ IsUtf8 before × Why e)
    → option_copied (result_ok r) ≡ input_text bytes
decoded bytes before (Ok s) Why is (same, utf8) =
    sym (text-some bytes s.now (same ∙ is) (subst IsUtf8 (sym same) utf8))
decoded bytes before (Err e) Why is (other, why) = sym (text-none bytes (subst (λ x. ¬ IsUtf8 x) is other))

-- Generated requests, and the one line that sums them up.
use Rattle.std.proofs.Common.{◌≡◌, ◌∙◌, ◌≢◌, ℕ, zero, suc, ◌+◌, List, [], ◌∷◌, ◌++◌, length, refl, sym, ap, arith}
use Rattle.sql_dialect.specs.declared.backend.Dialect.TheVariants.{Sqlite}
use Rattle.sql_tool_build.proofs.Lines.{lines-length}
use Rattle.sql_tool_build.proofs.Once.{same-lines}
use Rattle.sql_tool_build.specs.Output.{Line, AreLines}
use Rattle.sql_tool_series.specs.Generated.{dialect_at, form_at}
use Rattle.sql_tool_generate.specs.Generated.{generated, request}
use Rattle.sql_tool_series.specs.Schema.{declarations}
use Rattle.sql_tool_generate.specs.Summary.{IsSummary, summary_text}
use Rattle.sql_tool_series.specs.declared.form.Form.TheVariants.{WithPosts}

-- ---- what is left of remainders

pub last-dialect : (k : ℕ) → k ≢ 0 → k ≢ 1 → Sqlite ≡ dialect_at k
last-dialect zero a b = absurd (a refl)
last-dialect (suc zero) a b = absurd (b refl)
last-dialect (suc (suc k)) a b = refl

pub last-form : (k : ℕ) → k ≢ 0 → k ≢ 1 → k ≢ 2 → k ≢ 3 → k ≢ 4 → k ≢ 5 → k ≢ 6 → WithPosts ≡ form_at k
last-form zero a b c d e f g = absurd (a refl)
last-form (suc zero) a b c d e f g = absurd (b refl)
last-form (suc (suc zero)) a b c d e f g = absurd (c refl)
last-form (suc (suc (suc zero))) a b c d e f g = absurd (d refl)
last-form (suc (suc (suc (suc zero)))) a b c d e f g = absurd (e refl)
last-form (suc (suc (suc (suc (suc zero))))) a b c d e f g = absurd (f refl)
last-form (suc (suc (suc (suc (suc (suc zero)))))) a b c d e f g = absurd (g refl)
last-form (suc (suc (suc (suc (suc (suc (suc k))))))) a b c d e f g = refl

-- ---- lists of requests

more-length : {X : Type 0} (xs : List X) (x : X) → length (xs ++ x ∷ []) ≡ suc (length xs)
more-length [] x = refl
more-length (y ∷ xs) x = ap suc (more-length xs x)

generated-length : (n : ℕ) → length (generated n) ≡ n
generated-length zero = refl
generated-length (suc n) = more-length (generated n) (request n) ∙ ap suc (generated-length n)

pub generated-more : (n : ℕ) → generated (n + 1) ≡ generated n ++ request n ∷ []
generated-more n = let e : n + 1 ≡ suc n = omega arith in ap generated e

-- the number of the next line
pub next-number : (n : ℕ) (ls : List Line) → AreLines declarations [] (generated n) ls → n + 1 ≡ 1 + length ls
next-number n ls lines =
    let count = lines-length declarations [] (generated n) ls lines ∙ generated-length n in omega (arith, count)

-- ---- one line

pub one-summary : (n : ℕ) (a b : List ℕ) → IsSummary n a → IsSummary n b → a ≡ b
one-summary n a b (ls, first, is) (ks, second, it) =
    is ∙ ap summary_text (same-lines declarations [] (generated n) ls ks first second) ∙ sym it

-- Which words are counts.
use Rattle.std.proofs.Common.{◌≡◌, ◌≢◌, ◌∙◌, ◌<◌, ◌≤◌, ◌^◌, ◌⊎◌, inl, inr, ℕ, zero, suc, List, [], ◌∷◌, length, get_or, Bool, true, false, ◌&&◌, cond, Option, None, Some, ap, refl, sym, subst, arith}
use Rattle.std.specs.Prelude.{nat_le, Result, Ok, Err}
use Rattle.std.specs.Fmt.{decimal}
use Rattle.std.specs.Str.{bytes_eq}
use Rattle.std.specs.Str.Parse.{AllDigits, ParsesUnsigned, digits_value}
use Rattle.std.proofs.lemmas.Bool.{leb-true, le-leb}
use Rattle.std.proofs.lemmas.Fmt.{decimal-digits_value, decimal_digit, decimal_is_IsNumeral, first_decimal, parse-decimal}
use Rattle.std.proofs.lemmas.Option.{cond_some}
use Rattle.std.proofs.lemmas.Slice.Eq.{bytes_eq-Decides}
use Rattle.std.proofs.lemmas.Str.Parse.{IsNumeralModel, numerals_by_value, parse_plain, tells_digits}
use Rattle.sql_tool_run.specs.Command.{count_of}
use Rattle.sql_tool_run.specs.Limits.{most_requests}

small : (n : ℕ) → n ≤ most_requests → n < 2 ^ 32
small n le = omega arith

smaller : (n : ℕ) → n ≤ most_requests → n < 2 ^ 64
smaller n le = omega arith

taken : (a b : Bool) (n : ℕ) → a ≡ true → b ≡ true → cond (a && b) (Some n) None ≡ Some n
taken true true n p q = refl
taken true false n p q = cc
taken false b n p q = cc

both-true : (a b : Bool) → (a && b) ≡ true → (a ≡ true) × (b ≡ true)
both-true true b h = (refl, h)
both-true false b h = cc

-- the count of a number's own digits is the number
pub count-some : (w : List ℕ) (n : ℕ) → n ≤ most_requests → w ≡ decimal n → count_of w ≡ Some n
unfolding count_of
count-some w n le is =
    let value : digits_value 10 w ≡ n = ap (digits_value 10) is ∙ (decimal_is_IsNumeral n (smaller n le)).1 in
    let spelled = (bytes_eq-Decides w (decimal (digits_value 10 w))).1 (is ∙ ap decimal (sym value)) in
    let within = le-leb (digits_value 10 w) most_requests (subst (λ m. m ≤ most_requests) (sym value) le) in
    taken (bytes_eq w (decimal (digits_value 10 w))) (nat_le (digits_value 10 w) most_requests) (digits_value 10 w)
    spelled within
    ∙ ap Some value

-- and a word has a count only where it is those digits
pub count-back : (w : List ℕ) (n : ℕ) → count_of w ≡ Some n → (w ≡ decimal n) × (n ≤ most_requests)
unfolding count_of
count-back w n h =
    let v = digits_value 10 w in
    let tests = cond_some (bytes_eq w (decimal v) && nat_le v most_requests) v n h in
    let (spelled, within) = both-true (bytes_eq w (decimal v)) (nat_le v most_requests) tests.0 in (
      (bytes_eq-Decides w (decimal v)).0 spelled ∙ ap decimal tests.1,
      subst (λ m. m ≤ most_requests) tests.1 (leb-true v most_requests within),
    )

none-by : (w : List ℕ) (o : Option ℕ) → count_of w ≡ o → ((n : ℕ) → n ≤ most_requests → w ≢ decimal n)
    → count_of w ≡ None
none-by w None is other = is
none-by w (Some n) is other = let (spelled, within) = count-back w n is in absurd (other n within spelled)

-- a word that no number is written as has no count
pub count-none : (w : List ℕ) → ((n : ℕ) → n ≤ most_requests → w ≢ decimal n) → count_of w ≡ None
count-none w = none-by w (count_of w) refl

-- ---- the first byte

first-byte : (n : ℕ) → n < 2 ^ 64 → (48 < get_or (decimal n) 0 0) ⊎ (decimal n ≡ 48 ∷ [])
first-byte zero small = inr (decimal_digit 0 (omega arith))
first-byte (suc n) small = inl (first_decimal (suc n) (omega arith) small)

-- a sign, or a zero before other digits
abbrev pub IsRespelled : List ℕ → Type 0
IsRespelled w = (get_or w 0 0 ≡ 43) ⊎ ((get_or w 0 0 ≡ 48) × (1 < length w))

respelled : (w : List ℕ) (n : ℕ) → n ≤ most_requests → IsRespelled w → w ≢ decimal n
respelled w n le (inl plus) is =
    elim (first-byte n (smaller n le)) [
      | inl digit ↦ let same : get_or w 0 0 ≡ get_or (decimal n) 0 0 = ap (λ x. get_or x 0 0) is in absurd (omega arith)
      | inr alone ↦ let same : get_or w 0 0 ≡ 48 = ap (λ x. get_or x 0 0) (is ∙ alone) in absurd (omega arith)
    ]
respelled w n le (inr (leading, long)) is =
    elim (first-byte n (smaller n le)) [
      | inl digit ↦ let same : get_or w 0 0 ≡ get_or (decimal n) 0 0 = ap (λ x. get_or x 0 0) is in absurd (omega arith)
      | inr alone ↦ let same : length w ≡ 1 = ap length (is ∙ alone) in absurd (omega arith)
    ]

pub respelled-none : (w : List ℕ) → IsRespelled w → count_of w ≡ None
respelled-none w h = count-none w (λ n le. respelled w n le h)

only-digit : (w : List ℕ) → get_or w 0 0 ≡ 48 → ¬ (1 < length w) → length w ≡ 1
only-digit [] leading short = absurd (omega arith)
only-digit (d ∷ []) leading short = refl
only-digit (d ∷ e ∷ ds) leading short = absurd (short (omega arith))

-- ---- what `parse` says

own : IsNumeralModel (AllDigits 10) (digits_value 10)
own = numerals_by_value (AllDigits 10) tells_digits

-- a number that it gives of a word without a sign or a leading zero is written as the word
parsed-spelled : (w : List ℕ) (n : ℕ) → ParsesUnsigned {E = ℕ} 32 10 w (Ok n) → get_or w 0 0 ≢ 43
    → (get_or w 0 0 ≡ 48 → length w ≡ 1) → w ≡ decimal n
parsed-spelled w n h plain alone =
    let (says, is) = parse_plain own {E = ℕ} 32 w (Ok n) h plain in
    sym (decimal-digits_value own w says.0 says.1 alone (omega (arith, says.2))) ∙ ap decimal (sym is)

pub parsed-some : (w : List ℕ) (n : ℕ) → ParsesUnsigned {E = ℕ} 32 10 w (Ok n) → ¬ IsRespelled w → n ≤ most_requests
    → count_of w ≡ Some n
parsed-some w n h other le =
    let plain : get_or w 0 0 ≢ 43 = λ is. other (inl is) in
    let alone : get_or w 0 0 ≡ 48 → length w ≡ 1 = λ is. only-digit w is (λ long. other (inr (is, long))) in
    count-some w n le (parsed-spelled w n h plain alone)

same_ok : (m n : ℕ) → Path (Result ℕ ℕ) (Ok m) (Ok n) → m ≡ n
same_ok m n h = cc

ok_err : (n : ℕ) → Path (Result ℕ ℕ) (Err 0) (Ok n) → ⊥
ok_err n h = cc

pub parsed-large : (w : List ℕ) (n : ℕ) → ParsesUnsigned {E = ℕ} 32 10 w (Ok n) → most_requests < n → count_of w ≡ None
parsed-large w n h large =
    count-none w
    (λ m le is. let same : n ≡ m = same_ok n m (parse-decimal 32 m w (Ok n) (small m le) (smaller m le) is h) in
    absurd (omega arith))

pub unparsed-none : (w : List ℕ) → ParsesUnsigned {E = ℕ} 32 10 w (Err 0) → count_of w ≡ None
unparsed-none w h =
    count-none w (λ m le is. absurd (ok_err m (parse-decimal 32 m w (Err 0) (small m le) (smaller m le) is h)))

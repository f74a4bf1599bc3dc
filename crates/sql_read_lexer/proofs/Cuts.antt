-- A text that is read byte by byte is cut between characters.
use Rattle.std.proofs.Common.{◌≡◌, ℕ, zero, suc, ◌<◌, List, [], ◌∷◌, ◌++◌, length, get_or, Option, Some, None, Bool, true, false, nat_eq, if◌then◌else◌, refl, sym, subst, arith}
use Rattle.std.proofs.lemmas.List.{append_assoc, length-append}
use Rattle.std.proofs.lemmas.Bool.{eqb-true}
use Rattle.std.proofs.lemmas.Bool.Decides.{nat_tests}
use Rattle.std.proofs.lemmas.Str.{IsUtf8-append, IsUtf8-from_ascii, IsUtf8-take, IsUtf8-drop, IsCharBoundary-after_ascii, IsCharBoundary-before_ascii}
use Rattle.std.proofs.Math.Seq.{take-append_seam, drop-append_seam, get_or-append_seam}
use Rattle.std.specs.Str.{IsUtf8, IsCharBoundary}
use Rattle.sql_dialect.specs.declared.backend.Dialect.{Dialect}
use Rattle.sql_dialect.specs.declared.backend.Dialect.TheVariants.{Pg, Mysql, Sqlite, Bracket}
use Rattle.sql_grammar.specs.Spelling as spell
use Rattle.sql_grammar.specs.Spelling.{quote, end_quote, is_digit, is_letter}
use Rattle.sql_grammar.specs.Token.{NotEqual, LessOrEqual, GreaterOrEqual, Sign, Mark}
use Rattle.sql_grammar.specs.Tokens as lex
use Rattle.sql_grammar.specs.Tokens.{State, Between, InName, AfterQuote, InWord, InNumber, AfterAt, AfterDollar, InPlaceholder, AfterBang, AfterLess, AfterGreater, Whole}
use Rattle.sql_read_lexer.specs.inside.Cut.{IsCut, IsText}

-- ## Bytes

-- what stands after an ASCII byte
pub ascii-rest : (c : ℕ) (rest : List ℕ) → c < 128 → IsUtf8 (c ∷ rest) → IsUtf8 rest
ascii-rest c rest small h =
    IsUtf8-drop (c ∷ rest) 1 h (IsCharBoundary-after_ascii (c ∷ rest) 0 h (omega arith) small)

one-index : (c i : ℕ) → c < 128 → get_or (c ∷ []) i 0 < 128
one-index c zero small = small
one-index c (suc i) small = omega arith

-- an ASCII byte alone
pub ascii-one : (c : ℕ) → c < 128 → IsUtf8 (c ∷ [])
ascii-one c small = IsUtf8-from_ascii (c ∷ []) (λ i. one-index c i small)

one-more : (c : ℕ) (before : List ℕ) → c < 128 → IsUtf8 before → IsUtf8 (before ++ c ∷ [])
one-more c before small h = IsUtf8-append before (c ∷ []) h (ascii-one c small)

seam-boundary : (before : List ℕ) (c : ℕ) (rest : List ℕ) → c < 128
    → IsCharBoundary (before ++ c ∷ rest) (length before)
seam-boundary before c rest small =
    IsCharBoundary-before_ascii (before ++ c ∷ rest) (length before) (rw length-append (omega arith))
    (rw (get_or-append_seam before c rest 0) small)

-- what stands before an ASCII byte, and what from there on
split-left : (before : List ℕ) (c : ℕ) (rest : List ℕ) → c < 128 → IsUtf8 (before ++ c ∷ rest) → IsUtf8 before
split-left before c rest small h =
    subst IsUtf8 (take-append_seam before (c ∷ rest))
    (IsUtf8-take (before ++ c ∷ rest) (length before) h (seam-boundary before c rest small))

split-right : (before : List ℕ) (c : ℕ) (rest : List ℕ) → c < 128 → IsUtf8 (before ++ c ∷ rest) → IsUtf8 (c ∷ rest)
split-right before c rest small h =
    subst IsUtf8 (drop-append_seam before (c ∷ rest))
    (IsUtf8-drop (before ++ c ∷ rest) (length before) h (seam-boundary before c rest small))

some-back : {A : Type 0} {x y : A} → Some x ≡ Some y → x ≡ y
some-back e = cc

-- ## The bytes of tokens are ASCII

end_quote-ascii : (d : Dialect) (c : ℕ) → nat_eq c (end_quote d) ≡ true → c < 128
unfolding spell.end_quote
end_quote-ascii Pg c e = omega (arith, eqb-true c 34 e)
end_quote-ascii Mysql c e = omega (arith, eqb-true c 96 e)
end_quote-ascii Sqlite c e = omega (arith, eqb-true c 96 e)
end_quote-ascii Bracket c e = omega (arith, eqb-true c 93 e)

digit-ascii : (c : ℕ) → is_digit c ≡ true → c < 128
unfolding spell.is_digit
digit-ascii c e = grind (arith, nat_tests)

letter-ascii : (c : ℕ) → is_letter c ≡ true → c < 128
unfolding spell.is_letter
letter-ascii c e = grind (arith, nat_tests)

known-ascii : (c n : ℕ) → n < 128 → nat_eq c n ≡ true → c < 128
known-ascii c n small e = omega (arith, small, eqb-true c n e)

quote-ascii : (d : Dialect) (c : ℕ) → nat_eq c (quote d) ≡ true → c < 128
unfolding spell.quote
quote-ascii Pg c e = known-ascii c 34 (omega arith) e
quote-ascii Mysql c e = known-ascii c 96 (omega arith) e
quote-ascii Sqlite c e = known-ascii c 96 (omega arith) e
quote-ascii Bracket c e = known-ascii c 91 (omega arith) e

-- ## A byte that extends the token at hand

picked : {A : Type 0} (b : Bool) (x s : A) → (if b then Some x else None) ≡ Some s → (b ≡ true) × (x ≡ s)
picked true x s e = (refl, some-back e)
picked false x s e = absurd cc

name-cut : (d : Dialect) (name : List ℕ) (s : State) (c : ℕ) (rest : List ℕ) (b : Bool) → nat_eq c (end_quote d) ≡ b
    → (if b then Some (AfterQuote name) else Some (InName (name ++ c ∷ []))) ≡ Some s → IsUtf8 (name ++ c ∷ rest)
    → IsCut s rest
name-cut d name s c rest true is e h =
    let small = end_quote-ascii d c is in
    subst (λ t. IsCut t rest) (some-back e)
    (split-left name c rest small h, ascii-rest c rest small (split-right name c rest small h))
name-cut d name s c rest false is e h =
    subst (λ t. IsCut t rest) (some-back e) (subst IsUtf8 (sym (append_assoc name (c ∷ []) rest)) h)

pub extended-cut : (d : Dialect) (s t : State) (c : ℕ) (rest : List ℕ) → lex.extended d s c ≡ Some t
    → IsCut s (c ∷ rest) → IsCut t rest
unfolding lex.extended
extended-cut d Between t c rest e h = absurd cc
extended-cut d (InName name) t c rest e h = name-cut d name t c rest (nat_eq c (end_quote d)) refl e h
extended-cut d (AfterQuote name) t c rest e h =
    let p = picked (nat_eq c (end_quote d)) (InName (name ++ c ∷ [])) t e in
    let small = end_quote-ascii d c p.0 in
    subst (λ s. IsCut s rest) p.1
    (IsUtf8-append (name ++ c ∷ []) rest (one-more c name small h.0) (ascii-rest c rest small h.1))
extended-cut d (InWord letters) t c rest e h =
    let p = picked (is_letter c) (InWord (letters ++ c ∷ [])) t e in
    subst (λ s. IsCut s rest) p.1 (ascii-rest c rest (letter-ascii c p.0) h)
extended-cut d (InNumber digits) t c rest e h =
    let p = picked (is_digit c) (InNumber (digits ++ c ∷ [])) t e in
    let small = digit-ascii c p.0 in
    subst (λ s. IsCut s rest) p.1 (one-more c digits small h.0, ascii-rest c rest small h.1)
extended-cut d AfterAt t c rest e h =
    let p = picked (nat_eq c 112) AfterDollar t e in
    subst (λ s. IsCut s rest) p.1 (ascii-rest c rest (known-ascii c 112 (omega arith) p.0) h)
extended-cut d AfterDollar t c rest e h =
    let p = picked (is_digit c) (InPlaceholder (c ∷ [])) t e in
    subst (λ s. IsCut s rest) p.1 (ascii-rest c rest (digit-ascii c p.0) h)
extended-cut d (InPlaceholder digits) t c rest e h =
    let p = picked (is_digit c) (InPlaceholder (digits ++ c ∷ [])) t e in
    subst (λ s. IsCut s rest) p.1 (ascii-rest c rest (digit-ascii c p.0) h)
extended-cut d AfterBang t c rest e h =
    let p = picked (nat_eq c 61) (Whole (Sign NotEqual)) t e in
    subst (λ s. IsCut s rest) p.1 (ascii-rest c rest (known-ascii c 61 (omega arith) p.0) h)
extended-cut d AfterLess t c rest e h =
    let p = picked (nat_eq c 61) (Whole (Sign LessOrEqual)) t e in
    subst (λ s. IsCut s rest) p.1 (ascii-rest c rest (known-ascii c 61 (omega arith) p.0) h)
extended-cut d AfterGreater t c rest e h =
    let p = picked (nat_eq c 61) (Whole (Sign GreaterOrEqual)) t e in
    subst (λ s. IsCut s rest) p.1 (ascii-rest c rest (known-ascii c 61 (omega arith) p.0) h)
extended-cut d (Whole token) t c rest e h = absurd cc

-- ## A byte that doesn't

extended-name : (b : Bool) (x y : State) → (if b then Some x else Some y) ≡ None → ⊥
extended-name true x y e = cc
extended-name false x y e = cc

pub rest-cut : (d : Dialect) (s : State) (c : ℕ) (rest : List ℕ) → lex.extended d s c ≡ None → IsCut s (c ∷ rest)
    → IsUtf8 (c ∷ rest)
unfolding lex.extended
rest-cut d (InName name) c rest e h =
    absurd (extended-name (nat_eq c (end_quote d)) (AfterQuote name) (InName (name ++ c ∷ [])) e)
rest-cut d (AfterQuote name) c rest e h = h.1
rest-cut d (InNumber digits) c rest e h = h.1
rest-cut d s c rest e h = h

-- the token that ends there
pub cut-text : (s : State) (rest : List ℕ) → IsCut s rest → IsText s
cut-text (AfterQuote name) rest h = h.0
cut-text (InNumber digits) rest h = h.0
cut-text s rest h = tt

-- the state that the byte begins
begun-step : (b : Bool) (x s : State) (other : Option State) (rest : List ℕ) → (b ≡ true → IsCut x rest)
    → (other ≡ Some s → IsCut s rest) → (if b then Some x else other) ≡ Some s → IsCut s rest
begun-step true x s other rest here later e = subst (λ t. IsCut t rest) (some-back e) (here refl)
begun-step false x s other rest here later e = later e

begun-last : (b : Bool) (x s : State) (rest : List ℕ) → (b ≡ true → IsCut x rest)
    → (if b then Some x else None) ≡ Some s → IsCut s rest
begun-last b x s rest here e = begun-step b x s None rest here (λ k. absurd cc) e

begun_placeholder-cut : (d : Dialect) (s : State) (c : ℕ) (rest : List ℕ) → IsUtf8 (c ∷ rest)
    → lex.begun_placeholder d c ≡ Some s → IsCut s rest
unfolding lex.begun_placeholder
begun_placeholder-cut Pg s c rest h e =
    begun-last (nat_eq c 36) AfterDollar s rest (λ k. ascii-rest c rest (known-ascii c 36 (omega arith) k) h) e
begun_placeholder-cut Mysql s c rest h e =
    begun-last (nat_eq c 63) (Whole (Mark None)) s rest (λ k. ascii-rest c rest (known-ascii c 63 (omega arith) k) h) e
begun_placeholder-cut Sqlite s c rest h e =
    begun-last (nat_eq c 63) (Whole (Mark None)) s rest (λ k. ascii-rest c rest (known-ascii c 63 (omega arith) k) h) e
begun_placeholder-cut Bracket s c rest h e =
    begun-last (nat_eq c 64) AfterAt s rest (λ k. ascii-rest c rest (known-ascii c 64 (omega arith) k) h) e

begun_name-cut : (d : Dialect) (s : State) (c : ℕ) (rest : List ℕ) → IsUtf8 (c ∷ rest) → lex.begun_name d c ≡ Some s
    → IsCut s rest
unfolding lex.begun_name
begun_name-cut d s c rest h e =
    begun-step (nat_eq c (quote d)) (InName []) s (lex.begun_placeholder d c) rest
    (λ k. ascii-rest c rest (quote-ascii d c k) h) (begun_placeholder-cut d s c rest h) e

pub begun-cut : (d : Dialect) (s : State) (c : ℕ) (rest : List ℕ) → lex.begun d c ≡ Some s → IsUtf8 (c ∷ rest)
    → IsCut s rest
unfolding lex.begun
begun-cut d s c rest e h =
    let known = λ (n : ℕ) (small : n < 128) (k : nat_eq c n ≡ true). ascii-rest c rest (known-ascii c n small k) h in
    begun-step (is_letter c) _ s _ rest (λ k. ascii-rest c rest (letter-ascii c k) h)
    (begun-step (is_digit c) _ s _ rest
    (λ k. (ascii-one c (digit-ascii c k), ascii-rest c rest (digit-ascii c k) h))
    (begun-step (nat_eq c 32) _ s _ rest (known 32 (omega arith))
    (begun-step (nat_eq c 40) _ s _ rest (known 40 (omega arith))
    (begun-step (nat_eq c 41) _ s _ rest (known 41 (omega arith))
    (begun-step (nat_eq c 44) _ s _ rest (known 44 (omega arith))
    (begun-step (nat_eq c 46) _ s _ rest (known 46 (omega arith))
    (begun-step (nat_eq c 42) _ s _ rest (known 42 (omega arith))
    (begun-step (nat_eq c 45) _ s _ rest (known 45 (omega arith))
    (begun-step (nat_eq c 61) _ s _ rest (known 61 (omega arith))
    (begun-step (nat_eq c 33) _ s _ rest (known 33 (omega arith))
    (begun-step (nat_eq c 60) _ s _ rest (known 60 (omega arith))
    (begun-step (nat_eq c 62) _ s _ rest (known 62 (omega arith)) (begun_name-cut d s c rest h)))))))))))))
    e

-- The rule of tokens, token by token.
use Rattle.std.proofs.Common.{◌≡◌, ℕ, ◌<◌, List, [], ◌∷◌, ◌++◌, length, Some, None, true, false, refl, sym, ap, ◌∙◌, codes}
use Rattle.std.proofs.lemmas.List.{append-nil}
use Rattle.sql_dialect.specs.Quote.{doubled}
use Rattle.sql_dialect.specs.Written.{quoted, numbers}
use Rattle.sql_dialect.specs.declared.backend.Dialect.{Dialect}
use Rattle.sql_dialect.specs.declared.backend.Dialect.TheVariants.{Pg, Mysql, Sqlite, Bracket}
use Rattle.sql_grammar.specs.Token.{Comparison, Equal, NotEqual, Less, LessOrEqual, Greater, GreaterOrEqual, Keyword, Token, Quoted, Word, Number, Mark, Sign, Open, Close, Comma, Dot, Star, Minus}
use Rattle.sql_grammar.specs.Spelling as spell
use Rattle.sql_grammar.specs.Spelling.{quote, end_quote, is_letter, is_digit, all_letters, all_digits, is_placeholder_number, word_of, value_of, is_equal, is_p, spelling}
use Rattle.sql_grammar.specs.Tokens as lex
use Rattle.sql_grammar.specs.Tokens.{tokens, tokens_from, in_front, NotAt, NoQuoteAt, IsLongest, begun, State, Between, InName, AfterQuote, InWord, InNumber, AfterAt, AfterDollar, InPlaceholder, AfterBang, AfterLess, AfterGreater, Whole}
use Rattle.sql_grammar.proofs.TokenLaws.{Stops, ends, name-run, opening-quote, quoted-name, word-run-ends, number-ends, dollar-run, at-run, placeholder-ending, word_of-spelling}

quote-stops : (d : Dialect) (name rest : List ℕ) → NoQuoteAt d rest → Stops d (AfterQuote name) rest
unfolding lex.extended
quote-stops d name [] h = tt
quote-stops d name (c ∷ cs) h = rw h refl

letter-stops : (d : Dialect) (w rest : List ℕ) → NotAt is_letter rest → Stops d (InWord w) rest
unfolding lex.extended
letter-stops d w [] h = tt
letter-stops d w (c ∷ cs) h = rw h refl

digit-stops : (d : Dialect) (w rest : List ℕ) → NotAt is_digit rest → Stops d (InNumber w) rest
unfolding lex.extended
digit-stops d w [] h = tt
digit-stops d w (c ∷ cs) h = rw h refl

place-stops : (d : Dialect) (w rest : List ℕ) → NotAt is_digit rest → Stops d (InPlaceholder w) rest
unfolding lex.extended
place-stops d w [] h = tt
place-stops d w (c ∷ cs) h = rw h refl

less-stops : (d : Dialect) (rest : List ℕ) → NotAt is_equal rest → Stops d AfterLess rest
unfolding lex.extended
less-stops d [] h = tt
less-stops d (c ∷ cs) h = rw h refl

greater-stops : (d : Dialect) (rest : List ℕ) → NotAt is_equal rest → Stops d AfterGreater rest
unfolding lex.extended
greater-stops d [] h = tt
greater-stops d (c ∷ cs) h = rw h refl

whole : (d : Dialect) (t : Token) (rest : List ℕ) → tokens_from d (Whole t) rest ≡ in_front t (tokens d rest)
unfolding lex.put lex.ending lex.extended
whole d t [] = ends d (Whole t) t [] refl tt
whole d t (c ∷ cs) = ends d (Whole t) t (c ∷ cs) refl refl

pub name-rule : (d : Dialect) (name rest : List ℕ) → NoQuoteAt d rest
    → tokens d (quoted d name ++ rest) ≡ in_front (Quoted name) (tokens d rest)
unfolding lex.put lex.ending
name-rule d name rest h =
    quoted-name d name rest ∙ ends d (AfterQuote name) (Quoted name) rest refl (quote-stops d name rest h)

pub space-rule : (d : Dialect) (rest : List ℕ) → tokens d (32 ∷ rest) ≡ tokens d rest
unfolding lex.tokens_from lex.from_extended lex.from_begun lex.put lex.extended lex.begun lex.ending spell.is_letter spell.is_digit
space-rule d rest = refl

pub word-rule : (d : Dialect) (w rest : List ℕ) → 0 < length w → all_letters w ≡ true → NotAt is_letter rest
    → tokens d (w ++ rest) ≡ in_front (word_of w) (tokens d rest)
unfolding lex.put
word-rule d w rest n h stop = word-run-ends d w rest h n (letter-stops d w rest stop)

pub keyword-rule : (k : Keyword) → word_of (spelling k) ≡ Word k
keyword-rule k = word_of-spelling k

pub number-rule : (d : Dialect) (w rest : List ℕ) → 0 < length w → all_digits w ≡ true → NotAt is_digit rest
    → tokens d (w ++ rest) ≡ in_front (Number w) (tokens d rest)
unfolding lex.put
number-rule d w rest n h stop = number-ends d w rest h n (digit-stops d w rest stop)

numbered : (d : Dialect) (w rest : List ℕ) → NotAt is_digit rest → is_placeholder_number w ≡ true
    → tokens_from d (InPlaceholder w) rest ≡ in_front (Mark (Some (value_of w))) (tokens d rest)
unfolding lex.put
numbered d w rest stop u =
    ends d (InPlaceholder w) (Mark (Some (value_of w))) rest (placeholder-ending w u) (place-stops d w rest stop)

pub dollar-rule : (w rest : List ℕ) → 0 < length w → all_digits w ≡ true → NotAt is_digit rest
    → is_placeholder_number w ≡ true
    → tokens Pg (36 ∷ (w ++ rest)) ≡ in_front (Mark (Some (value_of w))) (tokens Pg rest)
dollar-rule w rest n h stop u = dollar-run w rest h n ∙ numbered Pg w rest stop u

pub at-rule : (w rest : List ℕ) → 0 < length w → all_digits w ≡ true → NotAt is_digit rest
    → is_placeholder_number w ≡ true
    → tokens Bracket (64 ∷ 112 ∷ (w ++ rest)) ≡ in_front (Mark (Some (value_of w))) (tokens Bracket rest)
at-rule w rest n h stop u = at-run w rest h n ∙ numbered Bracket w rest stop u

broken : (d : Dialect) (w rest : List ℕ) → is_placeholder_number w ≡ false → Stops d (InPlaceholder w) rest
    → tokens_from d (InPlaceholder w) rest ≡ None
unfolding lex.tokens_from lex.put lex.from_extended lex.ending
broken d w [] u stop = rw u refl
broken d w (c ∷ cs) u stop = rw (stop, u) refl

pub no_number-rule : (w rest : List ℕ) → 0 < length w → all_digits w ≡ true → NotAt is_digit rest
    → is_placeholder_number w ≡ false → tokens Pg (36 ∷ (w ++ rest)) ≡ None
no_number-rule w rest n h stop u = dollar-run w rest h n ∙ broken Pg w rest u (place-stops Pg w rest stop)

pub no_at_number-rule : (w rest : List ℕ) → 0 < length w → all_digits w ≡ true → NotAt is_digit rest
    → is_placeholder_number w ≡ false → tokens Bracket (64 ∷ 112 ∷ (w ++ rest)) ≡ None
no_at_number-rule w rest n h stop u = at-run w rest h n ∙ broken Bracket w rest u (place-stops Bracket w rest stop)

pub question-rule : (d : Dialect) (rest : List ℕ) → numbers d ≡ false
    → tokens d (63 ∷ rest) ≡ in_front (Mark None) (tokens d rest)
unfolding lex.tokens_from lex.from_extended lex.from_begun lex.put lex.extended lex.begun lex.begun_name lex.begun_placeholder spell.quote lex.ending spell.is_letter spell.is_digit
question-rule Pg rest h = cc
question-rule Mysql rest h = whole Mysql (Mark None) rest
question-rule Sqlite rest h = whole Sqlite (Mark None) rest
question-rule Bracket rest h = cc

pub comparison-rule : (d : Dialect) (by : Comparison) (rest : List ℕ) → IsLongest by rest
    → tokens d (spell.sign_text by rest) ≡ in_front (Sign by) (tokens d rest)
unfolding lex.tokens_from lex.from_extended lex.from_begun lex.put lex.extended lex.begun lex.ending spell.is_letter spell.is_digit spell.sign_text
comparison-rule d Equal rest h = whole d (Sign Equal) rest
comparison-rule d NotEqual rest h = whole d (Sign NotEqual) rest
comparison-rule d Less rest h = ends d AfterLess (Sign Less) rest refl (less-stops d rest h)
comparison-rule d LessOrEqual rest h = whole d (Sign LessOrEqual) rest
comparison-rule d Greater rest h = ends d AfterGreater (Sign Greater) rest refl (greater-stops d rest h)
comparison-rule d GreaterOrEqual rest h = whole d (Sign GreaterOrEqual) rest

pub open-rule : (d : Dialect) (rest : List ℕ) → tokens d (codes "(" ++ rest) ≡ in_front Open (tokens d rest)
unfolding lex.tokens_from lex.from_extended lex.from_begun lex.put lex.extended lex.begun lex.ending spell.is_letter spell.is_digit
open-rule d rest = whole d Open rest

pub close-rule : (d : Dialect) (rest : List ℕ) → tokens d (codes ")" ++ rest) ≡ in_front Close (tokens d rest)
unfolding lex.tokens_from lex.from_extended lex.from_begun lex.put lex.extended lex.begun lex.ending spell.is_letter spell.is_digit
close-rule d rest = whole d Close rest

pub comma-rule : (d : Dialect) (rest : List ℕ) → tokens d (codes "," ++ rest) ≡ in_front Comma (tokens d rest)
unfolding lex.tokens_from lex.from_extended lex.from_begun lex.put lex.extended lex.begun lex.ending spell.is_letter spell.is_digit
comma-rule d rest = whole d Comma rest

pub dot-rule : (d : Dialect) (rest : List ℕ) → tokens d (codes "." ++ rest) ≡ in_front Dot (tokens d rest)
unfolding lex.tokens_from lex.from_extended lex.from_begun lex.put lex.extended lex.begun lex.ending spell.is_letter spell.is_digit
dot-rule d rest = whole d Dot rest

pub star-rule : (d : Dialect) (rest : List ℕ) → tokens d (codes "*" ++ rest) ≡ in_front Star (tokens d rest)
unfolding lex.tokens_from lex.from_extended lex.from_begun lex.put lex.extended lex.begun lex.ending spell.is_letter spell.is_digit
star-rule d rest = whole d Star rest

pub minus-rule : (d : Dialect) (rest : List ℕ) → tokens d (codes "-" ++ rest) ≡ in_front Minus (tokens d rest)
unfolding lex.tokens_from lex.from_extended lex.from_begun lex.put lex.extended lex.begun lex.ending spell.is_letter spell.is_digit
minus-rule d rest = whole d Minus rest

-- ## What is no token

pub end-rule : (d : Dialect) → tokens d [] ≡ Some []
unfolding lex.tokens_from lex.put lex.ending
end-rule d = refl

pub unclosed-rule : (d : Dialect) (name : List ℕ) → tokens d (quote d ∷ doubled (end_quote d) name) ≡ None
unfolding lex.tokens_from lex.put lex.ending
unclosed-rule d name =
    opening-quote d (doubled (end_quote d) name)
    ∙ ap (tokens_from d (InName [])) (sym (append-nil (doubled (end_quote d) name))) ∙ name-run d [] name []

bang-broken : (d : Dialect) (rest : List ℕ) → NotAt is_equal rest → tokens_from d AfterBang rest ≡ None
unfolding lex.tokens_from lex.put lex.from_extended lex.extended lex.ending
bang-broken d [] h = refl
bang-broken d (c ∷ cs) h = rw h refl

pub bang-rule : (d : Dialect) (rest : List ℕ) → NotAt is_equal rest → tokens d (codes "!" ++ rest) ≡ None
unfolding lex.tokens_from lex.from_extended lex.from_begun lex.put lex.extended lex.begun lex.ending spell.is_letter spell.is_digit
bang-rule d rest h = bang-broken d rest h

dollar-broken : (d : Dialect) (rest : List ℕ) → NotAt is_digit rest → tokens_from d AfterDollar rest ≡ None
unfolding lex.tokens_from lex.put lex.from_extended lex.extended lex.ending
dollar-broken d [] h = refl
dollar-broken d (c ∷ cs) h = rw h refl

pub lone_dollar-rule : (rest : List ℕ) → NotAt is_digit rest → tokens Pg (codes "$" ++ rest) ≡ None
unfolding lex.tokens_from lex.from_extended lex.from_begun lex.put lex.extended lex.begun lex.begun_name lex.begun_placeholder spell.quote lex.ending spell.is_letter spell.is_digit
lone_dollar-rule rest h = dollar-broken Pg rest h

pub lone_at_p-rule : (rest : List ℕ) → NotAt is_digit rest → tokens Bracket (codes "@p" ++ rest) ≡ None
unfolding lex.tokens_from lex.from_extended lex.from_begun lex.put lex.extended lex.begun lex.begun_name lex.begun_placeholder spell.quote lex.ending spell.is_letter spell.is_digit
lone_at_p-rule rest h = dollar-broken Bracket rest h

at-broken : (rest : List ℕ) → NotAt is_p rest → tokens_from Bracket AfterAt rest ≡ None
unfolding lex.tokens_from lex.put lex.from_extended lex.extended lex.ending
at-broken [] h = refl
at-broken (c ∷ cs) h = rw h refl

pub lone_at-rule : (rest : List ℕ) → NotAt is_p rest → tokens Bracket (codes "@" ++ rest) ≡ None
unfolding lex.tokens_from lex.from_extended lex.from_begun lex.put lex.extended lex.begun lex.begun_name lex.begun_placeholder spell.quote lex.ending spell.is_letter spell.is_digit
lone_at-rule rest h = at-broken rest h

pub other-rule : (d : Dialect) (c : ℕ) (rest : List ℕ) → begun d c ≡ None → tokens d (c ∷ rest) ≡ None
unfolding lex.tokens_from lex.from_extended lex.from_begun lex.put lex.extended lex.ending
other-rule d c rest h = rw h refl

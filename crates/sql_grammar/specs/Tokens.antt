-- The tokens of a text, or none. Spaces (U+0020) end a token and are no token. A quoted identifier runs from its quote to
-- the next quote that isn't doubled, and stands for the text between them with doubled quotes made single. A word is a
-- longest run of ASCII letters, a number a longest run of digits, kept as its digits. The place of a value is `$` with its
-- number on Pg (PostgreSQL, 4.2.2 Positional Parameters), `?` on Mysql (MySQL, 13.5.1 PREPARE Statement) and on Sqlite
-- (SQLite, SQL Language Expressions, Parameters), `@p` with its number on Bracket. Of two signs that fit, the longer one is
-- taken. A text with anything else has no tokens: a tab, another dialect's placeholder, a quote that isn't closed, `$01`.
use Rattle.std.specs.Prelude.{◌≡◌, ℕ, List, [], ◌∷◌, ◌++◌, Option, Some, None, Bool, false, nat_eq, if◌then◌else◌}
use Rattle.std.specs.Option.{option_map}
use Rattle.sql_dialect.specs.declared.backend.Dialect.{Dialect}
use Rattle.sql_dialect.specs.declared.backend.Dialect.TheVariants.{Pg, Mysql, Sqlite, Bracket}
use Rattle.sql_grammar.specs.Token.{Comparison, Equal, NotEqual, Less, LessOrEqual, Greater, GreaterOrEqual, Token, Quoted, Number, Mark, Sign, Open, Close, Comma, Dot, Star, Minus}
use Rattle.sql_grammar.specs.Spelling.{is_letter, is_digit, word_of, value_of, is_placeholder_number, is_equal, is_p, quote, end_quote}

-- The part of the token at hand that has been read.
pub data State : Type 0 where
  -- no token is at hand
  Between : State
  -- the name so far
  InName : List ℕ → State
  -- the same, after a quote that ends the name or is the first of two
  AfterQuote : List ℕ → State
  InWord : List ℕ → State
  InNumber : List ℕ → State
  -- after `@`
  AfterAt : State
  -- after `$` or `@p`, and the digits so far
  AfterDollar : State
  InPlaceholder : List ℕ → State
  -- after `!`, `<` and `>`
  AfterBang : State
  AfterLess : State
  AfterGreater : State
  -- a token that takes no further byte
  Whole : Token → State

-- the state where the next byte belongs to the token at hand
unfoldable pub extended : Dialect → State → ℕ → Option State
extended d Between c = None
extended d (InName n) c = if nat_eq c (end_quote d) then Some (AfterQuote n) else Some (InName (n ++ c ∷ []))
extended d (AfterQuote n) c = if nat_eq c (end_quote d) then Some (InName (n ++ c ∷ [])) else None
extended d (InWord w) c = if is_letter c then Some (InWord (w ++ c ∷ [])) else None
extended d (InNumber ds) c = if is_digit c then Some (InNumber (ds ++ c ∷ [])) else None
extended d AfterAt c = if is_p c then Some AfterDollar else None
extended d AfterDollar c = if is_digit c then Some (InPlaceholder (c ∷ [])) else None
extended d (InPlaceholder ds) c = if is_digit c then Some (InPlaceholder (ds ++ c ∷ [])) else None
extended d AfterBang c = if is_equal c then Some (Whole (Sign NotEqual)) else None
extended d AfterLess c = if is_equal c then Some (Whole (Sign LessOrEqual)) else None
extended d AfterGreater c = if is_equal c then Some (Whole (Sign GreaterOrEqual)) else None
extended d (Whole t) c = None

-- the state that a byte begins, where it begins a token or is a space
unfoldable pub begun_placeholder : Dialect → ℕ → Option State
begun_placeholder Pg c = if nat_eq c 36 then Some AfterDollar else None
begun_placeholder Mysql c = if nat_eq c 63 then Some (Whole (Mark None)) else None
begun_placeholder Sqlite c = if nat_eq c 63 then Some (Whole (Mark None)) else None
begun_placeholder Bracket c = if nat_eq c 64 then Some AfterAt else None

unfoldable pub begun_name : Dialect → ℕ → Option State
begun_name d c = if nat_eq c (quote d) then Some (InName []) else begun_placeholder d c

unfoldable pub begun : Dialect → ℕ → Option State
begun d c =
    if is_letter c then Some (InWord (c ∷ []))
    else (if is_digit c then Some (InNumber (c ∷ []))
    else (if nat_eq c 32 then Some Between
    else (if nat_eq c 40 then Some (Whole Open)
    else (if nat_eq c 41 then Some (Whole Close)
    else (if nat_eq c 44 then Some (Whole Comma)
    else (if nat_eq c 46 then Some (Whole Dot)
    else (if nat_eq c 42 then Some (Whole Star)
    else (if nat_eq c 45 then Some (Whole Minus)
    else (if is_equal c then Some (Whole (Sign Equal))
    else (if nat_eq c 33 then Some AfterBang
    else (if nat_eq c 60 then Some AfterLess
    else (if nat_eq c 62 then Some AfterGreater
    else begun_name d c))))))))))))

-- The token at hand, where it ends.
pub data Ending : Type 0 where
  Nothing : Ending
  Broken : Ending
  Is : Token → Ending

unfoldable pub ending : State → Ending
ending Between = Nothing
ending (InName n) = Broken
ending (AfterQuote n) = Is (Quoted n)
ending (InWord w) = Is (word_of w)
ending (InNumber ds) = Is (Number ds)
ending AfterAt = Broken
ending AfterDollar = Broken
ending (InPlaceholder ds) = if is_placeholder_number ds then Is (Mark (Some (value_of ds))) else Broken
ending AfterBang = Broken
ending AfterLess = Is (Sign Less)
ending AfterGreater = Is (Sign Greater)
ending (Whole t) = Is t

-- a token before those after it, where what stands after it has tokens
abbrev pub in_front : Token → Option (List Token) → Option (List Token)
in_front t ts = option_map (λ more. t ∷ more) ts

unfoldable pub put : Ending → Option (List Token) → Option (List Token)
put Nothing ts = ts
put Broken ts = None
put (Is t) ts = in_front t ts

unfoldable pub from_begun : Option State → (State → Option (List Token)) → Option (List Token)
from_begun (Some s) go = go s
from_begun None go = None

unfoldable pub from_extended : Option State → Ending → Option State → (State → Option (List Token))
    → Option (List Token)
from_extended (Some s) e b go = go s
from_extended None e b go = put e (from_begun b go)

-- The tokens of a text after what has been read: a byte extends the token at hand, or ends it and begins the next.
unfoldable pub tokens_from : Dialect → State → List ℕ → Option (List Token)
tokens_from d s [] = put (ending s) (Some [])
tokens_from d s (c ∷ cs) = from_extended (extended d s c) (ending s) (begun d c) (λ s'. tokens_from d s' cs)

abbrev pub tokens : Dialect → List ℕ → Option (List Token)
tokens d text = tokens_from d Between text

-- ## Where tokens end

-- the text doesn't begin with such a byte
abbrev pub NotAt : (ℕ → Bool) → List ℕ → Type 0
NotAt is [] = Unit {0}
NotAt is (c ∷ cs) = is c ≡ false

-- it doesn't begin with a quote that ends a name in the dialect
abbrev pub NoQuoteAt : Dialect → List ℕ → Type 0
NoQuoteAt d rest = NotAt (λ c. nat_eq c (end_quote d)) rest

-- no longer comparison stands there
abbrev pub IsLongest : Comparison → List ℕ → Type 0
IsLongest Less rest = NotAt is_equal rest
IsLongest Greater rest = NotAt is_equal rest
IsLongest _ rest = Unit {0}

-- The byte ends each token before it: it is no letter, no digit, no `=` and no quote. A space is one, and so are brackets,
-- a comma and a dot.
pub record Breaks (c : ℕ) : Type 0 where
  pub letter : is_letter c ≡ false
  pub digit : is_digit c ≡ false
  pub equal : is_equal c ≡ false
  pub double : nat_eq c 34 ≡ false
  pub back : nat_eq c 96 ≡ false
  pub square : nat_eq c 93 ≡ false

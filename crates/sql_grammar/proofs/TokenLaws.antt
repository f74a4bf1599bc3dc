-- Texts that are put together have the tokens of their parts.
use Rattle.std.proofs.Common.{◌≡◌, ℕ, ◌+◌, ◌-◌, ◌*◌, ◌%◌, ◌^◌, ◌<◌, ◌≤◌, List, [], ◌∷◌, ◌++◌, length, Option, Some, None, Bool, true, false, nat_eq, ◌&&◌, get_or, refl, sym, ap, ◌∙◌, arith}
use Rattle.std.proofs.lemmas.List.{append_assoc, append-nil, length-append}
use Rattle.std.proofs.lemmas.Fmt.{decimal_by_steps, first_decimal}
use Rattle.std.proofs.lemmas.Bool.{eqb-true}
use Rattle.std.proofs.lemmas.Bool.Decides.{nat_tests}
use Rattle.std.specs.Fmt.{decimal}
use Rattle.sql_dialect.specs.Quote.{doubled}
use Rattle.sql_dialect.specs.Written.{quoted}
use Rattle.sql_dialect.specs.declared.backend.Dialect.{Dialect}
use Rattle.sql_dialect.specs.declared.backend.Dialect.TheVariants.{Pg, Mysql, Sqlite, Bracket}
use Rattle.sql_grammar.specs.Token.{Comparison, Equal, NotEqual, Less, LessOrEqual, Greater, GreaterOrEqual, Keyword, SELECT, Token, Quoted, Word, Number, Mark, Sign, Open, Close, Comma, Dot, Star, Minus}
use Rattle.sql_grammar.specs.Spelling as spell
use Rattle.sql_grammar.specs.Spelling.{spelling, quote, end_quote, is_letter, is_digit, all_letters, all_digits, is_placeholder_number}
use Rattle.sql_grammar.specs.Tokens as lex
use Rattle.sql_grammar.specs.Tokens.{State, Between, InName, AfterQuote, InWord, InNumber, AfterAt, AfterDollar, InPlaceholder, AfterBang, AfterLess, AfterGreater, Whole, tokens_from, tokens, extended, begun, ending, Ending, Is, Breaks, NoQuoteAt}

-- the text has these tokens
abbrev pub Has : Dialect → List ℕ → List Token → Type 0
Has d text ts = tokens d text ≡ Some ts

-- no byte of the text belongs to the token before it
abbrev pub Stops : Dialect → State → List ℕ → Type 0
Stops d s [] = Unit {0}
Stops d s (c ∷ cs) = extended d s c ≡ None

-- Where a token ends, it stands before those after it.
pub ends : (d : Dialect) (s : State) (t : Token) (rest : List ℕ) → ending s ≡ Is t → Stops d s rest
    → tokens_from d s rest ≡ lex.put (Is t) (tokens_from d Between rest)
unfolding lex.tokens_from lex.put lex.from_extended lex.from_begun lex.ending lex.extended
ends d s t [] e stop = ap (λ x. lex.put x (Some [])) e
ends d s t (c ∷ cs) e stop =
    let go = λ (s' : State). tokens_from d s' cs in
    ap (λ x. lex.from_extended x (ending s) (begun d c) go) stop ∙ ap (λ x. lex.put x (lex.from_begun (begun d c) go)) e

pub flush : (d : Dialect) (s : State) (t : Token) (rest : List ℕ) (ts : List Token) → ending s ≡ Is t → Stops d s rest
    → Has d rest ts → tokens_from d s rest ≡ Some (t ∷ ts)
unfolding lex.put
flush d s t rest ts e stop h = ends d s t rest e stop ∙ ap (lex.put (Is t)) h

-- a token of its own
pub whole : (d : Dialect) (t : Token) (rest : List ℕ) (ts : List Token) → Has d rest ts
    → tokens_from d (Whole t) rest ≡ Some (t ∷ ts)
unfolding lex.ending lex.extended
whole d t [] ts h = flush d (Whole t) t [] ts refl tt h
whole d t (c ∷ cs) ts h = flush d (Whole t) t (c ∷ cs) ts refl refl h

-- a name in quotes
quote-same : (d : Dialect) → nat_eq (end_quote d) (end_quote d) ≡ true
unfolding spell.end_quote
quote-same Pg = refl
quote-same Mysql = refl
quote-same Sqlite = refl
quote-same Bracket = refl

begin-quoted : (d : Dialect) → begun d (quote d) ≡ Some (InName [])
unfolding lex.begun lex.begun_name spell.quote spell.is_letter spell.is_digit
begin-quoted Pg = refl
begin-quoted Mysql = refl
begin-quoted Sqlite = refl
begin-quoted Bracket = refl

name-step : (d : Dialect) (acc : List ℕ) (c : ℕ) (cs more : List ℕ) (b : Bool) → nat_eq c (end_quote d) ≡ b
    → tokens_from d (InName acc) (doubled (end_quote d) (c ∷ cs) ++ more)
    ≡ tokens_from d (InName (acc ++ c ∷ [])) (doubled (end_quote d) cs ++ more)
unfolding lex.tokens_from lex.from_extended lex.extended
name-step d acc c cs more true e =
    let same : end_quote d ≡ c = sym (eqb-true c (end_quote d) e) in
    rw (e, quote-same, quote-same)
    (ap (λ x. tokens_from d (InName (acc ++ x ∷ [])) (doubled (end_quote d) cs ++ more)) same)
name-step d acc c cs more false e = rw (e, e) refl

-- the bytes of a name, each quote doubled
pub name-run : (d : Dialect) (acc name more : List ℕ)
    → tokens_from d (InName acc) (doubled (end_quote d) name ++ more) ≡ tokens_from d (InName (acc ++ name)) more
name-run d acc [] more = ap (λ xs. tokens_from d (InName xs) more) (sym (append-nil acc))
name-run d acc (c ∷ cs) more =
    name-step d acc c cs more (nat_eq c (end_quote d)) refl ∙ name-run d (acc ++ c ∷ []) cs more
    ∙ ap (λ xs. tokens_from d (InName xs) more) (append_assoc acc (c ∷ []) cs)

closing-quote : (d : Dialect) (name rest : List ℕ)
    → tokens_from d (InName name) (end_quote d ∷ rest) ≡ tokens_from d (AfterQuote name) rest
unfolding lex.tokens_from lex.from_extended lex.extended
closing-quote d name rest = rw quote-same refl

body-law : (d : Dialect) (acc name rest : List ℕ)
    → tokens_from d (InName acc) (doubled (end_quote d) name ++ end_quote d ∷ rest)
    ≡ tokens_from d (AfterQuote (acc ++ name)) rest
body-law d acc name rest = name-run d acc name (end_quote d ∷ rest) ∙ closing-quote d (acc ++ name) rest

-- the quote that opens a name
pub opening-quote : (d : Dialect) (rest : List ℕ)
    → tokens_from d Between (quote d ∷ rest) ≡ tokens_from d (InName []) rest
unfolding lex.tokens_from lex.from_extended lex.from_begun lex.put lex.extended lex.ending
opening-quote d rest = ap (λ x. lex.from_begun x (λ s'. tokens_from d s' rest)) (begin-quoted d)

-- a quoted name before more text, by the bytes that stand there
quoted-bytes : (d : Dialect) (name rest : List ℕ)
    → quoted d name ++ rest ≡ quote d ∷ (doubled (end_quote d) name ++ end_quote d ∷ rest)
unfolding spell.quote spell.end_quote
quoted-bytes Pg name rest = ap (λ l. 34 ∷ l) (append_assoc (doubled 34 name) (34 ∷ []) rest)
quoted-bytes Mysql name rest = ap (λ l. 96 ∷ l) (append_assoc (doubled 96 name) (96 ∷ []) rest)
quoted-bytes Sqlite name rest = ap (λ l. 96 ∷ l) (append_assoc (doubled 96 name) (96 ∷ []) rest)
quoted-bytes Bracket name rest = ap (λ l. 91 ∷ l) (append_assoc (doubled 93 name) (93 ∷ []) rest)

pub quoted-name : (d : Dialect) (name rest : List ℕ)
    → tokens_from d Between (quoted d name ++ rest) ≡ tokens_from d (AfterQuote name) rest
quoted-name d name rest =
    ap (tokens_from d Between) (quoted-bytes d name rest) ∙ opening-quote d _ ∙ body-law d [] name rest

pub quoted-law : (d : Dialect) (name rest : List ℕ) (ts : List Token) → Stops d (AfterQuote name) rest → Has d rest ts
    → Has d (quoted d name ++ rest) (Quoted name ∷ ts)
unfolding lex.ending
quoted-law d name rest ts stop h = quoted-name d name rest ∙ flush d (AfterQuote name) (Quoted name) rest ts refl stop h

some-back : {A : Type 0} {x y : A} → Some x ≡ Some y → x ≡ y
some-back e = cc

pub and_true_left : (a b : Bool) → a && b ≡ true → a ≡ true
and_true_left true b h = refl
and_true_left false b h = h

pub and_true_right : (a b : Bool) → a && b ≡ true → b ≡ true
and_true_right true b h = h
and_true_right false b h = cc

-- words
all_letters-spelling : (k : Keyword) → all_letters (spelling k) ≡ true
unfolding spell.all_letters spell.is_letter spell.spelling
all_letters-spelling SELECT = refl
all_letters-spelling _ = refl

pub word_of-spelling : (k : Keyword) → spell.word_of (spelling k) ≡ Word k
unfolding spell.word_of spell.word_among spell.same_bytes spell.spelling
word_of-spelling SELECT = refl
word_of-spelling _ = refl

word-run : (d : Dialect) (acc w rest : List ℕ) → all_letters w ≡ true
    → tokens_from d (InWord acc) (w ++ rest) ≡ tokens_from d (InWord (acc ++ w)) rest
unfolding lex.tokens_from lex.from_extended lex.extended spell.all_letters
word-run d acc [] rest h = ap (λ xs. tokens_from d (InWord xs) rest) (sym (append-nil acc))
word-run d acc (c ∷ cs) rest h =
    let p : is_letter c ≡ true = and_true_left (is_letter c) (all_letters cs) h in
    let q : all_letters cs ≡ true = and_true_right (is_letter c) (all_letters cs) h in
    rw p
    (word-run d (acc ++ c ∷ []) cs rest q
    ∙ ap (λ xs. tokens_from d (InWord xs) rest) (append_assoc acc (c ∷ []) cs))

-- A run of letters is one word.
pub word-run-ends : (d : Dialect) (w rest : List ℕ) → all_letters w ≡ true → 0 < length w → Stops d (InWord w) rest
    → tokens_from d Between (w ++ rest) ≡ lex.put (Is (spell.word_of w)) (tokens_from d Between rest)
unfolding lex.tokens_from lex.from_extended lex.from_begun lex.put lex.extended lex.begun lex.ending spell.all_letters
word-run-ends d [] rest h n stop = absurd (omega arith)
word-run-ends d (c ∷ cs) rest h n stop =
    let p : is_letter c ≡ true = and_true_left (is_letter c) (all_letters cs) h in
    let q : all_letters cs ≡ true = and_true_right (is_letter c) (all_letters cs) h in
    rw p (word-run d (c ∷ []) cs rest q ∙ ends d (InWord (c ∷ cs)) (spell.word_of (c ∷ cs)) rest refl stop)

pub word-text : (d : Dialect) (w rest : List ℕ) (ts : List Token) (t : Token) → all_letters w ≡ true → 0 < length w
    → spell.word_of w ≡ t → Stops d (InWord w) rest → Has d rest ts → Has d (w ++ rest) (t ∷ ts)
unfolding lex.put
word-text d w rest ts t h n e stop g =
    word-run-ends d w rest h n stop ∙ ap (lex.put (Is (spell.word_of w))) g ∙ ap (λ x. Some (x ∷ ts)) e

length-spelling : (k : Keyword) → 0 < length (spelling k)
unfolding spell.spelling
length-spelling SELECT = omega arith
length-spelling _ = omega arith

pub word-law : (d : Dialect) (k : Keyword) (rest : List ℕ) (ts : List Token) → Stops d (InWord (spelling k)) rest
    → Has d rest ts → Has d (spelling k ++ rest) (Word k ∷ ts)
word-law d k rest ts stop h =
    word-text d (spelling k) rest ts (Word k) (all_letters-spelling k) (length-spelling k) (word_of-spelling k) stop h

-- single bytes
pub space : (d : Dialect) (rest : List ℕ) (ts : List Token) → Has d rest ts → Has d (32 ∷ rest) ts
unfolding lex.tokens_from lex.from_extended lex.from_begun lex.put lex.extended lex.begun lex.ending spell.is_letter spell.is_digit
space d rest ts h = h

pub opening : (d : Dialect) (rest : List ℕ) (ts : List Token) → Has d rest ts → Has d (40 ∷ rest) (Open ∷ ts)
unfolding lex.tokens_from lex.from_extended lex.from_begun lex.put lex.extended lex.begun lex.ending spell.is_letter spell.is_digit
opening d rest ts h = whole d Open rest ts h

pub closing : (d : Dialect) (rest : List ℕ) (ts : List Token) → Has d rest ts → Has d (41 ∷ rest) (Close ∷ ts)
unfolding lex.tokens_from lex.from_extended lex.from_begun lex.put lex.extended lex.begun lex.ending spell.is_letter spell.is_digit
closing d rest ts h = whole d Close rest ts h

pub comma : (d : Dialect) (rest : List ℕ) (ts : List Token) → Has d rest ts → Has d (44 ∷ rest) (Comma ∷ ts)
unfolding lex.tokens_from lex.from_extended lex.from_begun lex.put lex.extended lex.begun lex.ending spell.is_letter spell.is_digit
comma d rest ts h = whole d Comma rest ts h

pub dot : (d : Dialect) (rest : List ℕ) (ts : List Token) → Has d rest ts → Has d (46 ∷ rest) (Dot ∷ ts)
unfolding lex.tokens_from lex.from_extended lex.from_begun lex.put lex.extended lex.begun lex.ending spell.is_letter spell.is_digit
dot d rest ts h = whole d Dot rest ts h

pub star : (d : Dialect) (rest : List ℕ) (ts : List Token) → Has d rest ts → Has d (42 ∷ rest) (Star ∷ ts)
unfolding lex.tokens_from lex.from_extended lex.from_begun lex.put lex.extended lex.begun lex.ending spell.is_letter spell.is_digit
star d rest ts h = whole d Star rest ts h

pub minus : (d : Dialect) (rest : List ℕ) (ts : List Token) → Has d rest ts → Has d (45 ∷ rest) (Minus ∷ ts)
unfolding lex.tokens_from lex.from_extended lex.from_begun lex.put lex.extended lex.begun lex.ending spell.is_letter spell.is_digit
minus d rest ts h = whole d Minus rest ts h

pub equals : (d : Dialect) (rest : List ℕ) (ts : List Token) → Has d rest ts → Has d (61 ∷ rest) (Sign Equal ∷ ts)
unfolding lex.tokens_from lex.from_extended lex.from_begun lex.put lex.extended lex.begun lex.ending spell.is_letter spell.is_digit
equals d rest ts h = whole d (Sign Equal) rest ts h

-- comparisons, each with a space after it
pub sign-law : (d : Dialect) (by : Comparison) (rest : List ℕ) (ts : List Token) → Has d rest ts
    → Has d (spell.sign_text by (32 ∷ rest)) (Sign by ∷ ts)
unfolding lex.tokens_from lex.from_extended lex.from_begun lex.put lex.extended lex.begun lex.ending spell.is_letter spell.is_digit spell.sign_text
sign-law d Equal rest ts h = whole d (Sign Equal) (32 ∷ rest) ts h
sign-law d NotEqual rest ts h = whole d (Sign NotEqual) (32 ∷ rest) ts h
sign-law d Less rest ts h = flush d AfterLess (Sign Less) (32 ∷ rest) ts refl refl h
sign-law d LessOrEqual rest ts h = whole d (Sign LessOrEqual) (32 ∷ rest) ts h
sign-law d Greater rest ts h = flush d AfterGreater (Sign Greater) (32 ∷ rest) ts refl refl h
sign-law d GreaterOrEqual rest ts h = whole d (Sign GreaterOrEqual) (32 ∷ rest) ts h

-- numbers
marking-run : (d : Dialect) (acc w rest : List ℕ) → all_digits w ≡ true
    → tokens_from d (InPlaceholder acc) (w ++ rest) ≡ tokens_from d (InPlaceholder (acc ++ w)) rest
unfolding lex.tokens_from lex.from_extended lex.extended spell.all_digits
marking-run d acc [] rest h = ap (λ xs. tokens_from d (InPlaceholder xs) rest) (sym (append-nil acc))
marking-run d acc (c ∷ cs) rest h =
    let p : is_digit c ≡ true = and_true_left (is_digit c) (all_digits cs) h in
    let q : all_digits cs ≡ true = and_true_right (is_digit c) (all_digits cs) h in
    rw p
    (marking-run d (acc ++ c ∷ []) cs rest q
    ∙ ap (λ xs. tokens_from d (InPlaceholder xs) rest) (append_assoc acc (c ∷ []) cs))

-- digits after `$` or `@p`
behind-run : (d : Dialect) (w rest : List ℕ) → all_digits w ≡ true → 0 < length w
    → tokens_from d AfterDollar (w ++ rest) ≡ tokens_from d (InPlaceholder w) rest
unfolding lex.tokens_from lex.from_extended lex.extended spell.all_digits
behind-run d [] rest h n = absurd (omega arith)
behind-run d (c ∷ cs) rest h n =
    let p : is_digit c ≡ true = and_true_left (is_digit c) (all_digits cs) h in
    let q : all_digits cs ≡ true = and_true_right (is_digit c) (all_digits cs) h in
    rw p (marking-run d (c ∷ []) cs rest q)

pub dollar-run : (w rest : List ℕ) → all_digits w ≡ true → 0 < length w
    → tokens_from Pg Between (36 ∷ (w ++ rest)) ≡ tokens_from Pg (InPlaceholder w) rest
unfolding lex.tokens_from lex.from_extended lex.from_begun lex.put lex.extended lex.begun lex.begun_name lex.begun_placeholder spell.quote lex.ending spell.is_letter spell.is_digit
dollar-run w rest h n = behind-run Pg w rest h n

pub at-run : (w rest : List ℕ) → all_digits w ≡ true → 0 < length w
    → tokens_from Bracket Between (64 ∷ 112 ∷ (w ++ rest)) ≡ tokens_from Bracket (InPlaceholder w) rest
unfolding lex.tokens_from lex.from_extended lex.from_begun lex.put lex.extended lex.begun lex.begun_name lex.begun_placeholder spell.quote lex.ending spell.is_letter spell.is_digit
at-run w rest h n = behind-run Bracket w rest h n

pub placeholder-ending : (w : List ℕ) → is_placeholder_number w ≡ true
    → ending (InPlaceholder w) ≡ Is (Mark (Some (spell.value_of w)))
unfolding lex.ending
placeholder-ending w u = rw u refl

place-ends : (d : Dialect) (w rest : List ℕ) (ts : List Token) → is_placeholder_number w ≡ true
    → Stops d (InPlaceholder w) rest → Has d rest ts
    → tokens_from d (InPlaceholder w) rest ≡ Some (Mark (Some (spell.value_of w)) ∷ ts)
place-ends d w rest ts u stop g =
    flush d (InPlaceholder w) (Mark (Some (spell.value_of w))) rest ts (placeholder-ending w u) stop g

-- Two texts are joined. The second begins with a space or a bracket, a comma, a dot or the like.
pub not_quote : (d : Dialect) (c : ℕ) → Breaks c → nat_eq c (end_quote d) ≡ false
unfolding spell.end_quote
not_quote Pg c b = b.double
not_quote Mysql c b = b.back
not_quote Sqlite c b = b.back
not_quote Bracket c b = b.square

-- the number of a placeholder ends, where it is one
join-place : (d : Dialect) (n : List ℕ) (c : ℕ) (b : List ℕ) (xs ys : List Token) (t : Bool)
    → is_placeholder_number n ≡ t → Breaks c → tokens_from d (InPlaceholder n) [] ≡ Some xs → Has d (c ∷ b) ys
    → tokens_from d (InPlaceholder n) (c ∷ b) ≡ Some (xs ++ ys)
unfolding lex.tokens_from lex.put lex.ending lex.extended
join-place d n c b xs ys true e k h g =
    let is : lex.put (Is (Mark (Some (spell.value_of n)))) (Some []) ≡ Some xs = rw e at h in
    flush d (InPlaceholder n) (Mark (Some (spell.value_of n))) (c ∷ b) ys (rw e refl) (rw k.digit refl) g
    ∙ ap (λ zs. Some (zs ++ ys)) (some-back is)
join-place d n c b xs ys false e k h g =
    let is : lex.put lex.Broken (Some []) ≡ Some xs = rw e at h in cc

join-end : (d : Dialect) (s : State) (c : ℕ) (b : List ℕ) (xs ys : List Token) → Breaks c → tokens_from d s [] ≡ Some xs
    → Has d (c ∷ b) ys → tokens_from d s (c ∷ b) ≡ Some (xs ++ ys)
unfolding lex.tokens_from lex.put lex.ending lex.extended
join-end d Between c b xs ys k h g = g ∙ ap (λ zs. Some (zs ++ ys)) (some-back h)
join-end d (InName n) c b xs ys k h g = cc
join-end d (AfterQuote n) c b xs ys k h g =
    flush d (AfterQuote n) (Quoted n) (c ∷ b) ys refl (rw (not_quote d c k) refl) g
    ∙ ap (λ zs. Some (zs ++ ys)) (some-back h)
join-end d (InWord w) c b xs ys k h g =
    flush d (InWord w) (spell.word_of w) (c ∷ b) ys refl (rw k.letter refl) g ∙ ap (λ zs. Some (zs ++ ys)) (some-back h)
join-end d (InNumber n) c b xs ys k h g =
    flush d (InNumber n) (Number n) (c ∷ b) ys refl (rw k.digit refl) g ∙ ap (λ zs. Some (zs ++ ys)) (some-back h)
join-end d AfterAt c b xs ys k h g = cc
join-end d AfterDollar c b xs ys k h g = cc
join-end d (InPlaceholder n) c b xs ys k h g = join-place d n c b xs ys (is_placeholder_number n) refl k h g
join-end d AfterBang c b xs ys k h g = cc
join-end d AfterLess c b xs ys k h g =
    flush d AfterLess (Sign Less) (c ∷ b) ys refl (rw k.equal refl) g ∙ ap (λ zs. Some (zs ++ ys)) (some-back h)
join-end d AfterGreater c b xs ys k h g =
    flush d AfterGreater (Sign Greater) (c ∷ b) ys refl (rw k.equal refl) g ∙ ap (λ zs. Some (zs ++ ys)) (some-back h)
join-end d (Whole t) c b xs ys k h g =
    flush d (Whole t) t (c ∷ b) ys refl refl g ∙ ap (λ zs. Some (zs ++ ys)) (some-back h)

put-longer : (t : Token) (x y : Option (List Token)) (xs ys : List Token)
    → ((zs : List Token) → x ≡ Some zs → y ≡ Some (zs ++ ys)) → lex.put (Is t) x ≡ Some xs
    → lex.put (Is t) y ≡ Some (xs ++ ys)
unfolding lex.put
put-longer t None y xs ys f h = cc
put-longer t (Some zs) y xs ys f h = ap (lex.put (Is t)) (f zs refl) ∙ ap (λ us. Some (us ++ ys)) (some-back h)

longer : (o : Option State) (e : Ending) (m : Option State) (go go' : State → Option (List Token)) (xs ys : List Token)
    →
    ((s : State) (zs : List Token) → go s ≡ Some zs → go' s ≡ Some (zs ++ ys)) → lex.from_extended o e m go ≡ Some xs
    → lex.from_extended o e m go' ≡ Some (xs ++ ys)
unfolding lex.from_extended lex.from_begun lex.put
longer (Some s) e m go go' xs ys f h = f s xs h
longer None lex.Nothing (Some s) go go' xs ys f h = f s xs h
longer None lex.Nothing None go go' xs ys f h = cc
longer None lex.Broken m go go' xs ys f h = cc
longer None (Is t) (Some s) go go' xs ys f h = put-longer t (go s) (go' s) xs ys (f s) h
longer None (Is t) None go go' xs ys f h = cc

join-from : (d : Dialect) (a : List ℕ) (s : State) (c : ℕ) (b : List ℕ) (xs ys : List Token) → Breaks c
    → tokens_from d s a ≡ Some xs → Has d (c ∷ b) ys → tokens_from d s (a ++ c ∷ b) ≡ Some (xs ++ ys)
unfolding lex.tokens_from
join-from d [] s c b xs ys k h g = join-end d s c b xs ys k h g
join-from d (x ∷ a) s c b xs ys k h g =
    longer (extended d s x) (ending s) (begun d x) (λ s'. tokens_from d s' a) (λ s'. tokens_from d s' (a ++ c ∷ b)) xs
    ys (λ s' zs e. join-from d a s' c b zs ys k e g) h

pub join-law : (d : Dialect) (a : List ℕ) (c : ℕ) (b : List ℕ) (xs ys : List Token) → Breaks c → Has d a xs
    → Has d (c ∷ b) ys → Has d (a ++ c ∷ b) (xs ++ ys)
join-law d a c b xs ys k h g = join-from d a Between c b xs ys k h g

-- what `{n}` writes
all_digits-push : (xs : List ℕ) (c : ℕ) → all_digits xs ≡ true → is_digit c ≡ true → all_digits (xs ++ c ∷ []) ≡ true
unfolding spell.all_digits
all_digits-push [] c h g = rw g refl
all_digits-push (x ∷ xs) c h g =
    let p : is_digit x ≡ true = and_true_left (is_digit x) (all_digits xs) h in
    rw p (all_digits-push xs c (and_true_right (is_digit x) (all_digits xs) h) g)

value-push : (n : ℕ) (xs : List ℕ) (c : ℕ) → spell.value_after n (xs ++ c ∷ []) ≡ 10 * spell.value_after n xs + (c - 48)
unfolding spell.value_after
value-push n [] c = refl
value-push n (x ∷ xs) c = value-push (10 * n + (x - 48)) xs c

digit-48 : (k : ℕ) → k < 10 → is_digit (48 + k) ≡ true
unfolding spell.is_digit
digit-48 k h = grind (arith, nat_tests)

abbrev Numeral : ℕ → List ℕ → Type 0
Numeral n ds = (all_digits ds ≡ true) × (spell.value_of ds ≡ n) × (0 < length ds)

pub decimal-numeral : (n : ℕ) → n < 2 ^ 64 → Numeral n (decimal n)
unfolding spell.all_digits spell.value_after
decimal-numeral n h = decimal_by_steps Numeral
    (λ k small. (rw digit-48 refl, omega arith, omega arith))
    (λ k ds big e. (
      all_digits-push ds _ e.0 (digit-48 (k % 10) (omega arith)),
      value-push 0 ds _ ∙ omega (arith, e.1),
      rw length-append (omega arith),
    ))
    n h

place-first : (ds : List ℕ) → 48 < get_or ds 0 0 → spell.value_of ds ≤ 4294967295 → is_placeholder_number ds ≡ true
unfolding spell.is_placeholder_number
place-first [] first small = absurd (omega (arith, first))
place-first (c ∷ cs) first small = grind (arith, nat_tests)

is_placeholder_number-decimal : (n : ℕ) → 0 < n → n ≤ 4294967295 → is_placeholder_number (decimal n) ≡ true
is_placeholder_number-decimal n low high =
    let e = decimal-numeral n (omega arith) in
    let v = e.1 in
    place-first (decimal n) (first_decimal n low (omega arith)) (omega (arith, v))

place-digits : (d : Dialect) (n : ℕ) (rest : List ℕ) (ts : List Token) → 0 < n → n ≤ 4294967295
    → Stops d (InPlaceholder (decimal n)) rest → Has d rest ts
    → tokens_from d (InPlaceholder (decimal n)) rest ≡ Some (Mark (Some n) ∷ ts)
place-digits d n rest ts low h stop g =
    let e = decimal-numeral n (omega arith) in
    place-ends d (decimal n) rest ts (is_placeholder_number-decimal n low h) stop g
    ∙ ap (λ v. Some (Mark (Some v) ∷ ts)) e.1

pub mark-digits : (n : ℕ) (rest : List ℕ) (ts : List Token) → 0 < n → n ≤ 4294967295
    → Stops Pg (InPlaceholder (decimal n)) rest → Has Pg rest ts
    → Has Pg (36 ∷ (decimal n ++ rest)) (Mark (Some n) ∷ ts)
mark-digits n rest ts low h stop g =
    let e = decimal-numeral n (omega arith) in
    dollar-run (decimal n) rest e.0 e.2 ∙ place-digits Pg n rest ts low h stop g

pub at-digits : (n : ℕ) (rest : List ℕ) (ts : List Token) → 0 < n → n ≤ 4294967295
    → Stops Bracket (InPlaceholder (decimal n)) rest → Has Bracket rest ts
    → Has Bracket (64 ∷ 112 ∷ (decimal n ++ rest)) (Mark (Some n) ∷ ts)
at-digits n rest ts low h stop g =
    let e = decimal-numeral n (omega arith) in
    at-run (decimal n) rest e.0 e.2 ∙ place-digits Bracket n rest ts low h stop g

pub question-mysql : (rest : List ℕ) (ts : List Token) → Has Mysql rest ts → Has Mysql (63 ∷ rest) (Mark None ∷ ts)
unfolding lex.tokens_from lex.from_extended lex.from_begun lex.put lex.extended lex.begun lex.begun_name lex.begun_placeholder spell.quote lex.ending spell.is_letter spell.is_digit
question-mysql rest ts h = whole Mysql (Mark None) rest ts h

pub question-sqlite : (rest : List ℕ) (ts : List Token) → Has Sqlite rest ts → Has Sqlite (63 ∷ rest) (Mark None ∷ ts)
unfolding lex.tokens_from lex.from_extended lex.from_begun lex.put lex.extended lex.begun lex.begun_name lex.begun_placeholder spell.quote lex.ending spell.is_letter spell.is_digit
question-sqlite rest ts h = whole Sqlite (Mark None) rest ts h

numbering-run : (d : Dialect) (acc w rest : List ℕ) → all_digits w ≡ true
    → tokens_from d (InNumber acc) (w ++ rest) ≡ tokens_from d (InNumber (acc ++ w)) rest
unfolding lex.tokens_from lex.from_extended lex.extended spell.all_digits
numbering-run d acc [] rest h = ap (λ xs. tokens_from d (InNumber xs) rest) (sym (append-nil acc))
numbering-run d acc (c ∷ cs) rest h =
    let p : is_digit c ≡ true = and_true_left (is_digit c) (all_digits cs) h in
    let q : all_digits cs ≡ true = and_true_right (is_digit c) (all_digits cs) h in
    rw p
    (numbering-run d (acc ++ c ∷ []) cs rest q
    ∙ ap (λ xs. tokens_from d (InNumber xs) rest) (append_assoc acc (c ∷ []) cs))

digit-letter : (c : ℕ) → is_digit c ≡ true → is_letter c ≡ false
unfolding spell.is_digit spell.is_letter
digit-letter c h = grind (arith, nat_tests)

-- A run of digits is one number.
pub number-ends : (d : Dialect) (w rest : List ℕ) → all_digits w ≡ true → 0 < length w → Stops d (InNumber w) rest
    → tokens_from d Between (w ++ rest) ≡ lex.put (Is (Number w)) (tokens_from d Between rest)
unfolding lex.tokens_from lex.from_extended lex.from_begun lex.put lex.extended lex.begun lex.ending spell.all_digits
number-ends d [] rest h n stop = absurd (omega arith)
number-ends d (c ∷ cs) rest h n stop =
    let p : is_digit c ≡ true = and_true_left (is_digit c) (all_digits cs) h in
    let q : all_digits cs ≡ true = and_true_right (is_digit c) (all_digits cs) h in
    let no = digit-letter c p in
    rw (no, p) (numbering-run d (c ∷ []) cs rest q ∙ ends d (InNumber (c ∷ cs)) (Number (c ∷ cs)) rest refl stop)

pub number : (d : Dialect) (w rest : List ℕ) (ts : List Token) → all_digits w ≡ true → 0 < length w
    → Stops d (InNumber w) rest → Has d rest ts → Has d (w ++ rest) (Number w ∷ ts)
unfolding lex.put
number d w rest ts h n stop g = number-ends d w rest h n stop ∙ ap (lex.put (Is (Number w))) g

-- The text that is written for a tree has the tokens of the tree.
use Rattle.std.proofs.Common.{◌≡◌, ℕ, ◌+◌, List, [], ◌∷◌, ◌++◌, Option, Some, None, Bool, true, false, refl, sym, ap, arith, codes, add-one}
use Rattle.std.specs.Fmt.{decimal}
use Rattle.sql_dialect.specs.declared.backend.Dialect.{Dialect}
use Rattle.sql_dialect.specs.declared.backend.Dialect.TheVariants.{Pg, Mysql, Sqlite, Bracket}
use Rattle.sql_grammar.specs.Token.{Comparison, Equal, NotEqual, Keyword, SELECT, DISTINCT, ON, FROM, WHERE, GROUP, BY, HAVING, ORDER, ASC, DESC, LIMIT, OFFSET, FOR, UPDATE, SHARE, NO, KEY, SKIP, LOCKED, NOWAIT, ALL, AS, ONLY, TABLESAMPLE, BERNOULLI, SYSTEM, REPEATABLE, INNER, LEFT, OUTER, JOIN, EXISTS, AND, OR, NOT, IS, NULL, COUNT, ANY, IN, ROWS, FETCH, NEXT, UNION, INTERSECT, EXCEPT, Token, Quoted, Word, Number, Sign, Open, Close, Comma, Dot, Star, Minus}
use Rattle.sql_grammar.specs.Token as token
use Rattle.sql_grammar.specs.MarkTree.{Mark, Name, Logic, And, Or, Direction, Plain, Ascending, Descending, JoinKind, Inner, LeftOuter, SetOperator, Union, Intersect, Except, Page, PageBy, FetchBy, Bernoulli, System, ForUpdate, ForNoKeyUpdate, ForShare, ForKeyShare, LockWait, Waits, SkipLocked, NoWait, Lock, Unlocked, Locks, Sample, Whole, Sampled, Places, OnlyPlace, MorePlace, MaybePlaces, NoPlaces, SomePlaces, Expression, Path, Placeholder, SingleValue, Exists, Compared, Connected, Not, NullTest, CountAll, Count, InList, InQuery, Constant, Expressions, OnlyExpression, MoreExpression, Items, OnlyItem, MoreItem, Source, Table, Alias, Join, MaybeExpression, NoExpression, SomeExpression, MaybeExpressions, NoExpressions, SomeExpressions, MaybeItems, NoItems, SomeItems, MaybeSource, NoSource, SomeSource, Distinctness, Every, Distinct, DistinctOn, Query, Select, Combined}
use Rattle.sql_grammar.specs.Numbering.{mark_of}
use Rattle.sql_grammar.specs.Fits as f
use Rattle.sql_grammar.specs.Grammar as r
use Rattle.sql_grammar.specs.Text as x
use Rattle.sql_dialect.specs.Written.{quoted, placeholder}
use Rattle.sql_grammar.specs.Spelling as spell
use Rattle.sql_grammar.specs.Spelling.{spelling}
use Rattle.sql_grammar.specs.Tokens as lex
use Rattle.sql_grammar.specs.Tokens.{State, AfterQuote, InWord, InNumber, InPlaceholder, Breaks}
use Rattle.sql_grammar.proofs.TokenLaws.{Has, Stops, not_quote, quoted-law, word-law, space, opening, closing, comma, dot, star, minus, equals, sign-law, mark-digits, at-digits, question-mysql, question-sqlite, number, decimal-numeral}

abbrev pub BreaksAt : List ℕ → Type 0
BreaksAt [] = Unit {0}
BreaksAt (c ∷ cs) = Breaks c

-- the text has these tokens, and no byte of it goes on with a name, a word or a number before it
pub record Both (d : Dialect) (text : List ℕ) (ts : List Token) : Type 0 where
  pub has : Has d text ts
  pub breaks : BreaksAt text

at-32 : Breaks 32
unfolding spell.is_letter spell.is_digit
at-32 = record { letter = refl; digit = refl; equal = refl; double = refl; back = refl; square = refl }

at-41 : Breaks 41
unfolding spell.is_letter spell.is_digit
at-41 = record { letter = refl; digit = refl; equal = refl; double = refl; back = refl; square = refl }

at-44 : Breaks 44
unfolding spell.is_letter spell.is_digit
at-44 = record { letter = refl; digit = refl; equal = refl; double = refl; back = refl; square = refl }

at-46 : Breaks 46
unfolding spell.is_letter spell.is_digit
at-46 = record { letter = refl; digit = refl; equal = refl; double = refl; back = refl; square = refl }

stops-name : (d : Dialect) (n rest : List ℕ) → BreaksAt rest → Stops d (AfterQuote n) rest
unfolding lex.extended
stops-name d n [] b = tt
stops-name d n (c ∷ cs) b = rw (not_quote d c b) refl

stops-mark : (d : Dialect) (n rest : List ℕ) → BreaksAt rest → Stops d (InPlaceholder n) rest
unfolding lex.extended
stops-mark d n [] b = tt
stops-mark d n (c ∷ cs) b = rw b.digit refl

stops-word : (d : Dialect) (n rest : List ℕ) → BreaksAt rest → Stops d (InWord n) rest
unfolding lex.extended
stops-word d n [] b = tt
stops-word d n (c ∷ cs) b = rw b.letter refl

stops-number : (d : Dialect) (n rest : List ℕ) → BreaksAt rest → Stops d (InNumber n) rest
unfolding lex.extended
stops-number d n [] b = tt
stops-number d n (c ∷ cs) b = rw b.digit refl

-- a space, a closing bracket or a comma before the rest
spaced : (d : Dialect) (rest : List ℕ) (ts : List Token) → Has d rest ts → Both d (32 ∷ rest) ts
spaced d rest ts h = record { has = space d rest ts h; breaks = at-32 }

closed : (d : Dialect) (rest : List ℕ) (ts : List Token) → Has d rest ts → Both d (41 ∷ rest) (Close ∷ ts)
closed d rest ts h = record { has = closing d rest ts h; breaks = at-41 }

separated : (d : Dialect) (rest : List ℕ) (ts : List Token) → Has d rest ts → Both d (44 ∷ 32 ∷ rest) (Comma ∷ ts)
separated d rest ts h = record { has = comma d (32 ∷ rest) ts (space d rest ts h); breaks = at-44 }

-- a word, with a space or a bracket after it, or where the text breaks
word : (d : Dialect) (k : Keyword) (rest : List ℕ) (ts : List Token) → Has d rest ts
    → Has d (spelling k ++ 32 ∷ rest) (Word k ∷ ts)
unfolding lex.extended spell.is_letter
word d k rest ts h = word-law d k (32 ∷ rest) ts refl (space d rest ts h)

word-open : (d : Dialect) (k : Keyword) (rest : List ℕ) (ts : List Token) → Has d rest ts
    → Has d (spelling k ++ 40 ∷ rest) (Word k ∷ Open ∷ ts)
unfolding lex.extended spell.is_letter
word-open d k rest ts h = word-law d k (40 ∷ rest) (Open ∷ ts) refl (opening d rest ts h)

word-end : (d : Dialect) (k : Keyword) (rest : List ℕ) (ts : List Token) → Both d rest ts
    → Has d (spelling k ++ rest) (Word k ∷ ts)
word-end d k rest ts h = word-law d k rest ts (stops-word d (spelling k) rest h.breaks) h.has

dotted : (d : Dialect) (rest : List ℕ) (ts : List Token) → Has d rest ts → Both d (46 ∷ rest) (Dot ∷ ts)
dotted d rest ts h = record { has = dot d rest ts h; breaks = at-46 }

quoted-text : (d : Dialect) (a : Name) (rest : List ℕ) (ts : List Token) → Both d rest ts
    → Has d (quoted d a ++ rest) (Quoted a ∷ ts)
quoted-text d a rest ts h = quoted-law d a rest ts (stops-name d a rest h.breaks) h.has

names-text : (d : Dialect) (a : Name) (ns : List Name) (rest : List ℕ) (ts : List Token) → Both d rest ts
    → Has d (x.names d a ns rest) (r.names a ns ts)
unfolding x.names r.names
names-text d a [] rest ts h = quoted-text d a rest ts h
names-text d a (b ∷ bs) rest ts h = quoted-text d a _ _ (dotted d _ _ (names-text d b bs rest ts h))

mark-text : (d : Dialect) (p : Mark) (rest : List ℕ) (ts : List Token) → f.FitsMark d p → Both d rest ts
    → Has d (x.mark d p rest) (token.Mark p ∷ ts)
unfolding x.mark
mark-text Pg None rest ts k h = absurd k
mark-text Pg (Some n) rest ts k h = mark-digits n rest ts k.0 k.1 (stops-mark Pg (decimal n) rest h.breaks) h.has
mark-text Mysql None rest ts k h = question-mysql rest ts h.has
mark-text Mysql (Some n) rest ts k h = absurd k
mark-text Sqlite None rest ts k h = question-sqlite rest ts h.has
mark-text Sqlite (Some n) rest ts k h = absurd k
mark-text Bracket None rest ts k h = absurd k
mark-text Bracket (Some n) rest ts k h =
    at-digits n rest ts k.0 k.1 (stops-mark Bracket (decimal n) rest h.breaks) h.has

marks-text : (d : Dialect) (p : Mark) (ps : List Mark) (rest : List ℕ) (ts : List Token) → f.FitsMark d p
    → f.FitsMarks d ps → Both d rest ts → Has d (x.marks d p ps rest) (r.marks p ps ts)
unfolding x.marks r.marks
marks-text d p [] rest ts k ks h = mark-text d p rest ts k h
marks-text d p (n ∷ ns) rest ts k ks h = mark-text d p _ _ k (separated d _ _ (marks-text d n ns rest ts ks.0 ks.1 h))

logic-text : (d : Dialect) (by : Logic) (rest : List ℕ) (ts : List Token) → Has d rest ts
    → Both d (x.logic by rest) (r.logic by ∷ ts)
unfolding x.logic r.logic spell.spelling
logic-text d And rest ts h = spaced d _ _ (word d AND rest ts h)
logic-text d Or rest ts h = spaced d _ _ (word d OR rest ts h)

direction-text : (d : Dialect) (by : Direction) (rest : List ℕ) (ts : List Token) → Both d rest ts
    → Both d (x.direction by rest) (r.direction by ts)
unfolding x.direction r.direction spell.spelling
direction-text d Plain rest ts h = h
direction-text d Ascending rest ts h = spaced d _ _ (word-end d ASC rest ts h)
direction-text d Descending rest ts h = spaced d _ _ (word-end d DESC rest ts h)

null-text : (d : Dialect) (b : Bool) (rest : List ℕ) (ts : List Token) → Has d rest ts
    → Both d (x.null_test b rest) (r.null_test b (Close ∷ ts))
unfolding x.null_test r.null_test spell.spelling
null-text d false rest ts h = spaced d _ _ (word d IS _ _ (word-end d NULL _ _ (closed d rest ts h)))
null-text d true rest ts h = spaced d _ _ (word d IS _ _ (word d NOT _ _ (word-end d NULL _ _ (closed d rest ts h))))

among-text : (d : Dialect) (b : Bool) (rest : List ℕ) (ts : List Token) → Has d rest ts
    → Both d (x.among d b rest) (r.among d b (Open ∷ ts))
unfolding x.among r.among spell.spelling spell.sign_text
among-text Pg false rest ts h = spaced Pg _ _ (sign-law Pg Equal _ _ (word-open Pg ANY rest ts h))
among-text Pg true rest ts h = spaced Pg _ _ (sign-law Pg NotEqual _ _ (word-open Pg ALL rest ts h))
among-text Mysql false rest ts h = spaced Mysql _ _ (word Mysql IN _ _ (opening Mysql rest ts h))
among-text Mysql true rest ts h = spaced Mysql _ _ (word Mysql NOT _ _ (word Mysql IN _ _ (opening Mysql rest ts h)))
among-text Bracket false rest ts h = spaced Bracket _ _ (word Bracket IN _ _ (opening Bracket rest ts h))
among-text Bracket true rest ts h =
    spaced Bracket _ _ (word Bracket NOT _ _ (word Bracket IN _ _ (opening Bracket rest ts h)))
among-text Sqlite false rest ts h = spaced Sqlite _ _ (word Sqlite IN _ _ (opening Sqlite rest ts h))
among-text Sqlite true rest ts h =
    spaced Sqlite _ _ (word Sqlite NOT _ _ (word Sqlite IN _ _ (opening Sqlite rest ts h)))

-- the constants are short enough to be read byte by byte
constant-text : (d : Dialect) (b : Bool) (rest : List ℕ) (ts : List Token) → Has d rest ts
    → Has d (x.constant b rest) (Open ∷ Number (codes "1") ∷ Sign Equal ∷ Number (r.constant b) ∷ Close ∷ ts)
unfolding x.constant r.constant lex.extended spell.is_digit spell.all_digits
constant-text d false rest ts h =
    opening d _ _
    (number d (codes "1") _ _ refl (omega arith) refl
    (equals d _ _ (number d (codes "0") _ _ refl (omega arith) refl (closing d rest ts h))))
constant-text d true rest ts h =
    opening d _ _
    (number d (codes "1") _ _ refl (omega arith) refl
    (equals d _ _ (number d (codes "1") _ _ refl (omega arith) refl (closing d rest ts h))))

kind-text : (d : Dialect) (k : JoinKind) (rest : List ℕ) (ts : List Token) → Has d rest ts
    → Both d (x.kind k rest) (r.kind k ts)
unfolding x.kind r.kind spell.spelling
kind-text d Inner rest ts h = spaced d _ _ (word d INNER _ _ (word d JOIN rest ts h))
kind-text d LeftOuter rest ts h = spaced d _ _ (word d LEFT _ _ (word d OUTER _ _ (word d JOIN rest ts h)))

seed-text : (d : Dialect) (s : Option Mark) (rest : List ℕ) (ts : List Token) → f.FitsMaybeMark d s → Both d rest ts
    → Both d (x.seed d s rest) (r.seed s ts)
unfolding x.seed r.seed spell.spelling
seed-text d None rest ts k h = h
seed-text d (Some p) rest ts k h =
    spaced d _ _ (word-open d REPEATABLE _ _ (mark-text d p _ _ k (closed d rest ts h.has)))

sample-text : (d : Dialect) (s : Sample) (rest : List ℕ) (ts : List Token) → f.FitsSample d s → Both d rest ts
    → Both d (x.sample d s rest) (r.sample s ts)
unfolding x.sample x.method r.sample r.method spell.spelling
sample-text d Whole rest ts k h = h
sample-text d (Sampled Bernoulli p s) rest ts k h =
    spaced d _ _
    (word d TABLESAMPLE _ _
    (word-open d BERNOULLI _ _ (mark-text d p _ _ k.1 (closed d _ _ (seed-text d s rest ts k.2 h).has))))
sample-text d (Sampled System p s) rest ts k h =
    spaced d _ _
    (word d TABLESAMPLE _ _
    (word-open d SYSTEM _ _ (mark-text d p _ _ k.1 (closed d _ _ (seed-text d s rest ts k.2 h).has))))

only-text : (d : Dialect) (o : Bool) (rest : List ℕ) (ts : List Token) → Has d rest ts
    → Has d (x.only o rest) (r.only o ts)
unfolding x.only r.only spell.spelling
only-text d false rest ts h = h
only-text d true rest ts h = space d _ _ (word d ONLY rest ts h)

fetch-text : (l : Mark) (rest : List ℕ) (ts : List Token) → f.FitsMark Bracket l → Both Bracket rest ts
    → Both Bracket (x.fetch Bracket l rest) (r.fetch l ts)
unfolding x.fetch r.fetch spell.spelling
fetch-text l rest ts k h =
    let last = spaced Bracket _ _ (word Bracket ROWS _ _ (word-end Bracket ONLY rest ts h)) in
    spaced Bracket _ _
    (word Bracket ROWS _ _ (word Bracket FETCH _ _ (word Bracket NEXT _ _ (mark-text Bracket l _ _ k last))))

limit-text : (d : Dialect) (l : Mark) (o : Option Mark) (rest : List ℕ) (ts : List Token) → f.FitsMark d l
    → f.FitsMaybeMark d o → f.NotBracket d → Both d rest ts
    → Both d (x.page d (PageBy (Some l) o) rest) (r.page d (PageBy (Some l) o) ts)
unfolding x.page r.page r.rows spell.spelling
limit-text d l None rest ts j k b h = spaced d _ _ (word d LIMIT _ _ (mark-text d l rest ts j h))
limit-text d l (Some o) rest ts j k b h =
    spaced d _ _ (word d LIMIT _ _ (mark-text d l _ _ j (spaced d _ _ (word d OFFSET _ _ (mark-text d o rest ts k h)))))

page-text : (d : Dialect) (p : Page) (rest : List ℕ) (ts : List Token) → f.FitsPage d p → Both d rest ts
    → Both d (x.page d p rest) (r.page d p ts)
unfolding x.page r.page r.no_limit r.rows spell.spelling lex.extended spell.is_digit spell.all_digits
page-text d (PageBy None None) rest ts k h = h
page-text Pg (PageBy None (Some o)) rest ts k h = spaced Pg _ _ (word Pg OFFSET _ _ (mark-text Pg o rest ts k h))
page-text Mysql (PageBy None (Some o)) rest ts k h =
    let offset = space Mysql _ _ (spaced Mysql _ _ (word Mysql OFFSET _ _ (mark-text Mysql o rest ts k h))).has in
    spaced Mysql _ _
    (word Mysql LIMIT _ _ (number Mysql (codes "18446744073709551615") _ _ refl (omega arith) refl offset))
page-text Sqlite (PageBy None (Some o)) rest ts k h =
    let offset = space Sqlite _ _ (spaced Sqlite _ _ (word Sqlite OFFSET _ _ (mark-text Sqlite o rest ts k h))).has in
    spaced Sqlite _ _
    (word Sqlite LIMIT _ _ (minus Sqlite _ _ (number Sqlite (codes "1") _ _ refl (omega arith) refl offset)))
page-text Bracket (PageBy None (Some o)) rest ts k h =
    spaced Bracket _ _
    (word Bracket OFFSET _ _ (mark-text Bracket o _ _ k (spaced Bracket _ _ (word-end Bracket ROWS rest ts h))))
page-text d (PageBy (Some l) o) rest ts k h = limit-text d l o rest ts k.1 k.2 k.0 h
page-text Bracket (FetchBy None l) rest ts k h =
    let fetch = fetch-text l rest ts k.2 h in
    spaced Bracket _ _
    (word Bracket OFFSET _ _
    (number Bracket (codes "0") _ _ refl (omega arith) (stops-number Bracket (codes "0") _ fetch.breaks) fetch.has))
page-text Bracket (FetchBy (Some o) l) rest ts k h =
    spaced Bracket _ _ (word Bracket OFFSET _ _ (mark-text Bracket o _ _ k.1 (fetch-text l rest ts k.2 h)))
page-text Pg (FetchBy o l) rest ts k h = absurd k.0
page-text Mysql (FetchBy o l) rest ts k h = absurd k.0
page-text Sqlite (FetchBy o l) rest ts k h = absurd k.0

wait-text : (d : Dialect) (w : LockWait) (rest : List ℕ) (ts : List Token) → Both d rest ts
    → Both d (x.wait w rest) (r.wait w ts)
unfolding x.wait r.wait spell.spelling
wait-text d Waits rest ts h = h
wait-text d SkipLocked rest ts h = spaced d _ _ (word d SKIP _ _ (word-end d LOCKED rest ts h))
wait-text d NoWait rest ts h = spaced d _ _ (word-end d NOWAIT rest ts h)

lock-text : (d : Dialect) (k : Lock) (rest : List ℕ) (ts : List Token) → Both d rest ts
    → Both d (x.lock k rest) (r.lock k ts)
unfolding x.lock x.mode r.lock r.mode spell.spelling
lock-text d Unlocked rest ts h = h
lock-text d (Locks ForUpdate w) rest ts h =
    spaced d _ _ (word d FOR _ _ (word-end d UPDATE _ _ (wait-text d w rest ts h)))
lock-text d (Locks ForNoKeyUpdate w) rest ts h =
    spaced d _ _ (word d FOR _ _ (word d NO _ _ (word d KEY _ _ (word-end d UPDATE _ _ (wait-text d w rest ts h)))))
lock-text d (Locks ForShare w) rest ts h =
    spaced d _ _ (word d FOR _ _ (word-end d SHARE _ _ (wait-text d w rest ts h)))
lock-text d (Locks ForKeyShare w) rest ts h =
    spaced d _ _ (word d FOR _ _ (word d KEY _ _ (word-end d SHARE _ _ (wait-text d w rest ts h))))

place-text : (d : Dialect) (n rest : List ℕ) (ts : List Token) → f.IsPlace n → Both d rest ts
    → Has d (n ++ rest) (Number n ∷ ts)
place-text d n rest ts k h =
    let e = decimal-numeral k.0 (omega (arith, k.1)) in
    rw k.2 (number d (decimal k.0) rest ts e.0 e.2 (stops-number d (decimal k.0) rest h.breaks) h.has)

places-text : (d : Dialect) (ps : Places) (rest : List ℕ) (ts : List Token) → f.FitsPlaces ps → Both d rest ts
    → Has d (x.places ps rest) (r.places ps ts)
unfolding x.places r.places
places-text d (OnlyPlace n by) rest ts k h = place-text d n _ _ k (direction-text d by rest ts h)
places-text d (MorePlace n by more) rest ts k h =
    place-text d n _ _ k.0 (direction-text d by _ _ (separated d _ _ (places-text d more rest ts k.1 h)))

by_places-text : (d : Dialect) (o : MaybePlaces) (rest : List ℕ) (ts : List Token) → f.FitsMaybePlaces o
    → Both d rest ts → Both d (x.by_places o rest) (r.by_places o ts)
unfolding x.by_places r.by_places spell.spelling
by_places-text d NoPlaces rest ts k h = h
by_places-text d (SomePlaces ps) rest ts k h =
    spaced d _ _ (word d ORDER _ _ (word d BY _ _ (places-text d ps rest ts k h)))

side-text : (d : Dialect) (rest : List ℕ) (ts : List Token) → Has d rest ts
    → Has d (x.side_open d rest) (r.side_open d (ts))
unfolding x.side_open r.side_open spell.spelling
side-text Pg rest ts h = opening Pg rest ts h
side-text Mysql rest ts h = opening Mysql rest ts h
side-text Bracket rest ts h = opening Bracket rest ts h
side-text Sqlite rest ts h =
    word Sqlite SELECT _ _ (star Sqlite _ _ (space Sqlite _ _ (word Sqlite FROM _ _ (opening Sqlite rest ts h))))

all-text : (d : Dialect) (b : Bool) (rest : List ℕ) (ts : List Token) → Has d rest ts
    → Has d (x.all_word b rest) (r.all_word b ts)
unfolding x.all_word r.all_word spell.spelling
all-text d false rest ts h = h
all-text d true rest ts h = word d ALL rest ts h

operator-text : (d : Dialect) (by : SetOperator) (rest : List ℕ) (ts : List Token) → Has d rest ts
    → Has d (x.operator by rest) (r.operator by ∷ ts)
unfolding x.operator r.operator spell.spelling
operator-text d Union rest ts h = space d _ _ (word d UNION rest ts h)
operator-text d Intersect rest ts h = space d _ _ (word d INTERSECT rest ts h)
operator-text d Except rest ts h = space d _ _ (word d EXCEPT rest ts h)

listed-fits : (d : Dialect) (p : Mark) (ps : List Mark) → f.FitsList d p ps → f.FitsMark d p × f.FitsMarks d ps
listed-fits Pg p ps k = (k.0, rw k.1 tt)
listed-fits Mysql p ps k = k
listed-fits Sqlite p ps k = k
listed-fits Bracket p ps k = k

outer-fits : (d : Dialect) (p : Page) → f.FitsOuterPage d p → f.FitsPage d p
outer-fits d (PageBy (Some l) o) k = k
outer-fits d (PageBy None None) k = tt
outer-fits Pg (PageBy None (Some o)) k = k
outer-fits Mysql (PageBy None (Some o)) k = absurd k
outer-fits Sqlite (PageBy None (Some o)) k = k
outer-fits Bracket (PageBy None (Some o)) k = k
outer-fits d (FetchBy o l) k = k

module _ (d : Dialect) where
  mutual
    unfolding f.FitsExpression x.expression r.expression spell.spelling

    pub expression-text : (e : Expression) (rest : List ℕ) (ts : List Token) → f.FitsExpression d e → Both d rest ts
        → Has d (x.expression d e rest) (r.expression d e ts)
    expression-text (Path a ns) rest ts k h = names-text d a ns rest ts h
    expression-text (Placeholder p) rest ts k h = mark-text d p rest ts k h
    expression-text (SingleValue q) rest ts k h = opening d _ _ (query-text q _ _ k (closed d rest ts h.has))
    expression-text (Exists q) rest ts k h =
        word d EXISTS _ _ (opening d _ _ (query-text q _ _ k (closed d rest ts h.has)))
    expression-text (Compared by a b) rest ts k h =
        opening d _ _
        (expression-text a _ _ k.0
        (spaced d _ _ (sign-law d by _ _ (expression-text b _ _ k.1 (closed d rest ts h.has)))))
    expression-text (Connected by a b) rest ts k h =
        opening d _ _
        (expression-text a _ _ k.0 (logic-text d by _ _ (expression-text b _ _ k.1 (closed d rest ts h.has))))
    expression-text (Not a) rest ts k h =
        word d NOT _ _ (opening d _ _ (expression-text a _ _ k (closed d rest ts h.has)))
    expression-text (NullTest b a) rest ts k h = opening d _ _ (expression-text a _ _ k (null-text d b rest ts h.has))
    expression-text CountAll rest ts k h = word-open d COUNT _ _ (star d _ _ (closing d rest ts h.has))
    expression-text (Count a) rest ts k h = word-open d COUNT _ _ (expression-text a _ _ k (closed d rest ts h.has))
    expression-text (InList b a p ps) rest ts k h =
        let ks = listed-fits d p ps k.1 in
        opening d _ _
        (expression-text a _ _ k.0
        (among-text d b _ _ (marks-text d p ps _ _ ks.0 ks.1 (closed d _ _ (closing d rest ts h.has)))))
    expression-text (InQuery b a q) rest ts k h =
        opening d _ _
        (expression-text a _ _ k.0
        (among-text d b _ _ (query-text q _ _ k.1 (closed d _ _ (closing d rest ts h.has)))))
    expression-text (Constant b) rest ts k h = constant-text d b rest ts h.has

    pub expressions-text : (es : Expressions) (rest : List ℕ) (ts : List Token) → f.FitsExpressions d es
        → Both d rest ts → Has d (x.expressions d es rest) (r.expressions d es ts)
    expressions-text (OnlyExpression a) rest ts k h = expression-text a rest ts k h
    expressions-text (MoreExpression a more) rest ts k h =
        expression-text a _ _ k.0 (separated d _ _ (expressions-text more rest ts k.1 h))

    pub items-text : (is : Items) (rest : List ℕ) (ts : List Token) → f.FitsItems d is → Both d rest ts
        → Has d (x.items d is rest) (r.items d is ts)
    items-text (OnlyItem a by) rest ts k h = expression-text a _ _ k (direction-text d by rest ts h)
    items-text (MoreItem a by more) rest ts k h =
        expression-text a _ _ k.0 (direction-text d by _ _ (separated d _ _ (items-text more rest ts k.1 h)))

    pub source-text : (s : Source) (rest : List ℕ) (ts : List Token) → f.FitsSource d s → Both d rest ts
        → Has d (x.source d s rest) (r.source d s ts)
    source-text (Table a ns o s) rest ts k h = only-text d o _ _ (names-text d a ns _ _ (sample-text d s rest ts k.2 h))
    source-text (Alias a ns b) rest ts k h =
        names-text d a ns _ _ (spaced d _ _ (word d AS _ _ (quoted-text d b rest ts h)))
    source-text (Join k a b e) rest ts j h =
        opening d _ _
        (source-text a _ _ j.0
        (kind-text d k _ _
        (source-text b _ _ j.1
        (spaced d _ _ (word d ON _ _ (expression-text e _ _ j.2 (closed d rest ts h.has)))))))

    pub from-text : (s : MaybeSource) (rest : List ℕ) (ts : List Token) → f.FitsMaybeSource d s → Both d rest ts
        → Both d (x.from d s rest) (r.from d s ts)
    from-text NoSource rest ts k h = h
    from-text (SomeSource s) rest ts k h = spaced d _ _ (word d FROM _ _ (source-text s rest ts k h))

    pub where-text : (e : MaybeExpression) (rest : List ℕ) (ts : List Token) → f.FitsMaybeExpression d e
        → Both d rest ts → Both d (x.where_by d e rest) (r.where_by d e ts)
    where-text NoExpression rest ts k h = h
    where-text (SomeExpression e) rest ts k h = spaced d _ _ (word d WHERE _ _ (expression-text e rest ts k h))

    pub group-text : (es : MaybeExpressions) (rest : List ℕ) (ts : List Token) → f.FitsMaybeExpressions d es
        → Both d rest ts → Both d (x.group_by d es rest) (r.group_by d es ts)
    group-text NoExpressions rest ts k h = h
    group-text (SomeExpressions es) rest ts k h =
        spaced d _ _ (word d GROUP _ _ (word d BY _ _ (expressions-text es rest ts k h)))

    pub having-text : (e : MaybeExpression) (rest : List ℕ) (ts : List Token) → f.FitsMaybeExpression d e
        → Both d rest ts → Both d (x.having_by d e rest) (r.having_by d e ts)
    having-text NoExpression rest ts k h = h
    having-text (SomeExpression e) rest ts k h = spaced d _ _ (word d HAVING _ _ (expression-text e rest ts k h))

    pub order-text : (is : MaybeItems) (rest : List ℕ) (ts : List Token) → f.FitsMaybeItems d is → Both d rest ts
        → Both d (x.order_by d is rest) (r.order_by d is ts)
    order-text NoItems rest ts k h = h
    order-text (SomeItems is) rest ts k h = spaced d _ _ (word d ORDER _ _ (word d BY _ _ (items-text is rest ts k h)))

    pub distinct-text : (u : Distinctness) (rest : List ℕ) (ts : List Token) → f.FitsDistinctness d u → Has d rest ts
        → Has d (x.distinct d u rest) (r.distinct d u ts)
    distinct-text Every rest ts k h = h
    distinct-text Distinct rest ts k h = word d DISTINCT rest ts h
    distinct-text (DistinctOn es) rest ts k h =
        word d DISTINCT _ _
        (word d ON _ _ (opening d _ _ (expressions-text es _ _ k.1 (closed d _ _ (space d rest ts h)))))

    pub query-text : (q : Query) (rest : List ℕ) (ts : List Token) → f.FitsQuery d q → Both d rest ts
        → Has d (x.query d q rest) (r.query d q ts)
    query-text (Select u es f' w g h o p z) rest ts j b =
        word d SELECT _ _
        (distinct-text u _ _ j.0
        (expressions-text es _ _ j.1 (from-text f' _ _ j.2 (where-text w _ _ j.3 (group-text g _ _ j.4
        (having-text h _ _ j.5 (order-text o _ _ j.6 (page-text d p _ _ j.7 (lock-text d z rest ts b)))))))))
    query-text (Combined a by all c o p) rest ts j b =
        let outer = outer-fits d p j.4 in
        side-text d _ _
        (query-text a _ _ j.0
        (closed d _ _ (operator-text d by _ _ (all-text d all _ _ (side-text d _ _ (query-text c _ _ j.2
        (closed d _ _ (by_places-text d o _ _ j.3 (page-text d p rest ts outer b)).has)))))))

-- What is written for a tree is read as that tree.
pub written : (d : Dialect) (q : Query) → f.FitsQuery d q
    → (ts : List Token) × (lex.tokens d (x.text d q) ≡ Some ts) × r.Reads d ts q
unfolding lex.tokens_from lex.put lex.ending x.text
written d q k = (r.query d q [], query-text d q [] [] k (record { has = refl; breaks = tt }), (k, refl))

-- The placeholder after n others is written as a builder writes it.
pub mark-placeholder : (d : Dialect) (n : ℕ) (rest : List ℕ) → x.mark d (mark_of d n) rest ≡ placeholder d (n + 1) ++ rest
unfolding x.mark
mark-placeholder Pg n rest = ap (λ k. 36 ∷ (decimal k ++ rest)) (sym (add-one n))
mark-placeholder Mysql n rest = refl
mark-placeholder Sqlite n rest = refl
mark-placeholder Bracket n rest = ap (λ k. 64 ∷ 112 ∷ (decimal k ++ rest)) (sym (add-one n))

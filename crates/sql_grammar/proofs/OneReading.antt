-- The machine gives back the tree that the tokens were put together from.
use Rattle.std.proofs.Common.{◌≡◌, ◌≤◌, List, [], ◌∷◌, Option, Some, None, Bool, true, false, refl, ap, ◌∙◌, lit≤, arith, codes}
use Rattle.sql_dialect.specs.declared.backend.Dialect.{Dialect}
use Rattle.sql_dialect.specs.declared.backend.Dialect.TheVariants.{Pg, Mysql, Sqlite, Bracket}
use Rattle.sql_grammar.specs.Token.{Keyword, SELECT, DISTINCT, ON, FROM, WHERE, GROUP, BY, HAVING, ORDER, LIMIT, OFFSET, ONLY, ROWS, FETCH, NEXT, FOR, ALL, EXISTS, NOT, COUNT, Comparison, Equal, Token, Quoted, Word, Number, Sign, Open, Close, Comma, Dot, Star, Minus}
use Rattle.sql_grammar.specs.Token as token
use Rattle.sql_grammar.specs.MarkTree.{Mark, Logic, And, Or, Plain, SetOperator, Union, Intersect, Except, LockMode, ForUpdate, ForNoKeyUpdate, ForShare, ForKeyShare, LockWait, Waits, SkipLocked, NoWait, Lock, Unlocked, Locks, Page, PageBy, FetchBy, MaybePlaces, NoPlaces, SomePlaces, Expression, Path, Placeholder, SingleValue, Exists, Compared, Connected, Not, NullTest, CountAll, Count, InList, InQuery, Constant, Expressions, OnlyExpression, MoreExpression, Items, OnlyItem, MoreItem, Source, Table, Alias, Join, MaybeExpression, NoExpression, SomeExpression, MaybeExpressions, NoExpressions, SomeExpressions, MaybeItems, NoItems, SomeItems, MaybeSource, NoSource, SomeSource, Distinctness, Every, Distinct, DistinctOn, Query, Select, Combined}
use Rattle.sql_grammar.specs.Grammar as r
use Rattle.sql_grammar.proofs.Machine as m
use Rattle.sql_grammar.proofs.Machine.{Item, Raw, E, Q, Listed, Row, Right, S, OnExpression, Waiting, Locking, Rest, Compares, Joins, IsNull, IsIn, IsInQuery, JoinsTo, Clauses, empty, Tail, Combines, Side, Stack, top, fold, tail_of}
use Rattle.sql_grammar.proofs.Parts.{grouped-free, wait-free, names-law, behind, plain, expressions-back, items-back, direction-law, direction-calm, listed-calm, comma-items, row-items, push_direction, marked, marks-law, more_marks-back, first_mark-back, places-back, places-law, push_source, from-push, open-push, kind-law, table-law, alias-law}

-- After the tokens come these clauses, and then this stack. A list or a source may end before them.
pub record Ready (rest : List Token) (t : Clauses) (σ : Stack) : Type 0 where
  pub tail : tail_of (fold rest) ≡ (t, σ)
  pub calm : 4 ≤ top (fold rest)

-- a query may end here
abbrev pub Ends : List Token → Type 0
Ends rest = Ready rest empty (fold rest)

pub ready : {t : Clauses} {σ : Stack} (u : List Token) → fold u ≡ Tail t ∷ σ → Ready u t σ
unfolding m.tail_of m.top m.rank
ready u e = record { tail = ap tail_of e; calm = rw e (lit≤ tt) }

pub ends-empty : Ends []
unfolding m.fold m.tail_of m.top m.rank
ends-empty = record { tail = refl; calm = lit≤ tt }

pub ends-close : (rest : List Token) → Ends (Close ∷ rest)
unfolding m.fold m.step m.tail_of m.top m.rank
ends-close rest = record { tail = refl; calm = lit≤ tt }

-- clauses without recursion
wait-law : (w : LockWait) (rest : List Token) → 4 ≤ top (fold rest) → m.wait_of (fold (r.wait w rest)) ≡ (w, fold rest)
unfolding m.fold m.step m.word m.skip m.wait_of r.wait
wait-law Waits rest h = wait-free (fold rest) h
wait-law SkipLocked rest h = refl
wait-law NoWait rest h = refl

put_mode : LockMode → LockWait × Stack → Stack
put_mode by (w, σ) = Locking by w ∷ σ

mode-law : (by : LockMode) (u : List Token) → fold (r.mode by u) ≡ put_mode by (m.wait_of (fold u))
unfolding m.fold m.step m.word m.key m.key_mode m.locking r.mode put_mode
mode-law ForUpdate u = refl
mode-law ForNoKeyUpdate u = refl
mode-law ForShare u = refl
mode-law ForKeyShare u = refl

pub lock-law : (l : Lock) (rest : List Token) → Ends rest
    → Ready (r.lock l rest) (record empty { lock = l }) (fold rest)
unfolding m.fold m.step m.word m.lock_by r.lock put_mode
lock-law Unlocked rest h = h
lock-law (Locks by w) rest h =
    ready _ (ap m.lock_by (mode-law by (r.wait w rest) ∙ ap (put_mode by) (wait-law w rest h.calm))
    ∙ ap (λ (c : Clauses × Stack). Tail (record c.0 { lock = Locks by w }) ∷ c.1) h.tail)

no_limit-law : (d : Dialect) (u : List Token) → fold (r.no_limit d u) ≡ fold u
unfolding m.fold m.step m.word m.limit_by m.limit_token r.no_limit
no_limit-law Pg u = refl
no_limit-law Mysql u = refl
no_limit-law Sqlite u = refl
no_limit-law Bracket u = refl

offset-free : (o : Mark) (σ : Stack) → 4 ≤ top σ → m.offset_of o σ ≡ m.put_page (PageBy None (Some o)) (tail_of σ)
unfolding m.offset_of m.top m.rank
offset-free o [] h = refl
offset-free o (m.Fetches l ∷ σ) h = absurd (omega arith)
offset-free o (x ∷ σ) h = refl

rows-free : (σ : Stack) → 4 ≤ top σ → m.rows σ ≡ σ
unfolding m.rows m.top m.rank
rows-free [] h = refl
rows-free (m.OnlyLast ∷ σ) h = absurd (omega arith)
rows-free (x ∷ σ) h = refl

only-free : (σ : Stack) → 4 ≤ top σ → m.only σ ≡ m.OnlyLast ∷ σ
unfolding m.only m.top m.rank
only-free [] h = refl
only-free (E e ∷ σ) h = absurd (omega arith)
only-free (x ∷ σ) h = refl

rows-law : (d : Dialect) (rest : List Token) → 4 ≤ top (fold rest) → fold (r.rows d rest) ≡ fold rest
unfolding m.fold m.step m.word r.rows
rows-law Pg rest h = refl
rows-law Mysql rest h = refl
rows-law Sqlite rest h = refl
rows-law Bracket rest h = rows-free (fold rest) h

offset-law : (d : Dialect) (t : Clauses) (o : Mark) (rest : List Token) (σ : Stack) → Ready rest t σ
    → fold (Word OFFSET ∷ token.Mark o ∷ r.rows d rest) ≡ Tail (record t { page = PageBy None (Some o) }) ∷ σ
unfolding m.fold m.step m.word m.offset_by m.mark_in m.put_page
offset-law d t o rest σ h =
    ap (m.offset_of o) (rows-law d rest h.calm) ∙ offset-free o (fold rest) h.calm
    ∙ ap (m.put_page (PageBy None (Some o))) h.tail

limit-law : (t : Clauses) (l : Mark) (o : Option Mark) (rest : List Token) (σ : Stack)
    → Ready rest (record t { page = PageBy None o }) σ
    → fold (Word LIMIT ∷ token.Mark l ∷ rest) ≡ Tail (record t { page = PageBy (Some l) o }) ∷ σ
unfolding m.fold m.step m.word m.limit_by m.mark_in m.put_limit m.offset_in
limit-law t l o rest σ h = ap (m.put_limit l) h.tail

fetch-law : (l : Mark) (rest : List Token) → 4 ≤ top (fold rest) → fold (r.fetch l rest) ≡ m.Fetches l ∷ fold rest
unfolding m.fold m.step m.word m.rows m.fetch m.mark_in r.fetch
fetch-law l rest h = ap (λ τ. m.rows (m.fetch (E (Placeholder l) ∷ m.rows τ))) (only-free (fold rest) h)

pub page-law : (d : Dialect) (t : Clauses) (p : Page) (rest : List Token) (σ : Stack)
    → Ready rest (record t { page = PageBy None None }) σ → Ready (r.page d p rest) (record t { page = p }) σ
unfolding r.page m.fold m.step m.word m.offset_by m.offset_of m.no_offset m.mark_in m.put_page r.rows
page-law d t (PageBy None None) rest σ h = h
page-law d t (PageBy None (Some o)) rest σ h = ready _ (no_limit-law d _ ∙ offset-law d _ o rest σ h)
page-law d t (PageBy (Some l) None) rest σ h = ready _ (limit-law t l None rest σ h)
page-law d t (PageBy (Some l) (Some o)) rest σ h =
    let u = Word OFFSET ∷ token.Mark o ∷ rest in
    ready _ (limit-law t l (Some o) u σ (ready u (offset-law Pg _ o rest σ h)))
page-law d t (FetchBy None l) rest σ h =
    ready _ (ap m.no_offset (fetch-law l rest h.calm) ∙ ap (m.put_page (FetchBy None l)) h.tail)
page-law d t (FetchBy (Some o) l) rest σ h =
    ready _ (ap (m.offset_of o) (fetch-law l rest h.calm) ∙ ap (m.put_page (FetchBy (Some o) l)) h.tail)

pub by_places-law : (t : Clauses) (o : MaybePlaces) (rest : List Token) (σ : Stack)
    → Ready rest (record t { places = NoPlaces }) σ → Ready (r.by_places o rest) (record t { places = o }) σ
unfolding m.fold m.step m.word m.order_by m.order_token m.put_places r.by_places
by_places-law t NoPlaces rest σ h = h
by_places-law t (SomePlaces ps) rest σ h =
    ready _ (ap m.order_by (places-law ps rest (omega (arith, h.calm)))
    ∙ ap m.put_places (places-back ps (fold rest) (omega (arith, h.calm)))
    ∙ ap (λ (c : Clauses × Stack). Tail (record c.0 { places = SomePlaces ps }) ∷ c.1) h.tail)

-- sides of a combination
unfoldable pub side_of : Dialect → Stack → Stack
side_of Pg σ = σ
side_of Mysql σ = σ
side_of Bracket σ = σ
side_of Sqlite σ = m.select (Raw Star ∷ m.from σ)

pub side-law : (d : Dialect) (q : Query) (rest : List Token)
    → fold (r.query d q (Close ∷ rest)) ≡ Q q ∷ Raw Close ∷ fold rest
    → fold (r.side_open d (r.query d q (Close ∷ rest))) ≡ side_of d (m.grouped q (fold rest))
unfolding m.fold m.step m.word m.open_bracket m.open_query r.side_open side_of
side-law Pg q rest h = ap m.open_bracket h
side-law Mysql q rest h = ap m.open_bracket h
side-law Bracket q rest h = ap m.open_bracket h
side-law Sqlite q rest h = ap (λ σ. m.select (Raw Star ∷ m.from (m.open_bracket σ))) h

side-query : (d : Dialect) (q : Query) (σ : Stack) → side_of d (Q q ∷ σ) ≡ Q q ∷ σ
unfolding m.select m.select_star m.from side_of
side-query Pg q σ = refl
side-query Mysql q σ = refl
side-query Sqlite q σ = refl
side-query Bracket q σ = refl

combines-law : (by : SetOperator) (u : List Token) → fold (r.operator by ∷ u) ≡ m.combines by (fold u)
unfolding m.fold m.step m.word r.operator
combines-law Union u = refl
combines-law Intersect u = refl
combines-law Except u = refl

all-law : (d : Dialect) (by : SetOperator) (all : Bool) (q : Query) (u : List Token) (σ : Stack)
    → fold u ≡ side_of d (E (SingleValue q) ∷ σ) → m.combines by (fold (r.all_word all u)) ≡ Combines by all q ∷ σ
unfolding m.fold m.step m.word m.combines m.all_or_not m.select m.select_star m.from m.from_expression r.all_word side_of
all-law Pg by false q u σ h = ap (m.combines by) h
all-law Pg by true q u σ h = ap (λ τ. m.combines by (Raw (Word ALL) ∷ τ)) h
all-law Mysql by false q u σ h = ap (m.combines by) h
all-law Bracket by false q u σ h = ap (m.combines by) h
all-law Mysql by true q u σ h = ap (λ τ. m.combines by (Raw (Word ALL) ∷ τ)) h
all-law Bracket by true q u σ h = ap (λ τ. m.combines by (Raw (Word ALL) ∷ τ)) h
all-law Sqlite by false q u σ h = ap (m.combines by) h
all-law Sqlite by true q u σ h = ap (λ τ. m.combines by (Raw (Word ALL) ∷ τ)) h

combined-law : (q : Query) (by : SetOperator) (all : Bool) (b : Query) (t : Clauses) (σ τ : Stack) → tail_of τ ≡ (t, σ)
    → m.grouped q (Combines by all b ∷ τ) ≡ Q (Combined q by all b t.places t.page) ∷ σ
unfolding m.grouped m.combined
combined-law q by all b t σ τ h = ap (m.combined q by all b) h

-- right parts of brackets
null-law : (b : Bool) (rest : List Token) → fold (r.null_test b (Close ∷ rest)) ≡ Right (IsNull b) ∷ fold rest
unfolding m.fold m.step m.word m.null m.not_of m.negate r.null_test
null-law false rest = refl
null-law true rest = refl

logic-law : (by : Logic) (b : Expression) (u : List Token) (σ : Stack) → fold u ≡ E b ∷ Raw Close ∷ σ
    → fold (r.logic by ∷ u) ≡ Right (Joins by b) ∷ σ
unfolding m.fold m.step m.word m.joins r.logic
logic-law And b u σ h = ap (m.joins And) h
logic-law Or b u σ h = ap (m.joins Or) h

among-row : (d : Dialect) (b : Bool) (is : Items) (u : List Token) (σ : Stack) → fold u ≡ Row is ∷ Raw Close ∷ σ
    → fold (r.among d b u) ≡ Right (IsIn b is) ∷ σ
unfolding m.fold m.step m.word m.sign m.sign_token m.in_row m.negated m.not_of m.negate r.among
among-row Pg false is u σ h = ap (m.in_row false) h
among-row Pg true is u σ h = ap (m.in_row true) h
among-row Mysql false is u σ h = ap (m.in_row false) h
among-row Bracket false is u σ h = ap (m.in_row false) h
among-row Mysql true is u σ h = ap (λ τ. m.not_of (m.in_row false τ)) h
among-row Bracket true is u σ h = ap (λ τ. m.not_of (m.in_row false τ)) h
among-row Sqlite false is u σ h = ap (m.in_row false) h
among-row Sqlite true is u σ h = ap (λ τ. m.not_of (m.in_row false τ)) h

among-query : (d : Dialect) (b : Bool) (q : Query) (u : List Token) (σ : Stack)
    → fold u ≡ E (SingleValue q) ∷ Raw Close ∷ σ → fold (r.among d b u) ≡ Right (IsInQuery b q) ∷ σ
unfolding m.fold m.step m.word m.sign m.sign_token m.in_row m.in_query m.query_in m.negated m.not_of m.negate r.among
among-query Pg false q u σ h = ap (m.in_row false) h
among-query Pg true q u σ h = ap (m.in_row true) h
among-query Mysql false q u σ h = ap (m.in_row false) h
among-query Bracket false q u σ h = ap (m.in_row false) h
among-query Mysql true q u σ h = ap (λ τ. m.not_of (m.in_row false τ)) h
among-query Bracket true q u σ h = ap (λ τ. m.not_of (m.in_row false τ)) h
among-query Sqlite false q u σ h = ap (m.in_row false) h
among-query Sqlite true q u σ h = ap (λ τ. m.not_of (m.in_row false τ)) h

constant-law : (b : Bool) (rest : List Token) → m.constant_of (r.constant b) ≡ b
unfolding m.constant_of r.constant
constant-law false rest = refl
constant-law true rest = refl

-- a query in brackets
group-law : (q : Query) (rest : List Token) (u : List Token) → fold u ≡ Q q ∷ Raw Close ∷ fold rest
    → 1 ≤ top (fold rest) → fold (Open ∷ u) ≡ E (SingleValue q) ∷ fold rest
unfolding m.fold m.step m.open_bracket m.open_query
group-law q rest u h c = ap m.open_bracket h ∙ grouped-free q (fold rest) c

-- what is proved of each expression and of each source
ExpressionLaw : Dialect → Expression → Type 0
ExpressionLaw d e = (rest : List Token) → 1 ≤ top (fold rest) → fold (r.expression d e rest) ≡ E e ∷ fold rest

right-calm : (x : Rest) (σ : Stack) → 1 ≤ top (Right x ∷ σ)
unfolding m.top m.rank
right-calm x σ = lit≤ tt

pub close-calm : (rest : List Token) → 4 ≤ top (fold (Close ∷ rest))
unfolding m.fold m.step m.top m.rank
close-calm rest = lit≤ tt

-- a bracket whose right part is known
bracket : (d : Dialect) (a : Expression) (u : List Token) (x : Rest) (σ : Stack) → ExpressionLaw d a
    → fold u ≡ Right x ∷ σ → fold (Open ∷ r.expression d a u) ≡ m.complete a x ∷ σ
unfolding m.fold m.step m.open_bracket m.open_expression ExpressionLaw
bracket d a u x σ law h = ap m.open_bracket (law u (rw h (right-calm x σ)) ∙ ap (λ τ. E a ∷ τ) h)

-- an expression in brackets
inside : (d : Dialect) (a : Expression) (rest : List Token) → ExpressionLaw d a
    → fold (Open ∷ r.expression d a (Close ∷ rest)) ≡ Row (OnlyItem a Plain) ∷ fold rest
unfolding m.fold m.step m.open_bracket m.open_expression ExpressionLaw
inside d a rest law = ap m.open_bracket (law (Close ∷ rest) (omega (arith, close-calm rest)))

-- clauses, where what they hold is known
where-law : (t : Clauses) (e : Expression) (u rest : List Token) (σ : Stack)
    → Ready rest (record t { filter = NoExpression }) σ → fold u ≡ E e ∷ fold rest
    → Ready (Word WHERE ∷ u) (record t { filter = SomeExpression e }) σ
unfolding m.fold m.step m.word m.where_by
where-law t e u rest σ h g =
    ready _
    (ap m.where_by g ∙ ap (λ (c : Clauses × Stack). Tail (record c.0 { filter = SomeExpression e }) ∷ c.1) h.tail)

having-law : (t : Clauses) (e : Expression) (u rest : List Token) (σ : Stack)
    → Ready rest (record t { having = NoExpression }) σ → fold u ≡ E e ∷ fold rest
    → Ready (Word HAVING ∷ u) (record t { having = SomeExpression e }) σ
unfolding m.fold m.step m.word m.having_by
having-law t e u rest σ h g =
    ready _
    (ap m.having_by g ∙ ap (λ (c : Clauses × Stack). Tail (record c.0 { having = SomeExpression e }) ∷ c.1) h.tail)

group-by-law : (t : Clauses) (es : Expressions) (u rest : List Token) (σ : Stack)
    → Ready rest (record t { group = NoExpressions }) σ
    → fold u ≡ E (m.first (plain es)) ∷ behind (plain es) (fold rest)
    → Ready (Word GROUP ∷ Word BY ∷ u) (record t { group = SomeExpressions es }) σ
unfolding m.fold m.step m.word m.group_by m.put_group
group-by-law t es u rest σ h g =
    ready _ (ap m.group_by g ∙ ap m.put_group (items-back (plain es) (fold rest) (omega (arith, h.calm)))
    ∙ ap (λ (c : Clauses × Stack). Tail (record c.0 { group = SomeExpressions (m.expressions_of (plain es)) }) ∷ c.1)
    h.tail
    ∙ ap (λ xs. Tail (record t { group = SomeExpressions xs }) ∷ σ) (expressions-back es))

order-law : (t : Clauses) (is : Items) (u rest : List Token) (σ : Stack) → Ready rest (record t { order = NoItems }) σ
    → fold u ≡ E (m.first is) ∷ behind is (fold rest)
    → Ready (Word ORDER ∷ Word BY ∷ u) (record t { order = SomeItems is }) σ
unfolding m.fold m.step m.word m.order_by m.put_order
order-law t is u rest σ h g =
    ready _ (ap m.order_by g ∙ ap m.put_order (items-back is (fold rest) (omega (arith, h.calm)))
    ∙ ap (λ (c : Clauses × Stack). Tail (record c.0 { order = SomeItems is }) ∷ c.1) h.tail)

from-law : (t : Clauses) (s : Source) (u rest : List Token) (σ : Stack) → Ready rest (record t { source = NoSource }) σ
    → fold u ≡ push_source s (fold rest) → Ready (Word FROM ∷ u) (record t { source = SomeSource s }) σ
unfolding m.fold m.step m.word m.from_source
from-law t s u rest σ h g =
    ready _ (ap m.from g ∙ from-push s (fold rest) h.calm
    ∙ ap (λ (c : Clauses × Stack). Tail (record c.0 { source = SomeSource s }) ∷ c.1) h.tail)

-- a selection
pub on-law : (es : Expressions) (u rest : List Token)
    → fold u ≡ E (m.first (plain es)) ∷ behind (plain es) (fold (Close ∷ rest))
    → fold (Word DISTINCT ∷ Word ON ∷ Open ∷ u) ≡ m.Distinctly (DistinctOn es) ∷ fold rest
unfolding m.fold m.step m.word m.on m.distinctly
on-law es u rest h =
    ap (λ σ. m.distinctly (m.on (m.open_bracket σ))) h ∙ ap (λ σ. m.distinctly (m.on σ)) (row-items es (fold rest))
    ∙ ap (λ xs. m.Distinctly (DistinctOn xs) ∷ fold rest) (expressions-back es)

plain-distinct : (e : Expression) (σ : Stack) (u : List Token) → fold u ≡ E e ∷ σ
    → fold (Word DISTINCT ∷ u) ≡ m.Distinctly Distinct ∷ E e ∷ σ
unfolding m.fold m.step m.word m.distinctly
plain-distinct e σ u h = ap m.distinctly h

select-items : (u : Distinctness) (es : Expressions) (t : Clauses) (σ τ : Stack) → 3 ≤ top τ → tail_of τ ≡ (t, σ) →
    m.select_from u (E (m.first (plain es)) ∷ behind (plain es) τ)
    ≡ Q (Select u es t.source t.filter t.group t.having t.order t.page t.lock) ∷ σ
unfolding m.select_from m.select_list
select-items u es t σ τ c h =
    ap (m.select_list u) (items-back (plain es) τ c)
    ∙ ap
    (λ (x : Clauses × Stack). Q (Select u (m.expressions_of (plain es)) x.0.source x.0.filter x.0.group x.0.having
    x.0.order x.0.page x.0.lock)
    ∷ x.1)
    h
    ∙ ap (λ xs. Q (Select u xs t.source t.filter t.group t.having t.order t.page t.lock) ∷ σ)
    (expressions-back es)

select-distinct : (u : Distinctness) (e : Expression) (σ : Stack) (v : List Token) → fold v ≡ m.Distinctly u ∷ E e ∷ σ
    → fold (Word SELECT ∷ v) ≡ m.select_from u (E e ∷ σ)
unfolding m.fold m.step m.word m.select
select-distinct u e σ v h = ap m.select h

select-every : (e : Expression) (σ : Stack) (v : List Token) → fold v ≡ E e ∷ σ
    → fold (Word SELECT ∷ v) ≡ m.select_from Every (E e ∷ σ)
unfolding m.fold m.step m.word m.select
select-every e σ v h = ap m.select h

exists-law : (q : Query) (u rest : List Token) → fold u ≡ E (SingleValue q) ∷ fold rest
    → fold (Word EXISTS ∷ u) ≡ E (Exists q) ∷ fold rest
unfolding m.fold m.step m.word m.exists m.exists_item m.query_in
exists-law q u rest h = ap m.exists h

not-law : (a : Expression) (u rest : List Token) → fold u ≡ Row (OnlyItem a Plain) ∷ fold rest
    → fold (Word NOT ∷ u) ≡ E (Not a) ∷ fold rest
unfolding m.fold m.step m.word m.not_of m.first
not-law a u rest h = ap m.not_of h

count-law : (a : Expression) (u rest : List Token) → fold u ≡ Row (OnlyItem a Plain) ∷ fold rest
    → fold (Word COUNT ∷ u) ≡ E (Count a) ∷ fold rest
unfolding m.fold m.step m.word m.count m.first
count-law a u rest h = ap m.count h

sign-law : (by : Comparison) (b : Expression) (u rest : List Token) → fold u ≡ E b ∷ fold (Close ∷ rest)
    → fold (Sign by ∷ u) ≡ Right (Compares by b) ∷ fold rest
unfolding m.fold m.step m.sign
sign-law by b u rest h = ap (m.sign by) h

count_all-law : (rest : List Token) → fold (Word COUNT ∷ Open ∷ Star ∷ Close ∷ rest) ≡ E CountAll ∷ fold rest
unfolding m.fold m.step m.word m.count m.open_bracket m.open_token
count_all-law rest = refl

constant-bracket : (b : Bool) (rest : List Token)
    → fold (Open ∷ Number (codes "1") ∷ Sign Equal ∷ Number (r.constant b) ∷ Close ∷ rest) ≡ E (Constant b) ∷ fold rest
unfolding m.fold m.step m.sign m.sign_token m.open_bracket m.open_token m.open_number
constant-bracket b rest = ap (λ x. E (Constant x) ∷ fold rest) (constant-law b rest)

marks-row : (p : Mark) (ps : List Mark) (rest : List Token)
    → fold (Open ∷ r.marks p ps (Close ∷ rest)) ≡ Row (plain (marked p ps)) ∷ fold rest
unfolding m.fold m.step
marks-row p ps rest =
    ap m.open_bracket (marks-law p ps (Close ∷ rest) (omega (arith, close-calm rest)))
    ∙ row-items (marked p ps) (fold rest)

among_marks-back : (b : Bool) (a : Expression) (p : Mark) (ps : List Mark) (σ : Stack)
    → m.complete a (IsIn b (plain (marked p ps))) ∷ σ ≡ E (InList b a p ps) ∷ σ
unfolding m.complete
among_marks-back b a p ps σ = rw (first_mark-back, more_marks-back) refl

joined : (a : Expression) (by : Logic) (b : Expression) (σ : Stack)
    → m.complete a (Joins by b) ∷ σ ≡ E (Connected by a b) ∷ σ
unfolding m.complete
joined a by b σ = refl

comma-law : (is : Items) (u rest : List Token) → 3 ≤ top (fold rest) → fold u ≡ E (m.first is) ∷ behind is (fold rest)
    → fold (Comma ∷ u) ≡ Listed is ∷ fold rest
unfolding m.fold m.step
comma-law is u rest c h = ap m.comma h ∙ comma-items is (fold rest) c

on_expression-law : (e : Expression) (u rest : List Token) → fold u ≡ E e ∷ fold (Close ∷ rest)
    → fold (Word ON ∷ u) ≡ OnExpression e ∷ fold rest
unfolding m.fold m.step m.word m.on
on_expression-law e u rest h = ap m.on h

on_expression-calm : (e : Expression) (σ : Stack) → 4 ≤ top (OnExpression e ∷ σ)
unfolding m.top m.rank
on_expression-calm e σ = lit≤ tt

right-calm-4 : (x : Rest) (σ : Stack) → 4 ≤ top (Right x ∷ σ)
unfolding m.top m.rank
right-calm-4 x σ = lit≤ tt

open-law : (u : List Token) → fold (Open ∷ u) ≡ m.open_bracket (fold u)
unfolding m.fold m.step
open-law u = refl

mark-law : (p : Mark) (rest : List Token) → fold (token.Mark p ∷ rest) ≡ E (Placeholder p) ∷ fold rest
unfolding m.fold m.step
mark-law p rest = refl

module _ (d : Dialect) where
  mutual
    unfolding r.expression m.complete ExpressionLaw behind plain m.fold m.step m.first push_direction

    pub expression-law : (e : Expression) (rest : List Token) → 1 ≤ top (fold rest)
        → fold (r.expression d e rest) ≡ E e ∷ fold rest
    expression-law (Path a ns) rest h = names-law a ns rest h
    expression-law (Placeholder p) rest h = mark-law p rest
    expression-law (SingleValue q) rest h = group-law q rest _ (query-law q (Close ∷ rest) (ends-close rest)) h
    expression-law (Exists q) rest h =
        exists-law q (Open ∷ r.query d q (Close ∷ rest)) rest
        (group-law q rest _ (query-law q (Close ∷ rest) (ends-close rest)) h)
    expression-law (Compared by a b) rest h =
        bracket d a _ (Compares by b) (fold rest) (expression-law a)
        (sign-law by b _ rest (expression-law b (Close ∷ rest) (omega (arith, close-calm rest))))
    expression-law (Connected by a b) rest h =
        bracket d a _ (Joins by b) (fold rest) (expression-law a)
        (logic-law by b _ (fold rest) (expression-law b (Close ∷ rest) (omega (arith, close-calm rest))))
    expression-law (Not a) rest h =
        not-law a (Open ∷ r.expression d a (Close ∷ rest)) rest (inside d a rest (expression-law a))
    expression-law (NullTest b a) rest h = bracket d a _ (IsNull b) (fold rest) (expression-law a) (null-law b rest)
    expression-law CountAll rest h = count_all-law rest
    expression-law (Count a) rest h =
        count-law a (Open ∷ r.expression d a (Close ∷ rest)) rest (inside d a rest (expression-law a))
    expression-law (InList b a p ps) rest h =
        bracket d a _ (IsIn b (plain (marked p ps))) (fold rest) (expression-law a)
        (among-row d b (plain (marked p ps)) _ (fold rest) (marks-row p ps (Close ∷ rest)))
        ∙ among_marks-back b a p ps (fold rest)
    expression-law (InQuery b a q) rest h =
        bracket d a _ (IsInQuery b q) (fold rest) (expression-law a) (among-query d b q _ (fold rest)
        (group-law q (Close ∷ rest) _ (query-law q (Close ∷ Close ∷ rest) (ends-close (Close ∷ rest)))
        (omega (arith, close-calm rest))))
    expression-law (Constant b) rest h = constant-bracket b rest

    pub expressions-law : (es : Expressions) (rest : List Token) → 3 ≤ top (fold rest)
        → fold (r.expressions d es rest) ≡ E (m.first (plain es)) ∷ behind (plain es) (fold rest)
    expressions-law (OnlyExpression e) rest h = expression-law e rest (omega (arith, h))
    expressions-law (MoreExpression e more) rest h =
        let c = comma-law (plain more) _ rest h (expressions-law more rest h) in
        expression-law e _ (rw c (omega (arith, listed-calm (plain more) (fold rest)))) ∙ ap (λ σ. E e ∷ σ) c

    pub items-law : (is : Items) (rest : List Token) → 3 ≤ top (fold rest)
        → fold (r.items d is rest) ≡ E (m.first is) ∷ behind is (fold rest)
    items-law (OnlyItem e by) rest h =
        let g = direction-law by rest in
        expression-law e _ (rw g (direction-calm by (fold rest) (omega (arith, h)))) ∙ ap (λ σ. E e ∷ σ) g
    items-law (MoreItem e by more) rest h =
        let c = comma-law more _ rest h (items-law more rest h) in
        let g : fold (r.direction by (Comma ∷ r.items d more rest)) ≡ push_direction by (Listed more ∷ fold rest) =
        direction-law by _ ∙ ap (push_direction by) c in
        expression-law e _ (rw g (direction-calm by _ (listed-calm more (fold rest)))) ∙ ap (λ σ. E e ∷ σ) g

    pub source-law : (s : Source) (rest : List Token) → 4 ≤ top (fold rest)
        → fold (r.source d s rest) ≡ push_source s (fold rest)
    source-law (Table a ns o s) rest h = table-law a ns o s rest h
    source-law (Alias a ns b) rest h = alias-law a ns b rest h
    source-law (Join k a b e) rest h =
        let e1 = on_expression-law e _ rest (expression-law e (Close ∷ rest) (omega (arith, close-calm rest))) in
        let e2 = source-law b _ (rw e1 (on_expression-calm e (fold rest))) ∙ ap (push_source b) e1 in
        let e3 = kind-law k b e _ (fold rest) e2 in
        open-law _
        ∙ ap m.open_bracket
        (source-law a _ (rw e3 (right-calm-4 (JoinsTo k b e) (fold rest))) ∙ ap (push_source a) e3)
        ∙ open-push k a b e (fold rest)

    pub from-ready : (s : MaybeSource) (t : Clauses) (rest : List Token) (σ : Stack)
        → Ready rest (record t { source = NoSource }) σ → Ready (r.from d s rest) (record t { source = s }) σ
    from-ready NoSource t rest σ h = h
    from-ready (SomeSource s) t rest σ h = from-law t s _ rest σ h (source-law s rest h.calm)

    pub where-ready : (e : MaybeExpression) (t : Clauses) (rest : List Token) (σ : Stack)
        → Ready rest (record t { filter = NoExpression }) σ → Ready (r.where_by d e rest) (record t { filter = e }) σ
    where-ready NoExpression t rest σ h = h
    where-ready (SomeExpression e) t rest σ h = where-law t e _ rest σ h (expression-law e rest (omega (arith, h.calm)))

    pub group-ready : (es : MaybeExpressions) (t : Clauses) (rest : List Token) (σ : Stack)
        → Ready rest (record t { group = NoExpressions }) σ → Ready (r.group_by d es rest) (record t { group = es }) σ
    group-ready NoExpressions t rest σ h = h
    group-ready (SomeExpressions es) t rest σ h =
        group-by-law t es _ rest σ h (expressions-law es rest (omega (arith, h.calm)))

    pub having-ready : (e : MaybeExpression) (t : Clauses) (rest : List Token) (σ : Stack)
        → Ready rest (record t { having = NoExpression }) σ → Ready (r.having_by d e rest) (record t { having = e }) σ
    having-ready NoExpression t rest σ h = h
    having-ready (SomeExpression e) t rest σ h =
        having-law t e _ rest σ h (expression-law e rest (omega (arith, h.calm)))

    pub order-ready : (is : MaybeItems) (t : Clauses) (rest : List Token) (σ : Stack)
        → Ready rest (record t { order = NoItems }) σ → Ready (r.order_by d is rest) (record t { order = is }) σ
    order-ready NoItems t rest σ h = h
    order-ready (SomeItems is) t rest σ h = order-law t is _ rest σ h (items-law is rest (omega (arith, h.calm)))

    pub selection-law : (u : Distinctness) (e : Expression) (σ : Stack) (v : List Token) → fold v ≡ E e ∷ σ
        → fold (Word SELECT ∷ r.distinct d u v) ≡ m.select_from u (E e ∷ σ)
    selection-law Every e σ v h = select-every e σ v h
    selection-law Distinct e σ v h = select-distinct Distinct e σ (Word DISTINCT ∷ v) (plain-distinct e σ v h)
    selection-law (DistinctOn es) e σ v h =
        select-distinct (DistinctOn es) e σ (Word DISTINCT ∷ Word ON ∷ Open ∷ r.expressions d es (Close ∷ v))
        (on-law es _ v (expressions-law es (Close ∷ v) (omega (arith, close-calm v)))
        ∙ ap (λ τ. m.Distinctly (DistinctOn es) ∷ τ) h)

    pub query-law : (q : Query) (rest : List Token) → Ends rest → fold (r.query d q rest) ≡ Q q ∷ fold rest
    query-law (Select u es f w g h o p x) rest ends =
        let σ = fold rest in
        let t1 = lock-law x rest ends in
        let t2 = page-law d (record empty { lock = x }) p _ σ t1 in
        let t3 = order-ready o (record empty { lock = x; page = p }) _ σ t2 in
        let t4 = having-ready h (record empty { lock = x; page = p; order = o }) _ σ t3 in
        let t5 = group-ready g (record empty { lock = x; page = p; order = o; having = h }) _ σ t4 in
        let t6 =
        where-ready w (record empty { lock = x; page = p; order = o; having = h; group = g }) _ σ t5 in
        let t7 =
        from-ready f
        (record empty { lock = x; page = p; order = o; having = h; group = g; filter = w }) _ σ
        t6 in
        selection-law u (m.first (plain es)) _ _ (expressions-law es _ (omega (arith, t7.calm)))
        ∙ select-items u es _ σ _ (omega (arith, t7.calm)) t7.tail
    query-law (Combined a by all b o p) rest ends =
        let σ = fold rest in
        let t1 = page-law d empty p rest σ ends in
        let t2 = by_places-law (record empty { page = p }) o _ σ t1 in
        let c1 =
        side-law d b _ (query-law b (Close ∷ _) (ends-close _))
        ∙ ap (side_of d) (grouped-free b _ (omega (arith, t2.calm))) in
        let c2 = combines-law by _ ∙ all-law d by all b _ _ c1 in
        side-law d a _ (query-law a (Close ∷ _) (ends-close _)) ∙ ap (λ τ. side_of d (m.grouped a τ)) c2
        ∙ ap (side_of d) (combined-law a by all b _ σ _ t2.tail) ∙ side-query d _ σ

pub empty-calm : 4 ≤ top (fold [])
unfolding m.fold m.top
empty-calm = lit≤ tt

-- Where there is a reading, the machine finds it.
pub found : (d : Dialect) (tokens : List Token) (q : Query) → r.Reads d tokens q → m.candidate tokens ≡ Some q
unfolding m.candidate m.candidate_of m.fold
found d tokens q h = ap (λ ts. m.candidate_of (fold ts)) h.1 ∙ ap m.candidate_of (query-law d q [] ends-empty)

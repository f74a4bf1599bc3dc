-- The tokens of a tree close each bracket that they open, and have no word that the grammar lacks.
use Rattle.std.proofs.Common.{◌≡◌, ℕ, suc, List, [], ◌∷◌, Option, Some, None, Bool, true, false, refl, sym, ap, ◌∙◌}
use Rattle.sql_dialect.specs.declared.backend.Dialect.{Dialect}
use Rattle.sql_dialect.specs.declared.backend.Dialect.TheVariants.{Pg, Mysql, Sqlite, Bracket}
use Rattle.sql_grammar.specs.Token.{Token, Word, Mark, Sign, Open, Close, Comma, OFFSET}
use Rattle.sql_grammar.specs.Tokens.{tokens}
use Rattle.sql_grammar.specs.Grammar as r
use Rattle.sql_grammar.specs.Grammar.{Front}
use Rattle.sql_grammar.specs.MarkTree as t
use Rattle.sql_grammar.specs.MarkTree.{Name, Logic, And, Or, Direction, Plain, Ascending, Descending, JoinKind, Inner, LeftOuter, SampleMethod, Bernoulli, System, SetOperator, Union, Intersect, Except, LockMode, ForUpdate, ForNoKeyUpdate, ForShare, ForKeyShare, LockWait, Waits, SkipLocked, NoWait, Lock, Unlocked, Locks, Sample, Whole, Sampled, Page, PageBy, FetchBy, Places, OnlyPlace, MorePlace, MaybePlaces, NoPlaces, SomePlaces, Expression, Path, Placeholder, SingleValue, Exists, Compared, Connected, Not, NullTest, CountAll, Count, InList, InQuery, Constant, Expressions, OnlyExpression, MoreExpression, Items, OnlyItem, MoreItem, Source, Table, Alias, Join, MaybeExpression, NoExpression, SomeExpression, MaybeExpressions, NoExpressions, SomeExpressions, MaybeItems, NoItems, SomeItems, MaybeSource, NoSource, SomeSource, Distinctness, Every, Distinct, DistinctOn, Query, Select, Combined}
use Rattle.sql_grammar.specs.Reading.{IsReading}
use Rattle.sql_read.specs.inside.Closed.{closed}

-- as many brackets are open after it as before it
abbrev Calm : Front → Type 0
Calm f = (rest : List Token) (n : ℕ) → closed (f rest) n ≡ closed rest n

names-calm : (a : Name) (ns : List Name) → Calm (r.names a ns)
unfolding r.names
names-calm a [] rest n = refl
names-calm a (b ∷ bs) rest n = names-calm b bs rest n

marks-calm : (m : t.Mark) (ms : List t.Mark) → Calm (r.marks m ms)
unfolding r.marks
marks-calm m [] rest n = refl
marks-calm m (k ∷ ks) rest n = marks-calm k ks rest n

logic-calm : (by : Logic) → Calm (λ rest. r.logic by ∷ rest)
unfolding r.logic
logic-calm And rest n = refl
logic-calm Or rest n = refl

direction-calm : (by : Direction) → Calm (r.direction by)
unfolding r.direction
direction-calm Plain rest n = refl
direction-calm Ascending rest n = refl
direction-calm Descending rest n = refl

null_test-calm : (negated : Bool) → Calm (r.null_test negated)
unfolding r.null_test
null_test-calm false rest n = refl
null_test-calm true rest n = refl

among-calm : (d : Dialect) (negated : Bool) → Calm (r.among d negated)
unfolding r.among
among-calm Pg false rest n = refl
among-calm Pg true rest n = refl
among-calm Mysql false rest n = refl
among-calm Mysql true rest n = refl
among-calm Sqlite false rest n = refl
among-calm Sqlite true rest n = refl
among-calm Bracket false rest n = refl
among-calm Bracket true rest n = refl

kind-calm : (k : JoinKind) → Calm (r.kind k)
unfolding r.kind
kind-calm Inner rest n = refl
kind-calm LeftOuter rest n = refl

method-calm : (by : SampleMethod) → Calm (λ rest. r.method by ∷ rest)
unfolding r.method
method-calm Bernoulli rest n = refl
method-calm System rest n = refl

only-calm : (o : Bool) → Calm (r.only o)
unfolding r.only
only-calm false rest n = refl
only-calm true rest n = refl

seed-calm : (s : Option t.Mark) → Calm (r.seed s)
unfolding r.seed
seed-calm None rest n = refl
seed-calm (Some m) rest n = refl

sample-calm : (s : Sample) → Calm (r.sample s)
unfolding r.sample
sample-calm Whole rest n = refl
sample-calm (Sampled by m s) rest n =
    method-calm by (Open ∷ Mark m ∷ Close ∷ r.seed s rest) n ∙ seed-calm s rest n

no_limit-calm : (d : Dialect) → Calm (r.no_limit d)
unfolding r.no_limit
no_limit-calm Pg rest n = refl
no_limit-calm Mysql rest n = refl
no_limit-calm Sqlite rest n = refl
no_limit-calm Bracket rest n = refl

rows-calm : (d : Dialect) → Calm (r.rows d)
unfolding r.rows
rows-calm Pg rest n = refl
rows-calm Mysql rest n = refl
rows-calm Sqlite rest n = refl
rows-calm Bracket rest n = refl

page-calm : (d : Dialect) (p : Page) → Calm (r.page d p)
unfolding r.page r.fetch
page-calm d (PageBy None None) rest n = refl
page-calm d (PageBy None (Some o)) rest n =
    no_limit-calm d (Word OFFSET ∷ Mark o ∷ r.rows d rest) n ∙ rows-calm d rest n
page-calm d (PageBy (Some l) None) rest n = refl
page-calm d (PageBy (Some l) (Some o)) rest n = refl
page-calm d (FetchBy None l) rest n = refl
page-calm d (FetchBy (Some o) l) rest n = refl

mode-calm : (m : LockMode) → Calm (r.mode m)
unfolding r.mode
mode-calm ForUpdate rest n = refl
mode-calm ForNoKeyUpdate rest n = refl
mode-calm ForShare rest n = refl
mode-calm ForKeyShare rest n = refl

wait-calm : (w : LockWait) → Calm (r.wait w)
unfolding r.wait
wait-calm Waits rest n = refl
wait-calm SkipLocked rest n = refl
wait-calm NoWait rest n = refl

lock-calm : (l : Lock) → Calm (r.lock l)
unfolding r.lock
lock-calm Unlocked rest n = refl
lock-calm (Locks m w) rest n = mode-calm m (r.wait w rest) n ∙ wait-calm w rest n

operator-calm : (by : SetOperator) → Calm (λ rest. r.operator by ∷ rest)
unfolding r.operator
operator-calm Union rest n = refl
operator-calm Intersect rest n = refl
operator-calm Except rest n = refl

all_word-calm : (all : Bool) → Calm (r.all_word all)
unfolding r.all_word
all_word-calm false rest n = refl
all_word-calm true rest n = refl

-- the side of a combination begins with a bracket
side-open : (d : Dialect) (rest : List Token) (n : ℕ) → closed (r.side_open d rest) n ≡ closed rest (suc n)
unfolding r.side_open
side-open Pg rest n = refl
side-open Mysql rest n = refl
side-open Bracket rest n = refl
side-open Sqlite rest n = refl

places-calm : (ps : Places) → Calm (r.places ps)
unfolding r.places
places-calm (OnlyPlace k by) rest n = direction-calm by rest n
places-calm (MorePlace k by more) rest n =
    direction-calm by (Comma ∷ r.places more rest) n ∙ places-calm more rest n

by_places-calm : (ps : MaybePlaces) → Calm (r.by_places ps)
unfolding r.by_places
by_places-calm NoPlaces rest n = refl
by_places-calm (SomePlaces ps) rest n = places-calm ps rest n

module _ (d : Dialect) where
  mutual
    unfolding r.expression r.expressions r.items r.source r.from r.where_by r.group_by r.having_by r.order_by r.distinct r.query

    expression-calm : (e : Expression) → Calm (r.expression d e)
    expression-calm (Path a ns) rest n = names-calm a ns rest n
    expression-calm (Placeholder m) rest n = refl
    expression-calm (SingleValue q) rest n = query-calm q (Close ∷ rest) (suc n)
    expression-calm (Exists q) rest n = query-calm q (Close ∷ rest) (suc n)
    expression-calm (Compared by a b) rest n =
        expression-calm a (Sign by ∷ r.expression d b (Close ∷ rest)) (suc n) ∙ expression-calm b (Close ∷ rest) (suc n)
    expression-calm (Connected by a b) rest n =
        expression-calm a (r.logic by ∷ r.expression d b (Close ∷ rest)) (suc n)
        ∙ logic-calm by (r.expression d b (Close ∷ rest)) (suc n)
        ∙ expression-calm b (Close ∷ rest) (suc n)
    expression-calm (Not a) rest n = expression-calm a (Close ∷ rest) (suc n)
    expression-calm (NullTest negated a) rest n =
        expression-calm a (r.null_test negated (Close ∷ rest)) (suc n) ∙ null_test-calm negated (Close ∷ rest) (suc n)
    expression-calm CountAll rest n = refl
    expression-calm (Count a) rest n = expression-calm a (Close ∷ rest) (suc n)
    expression-calm (InList negated a m ms) rest n =
        let list = Open ∷ r.marks m ms (Close ∷ Close ∷ rest) in
        expression-calm a (r.among d negated list) (suc n)
        ∙ among-calm d negated list (suc n)
        ∙ marks-calm m ms (Close ∷ Close ∷ rest) (suc (suc n))
    expression-calm (InQuery negated a q) rest n =
        let list = Open ∷ r.query d q (Close ∷ Close ∷ rest) in
        expression-calm a (r.among d negated list) (suc n)
        ∙ among-calm d negated list (suc n)
        ∙ query-calm q (Close ∷ Close ∷ rest) (suc (suc n))
    expression-calm (Constant b) rest n = refl

    expressions-calm : (es : Expressions) → Calm (r.expressions d es)
    expressions-calm (OnlyExpression a) rest n = expression-calm a rest n
    expressions-calm (MoreExpression a more) rest n =
        expression-calm a (Comma ∷ r.expressions d more rest) n ∙ expressions-calm more rest n

    items-calm : (is : Items) → Calm (r.items d is)
    items-calm (OnlyItem a by) rest n = expression-calm a (r.direction by rest) n ∙ direction-calm by rest n
    items-calm (MoreItem a by more) rest n =
        let others = Comma ∷ r.items d more rest in
        expression-calm a (r.direction by others) n ∙ direction-calm by others n ∙ items-calm more rest n

    source-calm : (s : Source) → Calm (r.source d s)
    source-calm (Table a ns o s) rest n =
        only-calm o (r.names a ns (r.sample s rest)) n ∙ names-calm a ns (r.sample s rest) n ∙ sample-calm s rest n
    source-calm (Alias a ns b) rest n = names-calm a ns _ n
    source-calm (Join k a b on) rest n =
        let right = r.source d b _ in
        source-calm a (r.kind k right) (suc n) ∙ kind-calm k right (suc n) ∙ source-calm b _ (suc n)
        ∙ expression-calm on (Close ∷ rest) (suc n)

    from-calm : (s : MaybeSource) → Calm (r.from d s)
    from-calm NoSource rest n = refl
    from-calm (SomeSource s) rest n = source-calm s rest n

    where_by-calm : (e : MaybeExpression) → Calm (r.where_by d e)
    where_by-calm NoExpression rest n = refl
    where_by-calm (SomeExpression e) rest n = expression-calm e rest n

    group_by-calm : (es : MaybeExpressions) → Calm (r.group_by d es)
    group_by-calm NoExpressions rest n = refl
    group_by-calm (SomeExpressions es) rest n = expressions-calm es rest n

    having_by-calm : (e : MaybeExpression) → Calm (r.having_by d e)
    having_by-calm NoExpression rest n = refl
    having_by-calm (SomeExpression e) rest n = expression-calm e rest n

    order_by-calm : (is : MaybeItems) → Calm (r.order_by d is)
    order_by-calm NoItems rest n = refl
    order_by-calm (SomeItems is) rest n = items-calm is rest n

    distinct-calm : (u : Distinctness) → Calm (r.distinct d u)
    distinct-calm Every rest n = refl
    distinct-calm Distinct rest n = refl
    distinct-calm (DistinctOn es) rest n = expressions-calm es (Close ∷ rest) (suc n)

    pub query-calm : (q : Query) → Calm (r.query d q)
    query-calm (Select u es f w g h o p l) rest n =
        let u8 = r.lock l rest in
        let u7 = r.page d p u8 in
        let u6 = r.order_by d o u7 in
        let u5 = r.having_by d h u6 in
        let u4 = r.group_by d g u5 in
        let u3 = r.where_by d w u4 in
        let u2 = r.from d f u3 in
        distinct-calm u (r.expressions d es u2) n ∙ expressions-calm es u2 n ∙ from-calm f u3 n ∙ where_by-calm w u4 n
        ∙ group_by-calm g u5 n ∙ having_by-calm h u6 n ∙ order_by-calm o u7 n ∙ page-calm d p u8 n ∙ lock-calm l rest n
    query-calm (Combined a by all b o p) rest n =
        let u4 = r.page d p rest in
        let u3 = r.by_places o u4 in
        let u2 = r.query d b (Close ∷ u3) in
        let u1 = r.all_word all (r.side_open d u2) in
        side-open d (r.query d a (Close ∷ r.operator by ∷ u1)) n
        ∙ query-calm a (Close ∷ r.operator by ∷ u1) (suc n)
        ∙ operator-calm by u1 n ∙ all_word-calm all (r.side_open d u2) n ∙ side-open d u2 n
        ∙ query-calm b (Close ∷ u3) (suc n) ∙ by_places-calm o u4 n ∙ page-calm d p rest n

some_back : {A : Type 0} {a b : A} → Some a ≡ Some b → a ≡ b
some_back e = cc

not_both : (b : Bool) → b ≡ false → b ≡ true → ⊥
not_both b p q = cc

-- a text whose tokens leave a bracket open, or close one that is not, or have another word has no reading
pub not_closed : (d : Dialect) (text : List ℕ) (ts : List Token) → tokens d text ≡ Some ts → closed ts 0 ≡ false
    → (q : Query) → IsReading d text q → ⊥
not_closed d text ts e left q h =
    let same : h.0 ≡ ts = some_back (sym h.1 ∙ e) in
    not_both (closed ts 0) left (ap (λ us. closed us 0) (sym same ∙ h.2.1) ∙ query-calm d q [] 0)

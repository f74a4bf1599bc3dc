-- Each kind of tree is had back from its tokens, so no tokens are those of two trees of a kind.
use Rattle.std.proofs.Common.{◌≡◌, ℕ, ◌≤◌, List, [], ◌∷◌, Option, Some, None, Bool, true, false, refl, sym, ap, ◌∙◌, arith}
use Rattle.sql_dialect.specs.declared.backend.Dialect.{Dialect}
use Rattle.sql_dialect.specs.declared.backend.Dialect.TheVariants.{Pg, Mysql, Sqlite, Bracket}
use Rattle.sql_grammar.specs.Token.{UPDATE, SHARE, NO, SKIP, UNION, INTERSECT, ASC, BERNOULLI, INNER, AND, Comparison, Equal, Token, Word, Number, Sign, Close}
use Rattle.sql_grammar.specs.MarkTree.{Mark, Name, Logic, And, Or, Direction, Plain, Ascending, Descending, JoinKind, Inner, LeftOuter, SampleMethod, Bernoulli, System, SetOperator, Union, Intersect, Except, LockMode, ForUpdate, ForNoKeyUpdate, ForShare, ForKeyShare, LockWait, Waits, SkipLocked, NoWait, Lock, Sample, Whole, Sampled, Page, Places, OnlyPlace, MorePlace, MaybePlaces, Expression, SingleValue, Expressions, Items, OnlyItem, MoreItem, Source, MaybeExpression, MaybeExpressions, MaybeItems, MaybeSource, Distinctness, Every, Distinct, DistinctOn, Query}
use Rattle.sql_grammar.specs.Grammar as r
use Rattle.sql_grammar.specs.Kinds as kind
use Rattle.sql_grammar.specs.Kinds.{Kind, TreeOf, ReadsAs, production}
use Rattle.sql_grammar.proofs.Machine as m
use Rattle.sql_grammar.proofs.Machine.{E, Raw, Side, Distinctly, SampledBy, Clauses, empty, Stack, fold, tail_of, top}
use Rattle.sql_grammar.proofs.Parts.{names-law, plain, expressions-back, items-back, marked, marks-law, more_marks-back, first_mark-back, behind, places-back, places-law, sample-law, source-back, grouped-free}
use Rattle.sql_grammar.proofs.OneReading.{Ready, ends-empty, ends-close, empty-calm, side_of, side-law, on-law, close-calm, lock-law, page-law, by_places-law, query-law, expression-law, expressions-law, items-law, source-law, from-ready, where-ready, group-ready, having-ready, order-ready}

-- ## The tree that tokens come to

-- words alone
operator_in : List Token → SetOperator × Bool
operator_in (Word UNION ∷ []) = (Union, false)
operator_in (Word UNION ∷ ts) = (Union, true)
operator_in (Word INTERSECT ∷ []) = (Intersect, false)
operator_in (Word INTERSECT ∷ ts) = (Intersect, true)
operator_in (t ∷ []) = (Except, false)
operator_in ts = (Except, true)

comparison_in : List Token → Comparison
comparison_in (Sign by ∷ ts) = by
comparison_in ts = Equal

logic_in : List Token → Logic
logic_in (Word AND ∷ ts) = And
logic_in ts = Or

join_kind_in : List Token → JoinKind
join_kind_in (Word INNER ∷ ts) = Inner
join_kind_in ts = LeftOuter

method_in : List Token → SampleMethod
method_in (Word BERNOULLI ∷ ts) = Bernoulli
method_in ts = System

direction_in : List Token → Direction
direction_in [] = Plain
direction_in (Word ASC ∷ ts) = Ascending
direction_in ts = Descending

mode_in : List Token → LockMode
mode_in (Word UPDATE ∷ ts) = ForUpdate
mode_in (Word NO ∷ ts) = ForNoKeyUpdate
mode_in (Word SHARE ∷ ts) = ForShare
mode_in ts = ForKeyShare

wait_in : List Token → LockWait
wait_in [] = Waits
wait_in (Word SKIP ∷ ts) = SkipLocked
wait_in ts = NoWait

-- by the machine
side_in : Stack → Option Query
side_in (Side q ∷ σ) = Some q
side_in (E e ∷ σ) = m.query_in e
side_in σ = None

distinct_in : Stack → Distinctness
distinct_in (Distinctly u ∷ σ) = u
distinct_in σ = Every

sample_in : Stack → Sample
sample_in (SampledBy s ∷ σ) = s
sample_in σ = Whole

expression_in : Stack → Option Expression
expression_in (E e ∷ σ) = Some e
expression_in σ = None

name_in : Stack → Option (Name × List Name)
name_in (E e ∷ σ) = Some (m.name_in e, m.names_in e)
name_in σ = None

items_in : Stack → Option Items
items_in (E e ∷ σ) = Some (m.items_of e σ).0
items_in σ = None

first_item : Items → Expression × Direction
first_item (OnlyItem a by) = (a, by)
first_item (MoreItem a by more) = (a, by)

marks_in : Items → Mark × List Mark
marks_in is = (m.mark_in (m.first is), m.more_marks is)

places_in : Stack → Option Places
places_in (Raw (Number n) ∷ σ) = Some (m.places_of n σ).0
places_in σ = None

first_place_of : Places → List ℕ × Direction
first_place_of (OnlyPlace n by) = (n, by)
first_place_of (MorePlace n by more) = (n, by)

clauses_in : List Token → Clauses
clauses_in ts = (tail_of (fold ts)).0

mapped : {A B : Type 0} → (A → B) → Option A → Option B
mapped f None = None
mapped f (Some x) = Some (f x)

tree_in : (k : Kind) → List Token → Option (TreeOf k)
tree_in kind.Query ts = m.candidate ts
tree_in kind.Side ts = side_in (fold ts)
tree_in kind.Operator ts = Some (operator_in ts)
tree_in kind.Distinct ts = Some (distinct_in (fold ts))
tree_in kind.Expression ts = expression_in (fold ts)
tree_in kind.Expressions ts = mapped m.expressions_of (items_in (fold ts))
tree_in kind.Placeholders ts = mapped marks_in (items_in (fold ts))
tree_in kind.Comparison ts = Some (comparison_in ts)
tree_in kind.Logic ts = Some (logic_in ts)
tree_in kind.Source ts = Some (m.source_of (fold ts)).0
tree_in kind.Name ts = name_in (fold ts)
tree_in kind.JoinKind ts = Some (join_kind_in ts)
tree_in kind.Sample ts = Some (sample_in (fold ts))
tree_in kind.SampleMethod ts = Some (method_in ts)
tree_in kind.From ts = Some (clauses_in ts).source
tree_in kind.Where ts = Some (clauses_in ts).filter
tree_in kind.GroupBy ts = Some (clauses_in ts).group
tree_in kind.Having ts = Some (clauses_in ts).having
tree_in kind.OrderBy ts = Some (clauses_in ts).order
tree_in kind.Item ts = mapped first_item (items_in (fold ts))
tree_in kind.Items ts = items_in (fold ts)
tree_in kind.Direction ts = Some (direction_in ts)
tree_in kind.Place ts = mapped first_place_of (places_in (fold ts))
tree_in kind.Places ts = places_in (fold ts)
tree_in kind.OrderByPlaces ts = Some (clauses_in ts).places
tree_in kind.Page ts = Some (clauses_in ts).page
tree_in kind.OuterPage ts = Some (clauses_in ts).page
tree_in kind.Lock ts = Some (clauses_in ts).lock
tree_in kind.LockMode ts = Some (mode_in ts)
tree_in kind.LockWait ts = Some (wait_in ts)

-- ## It is the tree that the tokens were put together from

calm-1 : 1 ≤ top (fold [])
calm-1 = omega (arith, empty-calm)

calm-3 : 3 ≤ top (fold [])
calm-3 = omega (arith, empty-calm)

operator-back : (o : SetOperator × Bool) → operator_in (kind.operator o []) ≡ o
unfolding operator_in r.operator r.all_word
operator-back (Union, false) = refl
operator-back (Union, true) = refl
operator-back (Intersect, false) = refl
operator-back (Intersect, true) = refl
operator-back (Except, false) = refl
operator-back (Except, true) = refl

logic-back : (by : Logic) → logic_in (r.logic by ∷ []) ≡ by
unfolding logic_in r.logic
logic-back And = refl
logic-back Or = refl

join_kind-back : (k : JoinKind) → join_kind_in (r.kind k []) ≡ k
unfolding join_kind_in r.kind
join_kind-back Inner = refl
join_kind-back LeftOuter = refl

method-back : (by : SampleMethod) → method_in (r.method by ∷ []) ≡ by
unfolding method_in r.method
method-back Bernoulli = refl
method-back System = refl

direction-back : (by : Direction) → direction_in (r.direction by []) ≡ by
unfolding direction_in r.direction
direction-back Plain = refl
direction-back Ascending = refl
direction-back Descending = refl

mode-back : (by : LockMode) → mode_in (r.mode by []) ≡ by
unfolding mode_in r.mode
mode-back ForUpdate = refl
mode-back ForNoKeyUpdate = refl
mode-back ForShare = refl
mode-back ForKeyShare = refl

wait-back : (w : LockWait) → wait_in (r.wait w []) ≡ w
unfolding wait_in r.wait
wait-back Waits = refl
wait-back SkipLocked = refl
wait-back NoWait = refl

query-back : (d : Dialect) (q : Query) → m.candidate (r.query d q []) ≡ Some q
unfolding m.candidate m.candidate_of m.fold
query-back d q = ap m.candidate_of (query-law d q [] ends-empty)

side-in : (d : Dialect) (q : Query) (σ : Stack) → side_in (side_of d (E (SingleValue q) ∷ σ)) ≡ Some q
unfolding side_in side_of m.query_in m.select m.select_star m.from m.from_expression
side-in Pg q σ = refl
side-in Mysql q σ = refl
side-in Sqlite q σ = refl
side-in Bracket q σ = refl

side-back : (d : Dialect) (q : Query) → side_in (fold (kind.side d q [])) ≡ Some q
unfolding m.fold m.step
side-back d q =
    ap side_in
    (side-law d q [] (query-law d q (Close ∷ []) (ends-close []))
    ∙ ap (side_of d) (grouped-free q (fold []) calm-1))
    ∙ side-in d q (fold [])

distinct-back : (d : Dialect) (u : Distinctness) → distinct_in (fold (r.distinct d u [])) ≡ u
unfolding distinct_in r.distinct m.fold m.step m.word m.distinctly
distinct-back d Every = refl
distinct-back d Distinct = refl
distinct-back d (DistinctOn es) =
    ap distinct_in (on-law es (r.expressions d es (Close ∷ [])) [] (expressions-law d es (Close ∷ []) (omega (arith, close-calm []))))

sample-back : (s : Sample) → sample_in (fold (r.sample s [])) ≡ s
unfolding sample_in r.sample m.fold
sample-back Whole = refl
sample-back (Sampled by p s) = ap sample_in (sample-law by p s [] empty-calm)

expression-back : (d : Dialect) (a : Expression) → expression_in (fold (r.expression d a [])) ≡ Some a
unfolding expression_in
expression-back d a = ap expression_in (expression-law d a [] calm-1)

name-back : (ns : Name × List Name) → name_in (fold (r.names ns.0 ns.1 [])) ≡ Some ns
unfolding name_in m.name_in m.names_in
name-back (a, ns) = ap name_in (names-law a ns [] calm-1)

items-after : (is : Items) (u : List Token) → fold u ≡ E (m.first is) ∷ behind is (fold [])
    → items_in (fold u) ≡ Some is
unfolding items_in
items-after is u h =
    ap items_in h ∙ ap (λ (x : Items × Stack). Some x.0) (items-back is (fold []) calm-3)

all_items-back : (d : Dialect) (is : Items) → items_in (fold (r.items d is [])) ≡ Some is
all_items-back d is = items-after is _ (items-law d is [] calm-3)

list-back : (d : Dialect) (es : Expressions)
    → mapped m.expressions_of (items_in (fold (r.expressions d es []))) ≡ Some es
unfolding mapped
list-back d es =
    ap (mapped m.expressions_of) (items-after (plain es) _ (expressions-law d es [] calm-3))
    ∙ ap Some (expressions-back es)

marks-back : (ms : Mark × List Mark) → mapped marks_in (items_in (fold (r.marks ms.0 ms.1 []))) ≡ Some ms
unfolding mapped marks_in
marks-back (p, ps) =
    ap (mapped marks_in) (items-after (plain (marked p ps)) _ (marks-law p ps [] calm-3))
    ∙ rw (first_mark-back, more_marks-back) refl

item-back : (d : Dialect) (i : Expression × Direction) → mapped first_item (items_in (fold (kind.item d i []))) ≡ Some i
unfolding mapped first_item r.items
item-back d (a, by) = ap (mapped first_item) (all_items-back d (OnlyItem a by))

all_places-back : (ps : Places) → places_in (fold (r.places ps [])) ≡ Some ps
unfolding places_in
all_places-back ps =
    ap places_in (places-law ps [] calm-3)
    ∙ ap (λ (x : Places × Stack). Some x.0) (places-back ps (fold []) calm-3)

place-back : (p : List ℕ × Direction) → mapped first_place_of (places_in (fold (kind.place p []))) ≡ Some p
unfolding mapped first_place_of r.places
place-back (n, by) = ap (mapped first_place_of) (all_places-back (OnlyPlace n by))

source_of-back : (d : Dialect) (s : Source) → (m.source_of (fold (r.source d s []))).0 ≡ s
source_of-back d s =
    ap (λ σ. (m.source_of σ).0) (source-law d s [] empty-calm)
    ∙ ap (λ (x : Source × Stack). x.0) (source-back s (fold []) empty-calm)

-- clauses
clauses-back : (u : List Token) (t : Clauses) → Ready u t (fold []) → clauses_in u ≡ t
unfolding clauses_in
clauses-back u t h = ap (λ (x : Clauses × Stack). x.0) h.tail

from-back : (d : Dialect) (s : MaybeSource) → (clauses_in (r.from d s [])).source ≡ s
from-back d s = ap (λ (t : Clauses). t.source) (clauses-back _ _ (from-ready d s empty [] (fold []) ends-empty))

where-back : (d : Dialect) (e : MaybeExpression) → (clauses_in (r.where_by d e [])).filter ≡ e
where-back d e = ap (λ (t : Clauses). t.filter) (clauses-back _ _ (where-ready d e empty [] (fold []) ends-empty))

group-back : (d : Dialect) (es : MaybeExpressions) → (clauses_in (r.group_by d es [])).group ≡ es
group-back d es = ap (λ (t : Clauses). t.group) (clauses-back _ _ (group-ready d es empty [] (fold []) ends-empty))

having-back : (d : Dialect) (e : MaybeExpression) → (clauses_in (r.having_by d e [])).having ≡ e
having-back d e = ap (λ (t : Clauses). t.having) (clauses-back _ _ (having-ready d e empty [] (fold []) ends-empty))

order-back : (d : Dialect) (is : MaybeItems) → (clauses_in (r.order_by d is [])).order ≡ is
order-back d is = ap (λ (t : Clauses). t.order) (clauses-back _ _ (order-ready d is empty [] (fold []) ends-empty))

by_places-back : (ps : MaybePlaces) → (clauses_in (r.by_places ps [])).places ≡ ps
by_places-back ps = ap (λ (t : Clauses). t.places) (clauses-back _ _ (by_places-law empty ps [] (fold []) ends-empty))

page-back : (d : Dialect) (p : Page) → (clauses_in (r.page d p [])).page ≡ p
page-back d p = ap (λ (t : Clauses). t.page) (clauses-back _ _ (page-law d empty p [] (fold []) ends-empty))

lock-back : (l : Lock) → (clauses_in (r.lock l [])).lock ≡ l
lock-back l = ap (λ (t : Clauses). t.lock) (clauses-back _ _ (lock-law l [] ends-empty))

tree-back : (d : Dialect) (k : Kind) (t : TreeOf k) → tree_in k ((production k).tokens d t []) ≡ Some t
unfolding tree_in comparison_in
tree-back d kind.Query q = query-back d q
tree-back d kind.Side q = side-back d q
tree-back d kind.Operator o = ap Some (operator-back o)
tree-back d kind.Distinct u = ap Some (distinct-back d u)
tree-back d kind.Expression a = expression-back d a
tree-back d kind.Expressions es = list-back d es
tree-back d kind.Placeholders ms = marks-back ms
tree-back d kind.Comparison by = refl
tree-back d kind.Logic by = ap Some (logic-back by)
tree-back d kind.Source s = ap Some (source_of-back d s)
tree-back d kind.Name ns = name-back ns
tree-back d kind.JoinKind k = ap Some (join_kind-back k)
tree-back d kind.Sample s = ap Some (sample-back s)
tree-back d kind.SampleMethod by = ap Some (method-back by)
tree-back d kind.From s = ap Some (from-back d s)
tree-back d kind.Where e = ap Some (where-back d e)
tree-back d kind.GroupBy es = ap Some (group-back d es)
tree-back d kind.Having e = ap Some (having-back d e)
tree-back d kind.OrderBy is = ap Some (order-back d is)
tree-back d kind.Item i = item-back d i
tree-back d kind.Items is = all_items-back d is
tree-back d kind.Direction by = ap Some (direction-back by)
tree-back d kind.Place p = place-back p
tree-back d kind.Places ps = all_places-back ps
tree-back d kind.OrderByPlaces ps = ap Some (by_places-back ps)
tree-back d kind.Page p = ap Some (page-back d p)
tree-back d kind.OuterPage p = ap Some (page-back d p)
tree-back d kind.Lock l = ap Some (lock-back l)
tree-back d kind.LockMode by = ap Some (mode-back by)
tree-back d kind.LockWait w = ap Some (wait-back w)

some_back : {A : Type 0} {x y : A} → Some x ≡ Some y → x ≡ y
some_back e = cc

pub one-tree : (d : Dialect) (k : Kind) (ts : List Token) (a b : TreeOf k) → ReadsAs d k ts a → ReadsAs d k ts b → a ≡ b
one-tree d k ts a b x y = some_back (sym (tree-back d k a) ∙ ap (tree_in k) (sym x.1 ∙ y.1) ∙ tree-back d k b)

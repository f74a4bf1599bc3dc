-- The grammar's tree of each node of the program: one level at a time, where what stands below is a tree already.
use Rattle.std.specs.Prelude.{ℕ, List, [], ◌∷◌, map, string_bytes, Option, Some, None, Bool}
use Rattle.sql_grammar.specs.MarkTree as t
use Rattle.sql_grammar.specs.Tree as p
use Rattle.sql_read_lexer.specs.View.{comparison_of}
use Rattle.sql_read_tree.specs.Path.{Path}
use Rattle.sql_read_tree.specs.declared.words.Logic.{Logic}
use Rattle.sql_read_tree.specs.declared.words.Logic.TheVariants as logic
use Rattle.sql_read_tree.specs.declared.words.Direction.{Direction}
use Rattle.sql_read_tree.specs.declared.words.Direction.TheVariants as direction
use Rattle.sql_read_tree.specs.declared.words.JoinKind.{JoinKind}
use Rattle.sql_read_tree.specs.declared.words.JoinKind.TheVariants as kind
use Rattle.sql_read_tree.specs.declared.words.SampleMethod.{SampleMethod}
use Rattle.sql_read_tree.specs.declared.words.SampleMethod.TheVariants as method
use Rattle.sql_read_tree.specs.declared.words.SetOperator.{SetOperator}
use Rattle.sql_read_tree.specs.declared.words.SetOperator.TheVariants as operator
use Rattle.sql_read_tree.specs.declared.words.LockMode.{LockMode}
use Rattle.sql_read_tree.specs.declared.words.LockMode.TheVariants as mode
use Rattle.sql_read_tree.specs.declared.words.LockWait.{LockWait}
use Rattle.sql_read_tree.specs.declared.words.LockWait.TheVariants as wait
use Rattle.sql_read_tree.specs.declared.words.Lock.{Lock}
use Rattle.sql_read_tree.specs.declared.words.Lock.TheVariants as lock
use Rattle.sql_read_tree.specs.declared.words.Sample.{Sample}
use Rattle.sql_read_tree.specs.declared.words.Sample.TheVariants as sample
use Rattle.sql_read_tree.specs.declared.words.Page.{Page}
use Rattle.sql_read_tree.specs.declared.words.Page.TheVariants as page
use Rattle.sql_read_tree.specs.declared.tree.Place.{Place}
use Rattle.sql_read_tree.specs.declared.tree.Place.TheVariants as place
use Rattle.sql_read_tree.specs.declared.tree.Distinctness.{Distinctness, Distinctness-F, fold-Distinctness}
use Rattle.sql_read_tree.specs.declared.tree.Expression.{Expression, Expression-F, fold-Expression}
use Rattle.sql_read_tree.specs.declared.tree.Item.{Item, Item-F, fold-Item}
use Rattle.sql_read_tree.specs.declared.tree.Query.{Query, Query-F, fold-Query}
use Rattle.sql_read_tree.specs.declared.tree.Source.{Source, Source-F, fold-Source}

abbrev pub logic_of : Logic → t.Logic
logic_of logic.And = t.And
logic_of logic.Or = t.Or

abbrev pub direction_of : Direction → t.Direction
direction_of direction.Plain = t.Plain
direction_of direction.Ascending = t.Ascending
direction_of direction.Descending = t.Descending

abbrev pub kind_of : JoinKind → t.JoinKind
kind_of kind.Inner = t.Inner
kind_of kind.LeftOuter = t.LeftOuter

abbrev pub method_of : SampleMethod → t.SampleMethod
method_of method.Bernoulli = t.Bernoulli
method_of method.System = t.System

abbrev pub operator_of : SetOperator → t.SetOperator
operator_of operator.Union = t.Union
operator_of operator.Intersect = t.Intersect
operator_of operator.Except = t.Except

abbrev pub mode_of : LockMode → t.LockMode
mode_of mode.ForUpdate = t.ForUpdate
mode_of mode.ForNoKeyUpdate = t.ForNoKeyUpdate
mode_of mode.ForShare = t.ForShare
mode_of mode.ForKeyShare = t.ForKeyShare

abbrev pub wait_of : LockWait → t.LockWait
wait_of wait.Waits = t.Waits
wait_of wait.SkipLocked = t.SkipLocked
wait_of wait.NoWait = t.NoWait

abbrev pub lock_of : Lock → t.Lock
lock_of lock.Unlocked = t.Unlocked
lock_of (lock.Locks m w) = t.Locks (mode_of m) (wait_of w)

abbrev pub sample_of : Sample → t.Sample
sample_of sample.Whole = t.Whole
sample_of (sample.Sampled by portion seed) = t.Sampled (method_of by) portion seed

abbrev pub page_of : Page → t.Page
page_of (page.PageBy l o) = t.PageBy l o
page_of (page.FetchBy o l) = t.FetchBy o l

-- ## Lists

abbrev pub expressions_of : t.Expression → List t.Expression → t.Expressions
expressions_of e [] = t.OnlyExpression e
expressions_of e (f ∷ fs) = t.MoreExpression e (expressions_of f fs)

abbrev pub group_of : List t.Expression → t.MaybeExpressions
group_of [] = t.NoExpressions
group_of (e ∷ es) = t.SomeExpressions (expressions_of e es)

abbrev pub Ordered : Type 0
Ordered = t.Expression × t.Direction

abbrev pub items_of : Ordered → List Ordered → t.Items
items_of i [] = t.OnlyItem i.0 i.1
items_of i (j ∷ js) = t.MoreItem i.0 i.1 (items_of j js)

abbrev pub order_of : List Ordered → t.MaybeItems
order_of [] = t.NoItems
order_of (i ∷ is) = t.SomeItems (items_of i is)

abbrev pub Placed : Type 0
Placed = List ℕ × t.Direction

abbrev pub place_of : Place → Placed
place_of (place.At n by) = (string_bytes n, direction_of by)

abbrev pub places_of : Placed → List Placed → t.Places
places_of i [] = t.OnlyPlace i.0 i.1
places_of i (j ∷ js) = t.MorePlace i.0 i.1 (places_of j js)

abbrev pub by_places_of : List Placed → t.MaybePlaces
by_places_of [] = t.NoPlaces
by_places_of (i ∷ is) = t.SomePlaces (places_of i is)

abbrev pub maybe_of : Option t.Expression → t.MaybeExpression
maybe_of None = t.NoExpression
maybe_of (Some e) = t.SomeExpression e

abbrev pub from_of : Option t.Source → t.MaybeSource
from_of None = t.NoSource
from_of (Some s) = t.SomeSource s

-- ## Nodes

abbrev pub Level : (Type 0 → Type 0 → Type 0 → Type 0 → Type 0 → Type 0) → Type 0
Level F = F t.Distinctness t.Expression Ordered t.Query t.Source

abbrev pub expression_level : Level Expression-F → t.Expression
expression_level (Expression-F.Path n) = t.Path n.first n.more
expression_level (Expression-F.Placeholder m) = t.Placeholder m
expression_level (Expression-F.SingleValue q) = t.SingleValue q.value
expression_level (Expression-F.Exists q) = t.Exists q.value
expression_level (Expression-F.Compared by a b) = t.Compared (comparison_of by) a.value b.value
expression_level (Expression-F.Connected by a b) = t.Connected (logic_of by) a.value b.value
expression_level (Expression-F.Not a) = t.Not a.value
expression_level (Expression-F.NullTest negated a) = t.NullTest negated a.value
expression_level Expression-F.CountAll = t.CountAll
expression_level (Expression-F.Count a) = t.Count a.value
expression_level (Expression-F.InList negated a m ms) = t.InList negated a.value m ms.items
expression_level (Expression-F.InQuery negated a q) = t.InQuery negated a.value q.value
expression_level (Expression-F.Constant b) = t.Constant b

abbrev pub item_level : Level Item-F → Ordered
item_level (Item-F.Plain e) = (e, t.Plain)
item_level (Item-F.Ascending e) = (e, t.Ascending)
item_level (Item-F.Descending e) = (e, t.Descending)

abbrev pub source_level : Level Source-F → t.Source
source_level (Source-F.Table n only s) = t.Table n.first n.more only (sample_of s)
source_level (Source-F.Alias n a) = t.Alias n.first n.more (string_bytes a)
source_level (Source-F.Join k a b on) = t.Join (kind_of k) a.value b.value on.value

abbrev pub distinctness_level : Level Distinctness-F → t.Distinctness
distinctness_level Distinctness-F.Every = t.Every
distinctness_level Distinctness-F.Distinct = t.Distinct
distinctness_level (Distinctness-F.DistinctOn e es) = t.DistinctOn (expressions_of e.value es.items)

abbrev pub query_level : Level Query-F → t.Query
query_level (Query-F.Select u e es f w g h o p l) =
    t.Select u (expressions_of e.value es.items) (from_of f) (maybe_of w) (group_of g.items) (maybe_of h)
    (order_of o.items) (page_of p) (lock_of l)
query_level (Query-F.Combined a by all b o p) =
    t.Combined a.value (operator_of by) all b.value (by_places_of (map place_of o.items)) (page_of p)

abbrev pub expression_tree : Expression → t.Expression
expression_tree =
    fold-Expression t.Distinctness t.Expression Ordered t.Query t.Source distinctness_level expression_level
    item_level query_level source_level

abbrev pub item_tree : Item → Ordered
item_tree =
    fold-Item t.Distinctness t.Expression Ordered t.Query t.Source distinctness_level expression_level item_level
    query_level source_level

abbrev pub source_tree : Source → t.Source
source_tree =
    fold-Source t.Distinctness t.Expression Ordered t.Query t.Source distinctness_level expression_level item_level
    query_level source_level

abbrev pub distinctness_tree : Distinctness → t.Distinctness
distinctness_tree =
    fold-Distinctness t.Distinctness t.Expression Ordered t.Query t.Source distinctness_level expression_level
    item_level query_level source_level

abbrev pub query_tree : Query → t.Query
query_tree =
    fold-Query t.Distinctness t.Expression Ordered t.Query t.Source distinctness_level expression_level item_level
    query_level source_level

-- ## Parts that may be absent

abbrev pub maybe_tree : Option Expression → t.MaybeExpression
maybe_tree None = t.NoExpression
maybe_tree (Some e) = t.SomeExpression (expression_tree e)

abbrev pub maybe_source_tree : Option Source → t.MaybeSource
maybe_source_tree None = t.NoSource
maybe_source_tree (Some s) = t.SomeSource (source_tree s)

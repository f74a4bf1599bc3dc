-- The trees of texts that are read: a mark stands at each place of a value. A normal tree is one of them.
use Rattle.sql_grammar.specs.Tree as tree
pub use Rattle.sql_grammar.specs.Tree.{Mark, Name, Logic, And, Or, Direction, Plain, Ascending, Descending, JoinKind, Inner, LeftOuter, SampleMethod, Bernoulli, System, SetOperator, Union, Intersect, Except, LockMode, ForUpdate, ForNoKeyUpdate, ForShare, ForKeyShare, LockWait, Waits, SkipLocked, NoWait, Lock, Unlocked, Locks, Whole, Sampled, PageBy, FetchBy, Places, OnlyPlace, MorePlace, MaybePlaces, NoPlaces, SomePlaces, Path, Placeholder, SingleValue, Exists, Compared, Connected, Not, NullTest, CountAll, Count, InList, InQuery, Constant, OnlyExpression, MoreExpression, OnlyItem, MoreItem, Table, Alias, Join, NoExpression, SomeExpression, NoExpressions, SomeExpressions, NoItems, SomeItems, NoSource, SomeSource, Every, Distinct, DistinctOn, Select, Combined}

abbrev pub Sample : Type 0
Sample = tree.Sample tree.Mark

abbrev pub Page : Type 0
Page = tree.Page tree.Mark

abbrev pub Expression : Type 0
Expression = tree.Expression tree.Mark

abbrev pub Expressions : Type 0
Expressions = tree.Expressions tree.Mark

abbrev pub Items : Type 0
Items = tree.Items tree.Mark

abbrev pub Source : Type 0
Source = tree.Source tree.Mark

abbrev pub MaybeExpression : Type 0
MaybeExpression = tree.MaybeExpression tree.Mark

abbrev pub MaybeExpressions : Type 0
MaybeExpressions = tree.MaybeExpressions tree.Mark

abbrev pub MaybeItems : Type 0
MaybeItems = tree.MaybeItems tree.Mark

abbrev pub MaybeSource : Type 0
MaybeSource = tree.MaybeSource tree.Mark

abbrev pub Distinctness : Type 0
Distinctness = tree.Distinctness tree.Mark

abbrev pub Query : Type 0
Query = tree.Query tree.Mark

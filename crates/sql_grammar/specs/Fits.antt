-- Which productions a dialect has, and what else a production asks of its parts: how many names a path has, which number a
-- placeholder has. What a tree's tokens are is said without it, in Grammar.
use Rattle.std.specs.Prelude.{◌≡◌, ℕ, ◌<◌, ◌≤◌, List, [], ◌∷◌, length, Option, Some, None, Bool, true, false}
use Rattle.std.specs.Fmt.{decimal}
use Rattle.sql_dialect.specs.declared.backend.Dialect.{Dialect}
use Rattle.sql_dialect.specs.declared.backend.Dialect.TheVariants.{Pg, Mysql, Sqlite, Bracket}
use Rattle.sql_dialect.specs.Written.{MAX_BINDS}
use Rattle.sql_grammar.specs.MarkTree.{Mark, Name, SetOperator, Union, Intersect, Except, LockMode, ForUpdate, ForNoKeyUpdate, ForShare, ForKeyShare, Lock, Unlocked, Locks, Sample, Whole, Sampled, Page, PageBy, FetchBy, Places, OnlyPlace, MorePlace, MaybePlaces, NoPlaces, SomePlaces, Expression, Path, Placeholder, SingleValue, Exists, Compared, Connected, Not, NullTest, CountAll, Count, InList, InQuery, Constant, Expressions, OnlyExpression, MoreExpression, Items, OnlyItem, MoreItem, Source, Table, Alias, Join, MaybeExpression, NoExpression, SomeExpression, MaybeExpressions, NoExpressions, SomeExpressions, MaybeItems, NoItems, SomeItems, MaybeSource, NoSource, SomeSource, Distinctness, Every, Distinct, DistinctOn, Query, Select, Combined}

-- ## Which dialect

abbrev pub OnPg : Dialect → Type 0
OnPg Pg = Unit {0}
OnPg Mysql = ⊥
OnPg Sqlite = ⊥
OnPg Bracket = ⊥

abbrev pub NotPg : Dialect → Type 0
NotPg Pg = ⊥
NotPg Mysql = Unit {0}
NotPg Sqlite = Unit {0}
NotPg Bracket = Unit {0}

abbrev pub OnBracket : Dialect → Type 0
OnBracket Pg = ⊥
OnBracket Mysql = ⊥
OnBracket Sqlite = ⊥
OnBracket Bracket = Unit {0}

abbrev pub NotBracket : Dialect → Type 0
NotBracket Pg = Unit {0}
NotBracket Mysql = Unit {0}
NotBracket Sqlite = Unit {0}
NotBracket Bracket = ⊥

-- SQLite has no locks on rows, and Bracket has none.
abbrev pub HasLocks : Dialect → Type 0
HasLocks Pg = Unit {0}
HasLocks Mysql = Unit {0}
HasLocks Sqlite = ⊥
HasLocks Bracket = ⊥

-- ## Placeholders

-- A placeholder has a number on Pg and Bracket, from 1 to the greatest that a dialect has.
abbrev pub FitsMark : Dialect → Mark → Type 0
FitsMark Pg None = ⊥
FitsMark Pg (Some n) = (0 < n) × (n ≤ MAX_BINDS)
FitsMark Mysql None = Unit {0}
FitsMark Mysql (Some n) = ⊥
FitsMark Sqlite None = Unit {0}
FitsMark Sqlite (Some n) = ⊥
FitsMark Bracket None = ⊥
FitsMark Bracket (Some n) = (0 < n) × (n ≤ MAX_BINDS)

abbrev pub FitsMarks : Dialect → List Mark → Type 0
FitsMarks d [] = Unit {0}
FitsMarks d (p ∷ ps) = FitsMark d p × FitsMarks d ps

-- A list of values is one array on Pg (PostgreSQL, Row and Array Comparisons), elsewhere one place for each value.
abbrev pub FitsList : Dialect → Mark → List Mark → Type 0
FitsList Pg p ps = FitsMark Pg p × (ps ≡ [])
FitsList Mysql p ps = FitsMark Mysql p × FitsMarks Mysql ps
FitsList Sqlite p ps = FitsMark Sqlite p × FitsMarks Sqlite ps
FitsList Bracket p ps = FitsMark Bracket p × FitsMarks Bracket ps

abbrev pub FitsMaybeMark : Dialect → Option Mark → Type 0
FitsMaybeMark d None = Unit {0}
FitsMaybeMark d (Some p) = FitsMark d p

-- ## Paths, by the names after the first

-- a column's path has two names or three
abbrev pub IsColumnPath : List Name → Type 0
IsColumnPath ns = (0 < length ns) × (length ns < 3)

-- a table's has one or two
abbrev pub IsTablePath : List Name → Type 0
IsTablePath ns = length ns < 2

-- ## ONLY and TABLESAMPLE (PostgreSQL, SELECT, FROM Clause)

abbrev pub FitsOnly : Dialect → Bool → Type 0
FitsOnly d false = Unit {0}
FitsOnly d true = OnPg d

abbrev pub FitsSample : Dialect → Sample → Type 0
FitsSample d Whole = Unit {0}
FitsSample d (Sampled by portion seed) = OnPg d × FitsMark d portion × FitsMaybeMark d seed

-- ## Pages

-- Of a selection. Bracket fetches where the others have LIMIT.
abbrev pub FitsPage : Dialect → Page → Type 0
FitsPage d (PageBy None offset) = FitsMaybeMark d offset
FitsPage d (PageBy (Some limit) offset) = NotBracket d × FitsMark d limit × FitsMaybeMark d offset
FitsPage d (FetchBy offset limit) = OnBracket d × FitsMaybeMark d offset × FitsMark d limit

-- Of a combination: on Mysql no offset stands without a limit there.
abbrev pub FitsOuterPage : Dialect → Page → Type 0
FitsOuterPage d (PageBy (Some limit) offset) = NotBracket d × FitsMark d limit × FitsMaybeMark d offset
FitsOuterPage d (PageBy None None) = Unit {0}
FitsOuterPage Pg (PageBy None (Some offset)) = FitsMark Pg offset
FitsOuterPage Mysql (PageBy None (Some offset)) = ⊥
FitsOuterPage Sqlite (PageBy None (Some offset)) = FitsMark Sqlite offset
FitsOuterPage Bracket (PageBy None (Some offset)) = FitsMark Bracket offset
FitsOuterPage d (FetchBy offset limit) = OnBracket d × FitsMaybeMark d offset × FitsMark d limit

-- ## Locks (PostgreSQL, SELECT, The Locking Clause; MySQL, 13.2.13 SELECT Statement; SQLite has none)

abbrev pub FitsMode : Dialect → LockMode → Type 0
FitsMode d ForUpdate = HasLocks d
FitsMode d ForNoKeyUpdate = OnPg d
FitsMode d ForShare = HasLocks d
FitsMode d ForKeyShare = OnPg d

abbrev pub FitsLock : Dialect → Lock → Type 0
FitsLock d Unlocked = Unit {0}
FitsLock d (Locks by waiting) = FitsMode d by

-- ## Combinations

-- Pg and Mysql have all (MySQL, 13.2.14 Set Operations). Sqlite has ALL after UNION alone (SQLite, SELECT, Compound Select
-- Statements), and so has Bracket.
abbrev pub FitsOperator : Dialect → SetOperator → Bool → Type 0
FitsOperator d Union all = Unit {0}
FitsOperator Pg Intersect all = Unit {0}
FitsOperator Pg Except all = Unit {0}
FitsOperator Mysql Intersect all = Unit {0}
FitsOperator Mysql Except all = Unit {0}
FitsOperator Sqlite Intersect all = all ≡ false
FitsOperator Sqlite Except all = all ≡ false
FitsOperator Bracket Intersect all = all ≡ false
FitsOperator Bracket Except all = all ≡ false

-- the digits of a number below 2 ^ 32, without leading zeros
abbrev pub IsPlace : List ℕ → Type 0
IsPlace digits = (n : ℕ) × (n < 4294967296) × (digits ≡ decimal n)

abbrev pub FitsPlaces : Places → Type 0
FitsPlaces (OnlyPlace n by) = IsPlace n
FitsPlaces (MorePlace n by more) = IsPlace n × FitsPlaces more

abbrev pub FitsMaybePlaces : MaybePlaces → Type 0
FitsMaybePlaces NoPlaces = Unit {0}
FitsMaybePlaces (SomePlaces ps) = FitsPlaces ps

-- ## Expressions, sources and queries

unfoldable mutual
  -- A membership in a list of no values is a constant where there is no array.
  pub FitsExpression : Dialect → Expression → Type 0
  FitsExpression d (Path a ns) = IsColumnPath ns
  FitsExpression d (Placeholder p) = FitsMark d p
  FitsExpression d (SingleValue q) = FitsQuery d q
  FitsExpression d (Exists q) = FitsQuery d q
  FitsExpression d (Compared by a b) = FitsExpression d a × FitsExpression d b
  FitsExpression d (Connected by a b) = FitsExpression d a × FitsExpression d b
  FitsExpression d (Not a) = FitsExpression d a
  FitsExpression d (NullTest negated a) = FitsExpression d a
  FitsExpression d CountAll = Unit {0}
  FitsExpression d (Count a) = FitsExpression d a
  FitsExpression d (InList negated a p ps) = FitsExpression d a × FitsList d p ps
  FitsExpression d (InQuery negated a q) = FitsExpression d a × FitsQuery d q
  FitsExpression d (Constant b) = NotPg d

  pub FitsExpressions : Dialect → Expressions → Type 0
  FitsExpressions d (OnlyExpression a) = FitsExpression d a
  FitsExpressions d (MoreExpression a more) = FitsExpression d a × FitsExpressions d more

  pub FitsItems : Dialect → Items → Type 0
  FitsItems d (OnlyItem a by) = FitsExpression d a
  FitsItems d (MoreItem a by more) = FitsExpression d a × FitsItems d more

  pub FitsSource : Dialect → Source → Type 0
  FitsSource d (Table a ns only sample) = IsTablePath ns × FitsOnly d only × FitsSample d sample
  FitsSource d (Alias a ns b) = IsTablePath ns
  FitsSource d (Join kind a b on) = FitsSource d a × FitsSource d b × FitsExpression d on

  pub FitsMaybeExpression : Dialect → MaybeExpression → Type 0
  FitsMaybeExpression d NoExpression = Unit {0}
  FitsMaybeExpression d (SomeExpression a) = FitsExpression d a

  pub FitsMaybeExpressions : Dialect → MaybeExpressions → Type 0
  FitsMaybeExpressions d NoExpressions = Unit {0}
  FitsMaybeExpressions d (SomeExpressions list) = FitsExpressions d list

  pub FitsMaybeItems : Dialect → MaybeItems → Type 0
  FitsMaybeItems d NoItems = Unit {0}
  FitsMaybeItems d (SomeItems list) = FitsItems d list

  pub FitsMaybeSource : Dialect → MaybeSource → Type 0
  FitsMaybeSource d NoSource = Unit {0}
  FitsMaybeSource d (SomeSource s) = FitsSource d s

  -- DISTINCT ON is PostgreSQL's (PostgreSQL, SELECT, DISTINCT Clause).
  pub FitsDistinctness : Dialect → Distinctness → Type 0
  FitsDistinctness d Every = Unit {0}
  FitsDistinctness d Distinct = Unit {0}
  FitsDistinctness d (DistinctOn list) = OnPg d × FitsExpressions d list

  pub FitsQuery : Dialect → Query → Type 0
  FitsQuery d (Select distinctness selection source filter group having order page lock) =
      FitsDistinctness d distinctness × FitsExpressions d selection × FitsMaybeSource d source
      × FitsMaybeExpression d filter
      × FitsMaybeExpressions d group × FitsMaybeExpression d having × FitsMaybeItems d order × FitsPage d page
      × FitsLock d lock
  FitsQuery d (Combined a by all b order page) =
      FitsQuery d a × FitsOperator d by all × FitsQuery d b × FitsMaybePlaces order × FitsOuterPage d page

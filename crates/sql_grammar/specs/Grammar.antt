-- The grammar, production by production: the tokens that each kind of tree is read from. Each function puts the tokens of
-- its tree before those that follow. Above it stands its production, in which words and signs stand for themselves,
-- `[x]` for x or nothing, `x..` for one or more separated by commas. A production without a dialect holds in all four.
-- (PostgreSQL, SELECT and 4.2 Value Expressions; MySQL, 13.2.13 SELECT Statement, JOIN Clause and UNION Clause; SQLite,
-- SELECT and SQL Language Expressions.)
use Rattle.std.specs.Prelude.{◌≡◌, ℕ, List, [], ◌∷◌, Option, Some, None, Bool, true, false, codes}
use Rattle.sql_dialect.specs.declared.backend.Dialect.{Dialect}
use Rattle.sql_dialect.specs.declared.backend.Dialect.TheVariants.{Pg, Mysql, Sqlite, Bracket}
use Rattle.sql_grammar.specs.Fits.{FitsQuery, FitsExpression, FitsSource}
use Rattle.sql_grammar.specs.Token.{Comparison, Equal, NotEqual, Keyword, SELECT, DISTINCT, ON, FROM, WHERE, GROUP, BY, HAVING, ORDER, ASC, DESC, LIMIT, OFFSET, FOR, UPDATE, SHARE, NO, KEY, SKIP, LOCKED, NOWAIT, UNION, INTERSECT, EXCEPT, ALL, AS, ONLY, TABLESAMPLE, BERNOULLI, SYSTEM, REPEATABLE, INNER, LEFT, OUTER, JOIN, EXISTS, AND, OR, NOT, IS, NULL, COUNT, ANY, IN, ROWS, FETCH, NEXT, Token, Quoted, Word, Number, Sign, Open, Close, Comma, Dot, Star, Minus}
use Rattle.sql_grammar.specs.Token as token
use Rattle.sql_grammar.specs.MarkTree.{Mark, Name, Logic, And, Or, Direction, Plain, Ascending, Descending, JoinKind, Inner, LeftOuter, SampleMethod, Bernoulli, System, SetOperator, Union, Intersect, Except, LockMode, ForUpdate, ForNoKeyUpdate, ForShare, ForKeyShare, LockWait, Waits, SkipLocked, NoWait, Lock, Unlocked, Locks, Sample, Whole, Sampled, Page, PageBy, FetchBy, Places, OnlyPlace, MorePlace, MaybePlaces, NoPlaces, SomePlaces, Expression, Path, Placeholder, SingleValue, Exists, Compared, Connected, Not, NullTest, CountAll, Count, InList, InQuery, Constant, Expressions, OnlyExpression, MoreExpression, Items, OnlyItem, MoreItem, Source, Table, Alias, Join, MaybeExpression, NoExpression, SomeExpression, MaybeExpressions, NoExpressions, SomeExpressions, MaybeItems, NoItems, SomeItems, MaybeSource, NoSource, SomeSource, Distinctness, Every, Distinct, DistinctOn, Query, Select, Combined}

-- tokens that go before others
abbrev pub Front : Type 0
Front = List Token → List Token

-- ## Words and names

-- Names = identifier [. Names]
unfoldable pub names : Name → List Name → Front
names a [] rest = Quoted a ∷ rest
names a (b ∷ bs) rest = Quoted a ∷ Dot ∷ names b bs rest

-- Placeholder..
unfoldable pub marks : Mark → List Mark → Front
marks m [] rest = token.Mark m ∷ rest
marks m (n ∷ ns) rest = token.Mark m ∷ Comma ∷ marks n ns rest

-- AND | OR
unfoldable pub logic : Logic → Token
logic And = Word AND
logic Or = Word OR

-- [ASC | DESC]
unfoldable pub direction : Direction → Front
direction Plain rest = rest
direction Ascending rest = Word ASC ∷ rest
direction Descending rest = Word DESC ∷ rest

-- IS NULL | IS NOT NULL
unfoldable pub null_test : Bool → Front
null_test false rest = Word IS ∷ Word NULL ∷ rest
null_test true rest = Word IS ∷ Word NOT ∷ Word NULL ∷ rest

-- = ANY | != ALL      on Pg (PostgreSQL, Subquery Expressions; Row and Array Comparisons)
-- IN | NOT IN         on Mysql, Sqlite and Bracket (MySQL, Subqueries with ANY, IN, or SOME; SQLite, The IN and NOT IN operators)
unfoldable pub among : Dialect → Bool → Front
among Pg false rest = Sign Equal ∷ Word ANY ∷ rest
among Pg true rest = Sign NotEqual ∷ Word ALL ∷ rest
among Mysql false rest = Word IN ∷ rest
among Mysql true rest = Word NOT ∷ Word IN ∷ rest
among Sqlite false rest = Word IN ∷ rest
among Sqlite true rest = Word NOT ∷ Word IN ∷ rest
among Bracket false rest = Word IN ∷ rest
among Bracket true rest = Word NOT ∷ Word IN ∷ rest

-- the right side of `1 = 0` and of `1 = 1`
unfoldable pub constant : Bool → List ℕ
constant false = codes "0"
constant true = codes "1"

-- ## Sources

-- Kind = INNER | LEFT OUTER
unfoldable pub kind : JoinKind → Front
kind Inner rest = Word INNER ∷ Word JOIN ∷ rest
kind LeftOuter rest = Word LEFT ∷ Word OUTER ∷ Word JOIN ∷ rest

-- Method = BERNOULLI | SYSTEM
unfoldable pub method : SampleMethod → Token
method Bernoulli = Word BERNOULLI
method System = Word SYSTEM

-- [ONLY]
unfoldable pub only : Bool → Front
only false rest = rest
only true rest = Word ONLY ∷ rest

-- [REPEATABLE ( Placeholder )]
unfoldable pub seed : Option Mark → Front
seed None rest = rest
seed (Some m) rest = Word REPEATABLE ∷ Open ∷ token.Mark m ∷ Close ∷ rest

-- [TABLESAMPLE Method ( Placeholder ) [REPEATABLE ( Placeholder )]]
unfoldable pub sample : Sample → Front
sample Whole rest = rest
sample (Sampled by portion s) rest = Word TABLESAMPLE ∷ method by ∷ Open ∷ token.Mark portion ∷ Close ∷ seed s rest

-- ## Pages and locks

-- The literal that stands for no limit where an offset follows: a number past all rows (MySQL, 13.2.13 SELECT Statement),
-- or a negative one (SQLite, SELECT, The LIMIT Clause).
unfoldable pub no_limit : Dialect → Front
no_limit Pg rest = rest
no_limit Mysql rest = Word LIMIT ∷ Number (codes "18446744073709551615") ∷ rest
no_limit Sqlite rest = Word LIMIT ∷ Minus ∷ Number (codes "1") ∷ rest
no_limit Bracket rest = rest

-- the word after the number of rows to skip
unfoldable pub rows : Dialect → Front
rows Pg rest = rest
rows Mysql rest = rest
rows Sqlite rest = rest
rows Bracket rest = Word ROWS ∷ rest

-- ROWS FETCH NEXT Placeholder ROWS ONLY
unfoldable pub fetch : Mark → Front
fetch l rest = Word ROWS ∷ Word FETCH ∷ Word NEXT ∷ token.Mark l ∷ Word ROWS ∷ Word ONLY ∷ rest

-- Page = [LIMIT Placeholder] [OFFSET Placeholder]                            on Pg
--      | [LIMIT Placeholder] | LIMIT Placeholder OFFSET Placeholder          on Mysql and Sqlite
--      | LIMIT 18446744073709551615 OFFSET Placeholder                       on Mysql, in a Select
--      | LIMIT - 1 OFFSET Placeholder                                        on Sqlite
--      | [OFFSET Placeholder ROWS [FETCH NEXT Placeholder ROWS ONLY]]
--      | OFFSET 0 ROWS FETCH NEXT Placeholder ROWS ONLY                      on Bracket
unfoldable pub page : Dialect → Page → Front
page d (PageBy None None) rest = rest
page d (PageBy None (Some o)) rest = no_limit d (Word OFFSET ∷ token.Mark o ∷ rows d rest)
page d (PageBy (Some l) None) rest = Word LIMIT ∷ token.Mark l ∷ rest
page d (PageBy (Some l) (Some o)) rest = Word LIMIT ∷ token.Mark l ∷ Word OFFSET ∷ token.Mark o ∷ rest
page d (FetchBy None l) rest = Word OFFSET ∷ Number (codes "0") ∷ fetch l rest
page d (FetchBy (Some o) l) rest = Word OFFSET ∷ token.Mark o ∷ fetch l rest

-- Mode = UPDATE | SHARE               on Pg and Mysql
--      | NO KEY UPDATE | KEY SHARE    on Pg
unfoldable pub mode : LockMode → Front
mode ForUpdate rest = Word UPDATE ∷ rest
mode ForNoKeyUpdate rest = Word NO ∷ Word KEY ∷ Word UPDATE ∷ rest
mode ForShare rest = Word SHARE ∷ rest
mode ForKeyShare rest = Word KEY ∷ Word SHARE ∷ rest

-- [SKIP LOCKED | NOWAIT]
unfoldable pub wait : LockWait → Front
wait Waits rest = rest
wait SkipLocked rest = Word SKIP ∷ Word LOCKED ∷ rest
wait NoWait rest = Word NOWAIT ∷ rest

-- Lock = FOR Mode [SKIP LOCKED | NOWAIT]
unfoldable pub lock : Lock → Front
lock Unlocked rest = rest
lock (Locks m w) rest = Word FOR ∷ mode m (wait w rest)

-- ## Combinations

-- Operator = UNION | INTERSECT | EXCEPT, each with ALL or without
unfoldable pub operator : SetOperator → Token
operator Union = Word UNION
operator Intersect = Word INTERSECT
operator Except = Word EXCEPT

unfoldable pub all_word : Bool → Front
all_word false rest = rest
all_word true rest = Word ALL ∷ rest

-- Side = ( Query )                     on Pg, Mysql and Bracket
--      | SELECT * FROM ( Query )       on Sqlite, which has no brackets there
unfoldable pub side_open : Dialect → Front
side_open Pg rest = Open ∷ rest
side_open Mysql rest = Open ∷ rest
side_open Bracket rest = Open ∷ rest
side_open Sqlite rest = Word SELECT ∷ Star ∷ Word FROM ∷ Open ∷ rest

-- Place.. where Place = number [ASC | DESC]
unfoldable pub places : Places → Front
places (OnlyPlace n by) rest = Number n ∷ direction by rest
places (MorePlace n by more) rest = Number n ∷ direction by (Comma ∷ places more rest)

-- [ORDER BY Place..]
unfoldable pub by_places : MaybePlaces → Front
by_places NoPlaces rest = rest
by_places (SomePlaces ps) rest = Word ORDER ∷ Word BY ∷ places ps rest

-- ## Expressions, sources and queries

unfoldable mutual
  -- Expression = identifier . identifier | identifier . identifier . identifier
  --            | Placeholder
  --            | ( Query ) | EXISTS ( Query )
  --            | ( Expression Comparison Expression )
  --            | ( Expression AND Expression ) | ( Expression OR Expression )
  --            | NOT ( Expression )
  --            | ( Expression IS NULL ) | ( Expression IS NOT NULL )
  --            | COUNT ( * ) | COUNT ( Expression )
  --            | ( Expression = ANY ( Placeholder ) ) | ( Expression != ALL ( Placeholder ) )      on Pg
  --            | ( Expression = ANY ( Query ) ) | ( Expression != ALL ( Query ) )                  on Pg
  --            | ( Expression IN ( Placeholder.. ) ) | ( Expression NOT IN ( Placeholder.. ) )     on Mysql, Sqlite, Bracket
  --            | ( Expression IN ( Query ) ) | ( Expression NOT IN ( Query ) )                     on Mysql, Sqlite, Bracket
  --            | ( 1 = 0 ) | ( 1 = 1 )                                                             on Mysql, Sqlite, Bracket
  pub expression : Dialect → Expression → Front
  expression d (Path a ns) rest = names a ns rest
  expression d (Placeholder m) rest = token.Mark m ∷ rest
  expression d (SingleValue q) rest = Open ∷ query d q (Close ∷ rest)
  expression d (Exists q) rest = Word EXISTS ∷ Open ∷ query d q (Close ∷ rest)
  expression d (Compared by a b) rest = Open ∷ expression d a (Sign by ∷ expression d b (Close ∷ rest))
  expression d (Connected by a b) rest = Open ∷ expression d a (logic by ∷ expression d b (Close ∷ rest))
  expression d (Not a) rest = Word NOT ∷ Open ∷ expression d a (Close ∷ rest)
  expression d (NullTest negated a) rest = Open ∷ expression d a (null_test negated (Close ∷ rest))
  expression d CountAll rest = Word COUNT ∷ Open ∷ Star ∷ Close ∷ rest
  expression d (Count a) rest = Word COUNT ∷ Open ∷ expression d a (Close ∷ rest)
  expression d (InList negated a m ms) rest =
      Open ∷ expression d a (among d negated (Open ∷ marks m ms (Close ∷ Close ∷ rest)))
  expression d (InQuery negated a q) rest =
      Open ∷ expression d a (among d negated (Open ∷ query d q (Close ∷ Close ∷ rest)))
  expression d (Constant b) rest = Open ∷ Number (codes "1") ∷ Sign Equal ∷ Number (constant b) ∷ Close ∷ rest

  -- Expression..
  pub expressions : Dialect → Expressions → Front
  expressions d (OnlyExpression a) rest = expression d a rest
  expressions d (MoreExpression a more) rest = expression d a (Comma ∷ expressions d more rest)

  -- Item.. where Item = Expression [ASC | DESC]
  pub items : Dialect → Items → Front
  items d (OnlyItem a by) rest = expression d a (direction by rest)
  items d (MoreItem a by more) rest = expression d a (direction by (Comma ∷ items d more rest))

  -- Source = Name | Name AS identifier
  --        | [ONLY] Name [TABLESAMPLE Method ( Placeholder ) [REPEATABLE ( Placeholder )]]         on Pg
  --        | ( Source Kind JOIN Source ON Expression )
  -- Name   = identifier | identifier . identifier
  pub source : Dialect → Source → Front
  source d (Table a ns o s) rest = only o (names a ns (sample s rest))
  source d (Alias a ns b) rest = names a ns (Word AS ∷ Quoted b ∷ rest)
  source d (Join k a b on) rest = Open ∷ source d a (kind k (source d b (Word ON ∷ expression d on (Close ∷ rest))))

  -- [FROM Source]
  pub from : Dialect → MaybeSource → Front
  from d NoSource rest = rest
  from d (SomeSource s) rest = Word FROM ∷ source d s rest

  -- [WHERE Expression]
  pub where_by : Dialect → MaybeExpression → Front
  where_by d NoExpression rest = rest
  where_by d (SomeExpression a) rest = Word WHERE ∷ expression d a rest

  -- [GROUP BY Expression..]
  pub group_by : Dialect → MaybeExpressions → Front
  group_by d NoExpressions rest = rest
  group_by d (SomeExpressions list) rest = Word GROUP ∷ Word BY ∷ expressions d list rest

  -- [HAVING Expression]
  pub having_by : Dialect → MaybeExpression → Front
  having_by d NoExpression rest = rest
  having_by d (SomeExpression a) rest = Word HAVING ∷ expression d a rest

  -- [ORDER BY Item..]
  pub order_by : Dialect → MaybeItems → Front
  order_by d NoItems rest = rest
  order_by d (SomeItems list) rest = Word ORDER ∷ Word BY ∷ items d list rest

  -- [DISTINCT]
  -- | DISTINCT ON ( Expression.. )     on Pg
  pub distinct : Dialect → Distinctness → Front
  distinct d Every rest = rest
  distinct d Distinct rest = Word DISTINCT ∷ rest
  distinct d (DistinctOn list) rest = Word DISTINCT ∷ Word ON ∷ Open ∷ expressions d list (Close ∷ rest)

  -- Query       = Select | Combination
  -- Select      = SELECT [Distinctness] Expression.. [FROM Source] [WHERE Expression] [GROUP BY Expression..]
  --               [HAVING Expression] [ORDER BY Item..] Page [Lock]
  -- Combination = Side Operator Side [ORDER BY Place..] Page
  pub query : Dialect → Query → Front
  query d (Select u list f w g h o p l) rest =
      Word SELECT
      ∷ distinct d u
      (expressions d list
      (from d f (where_by d w (group_by d g (having_by d h (order_by d o (page d p (lock l rest))))))))
  query d (Combined a by all b o p) rest =
      side_open d
      (query d a
      (Close ∷ operator by ∷ all_word all (side_open d (query d b (Close ∷ by_places o (page d p rest))))))

-- ## Readings of token lists

-- The tokens are a query in the dialect, and this is the query.
abbrev pub Reads : Dialect → List Token → Query → Type 0
Reads d ts q = FitsQuery d q × (ts ≡ query d q [])

abbrev pub ReadsExpression : Dialect → List Token → Expression → Type 0
ReadsExpression d ts a = FitsExpression d a × (ts ≡ expression d a [])

abbrev pub ReadsSource : Dialect → List Token → Source → Type 0
ReadsSource d ts s = FitsSource d s × (ts ≡ source d s [])

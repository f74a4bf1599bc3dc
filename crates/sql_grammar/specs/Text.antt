-- How a tree is written, with its spaces, before more text.
use Rattle.std.specs.Prelude.{ℕ, List, [], ◌∷◌, ◌++◌, Option, Some, None, Bool, true, false, codes}
use Rattle.std.specs.Fmt.{decimal}
use Rattle.sql_dialect.specs.Written.{quoted}
use Rattle.sql_dialect.specs.declared.backend.Dialect.{Dialect}
use Rattle.sql_dialect.specs.declared.backend.Dialect.TheVariants.{Pg, Mysql, Sqlite, Bracket}
use Rattle.sql_grammar.specs.Spelling.{sign_text}
use Rattle.sql_grammar.specs.MarkTree.{Mark, Name, Logic, And, Or, Direction, Plain, Ascending, Descending, JoinKind, Inner, LeftOuter, SampleMethod, Bernoulli, System, SetOperator, Union, Intersect, Except, LockMode, ForUpdate, ForNoKeyUpdate, ForShare, ForKeyShare, LockWait, Waits, SkipLocked, NoWait, Lock, Unlocked, Locks, Sample, Whole, Sampled, Page, PageBy, FetchBy, Places, OnlyPlace, MorePlace, MaybePlaces, NoPlaces, SomePlaces, Expression, Path, Placeholder, SingleValue, Exists, Compared, Connected, Not, NullTest, CountAll, Count, InList, InQuery, Constant, Expressions, OnlyExpression, MoreExpression, Items, OnlyItem, MoreItem, Source, Table, Alias, Join, MaybeExpression, NoExpression, SomeExpression, MaybeExpressions, NoExpressions, SomeExpressions, MaybeItems, NoItems, SomeItems, MaybeSource, NoSource, SomeSource, Distinctness, Every, Distinct, DistinctOn, Query, Select, Combined}

abbrev pub Text : Type 0
Text = List ℕ

-- ## Words and names

-- `"schema"."table"."column"`
unfoldable pub names : Dialect → Name → List Name → Text → Text
names d a [] rest = quoted d a ++ rest
names d a (b ∷ bs) rest = quoted d a ++ (codes "." ++ names d b bs rest)

-- `$7`, on Bracket `@p7`, or `?` where the mark has no number
unfoldable pub mark : Dialect → Mark → Text → Text
mark d None rest = codes "?" ++ rest
mark Pg (Some n) rest = codes "$" ++ (decimal n ++ rest)
mark Mysql (Some n) rest = codes "$" ++ (decimal n ++ rest)
mark Sqlite (Some n) rest = codes "$" ++ (decimal n ++ rest)
mark Bracket (Some n) rest = codes "@p" ++ (decimal n ++ rest)

unfoldable pub marks : Dialect → Mark → List Mark → Text → Text
marks d p [] rest = mark d p rest
marks d p (n ∷ ns) rest = mark d p (codes ", " ++ marks d n ns rest)

unfoldable pub logic : Logic → Text → Text
logic And rest = codes " AND " ++ rest
logic Or rest = codes " OR " ++ rest

unfoldable pub direction : Direction → Text → Text
direction Plain rest = rest
direction Ascending rest = codes " ASC" ++ rest
direction Descending rest = codes " DESC" ++ rest

-- with the bracket that closes the test
unfoldable pub null_test : Bool → Text → Text
null_test false rest = codes " IS NULL)" ++ rest
null_test true rest = codes " IS NOT NULL)" ++ rest

-- with the bracket that opens the list or the query
unfoldable pub among : Dialect → Bool → Text → Text
among Pg false rest = codes " = ANY(" ++ rest
among Pg true rest = codes " != ALL(" ++ rest
among Mysql false rest = codes " IN (" ++ rest
among Mysql true rest = codes " NOT IN (" ++ rest
among Sqlite false rest = codes " IN (" ++ rest
among Sqlite true rest = codes " NOT IN (" ++ rest
among Bracket false rest = codes " IN (" ++ rest
among Bracket true rest = codes " NOT IN (" ++ rest

unfoldable pub constant : Bool → Text → Text
constant false rest = codes "(1=0)" ++ rest
constant true rest = codes "(1=1)" ++ rest

-- ## Sources

unfoldable pub kind : JoinKind → Text → Text
kind Inner rest = codes " INNER JOIN " ++ rest
kind LeftOuter rest = codes " LEFT OUTER JOIN " ++ rest

unfoldable pub method : SampleMethod → Text → Text
method Bernoulli rest = codes " TABLESAMPLE BERNOULLI(" ++ rest
method System rest = codes " TABLESAMPLE SYSTEM(" ++ rest

unfoldable pub only : Bool → Text → Text
only false rest = rest
only true rest = codes " ONLY " ++ rest

unfoldable pub seed : Dialect → Option Mark → Text → Text
seed d None rest = rest
seed d (Some p) rest = codes " REPEATABLE(" ++ mark d p (codes ")" ++ rest)

unfoldable pub sample : Dialect → Sample → Text → Text
sample d Whole rest = rest
sample d (Sampled by portion s) rest = method by (mark d portion (codes ")" ++ seed d s rest))

-- ## Pages and locks

unfoldable pub fetch : Dialect → Mark → Text → Text
fetch d l rest = codes " ROWS FETCH NEXT " ++ mark d l (codes " ROWS ONLY" ++ rest)

unfoldable pub page : Dialect → Page → Text → Text
page d (PageBy None None) rest = rest
page Pg (PageBy None (Some o)) rest = codes " OFFSET " ++ mark Pg o rest
page Mysql (PageBy None (Some o)) rest = codes " LIMIT 18446744073709551615  OFFSET " ++ mark Mysql o rest
page Sqlite (PageBy None (Some o)) rest = codes " LIMIT -1  OFFSET " ++ mark Sqlite o rest
page Bracket (PageBy None (Some o)) rest = codes " OFFSET " ++ mark Bracket o (codes " ROWS" ++ rest)
page d (PageBy (Some l) None) rest = codes " LIMIT " ++ mark d l rest
page d (PageBy (Some l) (Some o)) rest = codes " LIMIT " ++ mark d l (codes " OFFSET " ++ mark d o rest)
page d (FetchBy None l) rest = codes " OFFSET 0" ++ fetch d l rest
page d (FetchBy (Some o) l) rest = codes " OFFSET " ++ mark d o (fetch d l rest)

unfoldable pub mode : LockMode → Text → Text
mode ForUpdate rest = codes " FOR UPDATE" ++ rest
mode ForNoKeyUpdate rest = codes " FOR NO KEY UPDATE" ++ rest
mode ForShare rest = codes " FOR SHARE" ++ rest
mode ForKeyShare rest = codes " FOR KEY SHARE" ++ rest

unfoldable pub wait : LockWait → Text → Text
wait Waits rest = rest
wait SkipLocked rest = codes " SKIP LOCKED" ++ rest
wait NoWait rest = codes " NOWAIT" ++ rest

unfoldable pub lock : Lock → Text → Text
lock Unlocked rest = rest
lock (Locks m w) rest = mode m (wait w rest)

-- ## Combinations

unfoldable pub operator : SetOperator → Text → Text
operator Union rest = codes " UNION " ++ rest
operator Intersect rest = codes " INTERSECT " ++ rest
operator Except rest = codes " EXCEPT " ++ rest

unfoldable pub all_word : Bool → Text → Text
all_word false rest = rest
all_word true rest = codes "ALL " ++ rest

unfoldable pub side_open : Dialect → Text → Text
side_open Pg rest = codes "(" ++ rest
side_open Mysql rest = codes "(" ++ rest
side_open Bracket rest = codes "(" ++ rest
side_open Sqlite rest = codes "SELECT * FROM (" ++ rest

unfoldable pub places : Places → Text → Text
places (OnlyPlace n by) rest = n ++ direction by rest
places (MorePlace n by more) rest = n ++ direction by (codes ", " ++ places more rest)

unfoldable pub by_places : MaybePlaces → Text → Text
by_places NoPlaces rest = rest
by_places (SomePlaces ps) rest = codes " ORDER BY " ++ places ps rest

-- ## Expressions, sources and queries

unfoldable mutual
  pub expression : Dialect → Expression → Text → Text
  expression d (Path a ns) rest = names d a ns rest
  expression d (Placeholder p) rest = mark d p rest
  expression d (SingleValue q) rest = codes "(" ++ query d q (codes ")" ++ rest)
  expression d (Exists q) rest = codes "EXISTS (" ++ query d q (codes ")" ++ rest)
  expression d (Compared by a b) rest =
      codes "(" ++ expression d a (codes " " ++ sign_text by (codes " " ++ expression d b (codes ")" ++ rest)))
  expression d (Connected by a b) rest = codes "(" ++ expression d a (logic by (expression d b (codes ")" ++ rest)))
  expression d (Not a) rest = codes "NOT (" ++ expression d a (codes ")" ++ rest)
  expression d (NullTest negated a) rest = codes "(" ++ expression d a (null_test negated rest)
  expression d CountAll rest = codes "COUNT(*)" ++ rest
  expression d (Count a) rest = codes "COUNT(" ++ expression d a (codes ")" ++ rest)
  expression d (InList negated a p ps) rest =
      codes "(" ++ expression d a (among d negated (marks d p ps (codes "))" ++ rest)))
  expression d (InQuery negated a q) rest =
      codes "(" ++ expression d a (among d negated (query d q (codes "))" ++ rest)))
  expression d (Constant b) rest = constant b rest

  pub expressions : Dialect → Expressions → Text → Text
  expressions d (OnlyExpression a) rest = expression d a rest
  expressions d (MoreExpression a more) rest = expression d a (codes ", " ++ expressions d more rest)

  pub items : Dialect → Items → Text → Text
  items d (OnlyItem a by) rest = expression d a (direction by rest)
  items d (MoreItem a by more) rest = expression d a (direction by (codes ", " ++ items d more rest))

  pub source : Dialect → Source → Text → Text
  source d (Table a ns o s) rest = only o (names d a ns (sample d s rest))
  source d (Alias a ns b) rest = names d a ns (codes " AS " ++ (quoted d b ++ rest))
  source d (Join k a b e) rest =
      codes "(" ++ source d a (kind k (source d b (codes " ON " ++ expression d e (codes ")" ++ rest))))

  pub from : Dialect → MaybeSource → Text → Text
  from d NoSource rest = rest
  from d (SomeSource s) rest = codes " FROM " ++ source d s rest

  pub where_by : Dialect → MaybeExpression → Text → Text
  where_by d NoExpression rest = rest
  where_by d (SomeExpression e) rest = codes " WHERE " ++ expression d e rest

  pub group_by : Dialect → MaybeExpressions → Text → Text
  group_by d NoExpressions rest = rest
  group_by d (SomeExpressions es) rest = codes " GROUP BY " ++ expressions d es rest

  pub having_by : Dialect → MaybeExpression → Text → Text
  having_by d NoExpression rest = rest
  having_by d (SomeExpression e) rest = codes " HAVING " ++ expression d e rest

  pub order_by : Dialect → MaybeItems → Text → Text
  order_by d NoItems rest = rest
  order_by d (SomeItems is) rest = codes " ORDER BY " ++ items d is rest

  pub distinct : Dialect → Distinctness → Text → Text
  distinct d Every rest = rest
  distinct d Distinct rest = codes "DISTINCT " ++ rest
  distinct d (DistinctOn es) rest = codes "DISTINCT ON (" ++ expressions d es (codes ") " ++ rest)

  pub query : Dialect → Query → Text → Text
  query d (Select u es f w g h o p l) rest =
      codes "SELECT "
      ++ distinct d u
      (expressions d es
      (from d f (where_by d w (group_by d g (having_by d h (order_by d o (page d p (lock l rest))))))))
  query d (Combined a by all b o p) rest =
      side_open d
      (query d a
      (codes ")"
      ++ operator by (all_word all (side_open d (query d b (codes ")" ++ by_places o (page d p rest)))))))

-- the whole text of a query
unfoldable pub text : Dialect → Query → Text
text d q = query d q []

-- Four whole statements, by their texts and by what they say. The spaces are not those that the program writes.
use Rattle.std.specs.Prelude.{ℕ, List, [], ◌∷◌, ◌++◌, Some, None, true, false, codes}
use Rattle.sql_grammar.specs.Token.{Equal, Greater}
use Rattle.sql_grammar.specs.MarkTree.{Descending, LeftOuter, System, Union, Except, ForUpdate, SkipLocked, Unlocked, Locks, Whole, Sampled, PageBy, OnlyPlace, NoPlaces, SomePlaces, FetchBy, Expression, Path, Placeholder, Compared, CountAll, InList, Constant, OnlyExpression, MoreExpression, OnlyItem, Source, Table, Alias, Join, NoExpression, SomeExpression, NoExpressions, SomeExpressions, NoItems, SomeItems, MaybeSource, NoSource, SomeSource, Every, DistinctOn, Query, Select, Combined}

-- On Pg: a distinct selection, a join with a sample, an array, a page and a lock.
abbrev pub pg_text : List ℕ
pg_text =
    codes "SELECT DISTINCT ON ( \"u\".\"id\" ) \"u\".\"id\",COUNT( * ) FROM (\"users\" AS \"u\""
    ++ (codes
    " LEFT OUTER JOIN ONLY \"blog\".\"posts\" TABLESAMPLE SYSTEM($1) ON (\"u\".\"id\"=\"blog\".\"posts\".\"user_id\"))"
    ++ codes " WHERE(\"u\".\"id\"=ANY($2))ORDER BY \"u\".\"id\" DESC LIMIT $3 FOR UPDATE SKIP LOCKED")

abbrev pub user_id : Expression
user_id = Path (codes "u") (codes "id" ∷ [])

abbrev pub author : Expression
author = Path (codes "blog") (codes "posts" ∷ codes "user_id" ∷ [])

abbrev pub users : Source
users = Alias (codes "users") [] (codes "u")

abbrev pub posts : Source
posts = Table (codes "blog") (codes "posts" ∷ []) true (Sampled System (Some 1) None)

abbrev pub pg_query : Query
pg_query =
    Select (DistinctOn (OnlyExpression user_id)) (MoreExpression user_id (OnlyExpression CountAll))
    (SomeSource (Join LeftOuter users posts (Compared Equal user_id author)))
    (SomeExpression (InList false user_id (Some 2) [])) NoExpressions NoExpression
    (SomeItems (OnlyItem user_id Descending)) (PageBy (Some (Some 3)) None) (Locks ForUpdate SkipLocked)

-- On Mysql: a union of two selections, one with a list and one with an offset alone, in the order of its first column.
abbrev pub mysql_text : List ℕ
mysql_text =
    codes "(SELECT `a`.`x` FROM `a` WHERE (`a`.`x` NOT IN (?,?)))UNION ALL"
    ++ codes "(SELECT `a`.`x` FROM `a` LIMIT 18446744073709551615 OFFSET ?)ORDER BY 1 DESC"

abbrev pub column_x : Expression
column_x = Path (codes "a") (codes "x" ∷ [])

abbrev pub table_a : MaybeSource
table_a = SomeSource (Table (codes "a") [] false Whole)

abbrev pub mysql_query : Query
mysql_query =
    Combined
    (Select Every (OnlyExpression column_x) table_a (SomeExpression (InList true column_x None (None ∷ [])))
    NoExpressions NoExpression NoItems (PageBy None None) Unlocked)
    Union true
    (Select Every (OnlyExpression column_x) table_a NoExpression NoExpressions NoExpression NoItems
    (PageBy None (Some None)) Unlocked)
    (SomePlaces (OnlyPlace (codes "1") Descending)) (PageBy None None)

-- On Sqlite: groups, without what a selection gives whose condition is false whatever the row.
abbrev pub sqlite_text : List ℕ
sqlite_text =
    codes "SELECT*FROM(SELECT `a`.`x` FROM `a` GROUP BY `a`.`x` HAVING (COUNT(*)>?))"
    ++ codes " EXCEPT SELECT*FROM(SELECT ? WHERE (1=0)) LIMIT -1 OFFSET ?"

abbrev pub sqlite_query : Query
sqlite_query =
    Combined
    (Select Every (OnlyExpression column_x) table_a NoExpression (SomeExpressions (OnlyExpression column_x))
    (SomeExpression (Compared Greater CountAll (Placeholder None))) NoItems (PageBy None None) Unlocked)
    Except false
    (Select Every (OnlyExpression (Placeholder None)) NoSource (SomeExpression (Constant false)) NoExpressions
    NoExpression NoItems (PageBy None None) Unlocked)
    NoPlaces (PageBy None (Some None))

-- On Bracket: the rows to skip stand before those to take.
abbrev pub bracket_text : List ℕ
bracket_text = codes "SELECT [a].[x]FROM [a]WHERE([a].[x]IN(@p1,@p2))OFFSET @p3 ROWS FETCH NEXT @p4 ROWS ONLY"

abbrev pub bracket_query : Query
bracket_query =
    Select Every (OnlyExpression column_x) table_a
    (SomeExpression (InList false column_x (Some 1) (Some 2 ∷ []))) NoExpressions NoExpression NoItems
    (FetchBy (Some (Some 3)) (Some 4)) Unlocked

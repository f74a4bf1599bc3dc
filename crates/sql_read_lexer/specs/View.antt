-- The tokens of the program, seen as those of the grammar.
use Rattle.std.specs.Prelude.{string_bytes}
use Rattle.sql_read_lexer.specs.declared.token.Comparison.{Comparison}
use Rattle.sql_read_lexer.specs.declared.token.Comparison.TheVariants as c
use Rattle.sql_read_lexer.specs.declared.token.Keyword.{Keyword}
use Rattle.sql_read_lexer.specs.declared.token.Keyword.TheVariants as k
use Rattle.sql_read_lexer.specs.declared.token.Token.{Token}
use Rattle.sql_read_lexer.specs.declared.token.Token.TheVariants as t
use Rattle.sql_grammar.specs.Token as g

abbrev pub comparison_of : Comparison → g.Comparison
comparison_of c.Equal = g.Equal
comparison_of c.NotEqual = g.NotEqual
comparison_of c.Less = g.Less
comparison_of c.LessOrEqual = g.LessOrEqual
comparison_of c.Greater = g.Greater
comparison_of c.GreaterOrEqual = g.GreaterOrEqual

abbrev pub keyword_of : Keyword → g.Keyword
keyword_of k.Select = g.SELECT
keyword_of k.Distinct = g.DISTINCT
keyword_of k.On = g.ON
keyword_of k.From = g.FROM
keyword_of k.Where = g.WHERE
keyword_of k.Group = g.GROUP
keyword_of k.By = g.BY
keyword_of k.Having = g.HAVING
keyword_of k.Order = g.ORDER
keyword_of k.Asc = g.ASC
keyword_of k.Desc = g.DESC
keyword_of k.Limit = g.LIMIT
keyword_of k.Offset = g.OFFSET
keyword_of k.For = g.FOR
keyword_of k.Update = g.UPDATE
keyword_of k.Share = g.SHARE
keyword_of k.No = g.NO
keyword_of k.Key = g.KEY
keyword_of k.Skip = g.SKIP
keyword_of k.Locked = g.LOCKED
keyword_of k.NoWait = g.NOWAIT
keyword_of k.Union = g.UNION
keyword_of k.Intersect = g.INTERSECT
keyword_of k.Except = g.EXCEPT
keyword_of k.All = g.ALL
keyword_of k.As = g.AS
keyword_of k.Only = g.ONLY
keyword_of k.TableSample = g.TABLESAMPLE
keyword_of k.Bernoulli = g.BERNOULLI
keyword_of k.System = g.SYSTEM
keyword_of k.Repeatable = g.REPEATABLE
keyword_of k.Inner = g.INNER
keyword_of k.Left = g.LEFT
keyword_of k.Outer = g.OUTER
keyword_of k.Join = g.JOIN
keyword_of k.Exists = g.EXISTS
keyword_of k.And = g.AND
keyword_of k.Or = g.OR
keyword_of k.Not = g.NOT
keyword_of k.Is = g.IS
keyword_of k.Null = g.NULL
keyword_of k.Count = g.COUNT
keyword_of k.Any = g.ANY
keyword_of k.In = g.IN
keyword_of k.Rows = g.ROWS
keyword_of k.Fetch = g.FETCH
keyword_of k.Next = g.NEXT

abbrev pub token_of : Token → g.Token
token_of (t.Quoted n) = g.Quoted (string_bytes n)
token_of (t.Word k) = g.Word (keyword_of k)
token_of (t.Unknown w) = g.Unknown w.items
token_of (t.Number ds) = g.Number (string_bytes ds)
token_of (t.Mark m) = g.Mark m
token_of (t.Sign by) = g.Sign (comparison_of by)
token_of t.Open = g.Open
token_of t.Close = g.Close
token_of t.Comma = g.Comma
token_of t.Dot = g.Dot
token_of t.Star = g.Star
token_of t.Minus = g.Minus

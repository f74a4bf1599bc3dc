-- Words and signs that are seen as the same are the same.
use Rattle.std.proofs.Common.{◌≡◌, refl, sym, ap, ◌∙◌}
use Rattle.sql_grammar.specs.Token as g
use Rattle.sql_read_lexer.specs.View.{keyword_of, comparison_of}
use Rattle.sql_read_lexer.specs.declared.token.Comparison.{Comparison}
use Rattle.sql_read_lexer.specs.declared.token.Comparison.TheVariants as c
use Rattle.sql_read_lexer.specs.declared.token.Keyword.{Keyword}
use Rattle.sql_read_lexer.specs.declared.token.Keyword.TheVariants as k

abbrev keyword_back : g.Keyword → Keyword
keyword_back g.SELECT = k.Select
keyword_back g.DISTINCT = k.Distinct
keyword_back g.ON = k.On
keyword_back g.FROM = k.From
keyword_back g.WHERE = k.Where
keyword_back g.GROUP = k.Group
keyword_back g.BY = k.By
keyword_back g.HAVING = k.Having
keyword_back g.ORDER = k.Order
keyword_back g.ASC = k.Asc
keyword_back g.DESC = k.Desc
keyword_back g.LIMIT = k.Limit
keyword_back g.OFFSET = k.Offset
keyword_back g.FOR = k.For
keyword_back g.UPDATE = k.Update
keyword_back g.SHARE = k.Share
keyword_back g.NO = k.No
keyword_back g.KEY = k.Key
keyword_back g.SKIP = k.Skip
keyword_back g.LOCKED = k.Locked
keyword_back g.NOWAIT = k.NoWait
keyword_back g.UNION = k.Union
keyword_back g.INTERSECT = k.Intersect
keyword_back g.EXCEPT = k.Except
keyword_back g.ALL = k.All
keyword_back g.AS = k.As
keyword_back g.ONLY = k.Only
keyword_back g.TABLESAMPLE = k.TableSample
keyword_back g.BERNOULLI = k.Bernoulli
keyword_back g.SYSTEM = k.System
keyword_back g.REPEATABLE = k.Repeatable
keyword_back g.INNER = k.Inner
keyword_back g.LEFT = k.Left
keyword_back g.OUTER = k.Outer
keyword_back g.JOIN = k.Join
keyword_back g.EXISTS = k.Exists
keyword_back g.AND = k.And
keyword_back g.OR = k.Or
keyword_back g.NOT = k.Not
keyword_back g.IS = k.Is
keyword_back g.NULL = k.Null
keyword_back g.COUNT = k.Count
keyword_back g.ANY = k.Any
keyword_back g.IN = k.In
keyword_back g.ROWS = k.Rows
keyword_back g.FETCH = k.Fetch
keyword_back g.NEXT = k.Next

keyword_again : (a : Keyword) → keyword_back (keyword_of a) ≡ a
keyword_again k.Select = refl
keyword_again k.Distinct = refl
keyword_again k.On = refl
keyword_again k.From = refl
keyword_again k.Where = refl
keyword_again k.Group = refl
keyword_again k.By = refl
keyword_again k.Having = refl
keyword_again k.Order = refl
keyword_again k.Asc = refl
keyword_again k.Desc = refl
keyword_again k.Limit = refl
keyword_again k.Offset = refl
keyword_again k.For = refl
keyword_again k.Update = refl
keyword_again k.Share = refl
keyword_again k.No = refl
keyword_again k.Key = refl
keyword_again k.Skip = refl
keyword_again k.Locked = refl
keyword_again k.NoWait = refl
keyword_again k.Union = refl
keyword_again k.Intersect = refl
keyword_again k.Except = refl
keyword_again k.All = refl
keyword_again k.As = refl
keyword_again k.Only = refl
keyword_again k.TableSample = refl
keyword_again k.Bernoulli = refl
keyword_again k.System = refl
keyword_again k.Repeatable = refl
keyword_again k.Inner = refl
keyword_again k.Left = refl
keyword_again k.Outer = refl
keyword_again k.Join = refl
keyword_again k.Exists = refl
keyword_again k.And = refl
keyword_again k.Or = refl
keyword_again k.Not = refl
keyword_again k.Is = refl
keyword_again k.Null = refl
keyword_again k.Count = refl
keyword_again k.Any = refl
keyword_again k.In = refl
keyword_again k.Rows = refl
keyword_again k.Fetch = refl
keyword_again k.Next = refl

pub keyword_same : (a b : Keyword) → keyword_of a ≡ keyword_of b → a ≡ b
keyword_same a b e = sym (keyword_again a) ∙ ap keyword_back e ∙ keyword_again b

abbrev comparison_back : g.Comparison → Comparison
comparison_back g.Equal = c.Equal
comparison_back g.NotEqual = c.NotEqual
comparison_back g.Less = c.Less
comparison_back g.LessOrEqual = c.LessOrEqual
comparison_back g.Greater = c.Greater
comparison_back g.GreaterOrEqual = c.GreaterOrEqual

comparison_again : (a : Comparison) → comparison_back (comparison_of a) ≡ a
comparison_again c.Equal = refl
comparison_again c.NotEqual = refl
comparison_again c.Less = refl
comparison_again c.LessOrEqual = refl
comparison_again c.Greater = refl
comparison_again c.GreaterOrEqual = refl

pub comparison_same : (a b : Comparison) → comparison_of a ≡ comparison_of b → a ≡ b
comparison_same a b e = sym (comparison_again a) ∙ ap comparison_back e ∙ comparison_again b

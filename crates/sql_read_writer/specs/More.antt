-- How the further elements of a list are written, each after a comma.
use Rattle.std.specs.Prelude.{ℕ, List, [], ◌∷◌, ◌++◌, codes, Bool, true, false}
use Rattle.sql_dialect.specs.declared.backend.Dialect.{Dialect}
use Rattle.sql_dialect.specs.declared.backend.Dialect.TheVariants.{Pg, Mysql, Sqlite, Bracket}
use Rattle.sql_grammar.specs.MarkTree.{Mark, Expression, MaybeExpression, NoExpression, SomeExpression, Query, Select, Combined}
use Rattle.sql_grammar.specs.Text as x
use Rattle.sql_read_tree.specs.Path.{Path}
use Rattle.sql_read_tree.specs.View.{Ordered, Placed}

-- what stands before the number of a placeholder
abbrev pub number_sign : Dialect → x.Text → x.Text
number_sign Pg rest = codes "$" ++ rest
number_sign Mysql rest = codes "$" ++ rest
number_sign Sqlite rest = codes "$" ++ rest
number_sign Bracket rest = codes "@p" ++ rest

abbrev pub marks : Dialect → List Mark → x.Text → x.Text
marks d [] rest = rest
marks d (m ∷ ms) rest = codes ", " ++ x.mark d m (marks d ms rest)

-- what stands before an element of a list
abbrev pub head : Bool → x.Text → x.Text
head true word = word
head false word = codes ", "

-- expressions, the first after a word, the others each after a comma; nothing where there are none
abbrev pub listed : Dialect → x.Text → List Expression → x.Text → x.Text
listed d word [] rest = rest
listed d word (e ∷ es) rest = word ++ x.expression d e (listed d (codes ", ") es rest)

-- the same of items
abbrev pub items : Dialect → x.Text → List Ordered → x.Text → x.Text
items d word [] rest = rest
items d word (i ∷ is) rest = word ++ x.expression d i.0 (x.direction i.1 (items d (codes ", ") is rest))

abbrev pub place : Placed → x.Text → x.Text
place p rest = p.0 ++ x.direction p.1 rest

abbrev pub places : x.Text → List Placed → x.Text → x.Text
places word [] rest = rest
places word (p ∷ ps) rest = word ++ place p (places (codes ", ") ps rest)

-- a condition after a word, where there is one
abbrev pub condition : Dialect → x.Text → MaybeExpression → x.Text → x.Text
condition d word NoExpression rest = rest
condition d word (SomeExpression e) rest = word ++ x.expression d e rest

-- a path
abbrev pub path_text : Dialect → Path → x.Text → x.Text
path_text d p rest = x.names d p.first p.more rest

-- the parts of a query that are lists; a combination has none

unfoldable pub selected_part : Dialect → Query → x.Text → x.Text
selected_part d (Select u es f w g h o p l) rest = x.expressions d es rest
selected_part d (Combined a by all b o p) rest = rest

unfoldable pub group_part : Dialect → Query → x.Text → x.Text
group_part d (Select u es f w g h o p l) rest = x.group_by d g rest
group_part d (Combined a by all b o p) rest = rest

unfoldable pub order_part : Dialect → Query → x.Text → x.Text
order_part d (Select u es f w g h o p l) rest = x.order_by d o rest
order_part d (Combined a by all b o p) rest = rest

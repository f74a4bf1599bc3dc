-- The kinds of trees: one for each production of the grammar, for each list, and for each clause that a selection may lack.
-- Of each: its trees, which of them fit a dialect, and the tokens that a tree is read from.
use Rattle.std.specs.Prelude.{◌≡◌, ℕ, List, [], ◌∷◌, Bool}
use Rattle.sql_dialect.specs.declared.backend.Dialect.{Dialect}
use Rattle.sql_grammar.specs.Token.{Token, Number, Sign, Close}
use Rattle.sql_grammar.specs.MarkTree as tree
use Rattle.sql_grammar.specs.Fits as f
use Rattle.sql_grammar.specs.Grammar as g
use Rattle.sql_grammar.specs.Grammar.{Front}

pub data Kind : Type 0 where
  Query : Kind
  -- a side of a combination
  Side : Kind
  -- an operator of combinations, with ALL or without
  Operator : Kind
  -- DISTINCT, DISTINCT ON or neither
  Distinct : Kind
  Expression : Kind
  -- the list of a selection, of GROUP BY and of DISTINCT ON
  Expressions : Kind
  -- the list of a membership
  Placeholders : Kind
  Comparison : Kind
  -- AND or OR
  Logic : Kind
  Source : Kind
  -- the name of a table, after its schema or alone
  Name : Kind
  JoinKind : Kind
  -- TABLESAMPLE or nothing
  Sample : Kind
  SampleMethod : Kind
  -- clauses, each with what stands in it, or nothing
  From : Kind
  Where : Kind
  GroupBy : Kind
  Having : Kind
  OrderBy : Kind
  -- an item of ORDER BY, and the list of them
  Item : Kind
  Items : Kind
  -- ASC, DESC or neither
  Direction : Kind
  -- a number in the ORDER BY of a combination, the list of them, and the clause
  Place : Kind
  Places : Kind
  OrderByPlaces : Kind
  -- the page of a selection, and of a combination
  Page : Kind
  OuterPage : Kind
  Lock : Kind
  LockMode : Kind
  LockWait : Kind

-- A kind of the grammar: its trees, those that fit a dialect, and the tokens of a tree, put before those that follow.
pub record Production : Type 1 where
  pub Tree : Type 0
  pub Fits : Dialect → Tree → Type 0
  pub tokens : Dialect → Tree → Front

abbrev pub of : {T : Type 0} → (Dialect → T → Type 0) → (Dialect → T → Front) → Production
of {T} fits tokens = record { Tree = T; Fits = fits; tokens = tokens }

-- words that each dialect has
abbrev pub words : {T : Type 0} → (T → Front) → Production
words tokens = of (λ d t. Unit {0}) (λ d. tokens)

abbrev pub side : Dialect → tree.Query → Front
side d q rest = g.side_open d (g.query d q (Close ∷ rest))

abbrev pub operator : tree.SetOperator × Bool → Front
operator (by, all) rest = g.operator by ∷ g.all_word all rest

abbrev pub item : Dialect → tree.Expression × tree.Direction → Front
item d (a, by) rest = g.expression d a (g.direction by rest)

abbrev pub place : List ℕ × tree.Direction → Front
place (n, by) rest = Number n ∷ g.direction by rest

abbrev pub production : Kind → Production
production Query = of f.FitsQuery g.query
production Side = of f.FitsQuery side
production Operator = of (λ d (o : tree.SetOperator × Bool). f.FitsOperator d o.0 o.1) (λ d. operator)
production Distinct = of f.FitsDistinctness g.distinct
production Expression = of f.FitsExpression g.expression
production Expressions = of f.FitsExpressions g.expressions
production Placeholders = of (λ d (ms : tree.Mark × List tree.Mark). f.FitsList d ms.0 ms.1) (λ d ms. g.marks ms.0 ms.1)
production Comparison = words (λ by rest. Sign by ∷ rest)
production Logic = words (λ by rest. g.logic by ∷ rest)
production Source = of f.FitsSource g.source
production Name = of (λ d (ns : tree.Name × List tree.Name). f.IsTablePath ns.1) (λ d ns. g.names ns.0 ns.1)
production JoinKind = words g.kind
production Sample = of f.FitsSample (λ d. g.sample)
production SampleMethod = words (λ by rest. g.method by ∷ rest)
production From = of f.FitsMaybeSource g.from
production Where = of f.FitsMaybeExpression g.where_by
production GroupBy = of f.FitsMaybeExpressions g.group_by
production Having = of f.FitsMaybeExpression g.having_by
production OrderBy = of f.FitsMaybeItems g.order_by
production Item = of (λ d (i : tree.Expression × tree.Direction). f.FitsExpression d i.0) item
production Items = of f.FitsItems g.items
production Direction = words g.direction
production Place = of (λ d (p : List ℕ × tree.Direction). f.IsPlace p.0) (λ d. place)
production Places = of (λ d. f.FitsPlaces) (λ d. g.places)
production OrderByPlaces = of (λ d. f.FitsMaybePlaces) (λ d. g.by_places)
production Page = of f.FitsPage g.page
production OuterPage = of f.FitsOuterPage g.page
production Lock = of f.FitsLock (λ d. g.lock)
production LockMode = of f.FitsMode (λ d. g.mode)
production LockWait = words g.wait

-- The trees of a kind.
abbrev pub TreeOf : Kind → Type 0
TreeOf k = (production k).Tree

-- The tokens are a tree of this kind in the dialect, and this is the tree.
abbrev pub ReadsAs : Dialect → (k : Kind) → List Token → TreeOf k → Type 0
ReadsAs d k ts t = (production k).Fits d t × (ts ≡ (production k).tokens d t [])

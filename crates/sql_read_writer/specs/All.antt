-- Each element of a list fits.
use Rattle.std.specs.Prelude.{List, [], ◌∷◌}
use Rattle.sql_dialect.specs.declared.backend.Dialect.{Dialect}
use Rattle.sql_grammar.specs.MarkTree.{Expression, Query, Select, Combined}
use Rattle.sql_grammar.specs.Fits.{FitsExpression, FitsExpressions, FitsMaybeExpressions, FitsMaybeItems, IsPlace}
use Rattle.sql_read_tree.specs.View.{Ordered, Placed}

abbrev pub Expressions : Dialect → List Expression → Type 0
Expressions d [] = Unit {0}
Expressions d (e ∷ es) = FitsExpression d e × Expressions d es

abbrev pub Items : Dialect → List Ordered → Type 0
Items d [] = Unit {0}
Items d (i ∷ is) = FitsExpression d i.0 × Items d is

abbrev pub Places : List Placed → Type 0
Places [] = Unit {0}
Places (p ∷ ps) = IsPlace p.0 × Places ps

-- The lists of a query fit. A combination has none.

abbrev pub Selected : Dialect → Query → Type 0
Selected d (Select u es f w g h o p l) = FitsExpressions d es
Selected d (Combined a by all b o p) = Unit {0}

abbrev pub Grouped : Dialect → Query → Type 0
Grouped d (Select u es f w g h o p l) = FitsMaybeExpressions d g
Grouped d (Combined a by all b o p) = Unit {0}

abbrev pub InOrder : Dialect → Query → Type 0
InOrder d (Select u es f w g h o p l) = FitsMaybeItems d o
InOrder d (Combined a by all b o p) = Unit {0}

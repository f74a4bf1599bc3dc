-- Whether the values of a statement fit their types, those in lists too (diesel, `AsExpression`). Limits, offsets and the
-- numbers of a sample are bound as what they are, so they always do.
use Rattle.std.specs.Prelude.{Bool, true, IsTrue}
use Rattle.sql_node.specs.Tree.{Expr, value, among_values, Statement}
use Rattle.sql_shape.specs.Nodes.{NodeTests, all_statement}
use Rattle.sql_rules.specs.Scope.{View, EachNode}
use Rattle.sql_rules.specs.Types.{fits, all_fit}

-- what an expression itself binds fits the type that it is bound as
abbrev pub Fits : View → Expr → Type 0
Fits v (value t x) = IsTrue (fits t x)
Fits v (among_values n e t xs) = IsTrue (all_fit t xs)
Fits v _ = Unit {0}

abbrev pub ValuesFit : Statement → Type 0
ValuesFit s = EachNode Fits s

-- ---- the same as a test

abbrev pub fit_tests : NodeTests
fit_tests =
    record { boxed = true; value = fits; values = all_fit; sample = λ s. true; places = λ o. true }

abbrev pub values_fit : Statement → Bool
values_fit = all_statement fit_tests

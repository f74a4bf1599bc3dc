-- The operators over one expression and over two: what is written of each (PostgreSQL, Comparison Functions and Operators, Logical
-- Operators).
use Rattle.std.specs.Prelude.{ℕ, List, codes}
use Rattle.sql_leaf.specs.declared.operator.Unary.{Unary}
use Rattle.sql_leaf.specs.declared.operator.Unary.TheVariants.{Not, IsNull, IsNotNull}
use Rattle.sql_leaf.specs.declared.operator.Comparison.{Comparison}
use Rattle.sql_leaf.specs.declared.operator.Comparison.TheVariants.{Eq, Ne, Gt, Ge, Lt, Le}
use Rattle.sql_leaf.specs.declared.operator.Logic.{Logic}
use Rattle.sql_leaf.specs.declared.operator.Logic.TheVariants.{And, Or}

-- it has ten bytes or more, and does not unfold
unfoldable pub is_not_null : List ℕ
is_not_null = codes " IS NOT NULL)"

abbrev pub unary_before : Unary → List ℕ
unary_before Not = codes "NOT ("
unary_before IsNull = codes "("
unary_before IsNotNull = codes "("

abbrev pub unary_after : Unary → List ℕ
unary_after Not = codes ")"
unary_after IsNull = codes " IS NULL)"
unary_after IsNotNull = is_not_null

abbrev pub comparison_sql : Comparison → List ℕ
comparison_sql Eq = codes " = "
comparison_sql Ne = codes " != "
comparison_sql Gt = codes " > "
comparison_sql Ge = codes " >= "
comparison_sql Lt = codes " < "
comparison_sql Le = codes " <= "

abbrev pub logic_sql : Logic → List ℕ
logic_sql And = codes " AND "
logic_sql Or = codes " OR "

-- A NOT that is an operand of a comparison, a null test or a membership. It is written without brackets of its own, as diesel writes
-- it, and servers read it as the NOT of all that follows.
use Rattle.std.specs.Prelude.{Bool, true, false, ◌||◌}
use Rattle.sql_leaf.specs.declared.operator.Unary.TheVariants.{Not, IsNull, IsNotNull}
use Rattle.sql_node.specs.Tree.{Expr, column, value, list, count_star, nullable, unary, count, compared, joined, exists, single, among_values, among_rows}

-- it is written as a NOT
abbrev pub is_negation : Expr → Bool
is_negation (unary Not e) = true
is_negation (nullable e) = is_negation e
is_negation _ = false

-- Such a NOT stands in the condition. Lists and subselects stand in no predicate.
abbrev pub is_misread : Expr → Bool
is_misread (nullable e) = is_misread e
is_misread (unary Not e) = is_misread e
is_misread (unary IsNull e) = is_negation e || is_misread e
is_misread (unary IsNotNull e) = is_negation e || is_misread e
is_misread (count e) = is_misread e
is_misread (compared by a b) = (is_negation a || is_misread a) || (is_negation b || is_misread b)
is_misread (joined by a b) = is_misread a || is_misread b
is_misread (among_values n e ty xs) = is_negation e || is_misread e
is_misread (among_rows n e q) = is_negation e || is_misread e
is_misread _ = false

-- Values and the operators on them. NULL is the third truth value, unknown (PostgreSQL, Logical Operators; Comparison
-- Functions and Operators; Row and Array Comparisons).
use Rattle.std.specs.Prelude.{Bool, true, false, not, ◌&&◌, ◌||◌, List, [], ◌∷◌, int_lt, if◌then◌else◌}
use Rattle.std.specs.Cmp.Lexicographic.{slice_cmp}
use Rattle.std.specs.Ordering.{nat_cmp, is_lt}
use Rattle.sql_pass.specs.contracts.value.ValuePartialEq.TheImpl as value_eq
use Rattle.sql_pass.specs.declared.value.Value.{Value}
use Rattle.sql_pass.specs.declared.value.Value.TheVariants as V
use Rattle.sql_leaf.specs.declared.operator.Unary.{Unary}
use Rattle.sql_leaf.specs.declared.operator.Unary.TheVariants.{Not, IsNull, IsNotNull}
use Rattle.sql_leaf.specs.declared.operator.Comparison.{Comparison}
use Rattle.sql_leaf.specs.declared.operator.Comparison.TheVariants.{Eq, Ne, Lt, Le, Gt, Ge}
use Rattle.sql_leaf.specs.declared.operator.Logic.{Logic}
use Rattle.sql_leaf.specs.declared.operator.Logic.TheVariants.{And, Or}

abbrev pub is_null : Value → Bool
is_null V.Null = true
is_null _ = false

abbrev pub is_true : Value → Bool
is_true (V.Bool b) = b
is_true _ = false

abbrev pub is_false : Value → Bool
is_false (V.Bool b) = not b
is_false _ = false

-- whether two values are one, NULL and NULL too: IS NOT DISTINCT FROM (PostgreSQL, Comparison Functions and Operators)
abbrev pub same_value : Value → Value → Bool
same_value = (value_eq.ghosts).eq

-- `<`: numbers by value, false before true, texts and byte strings byte by byte
abbrev pub is_below : Value → Value → Bool
is_below (V.SmallInt x) (V.SmallInt y) = int_lt x y
is_below (V.Integer x) (V.Integer y) = int_lt x y
is_below (V.BigInt x) (V.BigInt y) = int_lt x y
is_below (V.Text x) (V.Text y) = is_lt (slice_cmp nat_cmp x y)
is_below (V.Binary x) (V.Binary y) = is_lt (slice_cmp nat_cmp x y)
is_below (V.Bool x) (V.Bool y) = not x && y
is_below _ _ = false

-- a comparison of two values that are not NULL
abbrev pub compares : Comparison → Value → Value → Bool
compares Eq x y = same_value x y
compares Ne x y = not (same_value x y)
compares Lt x y = is_below x y
compares Le x y = not (is_below y x)
compares Gt x y = is_below y x
compares Ge x y = not (is_below x y)

-- A comparison with NULL gives NULL (PostgreSQL, Comparison Functions and Operators).
unfoldable pub compared_value : Comparison → Value → Value → Value
compared_value by x y = if is_null x || is_null y then V.Null else V.Bool (compares by x y)

-- AND is false where an operand is, OR is true where an operand is; else NULL where an operand is (PostgreSQL, Logical
-- Operators: the truth tables).
unfoldable pub joined_value : Logic → Value → Value → Value
joined_value And x y =
    if is_false x || is_false y then V.Bool false
    else if is_null x || is_null y then V.Null
    else V.Bool (is_true x && is_true y)
joined_value Or x y =
    if is_true x || is_true y then V.Bool true
    else if is_null x || is_null y then V.Null
    else V.Bool false

unfoldable pub not_value : Value → Value
not_value x = if is_null x then V.Null else V.Bool (not (is_true x))

-- IS NULL, and negated IS NOT NULL: true or false, never NULL
abbrev pub unary_value : Unary → Value → Value
unary_value Not x = not_value x
unary_value IsNull x = V.Bool (is_null x)
unary_value IsNotNull x = V.Bool (not (is_null x))

-- = ANY, or IN: the OR of the equalities, false where there are no values (PostgreSQL, Row and Array Comparisons)
unfoldable pub any_value : Value → List Value → Value
any_value x [] = V.Bool false
any_value x (y ∷ ys) = joined_value Or (compared_value Eq x y) (any_value x ys)

-- = ANY, and negated <> ALL, which is its NOT
abbrev pub among_value : Bool → Value → List Value → Value
among_value false x ys = any_value x ys
among_value true x ys = not_value (any_value x ys)

-- The types of expressions and of a statement's columns. SQL's NULL is a type's own mark: what may give NULL is nullable
-- (PostgreSQL, Value Expressions; Comparison Functions and Operators; Logical Operators; diesel, `Expression::SqlType`).
use Rattle.std.specs.Prelude.{List, [], ◌∷◌, ◌++◌, map, Option, None, Some, Bool, true, false, ◌&&◌, ◌||◌, if◌then◌else◌}
use Rattle.std.specs.List.{list_all}
use Rattle.sql_schema.specs.Equality.{same_type}
use Rattle.sql_schema.specs.Refusals.{same_base}
use Rattle.sql_schema.specs.declared.types.Base.TheVariants as base
use Rattle.sql_schema.specs.declared.types.SqlType.{SqlType}
use Rattle.sql_pass.specs.declared.value.Value.{Value}
use Rattle.sql_pass.specs.declared.value.Value.TheVariants as V
use Rattle.sql_leaf.specs.declared.operator.Unary.{Unary}
use Rattle.sql_leaf.specs.declared.operator.Unary.TheVariants.{Not, IsNull, IsNotNull}
use Rattle.sql_node.specs.Tree.{Form, unboxed, boxed, Expr, column, value, list, count_star, nullable, unary, count, compared, joined, exists, single, among_values, among_rows, Exprs, no_exprs, more_exprs, Statement, select, combination}

abbrev pub is_bool : SqlType → Bool
is_bool t = same_base t.base base.Bool

-- the value has the type's base, or is NULL and the type is nullable
abbrev pub fits : SqlType → Value → Bool
fits t (V.SmallInt z) = same_base t.base base.SmallInt
fits t (V.Integer z) = same_base t.base base.Integer
fits t (V.BigInt z) = same_base t.base base.BigInt
fits t (V.Text s) = same_base t.base base.Text
fits t (V.Binary b) = same_base t.base base.Binary
fits t (V.Bool b) = same_base t.base base.Bool
fits t V.Null = t.nullable

abbrev pub all_fit : SqlType → List Value → Bool
all_fit t xs = list_all (fits t) xs

-- what an expression has: a type or none, or, for a list and for nullables over one, those of its elements
pub data Given : Type 0 where
  one : Option SqlType → Given
  many : List (Option SqlType) → Given

-- a list has no type
abbrev pub only_type : Given → Option SqlType
only_type (one t) = t
only_type (many ts) = None

abbrev pub element_types : Given → List (Option SqlType)
element_types (one t) = t ∷ []
element_types (many ts) = ts

abbrev pub bool_type : Bool → Option SqlType
bool_type n = Some (record { base = base.Bool; nullable = n })

abbrev pub big_type : Option SqlType
big_type = Some (record { base = base.BigInt; nullable = false })

abbrev pub as_nullable : Option SqlType → Option SqlType
as_nullable None = None
as_nullable (Some t) = Some (record { base = t.base; nullable = true })

abbrev pub all_nullable : Given → Given
all_nullable (one t) = one (as_nullable t)
all_nullable (many ts) = many (map as_nullable ts)

-- NOT gives its operand's type
abbrev pub not_type : Option SqlType → Option SqlType
not_type None = None
not_type (Some t) = if is_bool t then Some t else None

-- a null test and COUNT take any type
abbrev pub if_typed : Option SqlType → Option SqlType → Option SqlType
if_typed None t = None
if_typed (Some x) t = t

-- that of an operator, over an operand of that type
abbrev pub unary_type : Unary → Option SqlType → Option SqlType
unary_type u None = None
unary_type Not (Some t) = not_type (Some t)
unary_type IsNull (Some t) = bool_type false
unary_type IsNotNull (Some t) = bool_type false

-- a comparison asks equal types, and is nullable where they are
abbrev pub compared_type : Option SqlType → Option SqlType → Option SqlType
compared_type None b = None
compared_type (Some a) None = None
compared_type (Some a) (Some b) = if same_type a b then bool_type a.nullable else None

-- AND and OR are nullable where an operand is
abbrev pub joined_type : Option SqlType → Option SqlType → Option SqlType
joined_type None b = None
joined_type (Some a) None = None
joined_type (Some a) (Some b) = if is_bool a && is_bool b then bool_type (a.nullable || b.nullable) else None

-- the type of a statement's one column
abbrev pub single_type : List (Option SqlType) → Option SqlType
single_type [] = None
single_type (t ∷ []) = t
single_type (t ∷ (u ∷ us)) = None

-- a membership compares with each value of a list, and each fits the list's type
abbrev pub among_type : Option SqlType → SqlType → List Value → Option SqlType
among_type x t xs = if all_fit t xs then compared_type x (Some t) else None

-- the columns of a boxed statement are all nullable where it says so
abbrev pub form_columns : Form → List (Option SqlType) → List (Option SqlType)
form_columns (unboxed l) ts = ts
form_columns (boxed d false) ts = ts
form_columns (boxed d true) ts = map as_nullable ts

abbrev mutual
  pub given : Expr → Given
  given (column o c) = one (Some c.ty)
  given (value t x) = one (Some t)
  given (list es) = many (given_each es)
  given count_star = one big_type
  given (nullable e) = all_nullable (given e)
  given (unary u e) = one (unary_type u (only_type (given e)))
  given (count e) = one (if_typed (only_type (given e)) big_type)
  given (compared by a b) = one (compared_type (only_type (given a)) (only_type (given b)))
  given (joined by a b) = one (joined_type (only_type (given a)) (only_type (given b)))
  given (exists q) = one (bool_type false)
  given (single q) = one (as_nullable (single_type (columns q)))
  given (among_values n e t xs) = one (among_type (only_type (given e)) t xs)
  given (among_rows n e q) = one (compared_type (only_type (given e)) (single_type (columns q)))

  pub given_each : Exprs → List (Option SqlType)
  given_each no_exprs = []
  given_each (more_exprs e es) = element_types (given e) ++ given_each es

  -- the types of a statement's columns; a combination has its left side's
  pub columns : Statement → List (Option SqlType)
  columns (select default e f u w o rows g h form marks) = form_columns form (element_types (given e))
  columns (combination by all a b o rows) = columns a

abbrev pub type_of : Expr → Option SqlType
type_of e = only_type (given e)

-- What a node has, by what its children have, and whether it is ill-typed or an empty list.
use Rattle.std.specs.Prelude.{List, [], ◌∷◌, ◌++◌, map, Option, None, Some, Bool, true, false, not, ◌||◌, if◌then◌else◌}
use Rattle.std.specs.Cmp.Lexicographic.{pointwise}
use Rattle.std.specs.List.{list_any}
use Rattle.std.specs.Option.{is_none, option_eq}
use Rattle.sql_schema.specs.Equality.{same_type}
use Rattle.sql_schema.specs.declared.types.SqlType.{SqlType}
use Rattle.sql_rules.specs.Types.{Given, one, many, only_type, element_types, bool_type, big_type, as_nullable, all_nullable, unary_type, if_typed, compared_type, joined_type, single_type, fits, is_bool}
use Rattle.sql_flat.specs.declared.kind.FlatKind.{FlatKind}
use Rattle.sql_flat.specs.declared.kind.FlatKind.TheVariants as K
use Rattle.sql_flat.specs.declared.kind.Form.{Form}
use Rattle.sql_flat.specs.declared.kind.Form.TheVariants as form
use Rattle.sql_flat.specs.declared.kind.Uniqueness.{Uniqueness}
use Rattle.sql_flat.specs.declared.kind.Uniqueness.TheVariants as unique

-- what the first child has
abbrev pub first : List Given → Given
first [] = one None
first (g ∷ gs) = g

abbrev pub others : List Given → List Given
others [] = []
others (g ∷ gs) = gs

abbrev pub types_of_each : List Given → List (Option SqlType)
types_of_each [] = []
types_of_each (g ∷ gs) = element_types g ++ types_of_each gs

-- the type of the one column of a statement, or of a list of values
abbrev pub column_type : Given → Option SqlType
column_type g = single_type (element_types g)

abbrev pub both : Option SqlType → Option SqlType → Option SqlType
both t None = None
both t (Some u) = t

-- the type, where each child has one
abbrev pub where_all : Option SqlType → List Given → Option SqlType
where_all t [] = t
where_all t (g ∷ gs) = where_all (both t (only_type g)) gs

abbrev pub selection : Uniqueness → List Given → Given
selection unique.Every gs = first gs
selection unique.Distinct gs = first gs
selection unique.DistinctOn gs = first (others gs)

abbrev pub columns_as : Form → List (Option SqlType) → List (Option SqlType)
columns_as (form.Unboxed l) ts = ts
columns_as (form.Boxed d false) ts = ts
columns_as (form.Boxed d true) ts = map as_nullable ts

abbrev pub typing : FlatKind → List Given → Given
typing (K.Column a c) gs = one (Some c.decl.ty)
typing (K.Value t v) gs = one (Some t)
typing K.List gs = many (types_of_each gs)
typing K.CountStar gs = one big_type
typing K.Nullable gs = all_nullable (first gs)
typing (K.Unary u) gs = one (unary_type u (only_type (first gs)))
typing K.Count gs = one (if_typed (only_type (first gs)) big_type)
typing (K.Compared by) gs = one (compared_type (only_type (first gs)) (only_type (first (others gs))))
typing (K.Joined by) gs = one (joined_type (only_type (first gs)) (only_type (first (others gs))))
typing K.Exists gs = one (bool_type false)
typing K.Single gs = one (as_nullable (column_type (first gs)))
typing (K.Among n values) gs = one (compared_type (only_type (first gs)) (column_type (first (others gs))))
typing (K.Values t) gs = one (where_all (Some t) gs)
typing (K.Element t v) gs = one (if fits t v then Some t else None)
typing (K.Item by) gs = first gs
typing (K.Select s) gs = many (columns_as s.form (element_types (selection s.unique gs)))
typing K.Side gs = first gs
typing (K.Combination c) gs = many (element_types (first gs))
typing _ gs = one None

-- ---- tests of one node

abbrev pub any_untyped : List (Option SqlType) → Bool
any_untyped ts = list_any is_none ts

abbrev pub is_condition : Option SqlType → Bool
is_condition None = false
is_condition (Some t) = is_bool t

abbrev pub differ : List (Option SqlType) → List (Option SqlType) → Bool
differ ts us = not (pointwise (option_eq same_type) ts us)

-- a value does not fit, a condition is not Bool, an element or an item has no type, or the sides of a combination
-- differ
abbrev pub ill : FlatKind → List Given → Bool
ill (K.Value t v) gs = not (fits t v)
ill K.On gs = not (is_condition (only_type (first gs)))
ill K.DistinctOn gs = any_untyped (element_types (first gs))
ill K.Where gs = not (is_condition (only_type (first gs)))
ill K.GroupBy gs = any_untyped (element_types (first gs))
ill K.Having gs = not (is_condition (only_type (first gs)))
ill (K.Item by) gs = is_none (only_type (first gs))
ill (K.Select s) gs = any_untyped (element_types (selection s.unique gs)) || s.marks.key_count
ill (K.Combination c) gs = differ (element_types (first gs)) (element_types (first (others gs)))
ill _ gs = false

abbrev pub is_nil : {X : Type 0} → List X → Bool
is_nil [] = true
is_nil (x ∷ xs) = false

-- a list, or an order, has no element
abbrev pub empty : FlatKind → List Given → Bool
empty K.DistinctOn gs = is_nil (element_types (first gs))
empty K.GroupBy gs = is_nil (element_types (first gs))
empty K.OrderBy gs = is_nil (types_of_each gs)
empty (K.Select s) gs = is_nil (element_types (selection s.unique gs))
empty K.Positions gs = is_nil gs
empty _ gs = false

-- ---- what a node has, with the tests of it

pub record Judged : Type 0 where
  pub given : Given
  pub mismatched : Bool
  pub empty : Bool

abbrev pub judging : FlatKind → List Given → Judged
judging k gs = record { given = typing k gs; mismatched = ill k gs; empty = empty k gs }

-- where no test holds
abbrev pub sound : Given → Judged
sound g = record { given = g; mismatched = false; empty = false }

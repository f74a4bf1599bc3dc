-- Which leaves a column's path names (PostgreSQL, Value Expressions, Column References).
use Rattle.std.specs.Prelude.{◌≡◌, ℕ, List, [], ◌∷◌, ◌++◌, Some, slice_get}
use Rattle.sql_schema.specs.declared.declaration.ColumnDecl.{ColumnDecl}
use Rattle.sql_node.specs.Tree.{Origin, Expr, column}
use Rattle.sql_origin.specs.Origins.{exposed_path}
use Rattle.sql_rules.specs.Lists.{AnyOf, IsSuffix}
use Rattle.sql_rules.specs.Scope.{View}

-- as it is written
abbrev pub path : Origin → ColumnDecl → List (List ℕ)
path o c = exposed_path o ++ c.sql_name ∷ []

-- The path without its last part is the end of what the leaf exposes, and the last part is a column of the leaf's table.
abbrev pub Names : List (List ℕ) → Origin → Type 0
Names p leaf =
    (front : List (List ℕ)) × (last : List ℕ) × (p ≡ front ++ last ∷ []) × IsSuffix front (exposed_path leaf)
    × AnyOf (λ d. d.sql_name ≡ last) leaf.table.columns

-- A path names exactly one leaf of a view, at a place k, and that leaf is this one.
abbrev pub NamesOnly : View → List (List ℕ) → Origin → Type 0
NamesOnly v p o =
    (k : ℕ) × (slice_get v k ≡ Some o) × Names p o × ((j : ℕ) (l : Origin) → slice_get v j ≡ Some l → Names p l → j ≡ k)

abbrev pub IsNamed : View → Expr → Type 0
IsNamed v (column o c) = NamesOnly v (path o c) o
IsNamed v _ = Unit {0}

-- How many steps it takes to write a flat list. A node that is written whole, with all below it, takes one. Any other takes two: it is
-- begun, and it is ended.
use Rattle.std.specs.Prelude.{ℕ, ◌+◌, ◌-◌, Bool, true, false, not, ◌&&◌, List, [], ◌∷◌, map, take, nat_lt, if◌then◌else◌}
use Rattle.sql_dialect.specs.Syntax.{array}
use Rattle.sql_dialect.specs.declared.backend.Dialect.{Dialect}
use Rattle.sql_dialect.specs.declared.syntax.ArrayComparison.{ArrayComparison}
use Rattle.sql_dialect.specs.declared.syntax.ArrayComparison.TheVariants.{AnsiSqlArrayComparison, PgStyleArrayComparison}
use Rattle.sql_flat.specs.declared.kind.FlatKind.{FlatKind}
use Rattle.sql_flat.specs.declared.kind.FlatKind.TheVariants as K
use Rattle.sql_flat.specs.declared.kind.FlatNode.{FlatNode}

-- ---- which nodes are written whole

abbrev pub kind_of : FlatNode → FlatKind
kind_of n = n.kind

abbrev pub is_values : FlatKind → Bool
is_values (K.Values t) = true
is_values k = false

-- whether the last is a list of values, which then has none
abbrev pub ends_in_values : List FlatKind → Bool
ends_in_values [] = false
ends_in_values (k ∷ []) = is_values k
ends_in_values (k ∷ (l ∷ ks)) = ends_in_values (l ∷ ks)

-- whether a list of values is bound as one array
abbrev pub binds_arrays : ArrayComparison → Bool
binds_arrays PgStyleArrayComparison = true
binds_arrays AnsiSqlArrayComparison = false

-- whether a node of a kind, over nodes of those kinds, is written whole: one of a kind that has no children, a list of values that is bound
-- as one array, or a membership in no values, which is a constant where they are bound one by one
abbrev pub is_whole : Dialect → FlatKind → List FlatKind → Bool
is_whole d (K.Column a c) ks = true
is_whole d (K.Value t v) ks = true
is_whole d K.CountStar ks = true
is_whole d (K.Among n values) ks = not (binds_arrays (array d)) && (values && ends_in_values ks)
is_whole d (K.Values t) ks = binds_arrays (array d)
is_whole d (K.Element t v) ks = true
is_whole d (K.Table s) ks = true
is_whole d (K.Alias a) ks = true
is_whole d (K.Position p) ks = true
is_whole d k ks = false

-- the same of the node at the index i, before the nodes that follow it
abbrev pub is_whole_at : Dialect → ℕ → FlatNode → List FlatNode → Bool
is_whole_at d i x xs = is_whole d x.kind (map kind_of (take (x.end - (i + 1)) xs))

-- ---- steps

abbrev pub own_steps : Bool → ℕ
own_steps true = 1
own_steps false = 2

-- the index before which no node takes a step, after a node with that end that is written whole, or isn't
abbrev pub covered_to : Bool → ℕ → ℕ
covered_to true end = end
covered_to false end = 0

-- those for the nodes from the index i on, where none before the index u takes one
unfoldable pub steps_from : Dialect → ℕ → ℕ → List FlatNode → ℕ
steps_from d u i [] = 0
steps_from d u i (x ∷ xs) =
    if nat_lt i u then steps_from d u (i + 1) xs
    else own_steps (is_whole_at d i x xs) + steps_from d (covered_to (is_whole_at d i x xs) x.end) (i + 1) xs

abbrev pub steps_of : Dialect → List FlatNode → ℕ
steps_of d nodes = steps_from d 0 0 nodes

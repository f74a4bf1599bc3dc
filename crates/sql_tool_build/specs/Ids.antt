-- The id of a request: the index, from 1, of the first accepted request that has its dialect and its statement's shape. diesel's
-- statement cache knows a statement by its `StatementCacheKey`; this is the same knowledge, said of the statement itself.
use Rattle.std.specs.Prelude.{◌≡◌, ◌<◌, ◌+◌, ℕ, List, Option, Some, None, if◌then◌else◌}
use Rattle.std.specs.List.{slice_get}
use Rattle.sql_dialect.specs.declared.backend.Dialect.{Dialect}
use Rattle.sql_shape.specs.Ids.{has_id}
use Rattle.sql_shape.specs.Shape.{shape}
use Rattle.sql_node.specs.Tree.{Statement}
use Rattle.sql_tool_build.specs.Judgement.{Judgement, refuses, accepts}

pub record RequestShape : Type 0 where
  pub dialect : Dialect
  pub shape : Statement

-- the dialect and the statement's shape, none where the request is refused or its statement has no id
abbrev pub request_shape : Dialect → Judgement → Option RequestShape
request_shape d (refuses name) = None
request_shape d (accepts s ts) = if has_id s then Some (record { dialect = d; shape = shape s }) else None

-- `own` stands at index n, counted from 1, and nowhere before
abbrev pub IsFirst : ℕ → List (Option RequestShape) → RequestShape → Type 0
IsFirst n shapes own =
    (i : ℕ) × (n ≡ i + 1) × (slice_get shapes i ≡ Some (Some own))
    × ((j : ℕ) → j < i → ¬ (slice_get shapes j ≡ Some (Some own)))

-- The id of a request, where these are the shapes of the requests so far, its own among them.
abbrev pub IsId : List (Option RequestShape) → Option RequestShape → Option ℕ → Type 0
IsId shapes None id = id ≡ None
IsId shapes (Some own) None = ⊥
IsId shapes (Some own) (Some n) = IsFirst n shapes own

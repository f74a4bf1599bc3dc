-- The promise on which a cache may rely: lines of one id are of one statement but for its values.
use Rattle.std.specs.Prelude.{◌≡◌, ℕ, List, map, Option, Some}
use Rattle.sql_schema.specs.declared.types.SqlType.{SqlType}
use Rattle.sql_dialect.specs.declared.backend.Dialect.{Dialect}
use Rattle.sql_node.specs.Tree.{Statement}
use Rattle.sql_shape.specs.Shape.{shape}
use Rattle.sql_rules_law.specs.Blank.{blank_bound}
use Rattle.sql_rules.specs.Lists.{AnyOf}
use Rattle.sql_rules.specs.Types.{columns}
use Rattle.sql_check.specs.Compiled.{sql_of, binds_of, is_safe_in}
use Rattle.sql_tool_build.specs.Judgement.{accepts}
use Rattle.sql_tool_build.specs.Output.{Line}

-- A text that was prepared for the one statement in its dialect serves for the other in its own: the dialect, the shape and the text are
-- one, the flag too, values of the same types stand in the same order, and the columns have the same types.
pub record Serves (d : Dialect) (s : Statement) (e : Dialect) (t : Statement) : Type 0 where
  pub dialect : d ≡ e
  pub shapes : shape s ≡ shape t
  pub text : sql_of d s ≡ sql_of e t
  pub safe : is_safe_in d s ≡ is_safe_in e t
  pub values : map blank_bound (binds_of d s) ≡ map blank_bound (binds_of e t)
  pub types : columns s ≡ columns t

-- a line of an accepted statement is among the lines
abbrev pub HasAccepted : List Line → Dialect → Statement → List SqlType → Option ℕ → Type 0
HasAccepted ls d s ts id = AnyOf (λ l. l ≡ record { dialect = d; judgement = accepts s ts; id = id }) ls

-- of two lines of one id, what was prepared for the one serves for the other
abbrev pub OneIdServes : List Line → Type 0
OneIdServes ls =
    (d e : Dialect) (s t : Statement) (ts us : List SqlType) (n : ℕ) → HasAccepted ls d s ts (Some n)
    → HasAccepted ls e t us (Some n) → Serves d s e t

-- two lines of one dialect and of statements of one shape have one id, or both none
abbrev pub OneShapeOneId : List Line → Type 0
OneShapeOneId ls =
    (d : Dialect) (s t : Statement) (ts us : List SqlType) (m n : Option ℕ) → HasAccepted ls d s ts m
    → HasAccepted ls d t us n → shape s ≡ shape t → m ≡ n

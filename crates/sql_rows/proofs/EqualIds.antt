-- What was told of a statement that breaks no rule serves for each statement of its id whose values fit.
use Rattle.std.proofs.Common.{◌≡◌, Bool, true, false, cond, List, Some, None, map, refl, sym, ◌∙◌}
use Rattle.sql_schema.specs.Declarations.{Declarations}
use Rattle.sql_dialect.specs.declared.backend.Dialect.{Dialect}
use Rattle.sql_pass.specs.Bounds.{type_of}
use Rattle.sql_pass.specs.Pieces.{text_of, values_of}
use Rattle.sql_node.specs.Pieces.{pieces}
use Rattle.sql_node.specs.Tree.{Statement}
use Rattle.sql_shape.specs.Ids.{has_id}
use Rattle.sql_key.specs.Keys.{key, id_of}
use Rattle.sql_shape.specs.Shape.{shape}
use Rattle.sql_flat.specs.declared.kind.FlatNode.{FlatNode}
use Rattle.sql_key.proofs.Shapes.{same-shape}
use Rattle.sql_rules.specs.Rules.{Accepted}
use Rattle.sql_rules.specs.Safety.{is_safe_in}
use Rattle.sql_rules.specs.Types.{columns}
use Rattle.sql_rules_law.specs.Fitting.{ValuesFit}
use Rattle.sql_rules_law.proofs.Exchange as exchange
use Rattle.sql_rules_law.proofs.OneText as texts
use Rattle.sql_rules_law.proofs.SafeLaws.{safe_alike}
use Rattle.sql_rules_law.proofs.TypeLaws.{types}

-- an id is the key of a statement that has one
pub own-key : (s : Statement) (k : List FlatNode) → id_of s ≡ Some k → (has_id s ≡ true) × (key s ≡ k)
own-key s k h = go (has_id s) h
  where
    go : (b : Bool) → cond b (Some (key s)) None ≡ Some k → (b ≡ true) × (key s ≡ k)
    go true e = (refl, cc)
    go false e = absurd (cc)

pub shapes : (a b : Statement) (k : List FlatNode) → id_of a ≡ Some k → id_of b ≡ Some k → shape a ≡ shape b
shapes a b k h g = (same-shape a b).0 ((own-key a k h).1 ∙ sym (own-key b k g).1)

pub column_types : (a b : Statement) (k : List FlatNode) → id_of a ≡ Some k → id_of b ≡ Some k → columns a ≡ columns b
column_types a b k h g = types a b (shapes a b k h g) (own-key a k h).0

pub text : (d : Dialect) (a b : Statement) (k : List FlatNode) → id_of a ≡ Some k → id_of b ≡ Some k
    → text_of d 0 (pieces d a) ≡ text_of d 0 (pieces d b)
text d a b k h g = texts.text d a b (shapes a b k h g)

pub bind_types : (d : Dialect) (a b : Statement) (k : List FlatNode) → id_of a ≡ Some k → id_of b ≡ Some k
    → map type_of (values_of (pieces d a)) ≡ map type_of (values_of (pieces d b))
bind_types d a b k h g = texts.bind_types d a b (shapes a b k h g)

pub safe : (d : Dialect) (a b : Statement) (k : List FlatNode) → id_of a ≡ Some k → id_of b ≡ Some k
    → is_safe_in d a ≡ is_safe_in d b
safe d a b k h g = safe_alike d a b (shapes a b k h g)

pub accepted : (schema : Declarations) (d : Dialect) (a b : Statement) (k : List FlatNode) → id_of a ≡ Some k
    → id_of b ≡ Some k → ValuesFit b → Accepted schema d a → Accepted schema d b
accepted schema d a b k h g fit ok r broken =
    ok r ((exchange.rules schema d a b (shapes a b k h g) (exchange.accepted-fit schema d a ok) fit r).1 broken)

-- What the loop from the last node to the first ends with.
use Rattle.std.proofs.Common.{◌≡◌, Bool, List, [], ◌∷◌, refl, ap, ◌∙◌}
use Rattle.sql_flat_law.proofs.Backward.{run-flat}
use Rattle.std.specs.Bool.{Decides}
use Rattle.std.proofs.lemmas.Bool.Decides.{Decides-at}
use Rattle.sql_flat_law.specs.Rose.{flat}
use Rattle.sql_node.specs.Tree.{Expr, Statement}
use Rattle.sql_rules.specs.Rules.{IsBool}
use Rattle.sql_rules.specs.Types.{many, columns, given, only_type, type_of}
use Rattle.sql_flat.specs.Flat.{expr_rose, flat_node, flat_of, rose}
use Rattle.sql_flat.specs.declared.kind.FlatNode.{FlatNode}
use Rattle.sql_flat_law.specs.declared.finished.Finished.{Finished}
use Rattle.sql_rules_check.specs.declared.given.Given as g
use Rattle.sql_rules_check.specs.inside.Lists.{kind_of, end_of, typed_from}
use Rattle.sql_rules_check.specs.inside.Stacks.{split, stack}
use Rattle.sql_rules_check.specs.inside.Typing.{first, is_condition, typing}
use Rattle.sql_rules_check.proofs.IllTyped.{condition}
use Rattle.sql_rules_check.proofs.TypesGiven.{expr-typed, statement-typed}

all-typed : (s : Statement) → typed_from 0 (flat_of s) ≡ (0, many (columns s)) ∷ []
all-typed s =
    run-flat flat_node kind_of end_of typing (λ _ _. refl) (λ _ _. refl) (rose s)
    ∙ ap (λ g. (0, g) ∷ []) (statement-typed s)

-- the one that is left on the stack
pub root : (s : Statement) (nodes : List FlatNode) (ds : List (Finished g.Given)) → nodes ≡ flat_of s → stack ds ≡ typed_from 0 nodes
    → first (split 1 ds).0 ≡ many (columns s)
root s nodes ds h g = rw (g, h, all-typed s) refl

-- ---- the same of an expression

expr-root : (e : Expr) (nodes : List FlatNode) (ds : List (Finished g.Given)) → nodes ≡ flat flat_node 0 (expr_rose e) []
    → stack ds ≡ typed_from 0 nodes → first (split 1 ds).0 ≡ given e
expr-root e nodes ds h g =
    let all : typed_from 0 (flat flat_node 0 (expr_rose e) []) ≡ (0, given e) ∷ [] =
    run-flat flat_node kind_of end_of typing (λ _ _. refl) (λ _ _. refl) (expr_rose e)
    ∙ ap (λ g. (0, g) ∷ []) (expr-typed e) in rw (g, h, all) refl

pub condition-root : (e : Expr) (nodes : List FlatNode) (ds : List (Finished g.Given)) (b : Bool)
    → nodes ≡ flat flat_node 0 (expr_rose e) [] → stack ds ≡ typed_from 0 nodes
    → b ≡ is_condition (only_type (first (split 1 ds).0)) → Decides b (IsBool (type_of e))
condition-root e nodes ds b h g is =
    Decides-at b (is_condition (type_of e))
    (is ∙ ap (λ g. is_condition (only_type g)) (expr-root e nodes ds h g)) (condition (type_of e))

-- The tree of a membership, whatever it looks in.
use Rattle.std.proofs.Common.{◌≡◌, Bool, refl}
use Rattle.sql_node.specs.Tree.{Expr}
use Rattle.sql_node.specs.View.{Among, among_list, among_query, among_of}
use Rattle.sql_flat_law.specs.Rose.{node, two}
use Rattle.sql_flat.specs.Flat.{expr_rose}
use Rattle.sql_flat.specs.declared.kind.FlatKind.TheVariants as K
use Rattle.sql_flat.specs.inside.Among.{among_rose, looks_in_list}

pub membership-nodes : (n : Bool) (e : Expr) (a : Among)
    → expr_rose (among_of n e a) ≡ node (K.Among n (looks_in_list a)) (two (expr_rose e) (among_rose a))
membership-nodes n e (among_list t xs) = refl
membership-nodes n e (among_query q) = refl

pub ruleset opens_among = (membership-nodes)

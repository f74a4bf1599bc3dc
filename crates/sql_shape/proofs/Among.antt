-- A membership, whatever it looks in: whether all that it holds passes.
use Rattle.std.proofs.Common.{◌≡◌, Bool, ◌&&◌, refl}
use Rattle.sql_node.specs.Tree.{Expr}
use Rattle.sql_node.specs.View.{Among, among_list, among_query, among_of}
use Rattle.sql_shape.specs.Nodes.{NodeTests, all_expr, all_among}

pub membership-passes : (tests : NodeTests) (n : Bool) (e : Expr) (a : Among)
    → all_expr tests (among_of n e a) ≡ (all_expr tests e && all_among tests a)
membership-passes tests n e (among_list t xs) = refl
membership-passes tests n e (among_query q) = refl

pub ruleset opens_among = (membership-passes)

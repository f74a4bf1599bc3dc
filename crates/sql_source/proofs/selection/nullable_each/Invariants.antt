use Rattle.std.proofs.Common.{◌≡◌, ◌++◌, map}
use Rattle.sql_node.specs.Tree.{nullable}
use Rattle.sql_node.specs.View.{expr_tree}
use Rattle.sql_source.proofs.selection.nullable_each.Given as goal

abbrev pub invariant-loop-expr : goal.invariant-loop-expr
invariant-loop-expr l =
    map expr_tree l.all.items ++ map nullable (map expr_tree l.expr-iterator.rest.items)
    ≡ map nullable (map expr_tree l.fn.exprs.items)

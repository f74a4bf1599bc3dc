use Rattle.std.proofs.Common.{◌≡◌, map, take}
use Rattle.sql_node.specs.View.{expr_tree}
use Rattle.sql_source.specs.Fields.{fields_in}
use Rattle.sql_source.proofs.alias.Renaming.+renaming.Given as goal

abbrev pub invariant-each-loop-expr : goal.invariant-each-loop-expr
invariant-each-loop-expr l =
    map expr_tree l.all.items
    ≡ map (fields_in l.self.alias.now.name l.self.alias.now.table) (map expr_tree (take l.expr-index l.exprs))

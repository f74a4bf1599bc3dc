use Rattle.std.proofs.Common.{◌≡◌, drop, map}
use Rattle.sql_node.specs.View.{expr_tree, order_item_tree, statement_tree}
use Rattle.sql_build_syntax.specs.View as written
use Rattle.sql_build.specs.Built.{calls_in, exprs_in, items_in}
use Rattle.sql_build.proofs.Front.{with_front}
use Rattle.sql_build.proofs.build.Builder.+build.Given as goal

abbrev pub invariant-exprs-loop-expr : goal.invariant-exprs-loop-expr
invariant-exprs-loop-expr l =
    with_front (map expr_tree l.all.items)
    (exprs_in l.self.schema.now l.self.dialect
    (written.exprs_of (map written.expr_tree (drop l.expr-index l.exprs))))
    ≡ exprs_in l.self.schema.now l.self.dialect (written.exprs_of (map written.expr_tree l.exprs))

abbrev pub invariant-items-loop-item : goal.invariant-items-loop-item
invariant-items-loop-item l =
    with_front (map order_item_tree l.all.items)
    (items_in l.self.schema.now l.self.dialect
    (written.items_of (map written.order_item_tree (drop l.item-index l.items))))
    ≡ items_in l.self.schema.now l.self.dialect (written.items_of (map written.order_item_tree l.items))

-- the calls that are left make of the statement so far what all make of the first
abbrev pub invariant-calls-loop-call : goal.invariant-calls-loop-call
invariant-calls-loop-call l =
    calls_in l.self.schema.now l.self.dialect (written.calls_of (map written.call_tree (drop l.call-index l.calls)))
    (statement_tree l.statement)
    ≡ calls_in l.self.schema.now l.self.dialect (written.calls_of (map written.call_tree l.calls))
    (statement_tree l.fn.start)

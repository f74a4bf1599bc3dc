use Rattle.std.proofs.Common.{◌≡◌, [], ◌∷◌, ◌++◌, map, Some, option_map, refl, sym, ap, ◌∙◌}
use Rattle.std.proofs.lemmas.List.{map_push}
use Rattle.sql_node.specs.View.{expr_tree, order_item_tree}
use Rattle.sql_build_syntax.specs.View as written
use Rattle.sql_build.specs.Built.{directed, expr_in, exprs_in, items_in}
use Rattle.sql_build.proofs.Front.{goes_on}
use Rattle.sql_build.proofs.build.Builder.+build.Goals as goal

pub exprs-loop-expr-preserved : goal.exprs-loop-expr-preserved
exprs-loop-expr-preserved t c =
    let s = c.args.self.schema.now in
    let d = c.args.self.dialect in
    let front = map expr_tree c.loop-expr.all.items in
    let made = c.in-Some.expr in
    let found : Some (expr_tree made) ≡ expr_in s d (written.expr_tree c.expr-item.result) =
    ap (option_map expr_tree) (sym c.in-Some.is) ∙ c.in_ok-expr.ensures in
    let grows : map expr_tree c.push.new.self.items ≡ front ++ expr_tree made ∷ [] =
    rw c.in_ok-push-in-Some.ensures.items (map_push expr_tree c.loop-expr.all.items made) in
    rw grows
    (goes_on (λ e. expr_in s d (written.expr_tree e))
    (λ es. exprs_in s d (written.exprs_of (map written.expr_tree es))) (λ x xs. refl) front c.args.exprs.now
    c.loop-expr.expr-index c.expr-item.result (expr_tree made) _ c.loop-expr-test.true c.expr-item.is found
    c.loop-expr.invariant)

pub items-loop-item-preserved : goal.items-loop-item-preserved
items-loop-item-preserved t c =
    let s = c.args.self.schema.now in
    let d = c.args.self.dialect in
    let front = map order_item_tree c.loop-item.all.items in
    let made = c.in-Some.item in
    let found : Some (order_item_tree made)
    ≡ option_map (directed (written.order_item_tree c.item-item.result).1)
    (expr_in s d (written.order_item_tree c.item-item.result).0) =
    ap (option_map order_item_tree) (sym c.in-Some.is) ∙ c.in_ok-item.ensures in
    let grows : map order_item_tree c.push.new.self.items ≡ front ++ order_item_tree made ∷ [] =
    rw c.in_ok-push-in-Some.ensures.items (map_push order_item_tree c.loop-item.all.items made) in
    rw grows
    (goes_on (λ i. option_map (directed (written.order_item_tree i).1) (expr_in s d (written.order_item_tree i).0))
    (λ is. items_in s d (written.items_of (map written.order_item_tree is))) (λ x xs. refl) front
    c.args.items.now c.loop-item.item-index c.item-item.result (order_item_tree made) _ c.loop-item-test.true
    c.item-item.is found c.loop-item.invariant)

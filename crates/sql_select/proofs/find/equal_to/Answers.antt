use Rattle.std.proofs.Common.{◌≡◌, [], ◌∷◌, ◌++◌, map, option_map, sym, ap, ◌∙◌}
use Rattle.std.specs.Option.{option_to_list}
use Rattle.sql_node.specs.Tree.{an_expr}
use Rattle.sql_node.specs.View.{expr_tree, maybe_of}
use Rattle.sql_select.specs.Finding.{all_before, equal_each}
use Rattle.sql_select.proofs.FindLaws.{one-less-seen}
use Rattle.sql_select.proofs.find.equal_to.Goals as goal

-- the last column and the last value become the condition's first part
pub loop-column-preserved : goal.loop-column-preserved
loop-column-preserved c =
    let l = c.loop-column in
    let cs = c.pop.new.self.items in
    let vs = c.pop-in-Some.new.self.items in
    let columns : l.columns.items ≡ cs ++ c.in-Some.column ∷ [] = c.in-Some.ensures.items in
    let values : l.values.items ≡ vs ++ c.in-Some-pop.value ∷ [] =
    c.pop-in-Some.ensures.items ∙ ap (λ o. vs ++ option_to_list o) c.in-Some-pop.is in
    let less =
    one-less-seen expr_tree cs vs c.in-Some.column c.in-Some-pop.value (maybe_of (option_map expr_tree l.condition))
    l.columns.items l.values.items columns values l.invariant.0 in (
      less.0,
      ap (λ e. all_before (equal_each (map expr_tree cs) (map expr_tree vs)) (an_expr e)) c.in_ok-equal_then.ensures
          ∙ sym less.1 ∙ l.invariant.1,
    )

use Rattle.std.proofs.lemmas.Bool.Decides.{Decides-at}
use Rattle.sql_node.specs.View.{expr_tree}
use Rattle.sql_guard.proofs.Closing.{sound-decides}
use Rattle.sql_guard.proofs.policy.is_sound_on.Goals as goal

pub returns : goal.returns
returns c =
    Decides-at _ _ c.and_not.ensures
    (sound-decides c.args.table.now (expr_tree c.args.predicate.now) _ _ c.in_ok-condition.ensures
    c.is_misread-misread.ensures)

use Rattle.std.proofs.Common.{true, option_map, refl, subst, sym}
use Rattle.std.specs.Bool.{Decides}
use Rattle.sql_node.specs.View.{expr_tree, maybe_of}
use Rattle.sql_guard.specs.Closed.{IsSound}
use Rattle.sql_guard.proofs.policy.is_sound.Goals as goal

pub returns-in-None : goal.returns-in-None
returns-in-None c =
    subst
    (λ o. Decides true
    (IsSound (record { table = c.args.policy.now.table; predicate = maybe_of (option_map expr_tree o) })))
    (sym c.in-None.is) (λ _. (tt, tt), λ _. refl)

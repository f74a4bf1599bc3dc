use Rattle.std.proofs.Common.{◌≡◌, ◌∷◌, take}
use Rattle.sql_audit_resolution.proofs.leaf.widened.Given as goal

abbrev pub invariant-loop-level : goal.invariant-loop-level
invariant-loop-level l = l.levels.items ≡ l.own ∷ take l.level-index l.around

use Rattle.std.proofs.Common.{◌≡◌, take}
use Rattle.sql_key.proofs.key.QueryKey.try_clone.Given as goal

abbrev pub invariant-loop-node : goal.invariant-loop-node
invariant-loop-node l = l.all.items ≡ take l.node-index l.self

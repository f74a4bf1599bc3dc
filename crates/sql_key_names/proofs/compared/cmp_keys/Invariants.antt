use Rattle.std.proofs.Common.{◌≡◌, drop}
use Rattle.sql_key_names.specs.inside.Named.{key_cmp}
use Rattle.sql_key_names.proofs.compared.cmp_keys.Given as goal

abbrev pub invariant-loop-node : goal.invariant-loop-node
invariant-loop-node l = key_cmp (drop l.node-index l.one) l.rest ≡ key_cmp l.one l.other

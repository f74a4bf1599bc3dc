use Rattle.std.proofs.Common.{◌≡◌, ◌++◌, drop}
use Rattle.std.specs.Option.{option_to_list}
use Rattle.sql_audit_resolution.specs.Meant.{named_in}
use Rattle.sql_audit_resolution.proofs.named.meaning_in.Given as goal

-- what was found, before what is found in the rest
abbrev pub invariant-loop-leaf : goal.invariant-loop-leaf
invariant-loop-leaf l =
    option_to_list l.first ++ named_in l.schema.tables l.path (drop l.leaf-index l.leaves)
    ≡ named_in l.schema.tables l.path l.leaves

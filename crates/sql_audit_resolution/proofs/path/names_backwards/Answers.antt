use Rattle.std.proofs.Common.{◌≡◌, ◌∷◌, arith, map, string_bytes}
use Rattle.std.proofs.lemmas.Grind.{common_steps}
use Rattle.sql_audit_resolution.specs.Leaves.{backwards}
use Rattle.sql_audit_resolution.proofs.Backwards.{path_backwards}
use Rattle.sql_audit_resolution.proofs.path.names_backwards.Goals as goal

pub returns : goal.returns
returns c =
    let e : backwards c.args.names.now.first c.args.names.now.more
    ≡ c.from_last.result.0.now ∷ map string_bytes c.from_last.result.1.now =
    path_backwards c.from_last.result.0.now (map string_bytes c.from_last.result.1.now) c.args.names.now
    c.from_last.ensures in
    grind (arith, common_steps)

use Rattle.std.proofs.Common.{◌≡◌, drop}
use Rattle.sql_audit_resolution.specs.Meant as meant
use Rattle.sql_audit_resolution.proofs.named.sought.Given as goal

abbrev pub invariant-loop-level : goal.invariant-loop-level
invariant-loop-level l =
    meant.sought l.schema.tables l.path (drop l.level-index l.levels)
    ≡ meant.sought l.schema.tables l.path l.levels

use Rattle.std.proofs.Common.{◌∙◌}
use Rattle.sql_audit.proofs.Reports.{settled-lists}
use Rattle.sql_audit.proofs.auditing.settled.Goals as goal

pub returns : goal.returns
returns c =
    settled-lists c.args.resolution.tables.items c.args.resolution.meanings.items c.from.result c.from-2.result c.requires
    (c.from.ensures ∙ c.in_ok-tables.ensures) (c.from-2.ensures ∙ c.in_ok-uses.ensures)

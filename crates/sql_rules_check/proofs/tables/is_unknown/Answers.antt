use Rattle.std.proofs.Common.{subst}
use Rattle.std.specs.Bool.{Decides}
use Rattle.sql_rules.specs.Rules.{IsTable}
use Rattle.sql_rules_check.proofs.Declared.{contained-any, not-both}
use Rattle.sql_rules_check.proofs.tables.is_unknown.Goals as goal

pub returns : goal.returns
returns c =
    not-both c.is_table.result
    (contained-any c.args.column.now.table.columns c.args.column.now.decl c.table.ensures.own)
    (subst (λ t. Decides c.is_table.result (IsTable c.args.schema.now t)) c.table.ensures.table c.is_table.ensures)

use Rattle.std.specs.Bool.{one_answer}
use Rattle.sql_rules.proofs.Tests.{table-any}
use Rattle.sql_rules_check.specs.inside.Sites.{is_declared}
use Rattle.sql_rules_check.proofs.kinds.is_declared.Goals as goal

pub returns : goal.returns
returns c =
    one_answer c.is_table.result (is_declared c.args.schema.now c.args.table.now) c.is_table.ensures
    (table-any c.args.table.now c.args.schema.now.tables)

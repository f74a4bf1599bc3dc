use Rattle.sql_schema.proofs.RefusalLaws.{none-refused}
use Rattle.sql_rules_check.proofs.tables.names_differ.Goals as goal

pub returns : goal.returns
returns c = (none-refused c.args.schema.now c.tables-tables.ensures.sound).tables_differ

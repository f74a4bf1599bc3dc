use Rattle.std.proofs.Common.{sym, subst}
use Rattle.sql_grammar.specs.Reading.{OnlyReading}
use Rattle.sql_read_tree.specs.View.{query_tree}
use Rattle.sql_audit.proofs.Reports.{reported, refused}
use Rattle.sql_audit.proofs.auditing.audit.Goals as goal

pub returns-clause-report : goal.returns-clause-report
returns-clause-report c =
    reported c.args.dialect c.args.schema.now.tables c.args.text.now (query_tree c.query.result.now) c.report.result
    (subst (OnlyReading c.args.dialect c.args.text.now) (sym c.query.ensures) c.in_ok-tree.ensures.reading)
    c.report.ensures.ok c.report.ensures.none

pub returns-clause-refused : goal.returns-clause-refused
returns-clause-refused c =
    refused c.args.dialect c.args.schema.now.tables c.args.text.now (query_tree c.query.result.now) c.report.result
    (subst (OnlyReading c.args.dialect c.args.text.now) (sym c.query.ensures) c.in_ok-tree.ensures.reading)
    c.report.ensures.refused

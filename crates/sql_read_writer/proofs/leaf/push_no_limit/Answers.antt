use Rattle.std.proofs.Common.{refl, ◌∙◌}
use Rattle.sql_grammar.specs.Text as x
use Rattle.sql_read_writer.proofs.leaf.push_no_limit.Goals as goal

pub returns-in_ok-push_mark-in-Mysql : goal.returns-in_ok-push_mark-in-Mysql
unfolding x.page
returns-in_ok-push_mark-in-Mysql c =
    λ rest. c.in_ok-push_mark-in-Mysql.ensures rest
    ∙ (c.in_ok-push-in-Mysql.ensures (x.mark c.args.dialect c.args.offset rest)
    ∙ rw c.in-Mysql.is refl)

use Rattle.sql_grammar.specs.Text as x
use Rattle.sql_read_writer.proofs.leaf.push_null_test.Goals as goal

pub returns-then-negated : goal.returns-then-negated
unfolding x.null_test
returns-then-negated c = λ rest. rw c.if-negated.true (c.push.ensures rest)

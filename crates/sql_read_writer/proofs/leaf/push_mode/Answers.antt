use Rattle.sql_grammar.specs.Text as x
use Rattle.sql_read_writer.proofs.leaf.push_mode.Goals as goal

pub returns-in-ForUpdate : goal.returns-in-ForUpdate
unfolding x.mode
returns-in-ForUpdate c = λ rest. rw c.in-ForUpdate.is (c.push.ensures rest)

pub returns-in-ForNoKeyUpdate : goal.returns-in-ForNoKeyUpdate
unfolding x.mode
returns-in-ForNoKeyUpdate c = λ rest. rw c.in-ForNoKeyUpdate.is (c.push-in-ForNoKeyUpdate.ensures rest)

pub returns-in-ForShare : goal.returns-in-ForShare
unfolding x.mode
returns-in-ForShare c = λ rest. rw c.in-ForShare.is (c.push-in-ForShare.ensures rest)

pub returns-in-ForKeyShare : goal.returns-in-ForKeyShare
unfolding x.mode
returns-in-ForKeyShare c = λ rest. rw c.in-ForKeyShare.is (c.push-in-ForKeyShare.ensures rest)

use Rattle.sql_grammar.specs.Text as x
use Rattle.sql_read_writer.proofs.leaf.push_wait.Goals as goal

pub returns-in-SkipLocked : goal.returns-in-SkipLocked
unfolding x.wait
returns-in-SkipLocked c = λ rest. rw c.in-SkipLocked.is (c.push.ensures rest)

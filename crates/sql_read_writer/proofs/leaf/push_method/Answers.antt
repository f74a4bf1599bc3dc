use Rattle.sql_grammar.specs.Text as x
use Rattle.sql_read_writer.proofs.leaf.push_method.Goals as goal

pub returns-in-Bernoulli : goal.returns-in-Bernoulli
unfolding x.method
returns-in-Bernoulli c = λ rest. rw c.in-Bernoulli.is (c.push.ensures rest)

pub returns-in-System : goal.returns-in-System
unfolding x.method
returns-in-System c = λ rest. rw c.in-System.is (c.push-in-System.ensures rest)

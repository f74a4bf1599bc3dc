use Rattle.sql_grammar.specs.Text as x
use Rattle.sql_read_writer.proofs.leaf.push_kind.Goals as goal

pub returns-in-Inner : goal.returns-in-Inner
unfolding x.kind
returns-in-Inner c = λ rest. rw c.in-Inner.is (c.push.ensures rest)

pub returns-in-LeftOuter : goal.returns-in-LeftOuter
unfolding x.kind
returns-in-LeftOuter c = λ rest. rw c.in-LeftOuter.is (c.push-in-LeftOuter.ensures rest)

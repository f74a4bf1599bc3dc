use Rattle.sql_grammar.specs.Text as x
use Rattle.sql_read_writer.proofs.leaf.push_side_open.Goals as goal

pub returns-in-Sqlite : goal.returns-in-Sqlite
unfolding x.side_open
returns-in-Sqlite c = λ rest. rw c.in-Sqlite.is (c.push.ensures rest)

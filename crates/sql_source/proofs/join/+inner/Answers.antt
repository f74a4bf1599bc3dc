-- What is written through a `&mut` to a join's box is in the source again.
use Rattle.std.proofs.Common.{rules}
use Rattle.sql_node.proofs.Trees.{opens_source}
use Rattle.sql_node.specs.declared.expr.Expr.{the_lemmas}
use Rattle.sql_node.specs.declared.source.Source as node
use Rattle.sql_source.proofs.join.+inner.Goals as goal

pub make_inner-returns-in-Join : goal.make_inner-returns-in-Join
unfolding node.out-Source denote.Hole.Carrier.out
make_inner-returns-in-Join t c = rw c.in-Join.is (search (rules, opens_source, the_lemmas))

use Rattle.sql_schema.specs.inside.Pairs.{IndexesPairs}
use Rattle.sql_schema.proofs.pairs.index_pairs.Given as goal

abbrev pub invariant-loop-index : goal.invariant-loop-index
invariant-loop-index g l = IndexesPairs l.tables g.T.NamesTables.names_of l.pairs l.items l.index

use Rattle.std.specs.BTreeMap.{get_by_text}
use Rattle.sql_schema.specs.inside.Indices.{Indexes}
use Rattle.sql_schema.proofs.names.index_names.Given as goal

abbrev pub invariant-loop-index : goal.invariant-loop-index
invariant-loop-index g l = Indexes g.T.Named.name_of (get_by_text l.names) l.items l.index

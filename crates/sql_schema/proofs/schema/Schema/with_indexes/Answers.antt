use Rattle.std.proofs.Common.{length, subst}
use Rattle.sql_schema.specs.inside.Pairs.{IndexesPairs}
use Rattle.sql_schema.proofs.PairLaws.{ends, itself}
use Rattle.sql_schema.proofs.schema.Schema.with_indexes.Goals as goal

pub invariant_of-result : goal.invariant_of-result
invariant_of-result c = (
  c.requires,
  subst (λ xs. IndexesPairs c.args.tables ends c.in_ok-relations.relations xs (length xs)) c.as_slice.ensures.value
      c.in_ok-relations.ensures,
  subst (λ xs. IndexesPairs c.args.tables itself c.in_ok-allowed.allowed xs (length xs)) c.as_slice-2.ensures.value
      c.in_ok-allowed.ensures,
)

use Rattle.sql_source.proofs.CountLaws.{sum-commutative, sum-associative, sum-unit}
use Rattle.sql_source.proofs.laws.counts_add_up.Goals as goal

pub returns : goal.returns
returns c = record { commutative = sum-commutative; associative = sum-associative; unit = sum-unit }

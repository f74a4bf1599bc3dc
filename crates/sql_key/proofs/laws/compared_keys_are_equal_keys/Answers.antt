use Rattle.sql_key.proofs.ExactNodes.{same-key, ordered-key}
use Rattle.sql_key.proofs.laws.compared_keys_are_equal_keys.Goals as goal

pub returns-clause-equal : goal.returns-clause-equal
returns-clause-equal c = same-key

pub returns-clause-ordered : goal.returns-clause-ordered
returns-clause-ordered c = ordered-key

use Rattle.sql_key.proofs.ExactNodes.{same-hash}
use Rattle.sql_key.proofs.laws.equal_keys_hash_alike.Goals as goal

pub returns : goal.returns
returns c = same-hash

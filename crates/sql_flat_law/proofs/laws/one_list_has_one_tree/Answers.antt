use Rattle.sql_flat_law.proofs.Unflat.{one-tree}
use Rattle.sql_flat_law.proofs.laws.one_list_has_one_tree.Goals as goal

pub returns : goal.returns
returns g c = λ make kind end shows ends a b h. one-tree make kind end shows ends a b h

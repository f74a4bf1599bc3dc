use Rattle.sql_rules_law.proofs.Naming as naming
use Rattle.sql_rules_law.proofs.Paths.{path-in-tree}
use Rattle.sql_rules_law.proofs.names_one_leaf.Goals as goal

pub returns : goal.returns
returns c = record { named = naming.names_one_leaf; path = path-in-tree }

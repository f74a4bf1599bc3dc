-- What the loop from the last node to the first has on its stack: what the trees stand for that begin behind.
use Rattle.std.specs.Prelude.{ℕ, Option, List}
use Rattle.sql_flat_law.specs.Backward.{run}
use Rattle.sql_flat_law.specs.Finished.{before}
use Rattle.sql_node.specs.Tree.{Statement}
use Rattle.sql_flat.specs.declared.kind.FlatKind.{FlatKind}
use Rattle.sql_flat.specs.declared.kind.FlatNode.{FlatNode}
use Rattle.sql_flat.specs.inside.Parts.{Part, first, over, statement_of}

abbrev pub kind_of : FlatNode → FlatKind
kind_of x = x.kind

abbrev pub end_of : FlatNode → ℕ
end_of x = x.end

-- the stack when the nodes from an index on are done
abbrev pub read_from : ℕ → List FlatNode → List (ℕ × Part)
read_from = run kind_of end_of over

-- the statement that the first tree on a stack stands for, where it begins before 1
abbrev pub root_of : List (ℕ × Part) → Option Statement
root_of σ = statement_of (first (before 1 σ).0)

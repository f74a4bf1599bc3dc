-- What the nodes of a flat list give.
use Rattle.std.specs.Prelude.{ℕ, List, Bool}
use Rattle.sql_flat_law.specs.Backward.{run}
use Rattle.sql_rules.specs.Types.{Given}
use Rattle.sql_flat.specs.declared.kind.FlatKind.{FlatKind}
use Rattle.sql_flat.specs.declared.kind.FlatNode.{FlatNode}
use Rattle.sql_rules_check.specs.inside.Tested.{any_from}
use Rattle.sql_rules_check.specs.inside.Typing.{typing, ill, empty}

abbrev pub kind_of : FlatNode → FlatKind
kind_of x = x.kind

abbrev pub end_of : FlatNode → ℕ
end_of x = x.end

-- the stack when the nodes from an index on are done
abbrev pub typed_from : ℕ → List FlatNode → List (ℕ × Given)
typed_from = run kind_of end_of typing

-- whether one of the nodes from an index on is ill-typed, or an empty list
abbrev pub any_ill_from : ℕ → List FlatNode → Bool
any_ill_from = any_from typing ill kind_of end_of

abbrev pub any_empty_from : ℕ → List FlatNode → Bool
any_empty_from = any_from typing empty kind_of end_of

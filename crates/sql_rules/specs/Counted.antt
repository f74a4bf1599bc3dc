-- The columns of each combination's order are counted with four bytes, as a machine's `u32` counts (PostgreSQL, 7.5 Sorting
-- Rows).
use Rattle.std.specs.Prelude.{◌≤◌, List, [], Option, None, Some}
use Rattle.sql_leaf.specs.declared.position.PositionalItem.{PositionalItem}
use Rattle.sql_node.specs.Tree.{Statement}
use Rattle.sql_rules.specs.Lists.{Each}
use Rattle.sql_rules.specs.Scope.{Part, a_select, a_combination, parts}

abbrev pub OrderIsCounted : Option (List PositionalItem) → Type 0
OrderIsCounted None = Unit {0}
OrderIsCounted (Some ps) = Each (λ p. p.column.0 ≤ 4294967295) ps

-- of a combination; a select statement orders by no places
abbrev pub PartIsCounted : Part → Type 0
PartIsCounted (a_select outer s) = Unit {0}
PartIsCounted (a_combination c) = OrderIsCounted c.order

-- in each combination at any depth
abbrev pub PlacesAreCounted : Statement → Type 0
PlacesAreCounted s = Each PartIsCounted (parts [] s)

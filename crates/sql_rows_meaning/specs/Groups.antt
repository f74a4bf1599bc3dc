-- Groups of rows, and where something is counted (PostgreSQL, SELECT, GROUP BY Clause; Aggregate Functions).
use Rattle.std.specs.Prelude.{ℕ, zero, suc, Bool, false, ◌||◌, List, [], ◌∷◌, if◌then◌else◌}
use Rattle.sql_pass.specs.declared.value.Value.{Value}
use Rattle.sql_node.specs.Tree.{Expr, Items, no_items, more_items, Distinct, every, distinct, distinct_on, Order, no_order, order_by}
use Rattle.sql_rules.specs.Verdicts.{holds_aggregate}
use Rattle.sql_rows_meaning.specs.Frames.{Frame}
use Rattle.sql_rows_meaning.specs.Rows.{Row, same_row}
use Rattle.sql_rows_meaning.specs.Values.{is_null}

-- what one value is taken of: some of the rows, or one row by itself
abbrev pub Group : Type 0
Group = List Frame

-- one row by itself, as WHERE and ON see it
abbrev pub alone : Frame → Group
alone row = row ∷ []

-- The row from which a group's columns take their values: rows come in any order, so it may be any of them. A group without rows
-- has none, and its columns are NULL.
abbrev pub one_row : Group → Frame
one_row [] = []
one_row (row ∷ rows) = row

-- ---- GROUP BY

-- a group, and the values of GROUP BY in its rows
pub record Keyed : Type 0 where
  pub key : Row
  pub rows : Group

-- a row beside the others that have its values, NULL being equal to NULL, or alone
abbrev pub with_row : Row → Frame → List Keyed → List Keyed
with_row key row [] = record { key = key; rows = alone row } ∷ []
with_row key row (group ∷ groups) =
    if same_row key group.key then record { key = group.key; rows = row ∷ group.rows } ∷ groups
    else group ∷ with_row key row groups

-- rows by their values; each group has a row
abbrev pub keyed_groups : List Row → List Frame → List Keyed
keyed_groups (key ∷ keys) (row ∷ rows) = with_row key row (keyed_groups keys rows)
keyed_groups _ _ = []

-- ---- COUNT

abbrev pub not_nulls : List Value → ℕ
not_nulls [] = zero
not_nulls (v ∷ vs) = if is_null v then not_nulls vs else suc (not_nulls vs)

abbrev pub items_count : Items → Bool
items_count no_items = false
items_count (more_items e by is) = holds_aggregate e || items_count is

abbrev pub order_counts : Order → Bool
order_counts no_order = false
order_counts (order_by is) = items_count is

abbrev pub distinct_counts : Distinct → Bool
distinct_counts every = false
distinct_counts distinct = false
distinct_counts (distinct_on e) = holds_aggregate e

-- an aggregate stands where groups are seen; one in HAVING needs a GROUP BY beside it
abbrev pub counts : Expr → Distinct → Order → Bool
counts e u o = holds_aggregate e || (distinct_counts u || order_counts o)

-- Whether a statement that was prepared once serves for other values: its text in the dialect depends on none (diesel,
-- `is_safe_to_cache_prepared`). PostgreSQL binds a list of values as one array, the others write a placeholder for each value.
use Rattle.std.specs.Prelude.{◌≡◌, Bool, true, false, ◌||◌, not, ◌⊎◌, []}
use Rattle.std.specs.List.{list_any}
use Rattle.sql_dialect.specs.declared.backend.Dialect.{Dialect}
use Rattle.sql_dialect.specs.declared.backend.Dialect.TheVariants.{Pg}
use Rattle.sql_node.specs.Tree.{Expr, among_values, Statement}
use Rattle.sql_rules.specs.Scope.{View, Part, a_select, a_combination, parts, Clause, clauses, nodes, AnyNode}

-- a membership in a list of values
abbrev pub IsAmongValues : View → Expr → Type 0
IsAmongValues v (among_values n e t xs) = Unit {0}
IsAmongValues v _ = ⊥

abbrev pub HoldsValueList : Statement → Type 0
HoldsValueList s = AnyNode IsAmongValues s

abbrev pub IsSafeIn : Dialect → Statement → Type 0
IsSafeIn d s = (d ≡ Pg) ⊎ ¬ HoldsValueList s

-- ---- the same as a test

abbrev pub is_among_values : Expr → Bool
is_among_values (among_values n e t xs) = true
is_among_values _ = false

abbrev pub clause_holds_value_list : Clause → Bool
clause_holds_value_list c = list_any is_among_values (nodes c.expr)

abbrev pub part_holds_value_list : Part → Bool
part_holds_value_list (a_select outer s) = list_any clause_holds_value_list (clauses outer s)
part_holds_value_list (a_combination c) = false

abbrev pub is_pg : Dialect → Bool
is_pg Pg = true
is_pg _ = false

abbrev pub is_safe_in : Dialect → Statement → Bool
is_safe_in d s = is_pg d || not (list_any part_holds_value_list (parts [] s))

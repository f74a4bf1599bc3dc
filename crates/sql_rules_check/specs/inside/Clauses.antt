-- Which clauses a select statement has, and whether they go together.
use Rattle.std.specs.Prelude.{ℕ, Bool, true, false, not, ◌&&◌, ◌||◌, List, [], ◌∷◌}
use Rattle.std.specs.List.{list_any}
use Rattle.sql_leaf.specs.declared.locking.LockingClause.TheVariants.{NoLockingClause, LockingClause as Locked}
use Rattle.sql_flat_law.specs.Rose.{Roses}
use Rattle.sql_flat_law.specs.Folds.{gathered_each}
use Rattle.sql_rules.specs.Rules.{misuse}
use Rattle.sql_flat.specs.declared.kind.FlatKind.{FlatKind}
use Rattle.sql_flat.specs.declared.kind.FlatKind.TheVariants as K
use Rattle.sql_flat.specs.declared.kind.FlatNode.{FlatNode}
use Rattle.sql_flat.specs.declared.kind.Form.{Form}
use Rattle.sql_flat.specs.declared.kind.Form.TheVariants as form
use Rattle.sql_flat.specs.declared.kind.Selecting.{Selecting}
use Rattle.sql_flat.specs.declared.kind.Uniqueness.{Uniqueness}
use Rattle.sql_flat.specs.declared.kind.Uniqueness.TheVariants as unique
use Rattle.sql_rules_check.specs.inside.Ahead.{gathered_behind}
use Rattle.sql_rules_check.specs.inside.Kids.{all_passed}

abbrev pub clause_at : FlatKind → List FlatKind
clause_at K.GroupBy = K.GroupBy ∷ []
clause_at K.Having = K.Having ∷ []
clause_at _ = []

abbrev pub clauses_in : Roses FlatKind → List FlatKind
clauses_in = gathered_each clause_at all_passed

abbrev pub is_group : FlatKind → Bool
is_group K.GroupBy = true
is_group _ = false

abbrev pub is_having : FlatKind → Bool
is_having K.Having = true
is_having _ = false

abbrev pub has_lock : Form → Bool
has_lock (form.Unboxed NoLockingClause) = false
has_lock (form.Unboxed (Locked m w)) = true
has_lock (form.Boxed d n) = false

abbrev pub is_distinct : Uniqueness → Bool
is_distinct unique.Every = false
is_distinct unique.Distinct = true
is_distinct unique.DistinctOn = true

abbrev pub clash : Selecting → Bool → Bool → Bool
clash s groups having =
    misuse s.marks || ((has_lock s.form && (is_distinct s.unique || (groups || having))) || (having && not groups))

abbrev pub clash_in : Selecting → List FlatKind → Bool
clash_in s ks = clash s (list_any is_group ks) (list_any is_having ks)

abbrev pub incompatible : FlatKind → Roses FlatKind → Bool
incompatible (K.Select s) ts = clash_in s (clauses_in ts)
incompatible _ ts = false

-- the same of the nodes of a list
abbrev pub incompatible_by : FlatKind → List FlatKind → Bool
incompatible_by (K.Select s) ks = clash_in s ks
incompatible_by _ ks = false

abbrev pub incompatible_at : ℕ → FlatNode → List FlatNode → Bool
incompatible_at i x xs = incompatible_by x.kind (gathered_behind clause_at all_passed i x xs)

-- `==` on nodes of a key is true of equal nodes alone.
use Rattle.std.proofs.Common.{◌≡◌, ◌↔◌, Bool, true, ◌&&◌, List, ap, subst, sym, ◌∙◌}
use Rattle.std.specs.Cmp.{Equal-is, first_so, second_so, signed_Decides}
use Rattle.std.specs.Ordering.{int_eq, is_eq}
use Rattle.std.specs.declared.cmp.Ordering.TheVariants.{Equal}
use Rattle.std.specs.Cmp.Lexicographic.{pointwise, lists_equiv}
use denote.Enum.Bare.{same_true}
use Rattle.sql_schema.proofs.Exact.{IsExact, exact-enum, none, one, two, exact-list, exact-option}
use Rattle.sql_schema.proofs.ExactTables.{exact-column, exact-table}
use Rattle.sql_schema.proofs.ExactTypes.{exact-unsigned, exact-bool, exact-text, exact-type}
use Rattle.sql_dialect.specs.contracts.backend.Dialect.{the_type as the_dialect}
use Rattle.sql_dialect.specs.contracts.backend.DialectPartialEq.TheImpl as dialect_eq
use Rattle.sql_dialect.specs.contracts.combination.Combinator.{the_type as the_combinator}
use Rattle.sql_dialect.specs.contracts.combination.CombinatorPartialEq.TheImpl as combinator_eq
use Rattle.sql_dialect.specs.contracts.combination.DuplicateRule.{the_type as the_duplicate_rule}
use Rattle.sql_dialect.specs.contracts.combination.DuplicateRulePartialEq.TheImpl as duplicate_rule_eq
use Rattle.sql_leaf.specs.contracts.locking.LockMode.{the_type as the_lock_mode}
use Rattle.sql_leaf.specs.contracts.locking.LockModePartialEq.TheImpl as lock_mode_eq
use Rattle.sql_leaf.specs.contracts.locking.Modifier.{the_type as the_modifier}
use Rattle.sql_leaf.specs.contracts.locking.ModifierPartialEq.TheImpl as modifier_eq
use Rattle.sql_leaf.specs.contracts.operator.Comparison.{the_type as the_comparison}
use Rattle.sql_leaf.specs.contracts.operator.ComparisonPartialEq.TheImpl as comparison_eq
use Rattle.sql_leaf.specs.contracts.operator.Logic.{the_type as the_logic}
use Rattle.sql_leaf.specs.contracts.operator.LogicPartialEq.TheImpl as logic_eq
use Rattle.sql_leaf.specs.contracts.operator.Unary.{the_type as the_unary}
use Rattle.sql_leaf.specs.contracts.operator.UnaryPartialEq.TheImpl as unary_eq
use Rattle.sql_leaf.specs.contracts.position.Direction.{the_type as the_direction}
use Rattle.sql_leaf.specs.contracts.position.DirectionPartialEq.TheImpl as direction_eq
use Rattle.sql_leaf.specs.contracts.table_source.JoinKind.{the_type as the_join_kind}
use Rattle.sql_leaf.specs.contracts.table_source.JoinKindPartialEq.TheImpl as join_kind_eq
use Rattle.sql_leaf.specs.contracts.table_source.TablesampleMethod.{the_type as the_tablesample_method}
use Rattle.sql_leaf.specs.contracts.table_source.TablesampleMethodPartialEq.TheImpl as tablesample_method_eq
use Rattle.sql_flat.specs.contracts.kind.Uniqueness.{the_type as the_uniqueness}
use Rattle.sql_flat.specs.contracts.kind.UniquenessPartialEq.TheImpl as uniqueness_eq
use Rattle.sql_leaf.specs.contracts.marks.MarksPartialEq.TheImpl as marks_eq
use Rattle.sql_leaf.specs.contracts.limit_offset.LimitOffsetClausePartialEq.TheImpl as limit_offset_clause_eq
use Rattle.sql_leaf.specs.contracts.position.OrderColumnPartialEq.TheImpl as order_column_eq
use Rattle.sql_leaf.specs.contracts.position.PositionalItemPartialEq.TheImpl as positional_item_eq
use Rattle.sql_leaf.specs.contracts.table_source.TablesamplePartialEq.TheImpl as tablesample_eq
use Rattle.sql_leaf.specs.contracts.table_source.TableSourcePartialEq.TheImpl as table_source_eq
use Rattle.sql_leaf.specs.contracts.alias.AliasPartialEq.TheImpl as alias_eq
use Rattle.sql_flat.specs.contracts.kind.SelectingPartialEq.TheImpl as selecting_eq
use Rattle.sql_flat.specs.contracts.kind.CombiningPartialEq.TheImpl as combining_eq
use Rattle.sql_pass.specs.contracts.value.Value.{enum as the_value}
use Rattle.sql_pass.specs.contracts.value.ValuePartialEq.TheImpl as value_eq
use Rattle.sql_leaf.specs.contracts.locking.LockingClause.{enum as the_locking_clause}
use Rattle.sql_leaf.specs.contracts.locking.LockingClausePartialEq.TheImpl as locking_clause_eq
use Rattle.sql_flat.specs.contracts.kind.Form.{enum as the_form}
use Rattle.sql_flat.specs.contracts.kind.FormPartialEq.TheImpl as form_eq
use Rattle.sql_flat.specs.contracts.kind.FlatKind.{enum as the_flat_kind}
use Rattle.sql_flat.specs.contracts.kind.FlatKindPartialEq.TheImpl as flat_kind_eq
use Rattle.sql_flat.specs.contracts.kind.FlatNodeEq.TheImpl.Laws.{laws-law}
use Rattle.sql_flat.specs.contracts.kind.FlatNodePartialEq.TheImpl as node_eq
use Rattle.sql_flat.specs.declared.kind.FlatNode.{FlatNode}
use Rattle.sql_key.specs.contracts.key.QueryKeyHash.TheImpl as key_hash
use Rattle.sql_key.specs.contracts.key.QueryKeyOrd.TheImpl as key_ord
use Rattle.sql_key.specs.contracts.key.QueryKeyOrd.TheImpl.Laws.{matches_eq-law}

-- both of two tests
so : {s t : Bool} {P Q : Type 0} → (s ≡ true → P) → (t ≡ true → Q) → (s && t) ≡ true → P × Q
so {s} {t} p q h = (p (first_so s t h), q (second_so s t h))

exact-signed : IsExact int_eq
exact-signed a b h = (signed_Decides a b).0 h

exact-dialect : IsExact (dialect_eq.ghosts).eq
exact-dialect a b h = same_true the_dialect tt a b h

exact-combinator : IsExact (combinator_eq.ghosts).eq
exact-combinator a b h = same_true the_combinator tt a b h

exact-duplicate_rule : IsExact (duplicate_rule_eq.ghosts).eq
exact-duplicate_rule a b h = same_true the_duplicate_rule tt a b h

exact-lock_mode : IsExact (lock_mode_eq.ghosts).eq
exact-lock_mode a b h = same_true the_lock_mode tt a b h

exact-modifier : IsExact (modifier_eq.ghosts).eq
exact-modifier a b h = same_true the_modifier tt a b h

exact-direction : IsExact (direction_eq.ghosts).eq
exact-direction a b h = same_true the_direction tt a b h

exact-join_kind : IsExact (join_kind_eq.ghosts).eq
exact-join_kind a b h = same_true the_join_kind tt a b h

exact-tablesample_method : IsExact (tablesample_method_eq.ghosts).eq
exact-tablesample_method a b h = same_true the_tablesample_method tt a b h

exact-unary : IsExact (unary_eq.ghosts).eq
exact-unary a b h = same_true the_unary tt a b h

exact-comparison : IsExact (comparison_eq.ghosts).eq
exact-comparison a b h = same_true the_comparison tt a b h

exact-logic : IsExact (logic_eq.ghosts).eq
exact-logic a b h = same_true the_logic tt a b h

exact-uniqueness : IsExact (uniqueness_eq.ghosts).eq
exact-uniqueness a b h = same_true the_uniqueness tt a b h

exact-marks : IsExact (marks_eq.ghosts).eq
exact-marks a b h =
    let r = so (exact-bool a.no_source b.no_source) (so (exact-bool a.find_source b.find_source) (so (exact-bool a.key_count b.key_count) (so (exact-bool a.second_lock b.second_lock) (so (exact-bool a.no_lock b.no_lock) (exact-bool a.boxed_lock b.boxed_lock))))) h in
    λ i. record {
      no_source = r.0 i;
      find_source = r.1.0 i;
      key_count = r.1.1.0 i;
      second_lock = r.1.1.1.0 i;
      no_lock = r.1.1.1.1.0 i;
      boxed_lock = r.1.1.1.1.1 i;
    }

exact-limit_offset_clause : IsExact (limit_offset_clause_eq.ghosts).eq
exact-limit_offset_clause a b h =
    let r = so (exact-option exact-signed a.limit_clause b.limit_clause) (exact-option exact-signed a.offset_clause b.offset_clause) h in
    λ i. record {
      limit_clause = r.0 i;
      offset_clause = r.1 i;
    }

exact-order_column : IsExact (order_column_eq.ghosts).eq
exact-order_column a b h = let p = exact-unsigned a.0 b.0 h in λ i. record { 0 = p i }

exact-positional_item : IsExact (positional_item_eq.ghosts).eq
exact-positional_item a b h =
    let r = so (exact-order_column a.column b.column) (exact-direction a.direction b.direction) h in
    λ i. record {
      column = r.0 i;
      direction = r.1 i;
    }

exact-tablesample : IsExact (tablesample_eq.ghosts).eq
exact-tablesample a b h =
    let r = so (exact-tablesample_method a.method b.method) (so (exact-signed a.portion b.portion) (exact-option exact-signed a.seed b.seed)) h in
    λ i. record {
      method = r.0 i;
      portion = r.1.0 i;
      seed = r.1.1 i;
    }

exact-table_source : IsExact (table_source_eq.ghosts).eq
exact-table_source a b h =
    let r = so (exact-table a.table b.table) (so (exact-bool a.only b.only) (exact-option exact-tablesample a.sample b.sample)) h in
    λ i. record {
      table = r.0 i;
      only = r.1.0 i;
      sample = r.1.1 i;
    }

exact-alias : IsExact (alias_eq.ghosts).eq
exact-alias a b h =
    let r = so (exact-text a.name b.name) (exact-table a.table b.table) h in
    λ i. record {
      name = r.0 i;
      table = r.1 i;
    }

exact-value : IsExact (value_eq.ghosts).eq
exact-value =
    exact-enum the_value _
    (one exact-signed, (one exact-signed, (one exact-signed, (one exact-text, (one exact-text, (one exact-bool, (none, tt)))))))

exact-locking_clause : IsExact (locking_clause_eq.ghosts).eq
exact-locking_clause =
    exact-enum the_locking_clause _
    (none, (two exact-lock_mode exact-modifier, tt))

exact-form : IsExact (form_eq.ghosts).eq
exact-form =
    exact-enum the_form _
    (one exact-locking_clause, (two exact-dialect exact-bool, tt))

exact-selecting : IsExact (selecting_eq.ghosts).eq
exact-selecting a b h =
    let r = so (exact-bool a.default b.default) (so (exact-uniqueness a.unique b.unique) (so (exact-limit_offset_clause a.rows b.rows) (so (exact-form a.form b.form) (exact-marks a.marks b.marks)))) h in
    λ i. record {
      default = r.0 i;
      unique = r.1.0 i;
      rows = r.1.1.0 i;
      form = r.1.1.1.0 i;
      marks = r.1.1.1.1 i;
    }

exact-combining : IsExact (combining_eq.ghosts).eq
exact-combining a b h =
    let r = so (exact-combinator a.combinator b.combinator) (so (exact-duplicate_rule a.duplicates b.duplicates) (exact-limit_offset_clause a.rows b.rows)) h in
    λ i. record {
      combinator = r.0 i;
      duplicates = r.1.0 i;
      rows = r.1.1 i;
    }

-- a word for each variant, in their order
exact-flat_kind : IsExact (flat_kind_eq.ghosts).eq
exact-flat_kind =
    exact-enum the_flat_kind _
    (two (exact-option exact-text) exact-column, (two exact-type exact-value, (none, (none, (none, (one exact-unary, (none, (one exact-comparison, (one exact-logic, (none, (none, (two exact-bool exact-bool, (one exact-type, (two exact-type exact-value, (one exact-table_source, (one exact-alias, (two exact-join_kind exact-bool, (none, (none, (none, (none, (none, (none, (none, (one exact-direction, (one exact-selecting, (one exact-combining, (none, (none, (one exact-positional_item, tt))))))))))))))))))))))))))))))

exact-node : IsExact (node_eq.ghosts).eq
exact-node a b h =
    let r = so (exact-flat_kind a.kind b.kind) (exact-unsigned a.end b.end) h in
    λ i. record { kind = r.0 i; end = r.1 i }

pub same-key : (a b : List FlatNode) → (pointwise (node_eq.ghosts).eq a b ≡ true) ↔ (a ≡ b)
same-key a b = (
  exact-list exact-node a b,
  λ e. subst (λ l. pointwise (node_eq.ghosts).eq a l ≡ true) e ((lists_equiv laws-law).refl a),
)

-- nodes are ordered alike exactly where they are equal, and hash alike
pub ordered-key : (a b : List FlatNode) → ((key_ord.ghosts).cmp a b ≡ Equal) ↔ (a ≡ b)
ordered-key a b = (
  λ h. (same-key a b).0 (matches_eq-law a b ∙ ap is_eq h),
  λ e. (Equal-is ((key_ord.ghosts).cmp a b)).0 (sym (matches_eq-law a b) ∙ (same-key a b).1 e),
)

pub same-hash : (a b : List FlatNode) → pointwise (node_eq.ghosts).eq a b ≡ true
    → (key_hash.ghosts).hash_input a ≡ (key_hash.ghosts).hash_input b
same-hash a b h = ap (key_hash.ghosts).hash_input ((same-key a b).0 h)

pub ruleset comparing_keys = (same-key, ordered-key, same-hash)

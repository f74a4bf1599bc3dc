use Rattle.std.proofs.Common.{◌≡◌, false, Some, option_map, length, get_or, ap, sym, subst, ◌∙◌}
use Rattle.std.specs.BTreeMap.{get_by_text}
use Rattle.sql_schema.specs.Columns.{column_of}
use Rattle.sql_schema.specs.Refusals.{is_unsound}
use Rattle.sql_schema.specs.inside.ColumnAt.{no_column, column_at}
use Rattle.sql_schema.specs.inside.Indices.{Indexes}
use Rattle.sql_schema.proofs.Indices.{column-at}
use Rattle.sql_schema.proofs.table.Table.column.Goals as goal

pub returns-in-None : goal.returns-in-None
returns-in-None c =
    let s = c.args.self.now in
    let q = c.args.name.now in
    let names = c.self.inside.declared.value.names in
    let known =
    subst
    (λ d. (is_unsound d ≡ false) × Indexes (λ x. x.name) (get_by_text names) d.columns (length d.columns))
    c.self.view_is (c.self.invariant.0, c.self.invariant.1.0) in
    let is : c.index_of.result ≡ get_by_text names q =
    c.index_of.ensures ∙ ap (λ v. get_by_text v.names q) c.deref.ensures in
    ap (option_map (λ x. column_of s x))
    (ap (option_map (λ i. get_or s.columns i no_column)) (sym c.in-None.is)
    ∙ column-at s (get_by_text names) known.0 known.1 q c.index_of.result is no_column)

pub returns-in_ok-table-in-Some : goal.returns-in_ok-table-in-Some
returns-in_ok-table-in-Some c =
    let s = c.args.self.now in
    let q = c.args.name.now in
    let i = c.in-Some.index in
    let names = c.self.inside.declared.value.names in
    let known =
    subst
    (λ d. (is_unsound d ≡ false) × Indexes (λ x. x.name) (get_by_text names) d.columns (length d.columns))
    c.self.view_is (c.self.invariant.0, c.self.invariant.1.0) in
    let is : c.index_of.result ≡ get_by_text names q =
    c.index_of.ensures ∙ ap (λ v. get_by_text v.names q) c.deref.ensures in
    ap (λ t. Some (column_at t i)) c.in_ok-table-in-Some.ensures
    ∙ ap (option_map (λ x. column_of s x))
    (ap (option_map (λ j. get_or s.columns j no_column)) (sym c.in-Some.is)
    ∙ column-at s (get_by_text names) known.0 known.1 q c.index_of.result is no_column)

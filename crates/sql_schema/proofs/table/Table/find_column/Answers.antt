use Rattle.std.proofs.Common.{rules, ◌≡◌, false, Some, option_map, length, get_or, ap, sym, subst, ◌∙◌}
use Rattle.std.specs.BTreeMap.{get_by_text}
use Rattle.sql_schema.specs.Refusals.{is_unsound}
use Rattle.sql_schema.specs.inside.ColumnAt.{no_column}
use Rattle.sql_schema.specs.inside.Indices.{Indexes}
use Rattle.sql_schema.proofs.Indices.{column-at}
use Rattle.sql_schema.proofs.table.Table.find_column.Goals as goal

pub returns-in-None : goal.returns-in-None
returns-in-None c =
    let s = c.args.self.now in
    let q = c.args.name.now in
    let names = c.self.inside.declared.value.names in
    let known =
    subst
    (λ d. (is_unsound d ≡ false) × Indexes (λ x. x.name) (get_by_text names) d.columns (length d.columns))
    c.self.view_is (c.self.invariant.0, c.self.invariant.1.0) in
    let is : c.index_of.result ≡ get_by_text names q =
    c.index_of.ensures ∙ ap (λ v. get_by_text v.names q) c.deref.ensures in
    ap (option_map (λ i. get_or s.columns i no_column)) (sym c.in-None.is)
    ∙ column-at s (get_by_text names) known.0 known.1 q c.index_of.result is no_column

pub returns-in-Some : goal.returns-in-Some
returns-in-Some c =
    let s = c.args.self.now in
    let q = c.args.name.now in
    let r = c.index-as_slice-index.result in
    let i = c.in-Some.index in
    let names = c.self.inside.declared.value.names in
    let known =
    subst
    (λ d. (is_unsound d ≡ false) × Indexes (λ x. x.name) (get_by_text names) d.columns (length d.columns))
    c.self.view_is (c.self.invariant.0, c.self.invariant.1.0) in
    let is : c.index_of.result ≡ get_by_text names q =
    c.index_of.ensures ∙ ap (λ v. get_by_text v.names q) c.deref.ensures in
    let read : r ≡ get_or c.as_slice.result.now i r = search rules in
    let columns : c.as_slice.result.now ≡ s.columns =
    c.as_slice.ensures ∙ ap (λ v. v.decl.columns) c.deref-in-Some.ensures ∙ ap (λ d. d.columns) c.self.view_is in
    ap Some (read ∙ ap (λ xs. get_or xs i r) columns)
    ∙ ap (option_map (λ j. get_or s.columns j r)) (sym c.in-Some.is)
    ∙ column-at s (get_by_text names) known.0 known.1 q c.index_of.result is r

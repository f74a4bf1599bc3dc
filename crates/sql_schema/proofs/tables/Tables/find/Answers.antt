use Rattle.std.proofs.Common.{◌≡◌, Some, option_map, get_or, ap, sym, ◌∙◌}
use Rattle.std.specs.BTreeMap.{get_by_text}
use Rattle.sql_schema.specs.Columns.{table_named}
use Rattle.sql_schema.proofs.Indices.{table-at, no_table}
use Rattle.sql_schema.proofs.tables.Tables.find.Goals as goal

pub returns-in-None : goal.returns-in-None
returns-in-None c =
    let ts = c.self.inside.items.items in
    let q = c.args.name.now in
    ap (option_map (λ i. get_or ts i no_table)) (sym c.in-None.is)
    ∙ table-at ts (get_by_text c.self.inside.names) c.self.invariant.0 c.self.invariant.1 q c.index_of.result
    c.index_of.ensures no_table
    ∙ ap (λ xs. table_named xs q) c.self.view_is

pub returns-in-Some : goal.returns-in-Some
returns-in-Some c =
    let ts = c.self.inside.items.items in
    let q = c.args.name.now in
    let r = c.index.result.now in
    let i = c.in-Some.index in
    let read : r ≡ get_or ts i r = c.index.ensures in
    ap Some read ∙ ap (option_map (λ j. get_or ts j r)) (sym c.in-Some.is)
    ∙ table-at ts (get_by_text c.self.inside.names) c.self.invariant.0 c.self.invariant.1 q c.index_of.result
    c.index_of.ensures r
    ∙ ap (λ xs. table_named xs q) c.self.view_is

use Rattle.std.proofs.Common.{◌≡◌, Some, None, false, option_map, refl, sym, ap, ◌∙◌}
use Rattle.sql_schema.specs.Columns.{table_named}
use Rattle.sql_rules.proofs.Tests.{table-test}
use Rattle.sql_rules_check.proofs.Declared.{none-declared, one-declared}
use Rattle.sql_rules_check.proofs.tables.is_table.Goals as goal

pub returns-in-None : goal.returns-in-None
returns-in-None c =
    let ts = c.args.schema.now.tables in
    let t = c.args.table.now in
    let none : table_named ts t.name ≡ None =
    ap (table_named ts) (sym c.name.ensures) ∙ sym c.table.ensures ∙ ap (option_map (λ u. u.now)) c.in-None.is in
    none-declared ts c.names_differ.ensures t none false refl

pub returns-in-Some : goal.returns-in-Some
returns-in-Some c =
    let ts = c.args.schema.now.tables in
    let t = c.args.table.now in
    let u = c.in-Some.declared.now in
    let named : table_named ts t.name ≡ Some u =
    ap (table_named ts) (sym c.name.ensures) ∙ sym c.table.ensures ∙ ap (option_map (λ u. u.now)) c.in-Some.is in
    one-declared ts c.names_differ.ensures t u named c.is_one_table.result
    (table-test c.is_one_table.result u t c.is_one_table.ensures)

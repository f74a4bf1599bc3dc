use Rattle.std.proofs.Common.{◌≡◌, None, inr, ap, sym, ◌∙◌}
use Rattle.std.specs.Option.{option_or}
use Rattle.sql_schema.specs.Declarations.{Declarations}
use Rattle.sql_schema.specs.Refusals.{least_refusal}
use Rattle.sql_schema.specs.inside.Split.{tables_refusal, relations_refusal}
use Rattle.sql_schema.proofs.RefusalLaws.{least-split, least-then, no-table-refused}
use Rattle.sql_schema.proofs.schema.SchemaBuilder.build.Goals as goal

pub returns-in-Some-clause-refused : goal.returns-in-Some-clause-refused
returns-in-Some-clause-refused c =
    let s : Declarations = record {
      tables = c.self.inside.tables.items;
      joinables = c.self.inside.joinables.items;
      together = c.self.inside.together.items;
    } in
    let found : c.in_ok-found.found ≡ tables_refusal s.tables =
    c.in_ok-found.ensures ∙ ap tables_refusal c.as_slice.ensures.value in
    inr
    (ap least_refusal (sym c.self.view_is) ∙ least-split s
    ∙ ap (λ o. option_or o (relations_refusal s)) (sym found ∙ c.in-Some.is))

pub new-requires-clause-differ : goal.new-requires-clause-differ
new-requires-clause-differ c =
    (no-table-refused c.self.inside.tables.items
    (ap tables_refusal (sym c.as_slice.ensures.value) ∙ sym c.in_ok-found.ensures ∙ c.in-None.is)).0

pub new-requires-clause-sound : goal.new-requires-clause-sound
new-requires-clause-sound c =
    (no-table-refused c.self.inside.tables.items
    (ap tables_refusal (sym c.as_slice.ensures.value) ∙ sym c.in_ok-found.ensures ∙ c.in-None.is)).1

pub with_indexes-requires : goal.with_indexes-requires
with_indexes-requires c =
    let s : Declarations = record {
      tables = c.in_ok-tables.tables;
      joinables = c.self.inside.joinables.items;
      together = c.self.inside.together.items;
    } in
    let none : tables_refusal s.tables ≡ None =
    ap tables_refusal (c.in_ok-tables.ensures ∙ sym c.as_slice.ensures.value) ∙ sym c.in_ok-found.ensures
    ∙ c.in-None.is in
    let is : c.in_ok-refused.refused ≡ relations_refusal s =
    rw (c.as_slice-2.ensures.value, c.as_slice-3.ensures.value) at c.in_ok-refused.ensures in
    least-then s c.in_ok-refused.refused none is ∙ c.in-None-refused.is

pub returns-in-Some-refused-clause-refused : goal.returns-in-Some-refused-clause-refused
returns-in-Some-refused-clause-refused c =
    let s : Declarations = record {
      tables = c.in_ok-tables.tables;
      joinables = c.self.inside.joinables.items;
      together = c.self.inside.together.items;
    } in
    let none : tables_refusal s.tables ≡ None =
    ap tables_refusal (c.in_ok-tables.ensures ∙ sym c.as_slice.ensures.value) ∙ sym c.in_ok-found.ensures
    ∙ c.in-None.is in
    let is : c.in_ok-refused.refused ≡ relations_refusal s =
    rw (c.as_slice-2.ensures.value, c.as_slice-3.ensures.value) at c.in_ok-refused.ensures in
    let own : s ≡ c.args.self = ap (λ ts. record s { tables = ts }) c.in_ok-tables.ensures ∙ c.self.view_is in
    inr
    (ap least_refusal (sym own) ∙ least-then s c.in_ok-refused.refused none is ∙ c.in-Some-refused.is)

pub returns-in_ok-with_indexes-in-None-refused-clause-sound : goal.returns-in_ok-with_indexes-in-None-refused-clause-sound
returns-in_ok-with_indexes-in-None-refused-clause-sound c =
    let s : Declarations = record {
      tables = c.in_ok-tables.tables;
      joinables = c.self.inside.joinables.items;
      together = c.self.inside.together.items;
    } in
    let none : tables_refusal s.tables ≡ None =
    ap tables_refusal (c.in_ok-tables.ensures ∙ sym c.as_slice.ensures.value) ∙ sym c.in_ok-found.ensures
    ∙ c.in-None.is in
    let is : c.in_ok-refused.refused ≡ relations_refusal s =
    rw (c.as_slice-2.ensures.value, c.as_slice-3.ensures.value) at c.in_ok-refused.ensures in
    let own : s ≡ c.args.self = ap (λ ts. record s { tables = ts }) c.in_ok-tables.ensures ∙ c.self.view_is in
    ap least_refusal (sym own) ∙ least-then s c.in_ok-refused.refused none is ∙ c.in-None-refused.is

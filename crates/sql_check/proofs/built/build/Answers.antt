use Rattle.std.proofs.Common.{◌∙◌, ap, map, Some}
use Rattle.sql_rules.specs.declared.rule.Rule.TheVariants.{Ambiguous, NameClash, NotInScope, UnknownName}
use Rattle.sql_check.specs.Typed.{known}
use Rattle.sql_check.proofs.Chosen.{is_accepted}
use Rattle.sql_check.proofs.Columns.{known_columns}
use Rattle.sql_check.proofs.Reading.{is_read}
use Rattle.sql_check.proofs.built.build.Goals as goal

pub returns-clause-built : goal.returns-clause-built
returns-clause-built g c = λ s is schema none.
    let d = g.DB.Backend.speaks in
    let told = c.in_ok-told.ensures.fused s is in
    let accepted = is_accepted schema d s none (c.in_ok-told.ensures.few s is) in
    record {
      accepted = accepted;
      sql = told.sql;
      binds = told.binds;
      sql_types =
          ap (map Some)
          (c.from.ensures ∙ c.in_ok-sql_types.ensures ∙ ap known (c.requires s is))
          ∙ known_columns schema d s accepted;
      safe = told.safe;
      id = told.id;
    }

pub returns-clause-read : goal.returns-clause-read
returns-clause-read g c = λ s is schema none counted.
    let d = g.DB.Backend.speaks in
    let told = c.in_ok-told.ensures.fused s is in
    let accepted = is_accepted schema d s none (c.in_ok-told.ensures.few s is) in
    is_read d s c.in_ok-told.told.sql c.in_ok-told.told.binds told.sql told.binds
    (c.accepted_are_read.ensures.only schema d s counted accepted)
    (c.accepted_are_read.ensures.as_many schema d s counted accepted)
    (c.accepted_are_read.ensures.fills schema d s counted accepted)
    (c.names_one_leaf.ensures.named schema d s (accepted UnknownName) (accepted Ambiguous) (accepted NameClash)
    (accepted NotInScope))

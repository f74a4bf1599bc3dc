use Rattle.std.proofs.Common.{ap, sym, ◌∙◌}
use Rattle.std.specs.Option.{option_copied}
use Rattle.sql_origin.proofs.OriginLaws.{table-decides}
use Rattle.sql_rules_check.proofs.leaves.is_held.Goals as goal

pub returns-in-Some : goal.returns-in-Some
returns-in-Some c = λ e. (
  c.name.result,
  c.in-Some.found.now,
  sym c.get.ensures.value ∙ ap option_copied c.in-Some.is,
  (table-decides c.in-Some.found.now.now c.args.table.now).0 (sym c.is_one_table.ensures ∙ e),
)

use Rattle.std.proofs.Common.{[]}
use Rattle.std.specs.Bool.{one_answer}
use Rattle.sql_flat.specs.declared.kind.FlatKind.TheVariants as K
use Rattle.sql_rules_check.specs.inside.Sites.{is_unknown}
use Rattle.sql_rules_check.proofs.Decided.{outside}
use Rattle.sql_rules_check.proofs.UnknownNames.{unknown-decides}
use Rattle.sql_rules_check.proofs.kinds.is_unknown_name.Goals as goal

pub returns-in-Column : goal.returns-in-Column
returns-in-Column c =
    let s = c.args.schema.now in
    let k = K.Column c.in-Column.field-0 c.in-Column.column in
    rw c.in-Column.is
    (one_answer c.is_unknown.result (is_unknown s k) c.is_unknown.ensures (unknown-decides s [] k outside))

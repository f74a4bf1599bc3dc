use Rattle.std.proofs.Common.{map, subst}
use Rattle.std.specs.Bool.{Decides}
use Rattle.std.proofs.lemmas.Bool.Decides.{Decides-like}
use Rattle.sql_origin.specs.Borrowed.{origin_of}
use Rattle.sql_rules.specs.Lists.{AnyPair}
use Rattle.sql_rules.specs.Rules.{MayNotMeet}
use Rattle.sql_rules_check.proofs.Meetings.{pair-covered}
use Rattle.sql_rules_check.proofs.leaves.any_apart.Goals as goal

pub returns : goal.returns
returns c =
    let s = c.args.schema.now in
    let all = map origin_of c.args.leaves.now in
    let kept = map origin_of c.in_ok-kept.kept.items in
    Decides-like c.any_pair.result (pair-covered s all kept c.in_ok-kept.ensures.among)
    (pair-covered s kept all c.in_ok-kept.ensures.all)
    (subst (λ v. Decides c.any_pair.result (AnyPair (MayNotMeet s) (map origin_of v))) c.as_slice.ensures.value
    c.any_pair.ensures)

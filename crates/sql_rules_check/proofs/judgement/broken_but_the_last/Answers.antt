use Rattle.std.proofs.lemmas.Result.{IfOk-weaker}
use Rattle.sql_rules.specs.Rules.{Broken}
use Rattle.sql_rules_check.specs.First.{inner_rules}
use Rattle.sql_rules_check.specs.inside.Flags.{flag}
use Rattle.sql_rules_check.proofs.Flagged.{all-broken}
use Rattle.sql_rules_check.proofs.judgement.broken_but_the_last.Goals as goal

pub returns : goal.returns
returns g c = λ s is.
    IfOk-weaker c.all_of.result _ _
    (λ v selected. all-broken (flag c.in_ok-flags.flags) (λ r. Broken r c.args.schema.now g.DB.Backend.speaks s)
    inner_rules v.items (c.in_ok-flags.ensures.flags s is) selected)
    c.all_of.ensures

use Rattle.sql_rules.specs.Rules.{Broken}
use Rattle.sql_rules_check.specs.First.{inner_rules}
use Rattle.sql_rules_check.specs.inside.Flags.{flag}
use Rattle.sql_rules_check.proofs.Flagged.{first-broken}
use Rattle.sql_rules_check.proofs.judgement.judge.Goals as goal

pub returns-clause-first : goal.returns-clause-first
returns-clause-first g c = λ s is.
    first-broken (flag c.in_ok-flags.flags) (λ r. Broken r c.args.schema.now g.DB.Backend.speaks s) inner_rules
    c.first_of.result (c.in_ok-flags.ensures.flags s is) c.first_of.ensures

use Rattle.std.proofs.Common.{◌≡◌, rules, subst, sym}
use Rattle.std.proofs.lemmas.Result.{IfErr-weaker, IfOk-weaker}
use Rattle.sql_rules.specs.Rules.{Broken}
use Rattle.sql_rules_check.specs.First.{IsFirst, inner_rules}
use Rattle.sql_check.specs.Compiled.{IsLeast}
use Rattle.sql_check.proofs.Chosen.{first_least, last_least}
use Rattle.sql_check.proofs.built.compile_flat_by.Goals as goal

pub returns-in-Some : goal.returns-in-Some
returns-in-Some g c = λ s flat. record {
  built = tt;
  read = tt;
  refused = λ r is.
      let schema = c.args.schema.now in
      let d = g.DB.Backend.speaks in
      let same : c.in-Some.rule ≡ r = search rules in
      let first =
      subst (IsFirst (λ q. Broken q schema d s) inner_rules) c.in-Some.is (c.in_ok-first.ensures.first s flat) in
      subst (λ q. IsLeast q schema d s) same (first_least schema d s c.in-Some.rule first);
}

pub returns : goal.returns
returns g c = λ s flat.
    let schema = c.args.schema.now in
    let d = g.DB.Backend.speaks in
    let none = subst (IsFirst (λ q. Broken q schema d s) inner_rules) c.in-None.is (c.in_ok-first.ensures.first s flat) in
    record {
      built = IfOk-weaker c.build.result _ _ (λ b gives. gives s flat schema none) c.build.ensures.built;
      read =
          IfOk-weaker c.build.result _ _ (λ b gives. gives s flat schema none (c.in_ok-first.ensures.counted s flat))
          c.build.ensures.read;
      refused =
          IfErr-weaker c.build.result _ _
          (λ e gives r is.
          let last = gives r is s flat in
          subst (λ q. IsLeast q schema d s) (sym last.0) (last_least schema d s none last.1))
          c.build.ensures.refused;
    }

use Rattle.std.proofs.Common.{◌≡◌, sym, ◌∙◌}
use Rattle.std.proofs.lemmas.Bool.{false≢true}
use Rattle.sql_origin.specs.Borrowed.{origin_of}
use Rattle.sql_rules.proofs.Loops.{pair_map}
use Rattle.sql_rules_check.specs.inside.Tables.{named_alike}
use Rattle.sql_rules_check.proofs.Alike.{two-pass}
use Rattle.sql_rules_check.proofs.ByNames.{names-of-one}
use Rattle.sql_rules_check.proofs.leaves.any_ambiguous.Goals as goal

pub returns-else-alike : goal.returns-else-alike
returns-else-alike c = (
  λ e. absurd (false≢true (sym c.if-alike.false ∙ e)),
  λ h. absurd (false≢true (sym c.if-alike.false ∙ c.in_ok-alike.ensures
      ∙ two-pass (λ x y. origin_of x ≡ origin_of y) (λ a b. named_alike (origin_of a) (origin_of b))
      (λ x y e. names-of-one (origin_of x) (origin_of y) e) c.args.leaves.now
      (pair_map (λ a b. a ≡ b) origin_of c.args.leaves.now h))),
)

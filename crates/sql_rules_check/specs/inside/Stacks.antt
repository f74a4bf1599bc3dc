-- The stack of the loop from the last node to the first.
use Rattle.std.specs.Prelude.{ℕ, List}
use Rattle.sql_flat_law.specs.Finished.{before, finished}
use Rattle.sql_flat_law.specs.Seen.{seen}
use Rattle.sql_flat_law.specs.declared.finished.Finished.{Finished}
use Rattle.sql_rules.specs.Types.{Given, one, many}
use Rattle.sql_rules_check.specs.inside.Typing.{Judged}
use Rattle.sql_rules_check.specs.declared.given.Given as declared_given
use Rattle.sql_rules_check.specs.declared.given.Given.TheVariants as G
use Rattle.sql_rules_check.specs.declared.given.Judged as declared_judged

abbrev pub given_of : declared_given.Given → Given
given_of (G.One t) = one t
given_of (G.Many ts) = many ts.items

abbrev pub judged_of : declared_judged.Judged → Judged
judged_of j = record { given = given_of j.given; mismatched = j.mismatched; empty = j.empty }

-- from the first tree on
abbrev pub stack : List (Finished declared_given.Given) → List (ℕ × Given)
stack ts = seen given_of (finished ts)

-- what those have that begin before e, and the others
abbrev pub split : ℕ → List (Finished declared_given.Given) → List Given × List (ℕ × Given)
split e ts = before e (stack ts)

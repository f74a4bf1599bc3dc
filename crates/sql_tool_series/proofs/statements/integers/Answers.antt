use Rattle.std.proofs.Common.{◌≡◌, ◌∙◌, ℕ, suc, ◌+◌, ◌++◌, ◌∷◌, [], pos, ap, arith, rules}
use Rattle.sql_pass.specs.declared.value.Value.TheVariants.{Integer}
use Rattle.sql_tool_series.specs.Generated.{integers}
use Rattle.sql_tool_series.proofs.statements.integers.Goals as goal

integers-more : (n : ℕ) → integers n ++ Integer (pos n) ∷ [] ≡ integers (n + 1)
integers-more n = let e : suc n ≡ n + 1 = omega arith in ap integers e

pub loop-number-preserved : goal.loop-number-preserved
loop-number-preserved c =
    let n = c.loop-number.number in
    let items : c.push.new.self.items ≡ c.loop-number.all.items ++ Integer (pos n) ∷ [] = search rules in
    items ∙ ap (λ xs. xs ++ Integer (pos n) ∷ []) c.loop-number.invariant ∙ integers-more n

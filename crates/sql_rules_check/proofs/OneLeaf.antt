-- No two leaves may not meet where there is one alone.
use Rattle.std.proofs.Common.{◌≡◌, ◌<◌, List, [], ◌∷◌, Bool, false, length, map, refl, arith}
use Rattle.sql_node.specs.Tree.{Origin}
use Rattle.sql_rules_check.specs.inside.Sites.{any_pair}

pub pair-alone : {X : Type 0} (f : X → Origin) (t : Origin → Origin → Bool) (ls : List X) → length ls < 2
    → any_pair t (map f ls) ≡ false
pair-alone f t [] h = refl
pair-alone f t (x ∷ []) h = refl
pair-alone f t (x ∷ (y ∷ ls)) h = absurd (omega arith)

-- What trees hold, for padded rows.
use Rattle.std.proofs.Common.{◌≡◌, List, [], ◌∷◌, ◌++◌, map, refl, ap}
use Rattle.sql_origin.specs.Borrowed.{origin_of}
use Rattle.sql_rules_check.specs.declared.padding.Padded.{Padded}
use Rattle.sql_rules_check.specs.inside.Padding.{Held, all_bare, all_leaves, first_held, other_held}
use Rattle.sql_rules_check.specs.inside.PaddingStacks.{leaf_of}

pub origins-of : (ls : List Padded) → map (λ l. l.origin) (map leaf_of ls) ≡ map (λ l. origin_of l.origin) ls
origins-of [] = refl
origins-of (l ∷ ls) = ap (λ v. origin_of l.origin ∷ v) (origins-of ls)

-- the first, and then the others, are all
pub first-leaves : (hs gs : List Held) (h : Held) → h ≡ first_held hs → gs ≡ other_held hs
    → h.leaves ++ all_leaves gs ≡ all_leaves hs
first-leaves [] gs h is others = λ i. (is i).leaves ++ all_leaves (others i)
first-leaves (x ∷ hs) gs h is others = λ i. (is i).leaves ++ all_leaves (others i)

pub first-bare : (hs gs : List Held) (h : Held) → h ≡ first_held hs → gs ≡ other_held hs
    → h.bare ++ all_bare gs ≡ all_bare hs
first-bare [] gs h is others = λ i. (is i).bare ++ all_bare (others i)
first-bare (x ∷ hs) gs h is others = λ i. (is i).bare ++ all_bare (others i)

-- The members that say how many requests each rule refused.
use Rattle.std.proofs.Common.{◌≡◌, ◌∙◌, ℕ, zero, suc, Bool, true, false, ◌||◌, true≢false, List, [], ◌∷◌, ◌++◌, Option, None, Some, Ordering, Less, Equal, Greater, refl, sym, ap}
use Rattle.std.specs.Cmp.Lexicographic.{slice_cmp}
use Rattle.std.specs.Ordering.{nat_cmp, match_ordering}
use Rattle.serde_json.specs.Data.{Members, no_members, member, put}
use Rattle.serde_json.specs.Written.{has_float, members_have_float}
use Rattle.sql_rules.specs.Rules.{all_rules}
use Rattle.sql_rules.specs.Texts.{rule_text}
use Rattle.sql_rules.specs.declared.rule.Rule.{Rule}
use Rattle.sql_tool_build.specs.Output.{Line}
use Rattle.sql_tool_generate.specs.Counts.{refused_as}
use Rattle.sql_tool_generate.specs.Summary.{cut, count, tallied, refusals, summary}
use Rattle.sql_tool_generate.specs.inside.Counting.{kept}

none_some : {X : Type 0} (x : X) → Prim.Path (Option X) None (Some x) → ⊥
none_some x h = cc

-- ---- a member

pub tallied-none : (name : List ℕ) (many : ℕ) (ms : Members) → None ≡ kept many → ms ≡ tallied name many ms
tallied-none name zero ms h = refl
tallied-none name (suc m) ms h = absurd (none_some (suc m) h)

pub tallied-some : (name : List ℕ) (many n : ℕ) (ms : Members) → Some n ≡ kept many
    → put name (count n) ms ≡ tallied name many ms
tallied-some name zero n ms h = absurd (none_some n (sym h))
tallied-some name (suc m) n ms h = let e : n ≡ suc m = cc in ap (λ k. put name (count k) ms) e

pub refusals-more : (rs : List Rule) (r : Rule) (ls : List Line) (ms : Members)
    → refusals (rs ++ r ∷ []) ls ms ≡ tallied (rule_text r) (cut (refused_as (rule_text r) ls)) (refusals rs ls ms)
refusals-more [] r ls ms = refl
refusals-more (q ∷ rs) r ls ms = refusals-more rs r ls (tallied (rule_text q) (cut (refused_as (rule_text q) ls)) ms)

-- ---- none of its numbers is a float

both-false : (a b : Bool) → a || b ≡ false → (a ≡ false) × (b ≡ false)
both-false true b h = absurd (true≢false h)
both-false false b h = (refl, h)

float-put : (k : List ℕ) (n : ℕ) (ms : Members) → members_have_float ms ≡ false
    → members_have_float (put k (count n) ms) ≡ false
float-put k n no_members h = refl
float-put k n (member l d ms) h =
    here (slice_cmp nat_cmp k l) (λ none. float-put k n ms none)
  where
    parts : (has_float d ≡ false) × (members_have_float ms ≡ false)
    parts = both-false (has_float d) (members_have_float ms) h

    here : (o : Ordering)
        → (members_have_float ms ≡ false → members_have_float (put k (count n) ms) ≡ false)
        → members_have_float (match_ordering o (member k (count n) (member l d ms)) (member l (count n) ms) (member l d (put k (count n) ms)))
        ≡ false
    here Less rest = h
    here Equal rest = parts.1
    here Greater rest = ap (λ b. b || members_have_float (put k (count n) ms)) parts.0 ∙ rest parts.1

float-tallied : (name : List ℕ) (many : ℕ) (ms : Members) → members_have_float ms ≡ false
    → members_have_float (tallied name many ms) ≡ false
float-tallied name zero ms h = h
float-tallied name (suc m) ms h = float-put name (suc m) ms h

float-refusals : (rs : List Rule) (ls : List Line) (ms : Members) → members_have_float ms ≡ false
    → members_have_float (refusals rs ls ms) ≡ false
float-refusals [] ls ms h = h
float-refusals (r ∷ rs) ls ms h =
    float-refusals rs ls (tallied (rule_text r) (cut (refused_as (rule_text r) ls)) ms)
    (float-tallied (rule_text r) (cut (refused_as (rule_text r) ls)) ms h)

pub float-summary : (ls : List Line) → has_float (summary ls) ≡ false
float-summary ls = ap (λ b. b || false) (float-refusals all_rules ls no_members refl)

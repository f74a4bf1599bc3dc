-- Lines after lines, and where nothing is forgotten.
use Rattle.std.proofs.Common.{◌≡◌, ◌∙◌, ◌<◌, ◌+◌, ℕ, suc, Bool, true, false, cond, List, [], ◌∷◌, ◌++◌, length, length-append, None, refl, sym, ap, subst, arith}
use Rattle.std.specs.Prelude.{nat_le}
use Rattle.std.proofs.lemmas.Bool.Decides.{nat_tests}
use Rattle.std.proofs.lemmas.List.{length-map}
use Rattle.sql_schema.specs.Declarations.{Declarations}
use Rattle.sql_tool_build.proofs.Once.{same-lines}
use Rattle.sql_tool_build.specs.Output.{AreLines, IsLine, Line, StatementRequest, line_shape}
use Rattle.sql_tool_ids.specs.Memory.{AreLinesAfter, Memory, after_line, after_lines, forgotten, is_own, learnt, no_memory, own_ids}

-- ---- one more line

pub after-more : (most : ℕ) (m : Memory) (ls : List Line) (l : Line)
    → after_lines most m (ls ++ l ∷ []) ≡ after_line most (after_lines most m ls) l
after-more most m [] l = refl
after-more most m (k ∷ ls) l = after-more most (after_line most m k) ls l

line-length : (most : ℕ) (m : Memory) (l : Line) → length (after_line most m l).shapes ≡ length m.shapes + 1
line-length most m l = by (nat_le most (learnt m l).count)
  where
    grown : length (m.shapes ++ line_shape l ∷ []) ≡ length m.shapes + 1
    grown = length-append m.shapes (line_shape l ∷ [])

    by : (b : Bool) → length (cond b (forgotten (learnt m l)) (learnt m l)).shapes ≡ length m.shapes + 1
    by true = length-map (m.shapes ++ line_shape l ∷ []) (λ o. None) ∙ grown
    by false = grown

pub after-length : (most : ℕ) (m : Memory) (ls : List Line)
    → length (after_lines most m ls).shapes ≡ length m.shapes + length ls
after-length most m [] = omega arith
after-length most m (l ∷ ls) =
    omega (arith, after-length most (after_line most m l) ls, line-length most m l)

pub lines-length : (most : ℕ) (schema : Declarations) (m : Memory) (rs : List StatementRequest) (ls : List Line)
    → AreLinesAfter most schema m rs ls → length ls ≡ length rs
lines-length most schema m [] [] h = refl
lines-length most schema m [] (l ∷ ls) h = absurd h
lines-length most schema m (r ∷ rs) [] h = absurd h
lines-length most schema m (r ∷ rs) (l ∷ ls) h = ap suc (lines-length most schema (after_line most m l) rs ls h.1)

pub lines-more : (most : ℕ) (schema : Declarations) (m : Memory) (rs : List StatementRequest) (ls : List Line)
    (r : StatementRequest) (l : Line)
    → AreLinesAfter most schema m rs ls → IsLine schema (after_lines most m ls).shapes r l
    → AreLinesAfter most schema m (rs ++ r ∷ []) (ls ++ l ∷ [])
lines-more most schema m [] [] r l h one = (one, tt)
lines-more most schema m [] (k ∷ ls) r l h one = absurd h
lines-more most schema m (q ∷ rs) [] r l h one = absurd h
lines-more most schema m (q ∷ rs) (k ∷ ls) r l h one =
    (h.0, lines-more most schema (after_line most m k) rs ls r l h.1 one)

-- ---- requests have one list of lines

first-is : (l k : Line) → l ∷ [] ≡ k ∷ [] → l ≡ k
first-is l k h = cc

pub same-after : (most : ℕ) (schema : Declarations) (m : Memory) (rs : List StatementRequest) (ls ks : List Line)
    → AreLinesAfter most schema m rs ls → AreLinesAfter most schema m rs ks → ls ≡ ks
same-after most schema m [] [] [] first second = refl
same-after most schema m [] [] (k ∷ ks) first second = absurd second
same-after most schema m [] (l ∷ ls) ks first second = absurd first
same-after most schema m (r ∷ rs) [] ks first second = absurd first
same-after most schema m (r ∷ rs) (l ∷ ls) [] first second = absurd second
same-after most schema m (r ∷ rs) (l ∷ ls) (k ∷ ks) first second =
    let head = first-is l k (same-lines schema m.shapes (r ∷ []) (l ∷ []) (k ∷ []) (first.0, tt) (second.0, tt)) in
    let tail =
    same-after most schema (after_line most m k) rs ls ks
    (subst (λ x. AreLinesAfter most schema (after_line most m x) rs ls) head first.1) second.1 in
    λ i. head i ∷ tail i

-- ---- fewer ids than are kept

moved : (b : Bool) (c x most : ℕ) → c + cond b (1 + x) x < most → cond b (c + 1) c + x < most
moved true c x most h = omega (arith, h)
moved false c x most h = h

learnt-few : (most : ℕ) (m : Memory) (l : Line) (ls : List Line)
    → m.count + own_ids (length m.shapes + 1) (l ∷ ls) < most
    → (learnt m l).count + own_ids (length (learnt m l).shapes + 1) ls < most
learnt-few most m l ls few =
    subst (λ n. (learnt m l).count + own_ids (n + 1) ls < most) (sym (length-append m.shapes (line_shape l ∷ [])))
    (moved (is_own (length m.shapes + 1) l.id) m.count (own_ids (length m.shapes + 1 + 1) ls) most few)

stays : (most c x : ℕ) → c + x < most → nat_le most c ≡ false
stays most c x few = grind (arith, nat_tests)

pub unforgotten : (most : ℕ) (schema : Declarations) (m : Memory) (rs : List StatementRequest) (ls : List Line)
    → m.count + own_ids (length m.shapes + 1) ls < most → AreLinesAfter most schema m rs ls
    → AreLines schema m.shapes rs ls
unforgotten most schema m [] [] few h = tt
unforgotten most schema m [] (l ∷ ls) few h = absurd h
unforgotten most schema m (r ∷ rs) [] few h = absurd h
unforgotten most schema m (r ∷ rs) (l ∷ ls) few h =
    let k = learnt m l in
    let fewer = learnt-few most m l ls few in
    let same : after_line most m l ≡ k =
    ap (λ b. cond b (forgotten k) k) (stays most k.count (own_ids (length k.shapes + 1) ls) fewer) in
    (h.0, unforgotten most schema k rs ls fewer (subst (λ x. AreLinesAfter most schema x rs ls) same h.1))

pub few-lines : (most : ℕ) (schema : Declarations) (rs : List StatementRequest) (ls : List Line) → own_ids 1 ls < most
    → AreLinesAfter most schema no_memory rs ls → AreLines schema [] rs ls
few-lines most schema rs ls few h = unforgotten most schema no_memory rs ls (omega (arith, few)) h

-- Counts of lines, as a list of them grows at its end.
use Rattle.std.proofs.Common.{◌≡◌, ◌∙◌, ℕ, suc, ◌+◌, List, [], ◌∷◌, ◌++◌, length, ap, sym, arith}
use Rattle.sql_tool_build.specs.Output.{Line}
use Rattle.sql_tool_generate.specs.Counts.{total, one_if, is_own, own_ids}
use Rattle.sql_tool_generate.specs.Summary.{cut}
use Rattle.sql_tool_generate.specs.inside.Counting.{raised}

pub total-more : (f : Line → ℕ) (ls : List Line) (l : Line) → total f (ls ++ l ∷ []) ≡ total f ls + f l
total-more f [] l = omega arith
total-more f (k ∷ ls) l = let h = total-more f ls l in omega (arith, h)

pub length-more : (ls : List Line) (l : Line) → length (ls ++ l ∷ []) ≡ length ls + 1
length-more [] l = omega arith
length-more (k ∷ ls) l = let h = length-more ls l in omega (arith, h)

own-more : (n : ℕ) (ls : List Line) (l : Line)
    → own_ids n (ls ++ l ∷ []) ≡ own_ids n ls + one_if (is_own (n + length ls) l.id)
own-more n [] l =
    let h : one_if (is_own n l.id) ≡ one_if (is_own (n + 0) l.id) = ap (λ m. one_if (is_own m l.id)) (omega arith) in
    omega (arith, h)
own-more n (k ∷ ls) l =
    let h = own-more (n + 1) ls l in
    let e : one_if (is_own (n + 1 + length ls) l.id) ≡ one_if (is_own (n + suc (length ls)) l.id) =
    ap (λ m. one_if (is_own m l.id)) (omega arith) in
    omega (arith, h, e)

-- a sum that is cut at each step is cut once
pub cut-raised : (a b : ℕ) → raised (cut a) b ≡ cut (a + b)
cut-raised a b = omega arith

module _ (ls : List Line) (l : Line) (old new : ℕ) where
  -- what the line counts is added
  pub grown : (f : Line → ℕ) (v : ℕ) → old ≡ cut (total f ls) → new ≡ raised old v → f l ≡ v
      → new ≡ cut (total f (ls ++ l ∷ []))
  grown f v told is adds =
      is ∙ ap (λ a. raised a v) told ∙ cut-raised (total f ls) v ∙ ap (λ x. cut (total f ls + x)) (sym adds)
      ∙ ap cut (sym (total-more f ls l))

  -- the line counts nothing
  pub same : (f : Line → ℕ) → old ≡ cut (total f ls) → new ≡ old → f l ≡ 0 → new ≡ cut (total f (ls ++ l ∷ []))
  same f told is none =
      let more = total-more f ls l in
      let e : total f ls ≡ total f (ls ++ l ∷ []) = omega (arith, more, none) in
      is ∙ told ∙ ap cut e

  pub grown-ids : (n v : ℕ) → n ≡ 1 + length ls → old ≡ cut (own_ids 1 ls) → new ≡ raised old v
      → one_if (is_own n l.id) ≡ v → new ≡ cut (own_ids 1 (ls ++ l ∷ []))
  grown-ids n v number told is adds =
      is ∙ ap (λ a. raised a v) told ∙ cut-raised (own_ids 1 ls) v
      ∙ ap (λ x. cut (own_ids 1 ls + x)) (sym adds ∙ ap (λ m. one_if (is_own m l.id)) number)
      ∙ ap cut (sym (own-more 1 ls l))

  pub same-ids : (n : ℕ) → n ≡ 1 + length ls → old ≡ cut (own_ids 1 ls) → new ≡ old → one_if (is_own n l.id) ≡ 0
      → new ≡ cut (own_ids 1 (ls ++ l ∷ []))
  same-ids n number told is none =
      let more = own-more 1 ls l in
      let zero-at : one_if (is_own (1 + length ls) l.id) ≡ 0 = ap (λ m. one_if (is_own m l.id)) (sym number) ∙ none in
      let e : own_ids 1 ls ≡ own_ids 1 (ls ++ l ∷ []) = omega (arith, more, zero-at) in
      is ∙ told ∙ ap cut e

  pub grown-length : old ≡ cut (length ls) → new ≡ raised old 1 → new ≡ cut (length (ls ++ l ∷ []))
  grown-length told is =
      is ∙ ap (λ a. raised a 1) told ∙ cut-raised (length ls) 1 ∙ ap cut (sym (length-more ls l))

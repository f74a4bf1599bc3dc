-- The words within an element tell its nodes, values and the values of lists aside.
use Rattle.std.proofs.Common.{◌≡◌, ℕ, ◌+◌, ◌<◌, Bool, true, false, List, [], ◌∷◌, ◌++◌, refl, sym, ap, ◌∙◌, subst, arith, append_assoc, append-nil}
use Rattle.sql_flat_law.specs.Rose.{Rose, node, Roses, none, more, joined}
use Rattle.sql_flat.specs.declared.kind.FlatKind.{FlatKind}
use Rattle.sql_key.specs.Blank.{blank_kind}
use Rattle.sql_key.specs.inside.Swept.{is_element, swept, swept_each}
use Rattle.sql_rules_check.specs.declared.order.Standing.{Standing}
use Rattle.sql_rules_check.specs.declared.order.Standing.TheVariants.{Over, Within}
use Rattle.sql_rules_check.specs.inside.Words.{Word, words, words_each}
use Rattle.sql_rules_check.proofs.Clashing.{AllInner, inner-append}

abbrev pub standing_at : Standing → FlatKind → Word
standing_at s k = record { kind = k; standing = s }

-- each node with how deep it stands
abbrev mutual
  pub listed : ℕ → Rose FlatKind → List Word
  listed d (node k ts) = standing_at (Within d) k ∷ listed_each (d + 1) ts

  pub listed_each : ℕ → Roses FlatKind → List Word
  listed_each d none = []
  listed_each d (more t ts) = listed d t ++ listed_each d ts

mutual
  listed-inner : (d : ℕ) (t : Rose FlatKind) → AllInner (listed d t)
  listed-inner d (node k ts) = (refl, listed-each-inner (d + 1) ts)

  pub listed-each-inner : (d : ℕ) (ts : Roses FlatKind) → AllInner (listed_each d ts)
  listed-each-inner d none = tt
  listed-each-inner d (more t ts) =
      inner-append (listed d t) (listed_each d ts) (listed-inner d t) (listed-each-inner d ts)

listed-joined : (d : ℕ) (ts us : Roses FlatKind) → listed_each d (joined ts us) ≡ listed_each d ts ++ listed_each d us
listed-joined d none us = refl
listed-joined d (more t ts) us =
    ap (λ l. listed d t ++ l) (listed-joined d ts us)
    ∙ sym (append_assoc (listed d t) (listed_each d ts) (listed_each d us))

-- ---- without values

one-swept : (d : ℕ) (k : FlatKind) (ts : Roses FlatKind) (b : Bool) → is_element k ≡ b
    → words_each (Within d) ts ≡ listed_each d (swept_each false ts)
    → words_each (Within (d + 1)) ts ≡ listed_each (d + 1) (swept_each false ts)
    → words (Within d) (node k ts) ≡ listed_each d (swept false (node k ts))
one-swept d k ts true h same deeper = rw h same
one-swept d k ts false h same deeper =
    rw h
    (ap (λ l. standing_at (Within d) (blank_kind k) ∷ l)
    (deeper ∙ sym (append-nil (listed_each (d + 1) (swept_each false ts)))))

mutual
  within-swept : (d : ℕ) (t : Rose FlatKind) → words (Within d) t ≡ listed_each d (swept false t)
  within-swept d (node k ts) =
      one-swept d k ts (is_element k) refl (within-swept-each d ts) (within-swept-each (d + 1) ts)

  pub within-swept-each : (d : ℕ) (ts : Roses FlatKind) → words_each (Within d) ts ≡ listed_each d (swept_each false ts)
  within-swept-each d none = refl
  within-swept-each d (more t ts) =
      (λ i. within-swept d t i ++ within-swept-each d ts i)
      ∙ sym (listed-joined d (swept false t) (swept_each false ts))

-- ---- one tree for one list

-- less deep than d
abbrev is_below : ℕ → Standing → Type 0
is_below d (Over n) = Unit {0}
is_below d (Within c) = c < d

abbrev Begins : ℕ → List Word → Type 0
Begins d [] = Unit {0}
Begins d (w ∷ ws) = is_below d w.standing

below-next : (d : ℕ) (s : Standing) → is_below d s → is_below (d + 1) s
below-next d (Over n) h = tt
below-next d (Within c) h = omega arith

begins-next : (d : ℕ) (ws : List Word) → Begins d ws → Begins (d + 1) ws
begins-next d [] h = tt
begins-next d (w ∷ ws) h = below-next d w.standing h

begins-listed : (d : ℕ) (ts : Roses FlatKind) (ws : List Word) → Begins d ws → Begins (d + 1) (listed_each d ts ++ ws)
begins-listed d none ws h = begins-next d ws h
begins-listed d (more (node k us) ts) ws h = omega arith

not-deeper : (d : ℕ) (k : FlatKind) (ws vs : List Word) → Begins d ws → ws ≡ standing_at (Within d) k ∷ vs → ⊥
not-deeper d k ws vs h is = let l : d < d = subst (Begins d) is h in omega arith

mutual
  tree-told : (d : ℕ) (t u : Rose FlatKind) (xs ys : List Word) → Begins (d + 1) xs → Begins (d + 1) ys
      → listed d t ++ xs ≡ listed d u ++ ys → (t ≡ u) × (xs ≡ ys)
  tree-told d (node k ts) (node l us) xs ys p q h =
      let e : standing_at (Within d) k ≡ standing_at (Within d) l = cc in
      let r = trees-told (d + 1) ts us xs ys p q (cc) in
      (λ i. node ((e i).kind) (r.0 i), r.1)

  trees-told : (d : ℕ) (ts us : Roses FlatKind) (xs ys : List Word) → Begins d xs → Begins d ys
      → listed_each d ts ++ xs ≡ listed_each d us ++ ys → (ts ≡ us) × (xs ≡ ys)
  trees-told d none none xs ys p q h = (refl, h)
  trees-told d none (more (node k vs) us) xs ys p q h = absurd (not-deeper d k xs _ p h)
  trees-told d (more (node k vs) ts) none xs ys p q h = absurd (not-deeper d k ys _ q (sym h))
  trees-told d (more t ts) (more u us) xs ys p q h =
      let r = tree-told d t u (listed_each d ts ++ xs) (listed_each d us ++ ys) (begins-listed d ts xs p)
      (begins-listed d us ys q)
      (sym (append_assoc (listed d t) (listed_each d ts) xs) ∙ h ∙ append_assoc (listed d u) (listed_each d us) ys) in
      let s = trees-told d ts us xs ys p q r.1 in
      (λ i. more (r.0 i) (s.0 i), s.1)

pub kids-told : (d : ℕ) (ts us : Roses FlatKind) → listed_each d ts ≡ listed_each d us → ts ≡ us
kids-told d ts us h =
    (trees-told d ts us [] [] tt tt (append-nil (listed_each d ts) ∙ h ∙ sym (append-nil (listed_each d us)))).0

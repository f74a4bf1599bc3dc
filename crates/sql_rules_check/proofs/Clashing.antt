-- Lists of words clash exactly where an element of the one differs from that at its place in the other.
use Rattle.std.proofs.Common.{◌≡◌, ◌≢◌, ◌⊎◌, inl, inr, Bool, true, false, not, ◌||◌, List, [], ◌∷◌, ◌++◌, refl, sym, ap, ◌∙◌}
use Rattle.std.specs.Bool.{Decides}
use Rattle.std.proofs.lemmas.Bool.{false≢true}
use Rattle.std.proofs.lemmas.Bool.Decides.{Decides-at}
use Rattle.sql_rules.specs.Lists.{Differ}
use Rattle.sql_rules_check.specs.declared.order.Standing.{Standing}
use Rattle.sql_rules_check.specs.declared.order.Standing.TheVariants.{Over, Within}
use Rattle.sql_rules_check.specs.inside.Words.{Word, begins_inner, clash, is_inner, same_standing, same_word}

abbrev pub AllInner : List Word → Type 0
AllInner [] = Unit {0}
AllInner (w ∷ ws) = (is_inner w.standing ≡ true) × AllInner ws

pub inner-append : (vs ws : List Word) → AllInner vs → AllInner ws → AllInner (vs ++ ws)
inner-append [] ws h g = g
inner-append (v ∷ vs) ws h g = (h.0, inner-append vs ws h.1 g)

-- the words of an element
abbrev pub IsWhole : List Word → Type 0
IsWhole [] = ⊥
IsWhole (w ∷ ws) = (is_inner w.standing ≡ false) × AllInner ws

never : Decides false ⊥
never = (λ e. absurd (false≢true e), λ h. absurd h)

same-inner : (s t : Standing) → same_standing s t ≡ true → is_inner s ≡ is_inner t
same-inner (Over n) (Over m) h = refl
same-inner (Over n) (Within d) h = absurd (false≢true h)
same-inner (Within d) (Over n) h = absurd (false≢true h)
same-inner (Within c) (Within d) h = refl

-- words within an element and at the beginning of one differ
apart : (v w : Word) → is_inner v.standing ≡ false → is_inner w.standing ≡ true → same_word v w ≡ false
apart v w h g = by_test (same_standing v.standing w.standing) refl
  where
    by_test : (b : Bool) → same_standing v.standing w.standing ≡ b → same_word v w ≡ false
    by_test false q = rw q refl
    by_test true q = absurd (false≢true (sym h ∙ (same-inner v.standing w.standing q ∙ g)))

apart-too : (v w : Word) → is_inner v.standing ≡ true → is_inner w.standing ≡ false → same_word v w ≡ false
apart-too v w h g = by_test (same_standing v.standing w.standing) refl
  where
    by_test : (b : Bool) → same_standing v.standing w.standing ≡ b → same_word v w ≡ false
    by_test false q = rw q refl
    by_test true q = absurd (false≢true (sym g ∙ (sym (same-inner v.standing w.standing q) ∙ h)))

-- the words of each
abbrev pub all : {X : Type 0} → (X → List Word) → List X → List Word
all f [] = []
all f (x ∷ xs) = f x ++ all f xs

-- the first words, of two elements or within two
module _ (exact : (v w : Word) → Decides (same_word v w) (v ≡ w)) where
  first-words : (v w : Word) (vs ws : List Word) (b : Bool) (D : Type 0) → Decides b ((vs ≢ ws) ⊎ D)
      → Decides (not (same_word v w) || b) (((v ∷ vs) ≢ (w ∷ ws)) ⊎ D)
  first-words v w vs ws b D d = by_test (same_word v w) refl
    where
      by_test : (c : Bool) → same_word v w ≡ c → Decides (not c || b) (((v ∷ vs) ≢ (w ∷ ws)) ⊎ D)
      by_test false q = (
        λ _. inl (λ e. false≢true (sym q ∙ (exact v w).1 (cc))),
        λ _. refl,
      )
      by_test true q =
          let is : v ≡ w = (exact v w).0 q in (
            λ h. elim (d.0 h) [ inl n ↦ inl (λ e. n (cc)) | inr r ↦ inr r ],
            λ h. d.1 (elim h [ inl n ↦ inl (λ e. n (λ i. is i ∷ e i)) | inr r ↦ inr r ]),
          )

  within : (vs ws xs ys : List Word) (D : Type 0) → AllInner vs → AllInner ws → begins_inner xs ≡ false
      → begins_inner ys ≡ false → Decides (clash xs ys) D → Decides (clash (vs ++ xs) (ws ++ ys)) ((vs ≢ ws) ⊎ D)
  within [] [] xs ys D h g p q d =
      (λ e. inr (d.0 e), λ r. elim r [ inl n ↦ absurd (n refl) | inr r ↦ d.1 r ])
  within [] (w ∷ ws) [] ys D h g p q d = (λ e. inl (λ n. cc), λ r. g.0)
  within [] (w ∷ ws) (x ∷ xs) ys D h g p q d = (
    λ e. inl (λ n. cc),
    λ r. ap (λ b. not b || clash xs (ws ++ ys)) (apart x w p g.0),
  )
  within (v ∷ vs) [] xs [] D h g p q d = (λ e. inl (λ n. cc), λ r. h.0)
  within (v ∷ vs) [] xs (y ∷ ys) D h g p q d = (
    λ e. inl (λ n. cc),
    λ r. ap (λ b. not b || clash (vs ++ xs) ys) (apart-too v y h.0 q),
  )
  within (v ∷ vs) (w ∷ ws) xs ys D h g p q d =
      first-words v w vs ws (clash (vs ++ xs) (ws ++ ys)) D (within vs ws xs ys D h.1 g.1 p q d)

  whole : (vs ws xs ys : List Word) (D : Type 0) → IsWhole vs → IsWhole ws → begins_inner xs ≡ false
      → begins_inner ys ≡ false → Decides (clash xs ys) D → Decides (clash (vs ++ xs) (ws ++ ys)) ((vs ≢ ws) ⊎ D)
  whole [] ws xs ys D h g p q d = absurd h
  whole (v ∷ vs) [] xs ys D h g p q d = absurd g
  whole (v ∷ vs) (w ∷ ws) xs ys D h g p q d =
      first-words v w vs ws (clash (vs ++ xs) (ws ++ ys)) D (within vs ws xs ys D h.1 g.1 p q d)

  module _ {X : Type 0} (f : X → List Word) (fine : (x : X) → IsWhole (f x)) where
    begins-whole : (vs ws : List Word) → IsWhole vs → begins_inner (vs ++ ws) ≡ false
    begins-whole [] ws h = absurd h
    begins-whole (v ∷ vs) ws h = h.0

    begins-all : (xs : List X) → begins_inner (all f xs) ≡ false
    begins-all [] = refl
    begins-all (x ∷ xs) = begins-whole (f x) (all f xs) (fine x)

    clash-none : (vs ws : List Word) → IsWhole vs → clash (vs ++ ws) [] ≡ false
    clash-none [] ws h = absurd h
    clash-none (v ∷ vs) ws h = h.0

    pub clash-decides : (xs ys : List X) → Decides (clash (all f xs) (all f ys)) (Differ (λ x y. f x ≢ f y) xs ys)
    clash-decides [] ys = Decides-at (begins_inner (all f ys)) false (begins-all ys) never
    clash-decides (x ∷ xs) [] =
        Decides-at (clash (f x ++ all f xs) []) false (clash-none (f x) (all f xs) (fine x)) never
    clash-decides (x ∷ xs) (y ∷ ys) =
        whole (f x) (f y) (all f xs) (all f ys) (Differ (λ a b. f a ≢ f b) xs ys) (fine x) (fine y) (begins-all xs)
        (begins-all ys) (clash-decides xs ys)

-- Pieces that differ in values alone: all of them, or, where a piece is unsafe, in what is safe.
use Rattle.std.proofs.Common.{◌≡◌, ℕ, Bool, true, false, ◌&&◌, if◌then◌else◌, List, [], ◌∷◌, ◌++◌, map, inl, inr, ◌⊎◌, refl, sym, ap, ◌∙◌}
use Rattle.std.proofs.lemmas.List.{map-append}
use Rattle.std.specs.Cmp.{first_so, second_so}
use Rattle.sql_dialect.specs.declared.backend.Dialect.{Dialect}
use Rattle.sql_pass.specs.Commas.{next_of, commas}
use Rattle.sql_pass.specs.Pieces.{Piece, one, Text, Ident, Bind, ValueOnly, Unsafe, text_of, text_at, count_at, values_of, is_safe}
use Rattle.sql_pass.specs.declared.value.Bound.{Bound}
use Rattle.sql_pass.specs.declared.value.Value.{Value}
use Rattle.sql_pass.proofs.Laws.{is_safe-append}
use Rattle.sql_node.specs.Pieces as P
use Rattle.sql_node.specs.Pieces.{Written, alone, around, spread, each}
use Rattle.sql_rules_law.specs.Blank.{erased_bound, erased_piece, erased_pieces}

-- a list of values that are written one by one is not safe, empty or not
pub unsafe : (b : Bool) (ps qs : List Piece) → is_safe (if b then (one Unsafe ++ ps) else (one Unsafe ++ qs)) ≡ false
unfolding one
unsafe true ps qs = refl
unsafe false ps qs = refl

-- what is always asked, or of pieces that are safe
abbrev pub Asked : Bool → List Piece → Type 0
Asked always qs = (always ≡ true) ⊎ (is_safe qs ≡ true)

asked-front : (always : Bool) (ps qs : List Piece) → Asked always (ps ++ qs) → Asked always ps
asked-front always ps qs (inl e) = inl e
asked-front always ps qs (inr s) = inr (first_so (is_safe ps) (is_safe qs) (sym (is_safe-append ps qs) ∙ s))

asked-back : (always : Bool) (ps qs : List Piece) → Asked always (ps ++ qs) → Asked always qs
asked-back always ps qs (inl e) = inl e
asked-back always ps qs (inr s) = inr (second_so (is_safe ps) (is_safe qs) (sym (is_safe-append ps qs) ∙ s))

module _ (many : List Value → List Value) (always : Bool) where
  pub record Alike (ps qs : List Piece) : Type 0 where
    pub safe : is_safe ps ≡ is_safe qs
    pub says : Asked always qs → erased_pieces many ps ≡ erased_pieces many qs

  abbrev pub AlikeLists : List (List Piece) → List (List Piece) → Type 0
  AlikeLists [] [] = Unit {0}
  AlikeLists [] (y ∷ ys) = ⊥
  AlikeLists (x ∷ xs) [] = ⊥
  AlikeLists (x ∷ xs) (y ∷ ys) = Alike x y × AlikeLists xs ys

  abbrev pub AlikeWritten : Written → Written → Type 0
  AlikeWritten (alone x) (alone y) = Alike x y
  AlikeWritten (alone x) (P.many ys) = ⊥
  AlikeWritten (P.many xs) (alone y) = ⊥
  AlikeWritten (P.many xs) (P.many ys) = AlikeLists xs ys

module _ {many : List Value → List Value} {always : Bool} where
  pub alike-same : (ps : List Piece) → Alike many always ps ps
  alike-same ps = record { safe = refl; says = λ a. refl }

  pub alike-append : {a b c e : List Piece} → Alike many always a c → Alike many always b e
      → Alike many always (a ++ b) (c ++ e)
  alike-append {a} {b} {c} {e} h k =
      record {
        safe = is_safe-append a b ∙ (λ i. h.safe i && k.safe i) ∙ sym (is_safe-append c e);
        says =
            λ p. map-append (erased_piece many) a b
            ∙ (λ i. h.says (asked-front always c e p) i ++ k.says (asked-back always c e p) i)
            ∙ sym (map-append (erased_piece many) c e);
      }

  pub alike-bind : (b c : Bound) → erased_bound many b ≡ erased_bound many c
      → Alike many always (one (Bind b)) (one (Bind c))
  unfolding one
  alike-bind b c h = record { safe = refl; says = λ a. ap (λ x. Bind x ∷ []) h }

  -- behind a text, in front of one, between two
  pub alike-behind : (t : List ℕ) {x y : List Piece} → Alike many always x y
      → Alike many always (one (Text t) ++ x) (one (Text t) ++ y)
  alike-behind t h = alike-append (alike-same (one (Text t))) h

  pub alike-before : {x y : List Piece} (t : List ℕ) → Alike many always x y
      → Alike many always (x ++ one (Text t)) (y ++ one (Text t))
  alike-before t h = alike-append h (alike-same (one (Text t)))

  pub alike-around : {x y : List Piece} (before behind : List ℕ) → Alike many always x y
      → Alike many always (around before x behind) (around before y behind)
  alike-around before behind h = alike-behind before (alike-before behind h)

-- ## Lists

module _ (many : List Value → List Value) (always : Bool) where
  pub lists-append : (a b c e : List (List Piece)) → AlikeLists many always a c → AlikeLists many always b e
      → AlikeLists many always (a ++ b) (c ++ e)
  lists-append [] b [] e h k = k
  lists-append [] b (y ∷ c) e h k = absurd h
  lists-append (x ∷ a) b [] e h k = absurd h
  lists-append (x ∷ a) b (y ∷ c) e h k = (h.0, lists-append a b c e h.1 k)

  next-alike : (first : Bool) {x y : List Piece} → Alike many always x y
      → Alike many always (next_of first x) (next_of first y)
  next-alike true h = h
  next-alike false h = alike-behind _ h

  pub commas-alike : (first : Bool) (xs ys : List (List Piece)) → AlikeLists many always xs ys
      → Alike many always (commas first xs) (commas first ys)
  commas-alike first [] [] h = alike-same []
  commas-alike first [] (y ∷ ys) h = absurd h
  commas-alike first (x ∷ xs) [] h = absurd h
  commas-alike first (x ∷ xs) (y ∷ ys) h = alike-append (next-alike first h.0) (commas-alike false xs ys h.1)

  pub spread-alike : (w v : Written) → AlikeWritten many always w v → Alike many always (spread true w) (spread true v)
  spread-alike (alone x) (alone y) h = h
  spread-alike (alone x) (P.many ys) h = absurd h
  spread-alike (P.many xs) (alone y) h = absurd h
  spread-alike (P.many xs) (P.many ys) h = commas-alike true xs ys h

  pub each-alike : (w v : Written) → AlikeWritten many always w v → AlikeLists many always (each w) (each v)
  each-alike (alone x) (alone y) h = (h, tt)
  each-alike (alone x) (P.many ys) h = absurd h
  each-alike (P.many xs) (alone y) h = absurd h
  each-alike (P.many xs) (P.many ys) h = h

  -- ## What does not see values

  text-blank : (d : Dialect) (n : ℕ) (ps : List Piece) → text_of d n (erased_pieces many ps) ≡ text_of d n ps
  text-blank d n [] = refl
  text-blank d n (Text t ∷ ps) = ap (λ l. text_at d n (Text t) ++ l) (text-blank d n ps)
  text-blank d n (Ident t ∷ ps) = ap (λ l. text_at d n (Ident t) ++ l) (text-blank d n ps)
  text-blank d n (Bind b ∷ ps) = ap (λ l. text_at d n (Bind b) ++ l) (text-blank d (count_at d n (Bind b)) ps)
  text-blank d n (ValueOnly b ∷ ps) = text-blank d (count_at d n (ValueOnly b)) ps
  text-blank d n (Unsafe ∷ ps) = text-blank d n ps

  values-blank : (ps : List Piece) → values_of (erased_pieces many ps) ≡ map (erased_bound many) (values_of ps)
  values-blank [] = refl
  values-blank (Text t ∷ ps) = values-blank ps
  values-blank (Ident t ∷ ps) = values-blank ps
  values-blank (Bind b ∷ ps) = ap (λ l. erased_bound many b ∷ l) (values-blank ps)
  values-blank (ValueOnly b ∷ ps) = ap (λ l. erased_bound many b ∷ l) (values-blank ps)
  values-blank (Unsafe ∷ ps) = values-blank ps

  pub one_text : (d : Dialect) (n : ℕ) (ps qs : List Piece)
      → erased_pieces many ps ≡ erased_pieces many qs → text_of d n ps ≡ text_of d n qs
  one_text d n ps qs h = sym (text-blank d n ps) ∙ ap (text_of d n) h ∙ text-blank d n qs

  pub like_values : (ps qs : List Piece) → erased_pieces many ps ≡ erased_pieces many qs
      → map (erased_bound many) (values_of ps) ≡ map (erased_bound many) (values_of qs)
  like_values ps qs h = sym (values-blank ps) ∙ ap values_of h ∙ values-blank qs

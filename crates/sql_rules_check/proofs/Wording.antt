-- Turns of the loops for words.
use Rattle.std.proofs.Common.{◌≡◌, ℕ, zero, suc, ◌+◌, ◌-◌, ◌<◌, ◌≤◌, ◌⊎◌, inl, inr, Bool, true, false, not, ◌||◌, cond, if◌then◌else◌, List, [], ◌∷◌, ◌++◌, Some, map, drop, take, get_or, length, slice_get, refl, sym, ap, ◌∙◌, arith, append_assoc, append-nil, ltb}
use Rattle.std.proofs.lemmas.Bool.{lt-ltb, le-ltb, ltb-true, ltb-false}
use Rattle.std.proofs.lemmas.List.{drop_more, drop_all, drop-drop}
use Rattle.sql_flat_law.specs.declared.opened.Opened.{Opened}
use Rattle.sql_flat_law.specs.Opened.{opens, still_open}
use Rattle.sql_flat_law.proofs.Opening.{last-opens, opens-push}
use Rattle.sql_flat.specs.declared.kind.FlatKind.{FlatKind}
use Rattle.sql_flat.specs.declared.kind.FlatNode.{FlatNode}
use Rattle.sql_rules_check.specs.declared.order.Standing.{Standing}
use Rattle.sql_rules_check.specs.declared.order.Token.{Token}
use Rattle.sql_rules_check.specs.inside.Kids.{after, all_passed}
use Rattle.sql_rules_check.specs.inside.Words.{Nest, Word, begins_inner, chosen_words, clash, clause_at, clause_words, entered, is_inner, same_word, standing_in, visited, word_at, word_of, words_from}
use Rattle.sql_rules_check.proofs.Kids.{met-end, met-turn}
use Rattle.sql_rules_check.proofs.WordTrees.{words-stop}

-- the innermost open node
pub last-stands : (os : List (Opened Standing)) (o : Opened Standing) → slice_get os (length os - 1) ≡ Some o
    → standing_in (opens os) ≡ o.known
last-stands os o h = ap standing_in (last-opens os o h)

-- ---- words

pub words-turn : (e p : ℕ) (nodes : List FlatNode) (x : FlatNode) (old σ new : Nest) (own more all : List Word)
    → p < e → p < length nodes → x ≡ get_or nodes p x → σ ≡ still_open p old → new ≡ entered x σ
    → more ≡ own ++ word_at (standing_in σ) x.kind → own ++ words_from old e p (drop p nodes) ≡ all
    → more ++ words_from new e (p + 1) (drop (p + 1) nodes) ≡ all
words-turn e p nodes x old σ new own more all h g is closed opened added held =
    let behind = drop (p + 1) nodes in
    let one : words_from old e p (drop p nodes)
    ≡ word_at (standing_in σ) x.kind ++ words_from (entered x σ) e (p + 1) behind =
    ap (words_from old e p) (drop_more nodes p x g ∙ ap (λ y. y ∷ behind) (sym is))
    ∙ ap (λ b. cond b (visited x (λ τ. words_from τ e (p + 1) behind) (still_open p old)) []) (lt-ltb p e h)
    ∙ ap (visited x (λ τ. words_from τ e (p + 1) behind)) (sym closed) in
    (λ i. added i ++ words_from (opened i) e (p + 1) behind)
    ∙ append_assoc own (word_at (standing_in σ) x.kind) (words_from (entered x σ) e (p + 1) behind)
    ∙ ap (λ l. own ++ l) (sym one) ∙ held

pub words-end : (σ : Nest) (e p : ℕ) (nodes : List FlatNode) (own all : List Word)
    → (e ≤ p) ⊎ (length nodes ≤ p) → own ++ words_from σ e p (drop p nodes) ≡ all → own ≡ all
words-end σ e p nodes own all h held =
    sym (append-nil own) ∙ ap (λ l. own ++ l) (sym (none h)) ∙ held
  where
    none : (e ≤ p) ⊎ (length nodes ≤ p) → words_from σ e p (drop p nodes) ≡ []
    none (inl l) = words-stop σ e p (drop p nodes) l
    none (inr l) = ap (words_from σ e p) (drop_all p nodes l)

-- ---- the clause

module _ (chosen : FlatKind → Bool) (e p : ℕ) (nodes : List FlatNode) where
  module _ (x : FlatNode) (h : p < e) (g : p < length nodes) (is : x ≡ get_or nodes p x) where
    turn : clause_words chosen e p nodes
        ≡ cond (chosen x.kind) (words_from [] x.end (p + 1) (drop (p + 1) nodes)) (clause_words chosen e (after all_passed p x) nodes)
    turn = ap (chosen_words chosen) (met-turn all_passed clause_at e p nodes x h g is)

    pub clause-here : chosen x.kind ≡ true
        → words_from [] x.end (p + 1) (drop (p + 1) nodes) ≡ clause_words chosen e p nodes
    clause-here q = sym (turn ∙ rw q refl)

    pub clause-behind : chosen x.kind ≡ false → clause_words chosen e (after all_passed p x) nodes ≡ clause_words chosen e p nodes
    clause-behind q = sym (turn ∙ rw q refl)

  pub no-clause-left : (e ≤ p) ⊎ (length nodes ≤ p) → [] ≡ clause_words chosen e p nodes
  no-clause-left h = sym (ap (chosen_words chosen) (met-end all_passed clause_at e p nodes h))

-- ---- two lists of words

module _ (xs ys : List Token) (i : ℕ) where
  abbrev left_words : ℕ → List Word
  left_words j = map word_of (drop j xs)

  abbrev right_words : ℕ → List Word
  right_words j = map word_of (drop j ys)

  pub clash-turn : (x y : Token) → i < length xs → i < length ys → x ≡ get_or xs i x → y ≡ get_or ys i y
      → clash (left_words i) (right_words i)
      ≡ (not (same_word (word_of x) (word_of y)) || clash (left_words (i + 1)) (right_words (i + 1)))
  clash-turn x y l m p q =
      let one : drop i xs ≡ x ∷ drop (i + 1) xs = drop_more xs i x l ∙ ap (λ z. z ∷ drop (i + 1) xs) (sym p) in
      let other : drop i ys ≡ y ∷ drop (i + 1) ys = drop_more ys i y m ∙ ap (λ z. z ∷ drop (i + 1) ys) (sym q) in
      λ j. clash (map word_of (one j)) (map word_of (other j))

  clash-left : (ws : List Word) → clash [] ws ≡ (begins_inner [] || begins_inner ws)
  clash-left ws = refl

  clash-right : (vs : List Word) → clash vs [] ≡ (begins_inner vs || false)
  clash-right [] = refl
  clash-right (v ∷ vs) = by_test (is_inner v.standing)
    where
      by_test : (b : Bool) → b ≡ (b || false)
      by_test true = refl
      by_test false = refl

  pub clash-end : (length xs ≤ i) ⊎ (length ys ≤ i)
      → (begins_inner (left_words i) || begins_inner (right_words i)) ≡ clash (left_words i) (right_words i)
  clash-end (inl h) =
      let none : left_words i ≡ [] = ap (map word_of) (drop_all i xs h) in
      ap (λ l. begins_inner l || begins_inner (right_words i)) none
      ∙ ap (λ l. clash l (right_words i)) (sym none)
  clash-end (inr h) =
      let none : right_words i ≡ [] = ap (map word_of) (drop_all i ys h) in
      ap (λ l. begins_inner (left_words i) || begins_inner l) none ∙ sym (clash-right (left_words i))
      ∙ ap (λ l. clash (left_words i) l) (sym none)

pub ruleset wording = (opens-push, last-stands)

-- Arrays of two items, and objects of one member.
use Rattle.std.proofs.Common.{◌≡◌, ℕ, ◌+◌, ◌<◌, ◌≤◌, List, [], ◌∷◌, length, drop, get_or, Bool, true, false, not, bytes_eq, Some, None, refl}
use Rattle.std.proofs.lemmas.List.{drop_all}
use Rattle.std.specs.Borrow.{Bor}
use Rattle.std.specs.declared.alloc.Global.{Global}
use Rattle.json.specs.Value.{members_view}
use Rattle.json.specs.declared.value.Value.{Value}
use Rattle.sql_tool_document.specs.inside.Seen.{alone, items_seen, members_seen, seen}
use Rattle.sql_tool_document.specs.Members.{single, two_items}
use Rattle.sql_tool_document.proofs.EachItem.{here}
use Rattle.sql_tool_document.proofs.Seen.{single-alone}

pub not_two_items : (xs : List (Value Global)) → (length xs ≡ 2 → ⊥) → None ≡ two_items (items_seen xs)
not_two_items [] other = refl
not_two_items (a ∷ []) other = refl
not_two_items (a ∷ b ∷ []) other = absurd (other refl)
not_two_items (a ∷ b ∷ c ∷ xs) other = refl

-- ## A member after the other

abbrev Member : Type 0
Member = Bor (List ℕ) × Value Global

is-other : (b : Bool) → true ≡ not b → b ≡ false
is-other true h = cc
is-other false h = refl

is-same : (b : Bool) → false ≡ not b → b ≡ true
is-same true h = refl
is-same false h = cc

pub only-single : (all : List Member) (first : Member) (rest : List Member) → all ≡ first ∷ rest
    → single (members_seen all) ≡ alone first.0.now (seen first.1) (members_view rest)
only-single all first rest is = rw is (single-alone first.0.now (seen first.1) (members_view rest))

module _ (k : List ℕ) (last : Value Global) (ms : List Member) (i : ℕ) where
  pub alone-end : length ms ≤ i → alone k (seen last) (members_view (drop i ms)) ≡ Some (k, seen last)
  alone-end le = rw (drop_all i ms le) refl

  pub alone-other : (m : Member) → i < length ms → m ≡ get_or ms i m → true ≡ not (bytes_eq m.0.now k)
      → alone k (seen last) (members_view (drop i ms)) ≡ None
  alone-other m lt is ne = rw (here ms i m lt is, is-other (bytes_eq m.0.now k) ne) refl

  pub alone-same : (m : Member) → i < length ms → m ≡ get_or ms i m → false ≡ not (bytes_eq m.0.now k)
      → alone k (seen last) (members_view (drop i ms)) ≡ alone k (seen m.1) (members_view (drop (i + 1) ms))
  alone-same m lt is eq = rw (here ms i m lt is, is-same (bytes_eq m.0.now k) eq) refl

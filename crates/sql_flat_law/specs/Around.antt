-- A loop over the nodes from the first to the last, with a stack of what is known within the nodes that are open.
use Rattle.std.specs.Prelude.{ℕ, ◌+◌, true, false, Bool, List, [], ◌∷◌}
use Rattle.sql_flat_law.specs.Folds.{Site}
use Rattle.sql_flat_law.specs.Opened.{innermost, still_open}

-- `outer` is known around the whole; `reads` finds in the list what is known within a node; a node that keeps what is known
-- around it is not put on the stack
module _ {V K N : Type 0} (kind : N → K) (end : N → ℕ) (outer : V) (keeps : K → Bool) (reads : V → ℕ → N → List N → V) where
  -- the end of an open node, and what is known within it
  abbrev pub Open : Type 0
  Open = List (ℕ × V)

  abbrev pub top : Open → V
  top = innermost outer

  abbrev pub entered : Bool → ℕ → V → Open → Open
  entered true e v σ = σ
  entered false e v σ = (e, v) ∷ σ

  abbrev pub visit : ℕ → N → List N → (Open → List (Site V K)) → Open → List (Site V K)
  visit i x xs behind σ =
      record { around = top σ; kind = kind x; within = reads (top σ) i x xs }
      ∷ behind (entered (keeps (kind x)) (end x) (reads (top σ) i x xs) σ)

  -- the sites of the nodes from the index i on
  abbrev pub walk : Open → ℕ → List N → List (Site V K)
  walk σ i [] = []
  walk σ i (x ∷ xs) = visit i x xs (λ τ. walk τ (i + 1) xs) (still_open i σ)

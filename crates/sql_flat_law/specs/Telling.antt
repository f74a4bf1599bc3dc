-- A loop over the nodes from the first to the last that writes, with a stack of the nodes that are open.
use Rattle.std.specs.Prelude.{◌+◌, ℕ, suc, true, false, Bool, cond, if◌then◌else◌, List, [], ◌∷◌, ◌++◌, Option, None, Some}
use Rattle.std.proofs.Common.{ltb}

-- an open node, and how many of its children were begun
pub record Frame (K : Type 0) : Type 0 where
  pub kind : K
  pub begun : ℕ
  pub end : ℕ

-- `reads` finds in the list what is written of a node with all below it, where that is not written node by node
module _ {K N A : Type 0} (kind : N → K) (end : N → ℕ) (reads : ℕ → N → List N → Option (List A)) (is_list : K → Bool) (before : K → List A) (between : K → ℕ → List A) (after : K → List A) (comma : List A) where
  abbrev pub Frames : Type 0
  Frames = List (Frame K)

  -- before an element, where it is the first of its list or not
  abbrev pub part : Bool → List A
  part true = []
  part false = comma

  -- what the innermost node writes before its next child
  abbrev pub leads : Frames → List A
  leads [] = []
  leads (f ∷ fs) = if is_list f.kind then [] else between f.kind f.begun

  -- whether the next child is the first element of its list
  abbrev pub firsts : Frames → Bool → Bool
  firsts [] b = true
  firsts (f ∷ fs) b = if is_list f.kind then b else true

  abbrev pub counted : Frames → Frames
  counted [] = []
  counted (f ∷ fs) = record { kind = f.kind; begun = suc f.begun; end = f.end } ∷ fs

  abbrev pub closing : Bool → K → (Bool → List A) → Bool → List A
  closing true k behind b = behind b
  closing false k behind b = after k ++ behind false

  -- the nodes that end at i or before are closed
  abbrev pub ends : ℕ → (Frames → Bool → List A) → Frames → Bool → List A
  ends i behind [] b = behind [] b
  ends i behind (f ∷ fs) b =
      cond (ltb i f.end) (behind (f ∷ fs) b) (closing (is_list f.kind) f.kind (ends i behind fs) b)

  -- all nodes are closed
  abbrev pub last : Frames → Bool → List A
  last [] b = []
  last (f ∷ fs) b = closing (is_list f.kind) f.kind (last fs) b

  -- a node is begun; where it is written whole, nothing is written before its end
  abbrev pub begin : Option (List A) → Bool → K → ℕ → (ℕ → Frames → Bool → List A) → Frames → Bool → List A
  begin (Some ps) l k e behind fs b = leads fs ++ ((part (firsts fs b) ++ ps) ++ behind e (counted fs) false)
  begin None true k e behind fs b =
      leads fs ++ behind 0 (record { kind = k; begun = 0; end = e } ∷ counted fs) (firsts fs b)
  begin None false k e behind fs b =
      leads fs
      ++ ((part (firsts fs b) ++ before k) ++ behind 0 (record { kind = k; begun = 0; end = e } ∷ counted fs) true)

  -- what is written from the index i on, and nothing before the index u
  abbrev pub tell : ℕ → Frames → Bool → ℕ → List N → List A
  tell u fs b i [] = last fs b
  tell u fs b i (x ∷ xs) =
      cond (ltb i u) (tell u fs b (i + 1) xs)
      (ends i (begin (reads i x xs) (is_list (kind x)) (kind x) (end x) (λ w gs c. tell w gs c (i + 1) xs)) fs b)

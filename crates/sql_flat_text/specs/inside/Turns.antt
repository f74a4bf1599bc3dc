-- The loop on the list of nodes alone, and what a turn of it does.
use Rattle.std.specs.Prelude.{if◌then◌else◌, ℕ, ◌+◌, ◌-◌, nat_le, ◌||◌, List, [], ◌∷◌, ◌++◌, map, reverse, take, Bool, true, false, Option, None, Some}
use Rattle.sql_dialect.specs.declared.backend.Dialect.{Dialect}
use Rattle.sql_pass.specs.Pieces.{Piece}
use Rattle.sql_flat_law.specs.Telling.{Frame, tell}
use Rattle.sql_flat.specs.declared.kind.FlatKind.{FlatKind}
use Rattle.sql_flat.specs.declared.kind.FlatNode.{FlatNode}
use Rattle.sql_flat_text.specs.declared.place.Open.{Open}
use Rattle.sql_flat_text.specs.inside.Writing.{after, before, between, comma, is_list, whole_of}
use Rattle.sql_flat_text.specs.Steps.{kind_of}

abbrev pub end_of : FlatNode → ℕ
end_of n = n.end

-- what is written of a node whole is found in the nodes up to its end
abbrev pub reads : Dialect → ℕ → FlatNode → List FlatNode → Option (List Piece)
reads d i x xs = whole_of d x.kind (map kind_of (take (x.end - (i + 1)) xs))

abbrev pub Frames : Type 0
Frames = List (Frame FlatKind)

abbrev pub frame_of : Open → Frame FlatKind
frame_of o = record { kind = o.node.now.kind; begun = o.begun; end = o.node.now.end }

abbrev pub frames : List Open → Frames
frames os = map frame_of (reverse os)

-- what is written from the index i on, and nothing before the index u
abbrev pub told_after : Dialect → ℕ → Frames → Bool → ℕ → List FlatNode → List Piece
told_after d u fs first i xs =
    tell kind_of end_of (reads d) is_list (before d) (between d) (after d) comma u fs first i xs

abbrev pub told_from : Dialect → Frames → Bool → ℕ → List FlatNode → List Piece
told_from d fs first i xs = told_after d 0 fs first i xs

-- ---- the innermost node is closed

-- whether it has ended at the index i, of n nodes
abbrev pub has_ended : ℕ → ℕ → Frames → Bool
has_ended i n [] = false
has_ended i n (f ∷ fs) = nat_le f.end i || nat_le n i

abbrev pub closing : Dialect → Frames → List Piece
closing d [] = []
closing d (f ∷ fs) = if is_list f.kind then [] else after d f.kind

abbrev pub outer : Frames → Frames
outer [] = []
outer (f ∷ fs) = fs

abbrev pub closed_first : Frames → Bool → Bool
closed_first [] first = first
closed_first (f ∷ fs) first = if is_list f.kind then first else false

-- ---- a node is begun under it

abbrev pub leading : Dialect → Frames → List Piece
leading d [] = []
leading d (f ∷ fs) = if is_list f.kind then [] else between d f.kind f.begun

-- whether it is the first element of a list
abbrev pub led_first : Frames → Bool → Bool
led_first [] first = true
led_first (f ∷ fs) first = if is_list f.kind then first else true

abbrev pub with_child : Frames → Frames
with_child [] = []
with_child (f ∷ fs) = record { kind = f.kind; begun = f.begun + 1; end = f.end } ∷ fs

abbrev pub parting : Bool → List Piece
parting true = []
parting false = comma

abbrev pub opening : Dialect → Option (List Piece) → FlatKind → Bool → List Piece
opening d (Some ps) k first = parting first ++ ps
opening d None k first = if is_list k then [] else (parting first ++ before d k)

abbrev pub opened : Option (List Piece) → FlatNode → Frames → Frames
opened (Some ps) n fs = fs
opened None n fs = record { kind = n.kind; begun = 0; end = n.end } ∷ fs

abbrev pub opened_first : Option (List Piece) → FlatKind → Bool → Bool
opened_first (Some ps) k first = false
opened_first None k first = if is_list k then first else true

-- what was written whole is passed over
abbrev pub onward : ℕ → ℕ → ℕ → ℕ
onward i u n = if nat_le u i then i + 1 else (if nat_le u n then u else n)

abbrev pub opened_index : Option (List Piece) → FlatNode → ℕ → ℕ → ℕ
opened_index (Some ps) x i n = onward i x.end n
opened_index None x i n = i + 1

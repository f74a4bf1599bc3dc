-- The text that is written of a tree, node by node: something before a node, between its children and after it. A list writes
-- nothing of its own: its elements, those of lists inside it too, are parted by commas.
use Rattle.std.specs.Prelude.{ℕ, suc, List, [], ◌++◌, Bool, true, false, Option, None, Some}
use Rattle.sql_flat_law.specs.Rose.{Rose, node, Roses, none, more}

-- `whole` is what is written of a node with all below it, where that is not written node by node
module _ {K A : Type 0} (whole : K → Roses K → Option (List A)) (is_list : K → Bool) (before : K → List A) (between : K → ℕ → List A) (after : K → List A) (comma : List A) where
  -- before an element, where it is the first of its list or not
  abbrev pub parted : Bool → List A
  parted true = []
  parted false = comma

  -- whether the first element is still to come behind a node
  abbrev pub still_by : Option (List A) → Bool → Bool → Bool
  still_by (Some ps) l b = false
  still_by None true b = b
  still_by None false b = false

  abbrev pub told_by : Option (List A) → Bool → Bool → List A → List A → List A
  told_by (Some ps) l first inside kids = parted first ++ ps
  told_by None true first inside kids = inside
  told_by None false first inside kids = parted first ++ kids

  abbrev mutual
    pub still : Bool → Rose K → Bool
    still first (node k ts) = still_by (whole k ts) (is_list k) (stills first ts)

    pub stills : Bool → Roses K → Bool
    stills first none = first
    stills first (more t ts) = stills (still first t) ts

  abbrev mutual
    pub told : Bool → Rose K → List A
    told first (node k ts) =
        told_by (whole k ts) (is_list k) first (told_elements first ts) (before k ++ (told_kids k 0 ts ++ after k))

    -- the elements of a list
    pub told_elements : Bool → Roses K → List A
    told_elements first none = []
    told_elements first (more t ts) = told first t ++ told_elements (still first t) ts

    -- the children of another node, from the one with index j on
    pub told_kids : K → ℕ → Roses K → List A
    told_kids k j none = []
    told_kids k j (more t ts) = (between k j ++ told true t) ++ told_kids k (suc j) ts

-- Ordered sets of names, read by the names' bytes.
use Rattle.std.specs.Prelude.{ℕ, List, Bool, Option, option_map}
use Rattle.std.specs.BTreeSet.{BTreeSet, contains}
use Rattle.std.specs.Cmp.Lexicographic.{slice_cmp}
use Rattle.std.specs.Option.{option_cmp}
use Rattle.std.specs.Ordering.{nat_cmp, ordering_then}
use Rattle.std.specs.declared.cmp.Ordering.{Ordering}
use denote.Ref.{Bor}

abbrev pub Name : Type 0
Name = Bor (List ℕ)

abbrev pub name_cmp : Name → Name → Ordering
name_cmp x y = slice_cmp nat_cmp x.now y.now

abbrev pub pair_cmp : Name × Name → Name × Name → Ordering
pair_cmp x y = ordering_then (name_cmp x.0 y.0) (name_cmp x.1 y.1)

abbrev pub path_cmp : Option Name × Name → Option Name × Name → Ordering
path_cmp x y = ordering_then (option_cmp name_cmp x.0 y.0) (name_cmp x.1 y.1)

-- a name with these bytes
abbrev pub named : List ℕ → Name
named q = record { ref_ptr = (0, 0); now = q }

abbrev pub has_name : BTreeSet Name → List ℕ → Bool
has_name s q = contains name_cmp s (named q)

abbrev pub has_pair : BTreeSet (Name × Name) → List ℕ → List ℕ → Bool
has_pair s a b = contains pair_cmp s (named a, named b)

abbrev pub has_path : BTreeSet (Option Name × Name) → Option (List ℕ) → List ℕ → Bool
has_path s o q = contains path_cmp s (option_map named o, named q)

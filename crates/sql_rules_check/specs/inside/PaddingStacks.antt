-- The stack of the loop for padded rows.
use Rattle.std.specs.Prelude.{ℕ, List, Bool, map}
use Rattle.sql_flat_law.specs.Backward.{run}
use Rattle.sql_flat_law.specs.Finished.{before, finished}
use Rattle.sql_flat_law.specs.Seen.{seen}
use Rattle.sql_flat_law.specs.declared.finished.Finished.{Finished}
use Rattle.sql_origin.specs.Borrowed.{origin_of}
use Rattle.sql_flat.specs.declared.kind.FlatNode.{FlatNode}
use Rattle.sql_rules_check.specs.inside.Lists.{kind_of, end_of}
use Rattle.sql_rules_check.specs.inside.Padding.{Held, PaddedLeaf, holding, lacks_nullable}
use Rattle.sql_rules_check.specs.inside.Tested.{any_from}
use Rattle.sql_rules_check.specs.declared.padding.Held as declared_held
use Rattle.sql_rules_check.specs.declared.padding.Padded.{Padded}

abbrev pub leaf_of : Padded → PaddedLeaf
leaf_of l = record { origin = origin_of l.origin; padded = l.padded }

abbrev pub held_of : declared_held.Held → Held
held_of h = record { leaves = map leaf_of h.leaves.items; bare = map origin_of h.bare.items }

-- from the first tree on
abbrev pub parts_of : List (Finished declared_held.Held) → List (ℕ × Held)
parts_of ps = seen held_of (finished ps)

-- what those hold that begin before e, and the others
abbrev pub parted : ℕ → List (Finished declared_held.Held) → List Held × List (ℕ × Held)
parted e ps = before e (parts_of ps)

abbrev pub held_from : ℕ → List FlatNode → List (ℕ × Held)
held_from = run kind_of end_of holding

abbrev pub any_lacking_from : ℕ → List FlatNode → Bool
any_lacking_from = any_from holding lacks_nullable kind_of end_of

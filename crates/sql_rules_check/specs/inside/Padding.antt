-- What a node holds, by what its children hold: the leaves of a source, with whether an outer join may lack their rows,
-- and what the columns under no nullable are columns of.
use Rattle.std.specs.Prelude.{Bool, true, false, not, ◌&&◌, List, [], ◌∷◌, ◌++◌, map}
use Rattle.std.specs.List.{list_any}
use Rattle.sql_leaf.specs.declared.table_source.JoinKind.{JoinKind}
use Rattle.sql_leaf.specs.declared.table_source.JoinKind.TheVariants.{Inner, LeftOuter}
use Rattle.sql_node.specs.Tree.{Origin}
use Rattle.sql_origin.specs.Origins.{a_table, an_alias, same_origin}
use Rattle.sql_rules.specs.Scope.{View}
use Rattle.sql_flat.specs.declared.kind.FlatKind.{FlatKind}
use Rattle.sql_flat.specs.declared.kind.FlatKind.TheVariants as K
use Rattle.sql_flat.specs.declared.kind.FlatNode.{FlatNode}
use Rattle.sql_rules_check.specs.inside.Sites.{any_pair}

pub record PaddedLeaf : Type 0 where
  pub origin : Origin
  pub padded : Bool

pub record Held : Type 0 where
  pub leaves : List PaddedLeaf
  pub bare : View

abbrev pub none_held : Held
none_held = record { leaves = []; bare = [] }

-- what the first child holds
abbrev pub first_held : List Held → Held
first_held [] = none_held
first_held (h ∷ hs) = h

abbrev pub other_held : List Held → List Held
other_held [] = []
other_held (h ∷ hs) = hs

abbrev pub all_leaves : List Held → List PaddedLeaf
all_leaves [] = []
all_leaves (h ∷ hs) = h.leaves ++ all_leaves hs

abbrev pub all_bare : List Held → View
all_bare [] = []
all_bare (h ∷ hs) = h.bare ++ all_bare hs

-- in the right side of a join
abbrev pub under : JoinKind → PaddedLeaf → PaddedLeaf
under Inner l = l
under LeftOuter l = record { origin = l.origin; padded = true }

abbrev pub one_leaf : Origin → Held
one_leaf o = record { leaves = record { origin = o; padded = false } ∷ []; bare = [] }

abbrev pub one_bare : Origin → Held
one_bare o = record { leaves = []; bare = o ∷ [] }

abbrev pub bare_held : List Held → Held
bare_held hs = record { leaves = []; bare = all_bare hs }

abbrev pub holding : FlatKind → List Held → Held
holding (K.Column a c) hs = one_bare (record { alias = a; table = c.table })
holding K.List hs = bare_held hs
holding (K.Unary n) hs = bare_held hs
holding K.Count hs = bare_held hs
holding (K.Compared by) hs = bare_held hs
holding (K.Joined by) hs = bare_held hs
holding (K.Among n l) hs = bare_held hs
holding K.DistinctOn hs = bare_held hs
holding (K.Table s) hs = one_leaf (a_table s.table)
holding (K.Alias a) hs = one_leaf (an_alias a.name a.table)
holding (K.Join k on) hs = record {
  leaves = (first_held hs).leaves ++ map (under k) (first_held (other_held hs)).leaves;
  bare = [];
}
holding K.From hs = record { leaves = (first_held hs).leaves; bare = [] }
holding _ hs = none_held

-- ---- a leaf that an outer join may lack, and which stands once

abbrev pub is_lacking : List PaddedLeaf → Origin → Bool
is_lacking ls o = list_any (λ l. same_origin l.origin o && l.padded) ls

abbrev pub stands_twice : View → Origin → Bool
stands_twice v o = any_pair (λ a b. same_origin a o && same_origin b o) v

abbrev pub lacks_row : List PaddedLeaf → Origin → Bool
lacks_row ls o = is_lacking ls o && not (stands_twice (map (λ l. l.origin) ls) o)

abbrev pub any_lacking : List PaddedLeaf → View → Bool
any_lacking ls os = list_any (lacks_row ls) os

abbrev pub lacks_nullable : FlatKind → List Held → Bool
lacks_nullable (K.Select s) hs = any_lacking (all_leaves hs) (all_bare hs)
lacks_nullable _ hs = false

abbrev pub is_left_join : FlatKind → Bool
is_left_join (K.Join Inner on) = false
is_left_join (K.Join LeftOuter on) = true
is_left_join _ = false

-- a node is a left outer join
abbrev pub has_left_join : List FlatNode → Bool
has_left_join xs = list_any (λ x. is_left_join x.kind) xs

-- The leaves of a source: its tables and aliases from left to right (PostgreSQL, SELECT, FROM Clause; diesel, `Join`).
use Rattle.std.specs.Prelude.{ℕ, suc, List, [], ◌∷◌, ◌++◌, map, Bool, nat_lt, Option, None, Some}
use Rattle.sql_leaf.specs.declared.table_source.JoinKind.{JoinKind}
use Rattle.sql_leaf.specs.declared.table_source.JoinKind.TheVariants.{Inner, LeftOuter}
use Rattle.sql_node.specs.Tree.{Origin, Source, of_table, of_alias, join}
use Rattle.sql_origin.specs.Origins.{a_table, an_alias}

pub record Leaf : Type 0 where
  -- what it is; two leaves have one source where their origins are equal
  pub origin : Origin
  -- how many left outer joins it lies in the right side of
  pub paddings : ℕ

-- rows of the right side of a left outer join may be missing
abbrev pub in_right_side : JoinKind → Leaf → Leaf
in_right_side Inner l = l
in_right_side LeftOuter l = record { origin = l.origin; paddings = suc l.paddings }

abbrev pub leaves : Source → List Leaf
leaves (of_table t only sample) = record { origin = a_table t; paddings = 0 } ∷ []
leaves (of_alias a t) = record { origin = an_alias a t; paddings = 0 } ∷ []
leaves (join k l r on) = leaves l ++ map (in_right_side k) (leaves r)

-- its columns may be NULL because a row is missing
abbrev pub is_padded : Leaf → Bool
is_padded l = nat_lt 0 l.paddings

abbrev pub leftmost : List Leaf → Option Origin
leftmost [] = None
leftmost (l ∷ ls) = Some l.origin

-- the same leaf where no row is missing
abbrev pub unpadded : Leaf → Leaf
unpadded l = record { origin = l.origin; paddings = 0 }

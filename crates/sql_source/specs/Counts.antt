-- How often something appears in a source, cut at two (diesel, `AppearsInFromClause`, `Plus`, `Pick`).
use Rattle.std.specs.Prelude.{ℕ, Bool, true, false, zero, suc, ◌+◌, List, Option, None, Some, count_by}
use Rattle.sql_node.specs.Tree.{Origin, Source}
use Rattle.sql_origin.specs.Leaves.{Leaf, leaves}
use Rattle.sql_origin.specs.Origins.{same_origin}
use Rattle.sql_source.specs.declared.count.Count.{Count}
use Rattle.sql_source.specs.declared.count.Count.TheVariants.{Never, Once, MoreThanOnce}
use Rattle.sql_source.specs.declared.count.Side.{Side}
use Rattle.sql_source.specs.declared.count.Side.TheVariants.{Left, Right}

-- a number, cut at two
abbrev pub cut : ℕ → Count
cut zero = Never
cut (suc zero) = Once
cut (suc (suc n)) = MoreThanOnce

abbrev pub number : Count → ℕ
number Never = 0
number Once = 1
number MoreThanOnce = 2

-- the sum, cut at two
abbrev pub sum_of : Count → Count → Count
sum_of a b = cut (number a + number b)

-- the side on which something appears once, and never on the other
abbrev pub picked : Count → Count → Option Side
picked Once Never = Some Left
picked Never Once = Some Right
picked Never Never = None
picked Never MoreThanOnce = None
picked Once Once = None
picked Once MoreThanOnce = None
picked MoreThanOnce b = None

-- the number of leaves that have the origin, cut at two
abbrev pub count_in : Origin → List Leaf → Count
count_in o ls = cut (count_by (λ l. same_origin o l.origin) ls)

-- how often a table or an alias appears in a source
unfoldable pub appearances : Origin → Source → Count
appearances o s = count_in o (leaves s)

abbrev pub once_if : Bool → Count
once_if false = Never
once_if true = Once

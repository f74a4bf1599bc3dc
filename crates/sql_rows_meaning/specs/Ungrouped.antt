-- The answers of a statement in which nothing is grouped or counted: each row that is taken gives a line.
use Rattle.std.specs.Prelude.{◌≡◌, false, List, map}
use Rattle.std.specs.List.{AllZip}
use Rattle.sql_node.specs.Tree.{Statement, select, combination}
use Rattle.sql_rules.specs.Rules.{Present}
use Rattle.sql_rows_meaning.specs.Answers.{Line, left_by, ordered_by, directions, may_skip, positional_items, Gives, Holds, FromRows, KeyGives, OrderGives}
use Rattle.sql_rows_meaning.specs.Frames.{Database, Frame, where_sees}
use Rattle.sql_rows_meaning.specs.Groups.{alone, counts}
use Rattle.sql_rows_meaning.specs.Rows.{Row, NullPlaces, Filtered, IsPart, IsOrdered, values_at, page, count_row, combined}

-- neither it nor a side of it has an aggregate, GROUP BY or HAVING; its subselects may
abbrev pub IsUngrouped : Statement → Type 0
IsUngrouped (select default e f u w o rows g h form marks) =
    (counts e u o ≡ false) × (¬ Present g) × (¬ Present h)
IsUngrouped (combination by all a b o rows) = IsUngrouped a × IsUngrouped b

-- `Answers` without a word on groups
abbrev pub RowAnswers : NullPlaces → Statement → Database → Frame → List Row → Type 0
RowAnswers places (select default e f u w o rows g h form marks) db outer answer =
    (all passing taken : List Frame) × (lines : List Line)
    × FromRows places f db all
    × Filtered (λ row t. Holds places w db (alone (where_sees form f row outer)) t) all passing
    × IsPart (may_skip form) passing taken
    × AllZip
    (λ row line. Gives places e db (alone row) line.shown × KeyGives places u db (alone row) line.key
    × OrderGives places o db (alone row) line.order)
    taken lines
    × IsOrdered places (directions o) (map (λ line. line.order) (ordered_by u lines))
    × (answer ≡ page rows (map (λ line. line.shown) (left_by u lines)))
RowAnswers places (combination by all a b o rows) db outer answer =
    (xs ys both : List Row)
    × RowAnswers places a db outer xs
    × RowAnswers places b db outer ys
    × ((row : Row) → count_row row both ≡ combined by all (count_row row xs) (count_row row ys))
    × IsOrdered places (map (λ i. i.direction) (positional_items o)) (map (values_at (positional_items o)) both)
    × (answer ≡ page rows both)

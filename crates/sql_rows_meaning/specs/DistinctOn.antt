-- The rows that DISTINCT ON leaves where an order stands beside it: of each set of rows in which its expressions are equal the first
-- by ORDER BY (PostgreSQL, SELECT, DISTINCT Clause).
use Rattle.std.specs.Prelude.{◌≡◌, ⊤, true, ◌||◌, List, [], ◌∷◌, map, IsPermutation}
use Rattle.std.specs.List.{AllZip}
use Rattle.sql_schema.specs.Declarations.{Declarations}
use Rattle.sql_leaf.specs.declared.position.Direction.{Direction}
use Rattle.sql_node.specs.Tree.{every, distinct, distinct_on, Statement, select, combination}
use Rattle.sql_rules.specs.Lists.{AnyOf, Each}
use Rattle.sql_rules.specs.Scope.{parts}
use Rattle.sql_rows_meaning.specs.Answers.{Line, Answers, FromRows, GroupedBy, Gives, Holds, KeyGives, OrderGives, directions, may_skip}
use Rattle.sql_rows_meaning.specs.Fitting.{Conforms, CountsBeside}
use Rattle.sql_rows_meaning.specs.Frames.{Database, Frame, where_sees}
use Rattle.sql_rows_meaning.specs.Groups.{Group, alone, counts}
use Rattle.sql_rows_meaning.specs.Rows.{Row, NullPlaces, Filtered, IsPart, IsOrdered, same_row, row_before, page}
use Rattle.sql_rows_meaning.specs.Worked.{IsOneOfEach, IsFirst}

-- The lines that a statement takes of its groups of rows, in any order: DISTINCT leaves some of these lines, and LIMIT cuts what is left.
abbrev pub TakesLines : NullPlaces → Statement → Database → Frame → List Line → Type 0
TakesLines places (select default e f u w o rows g h form marks) db outer lines =
    (all passing taken : List Frame) × (groups kept : List Group)
    × FromRows places f db all
    × Filtered (λ row t. Holds places w db (alone (where_sees form f row outer)) t) all passing
    × IsPart (may_skip form) passing taken
    × GroupedBy places g (counts e u o) db taken groups
    × Filtered (λ group t. Holds places h db group t) groups kept
    × AllZip
    (λ group line. Gives places e db group line.shown × KeyGives places u db group line.key
    × OrderGives places o db group line.order)
    kept lines
TakesLines places (combination by all a b o rows) db outer lines = ⊥

-- of any two lines of one key one comes before the other
abbrev pub Decides : NullPlaces → List Direction → List Line → Type 0
Decides places items lines =
    (a b : Line) (others : List Line) → IsPermutation lines (a ∷ (b ∷ others)) → same_row a.key b.key ≡ true
    → (row_before places items a.order b.order || row_before places items b.order a.order) ≡ true

-- One line of each key is left, none of its key comes before it, and those that are left are in the order. Where the order decides,
-- each comes before every other line of its key.
pub record AreFirst (places : NullPlaces) (items : List Direction) (lines left : List Line) : Type 0 where
  pub one_of_each : IsOneOfEach (λ line. line.key) lines left
  pub first : Each (IsFirst places items lines) left
  pub ordered : IsOrdered places items (map (λ line. line.order) left)
  pub decided : Decides places items lines
      → Each (λ line. Each (λ c. same_row c.key line.key ≡ true → row_before places items c.order line.order ≡ true) left)
      one_of_each.rest

-- The answer of a statement with DISTINCT ON shows the first line of each key, cut by its LIMIT and OFFSET.
abbrev pub ShowsFirst : NullPlaces → Statement → Database → Frame → List Row → Type 0
ShowsFirst places (select default e f (distinct_on k) w o rows g h form marks) db outer answer =
    (lines left : List Line)
    × TakesLines places (select default e f (distinct_on k) w o rows g h form marks) db outer lines
    × AreFirst places (directions o) lines left
    × (answer ≡ page rows (map (λ line. line.shown) left))
ShowsFirst places (select default e f every w o rows g h form marks) db outer answer = ⊤
ShowsFirst places (select default e f distinct w o rows g h form marks) db outer answer = ⊤
ShowsFirst places (combination by all a b o rows) db outer answer = ⊤

-- So does each answer over each database that conforms, with the exception of `AnswersFit`.
abbrev pub FirstIsShown : Declarations → Statement → Type 0
FirstIsShown schema s =
    ¬ AnyOf CountsBeside (parts [] s) → (places : NullPlaces) (db : Database) → Conforms schema db → (outer : Frame)
    (answer : List Row)
    → Answers places s db outer answer → ShowsFirst places s db outer answer

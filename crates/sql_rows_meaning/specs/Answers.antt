-- The answers that a statement may give over a database (PostgreSQL, SELECT; Table Expressions; Aggregate Functions; Subquery
-- Expressions; Combining Queries). It is a relation: SQL leaves the order of rows and other choices open, so a statement has several
-- answers. Where NULL comes in an order is the server's choice, and the same for the whole statement.
use Rattle.std.specs.Prelude.{◌≡◌, pos, Bool, true, false, List, [], ◌∷◌, ◌++◌, map, length, Option, None, Some, if◌then◌else◌, IsPermutation}
use Rattle.std.specs.List.{AllZip}
use Rattle.sql_pass.specs.declared.value.Value.{Value}
use Rattle.sql_pass.specs.declared.value.Value.TheVariants as V
use Rattle.sql_leaf.specs.declared.locking.LockingClause.TheVariants.{LockingClause as Locked}
use Rattle.sql_leaf.specs.declared.locking.Modifier.TheVariants.{SkipLocked}
use Rattle.sql_leaf.specs.declared.position.Direction.{Direction}
use Rattle.sql_leaf.specs.declared.position.PositionalItem.{PositionalItem}
use Rattle.sql_leaf.specs.declared.table_source.JoinKind.{JoinKind}
use Rattle.sql_leaf.specs.declared.table_source.JoinKind.TheVariants.{Inner, LeftOuter}
use Rattle.sql_leaf.specs.declared.table_source.Tablesample.{Tablesample}
use Rattle.sql_node.specs.Tree.{Origin, Form, unboxed, Expr, column, value, list, count_star, nullable, unary, count, compared, joined, exists, single, among_values, among_rows, Exprs, no_exprs, more_exprs, Items, no_items, more_items, MaybeExpr, no_expr, an_expr, Source, of_table, of_alias, join, From, no_source, from, Distinct, every, distinct, distinct_on, Order, no_order, order_by, Statement, select, combination}
use Rattle.sql_origin.specs.Leaves.{leaves}
use Rattle.sql_origin.specs.Origins.{a_table, an_alias}
use Rattle.sql_rows_meaning.specs.Frames.{Database, Frame, value_of, nulls, where_sees}
use Rattle.sql_rows_meaning.specs.Groups.{Group, alone, one_row, keyed_groups, not_nulls, counts}
use Rattle.sql_rows_meaning.specs.Rows.{Row, NullPlaces, same_row, Filtered, IsPart, IsOrdered, values_at, page, count_row, combined}
use Rattle.sql_rows_meaning.specs.Values.{is_true, compared_value, joined_value, unary_value, among_value}

-- ---- FROM (PostgreSQL, SELECT, FROM Clause; Table Expressions, Joined Tables)

-- each row of a table, as a row of the table itself or of an alias
abbrev pub rows_as : Origin → List Row → List Frame
rows_as o rows = map (λ row. (o, row) ∷ []) rows

-- under ONLY or TABLESAMPLE
abbrev pub is_partial : Bool → Option Tablesample → Bool
is_partial only None = only
is_partial only (Some sample) = true

-- the pairs of a left row; in a left outer join one that has none is paired with NULLs
abbrev pub or_padded : JoinKind → Frame → Frame → List Frame → List Frame
or_padded LeftOuter padding x [] = (x ++ padding) ∷ []
or_padded LeftOuter padding x (pair ∷ pairs) = pair ∷ pairs
or_padded Inner padding x pairs = pairs

-- For each row on the left its pairs with those rows on the right for which ON is true.
pub data Joined (kind : JoinKind) (padding : Frame) (On : Frame → Bool → Type 0) (right : List Frame) : List Frame
    → List Frame → Type 0 where
  no_rows : Joined kind padding On right [] []
  a_row : {x : Frame} {left pairs rows : List Frame} → Filtered On (map (λ y. x ++ y) right) pairs
      → Joined kind padding On right left rows
      → Joined kind padding On right (x ∷ left) (or_padded kind padding x pairs ++ rows)

-- ---- DISTINCT and DISTINCT ON (PostgreSQL, SELECT, DISTINCT Clause)

-- what is taken of a row: the selection's values, those of DISTINCT ON and those of ORDER BY
pub record Line : Type 0 where
  pub shown : Row
  pub key : Row
  pub order : Row

-- one of the lines has that key
abbrev pub is_keyed : (Line → Row) → Row → List Line → Bool
is_keyed key row [] = false
is_keyed key row (line ∷ lines) = if same_row row (key line) then true else is_keyed key row lines

-- the first line of each key, but of no key that a line before had
abbrev pub first_of_each : (Line → Row) → List Line → List Line → List Line
first_of_each key before [] = []
first_of_each key before (line ∷ lines) =
    if is_keyed key (key line) before then first_of_each key before lines
    else line ∷ first_of_each key (line ∷ before) lines

-- Rows come in any order, so the first of each key may be any one of it (the law `first_is_any`).
abbrev pub left_by : Distinct → List Line → List Line
left_by every lines = lines
left_by distinct lines = first_of_each (λ line. line.shown) [] lines
left_by (distinct_on e) lines = first_of_each (λ line. line.key) [] lines

-- The lines that are in the order asked for: those that are left, but under DISTINCT ON all, so that it leaves the first by that
-- order (the law `first_by_the_order_is_left`).
abbrev pub ordered_by : Distinct → List Line → List Line
ordered_by every lines = lines
ordered_by distinct lines = left_by distinct lines
ordered_by (distinct_on e) lines = lines

-- ---- ORDER BY and locks

abbrev pub item_directions : Items → List Direction
item_directions no_items = []
item_directions (more_items e by is) = by ∷ item_directions is

abbrev pub directions : Order → List Direction
directions no_order = []
directions (order_by is) = item_directions is

-- SKIP LOCKED leaves out rows that another transaction has locked (PostgreSQL, SELECT, The Locking Clause)
abbrev pub may_skip : Form → Bool
may_skip (unboxed (Locked mode SkipLocked)) = true
may_skip _ = false

-- ---- subselects (PostgreSQL, Value Expressions, Scalar Subqueries; Subquery Expressions)

abbrev pub first_value : Row → Value
first_value [] = V.Null
first_value (v ∷ vs) = v

-- the value in the first row, or NULL
abbrev pub single_value : List Row → Value
single_value [] = V.Null
single_value (row ∷ rows) = first_value row

abbrev pub has_row : List Row → Bool
has_row [] = false
has_row (row ∷ rows) = true

abbrev pub positional_items : Option (List PositionalItem) → List PositionalItem
positional_items None = []
positional_items (Some is) = is

-- ---- the meaning

module _ (places : NullPlaces) where
  abbrev mutual
    -- An expression gives one value in a group of rows, and a list those of its elements; nullables change no value. A column has
    -- the value of any one row of the group. COUNT(*) is the number of its rows, COUNT of an expression the number of those in
    -- which its value isn't NULL. A subselect may give any one of its answers, in the frame of that one row.
    pub Gives : Expr → Database → Group → List Value → Type 0
    Gives (column o c) db rows vs = vs ≡ value_of o c (one_row rows) ∷ []
    Gives (value t x) db rows vs = vs ≡ x ∷ []
    Gives (list es) db rows vs = AllGive es db rows vs
    Gives count_star db rows vs = vs ≡ V.BigInt (pos (length rows)) ∷ []
    Gives (nullable e) db rows vs = Gives e db rows vs
    Gives (unary u e) db rows vs = (x : Value) × Gives e db rows (x ∷ []) × (vs ≡ unary_value u x ∷ [])
    Gives (count e) db rows vs =
        (xs : List Value) × AllZip (λ row x. Gives e db (alone row) (x ∷ [])) rows xs
        × (vs ≡ V.BigInt (pos (not_nulls xs)) ∷ [])
    Gives (compared by a b) db rows vs =
        (x y : Value) × Gives a db rows (x ∷ []) × Gives b db rows (y ∷ []) × (vs ≡ compared_value by x y ∷ [])
    Gives (joined by a b) db rows vs =
        (x y : Value) × Gives a db rows (x ∷ []) × Gives b db rows (y ∷ []) × (vs ≡ joined_value by x y ∷ [])
    Gives (exists q) db rows vs =
        (found : List Row) × Answers q db (one_row rows) found × (vs ≡ V.Bool (has_row found) ∷ [])
    Gives (single q) db rows vs =
        (found : List Row) × Answers q db (one_row rows) found × (vs ≡ single_value found ∷ [])
    Gives (among_values n e t xs) db rows vs =
        (x : Value) × Gives e db rows (x ∷ []) × (vs ≡ among_value n x xs ∷ [])
    Gives (among_rows n e q) db rows vs =
        (x : Value) × (found : List Row) × Gives e db rows (x ∷ []) × Answers q db (one_row rows) found
        × (vs ≡ among_value n x (map first_value found) ∷ [])

    pub AllGive : Exprs → Database → Group → List Value → Type 0
    AllGive no_exprs db rows vs = vs ≡ []
    AllGive (more_exprs e es) db rows vs =
        (xs ys : List Value) × Gives e db rows xs × AllGive es db rows ys × (vs ≡ xs ++ ys)

    -- whether a condition is true; one that is absent is
    pub Holds : MaybeExpr → Database → Group → Bool → Type 0
    Holds no_expr db rows t = t ≡ true
    Holds (an_expr e) db rows t = (v : Value) × Gives e db rows (v ∷ []) × (t ≡ is_true v)

    -- A table gives its rows, in any order, and under ONLY or TABLESAMPLE any part of them; an alias gives those of its table.
    pub SourceRows : Source → Database → List Frame → Type 0
    SourceRows (of_table t only sample) db rows = IsPart (is_partial only sample) (rows_as (a_table t) (db t)) rows
    SourceRows (of_alias a t) db rows = IsPart false (rows_as (an_alias a t) (db t)) rows
    SourceRows (join kind l r on) db rows =
        (xs ys : List Frame) × SourceRows l db xs × SourceRows r db ys
        × Joined kind (nulls (leaves r)) (λ row t. Holds on db (alone row) t) ys xs rows

    -- Without a source there is one empty row.
    pub FromRows : From → Database → List Frame → Type 0
    FromRows no_source db rows = rows ≡ [] ∷ []
    FromRows (from f) db rows = SourceRows f db rows

    -- Rows are grouped by the values of GROUP BY, and the groups come in any order. Without it all rows are one group where
    -- something is counted, also where there are none, and else each row is one.
    pub GroupedBy : MaybeExpr → Bool → Database → List Frame → List Group → Type 0
    GroupedBy (an_expr g) counted db rows groups =
        (keys : List Row) × AllZip (λ row key. Gives g db (alone row) key) rows keys
        × IsPermutation (map (λ group. group.rows) (keyed_groups keys rows)) groups
    GroupedBy no_expr true db rows groups = groups ≡ rows ∷ []
    GroupedBy no_expr false db rows groups = groups ≡ map alone rows

    pub KeyGives : Distinct → Database → Group → Row → Type 0
    KeyGives every db rows key = key ≡ []
    KeyGives distinct db rows key = key ≡ []
    KeyGives (distinct_on e) db rows key = Gives e db rows key

    pub ItemsGive : Items → Database → Group → Row → Type 0
    ItemsGive no_items db rows vs = vs ≡ []
    ItemsGive (more_items e by is) db rows vs =
        (x : Value) × (ys : Row) × Gives e db rows (x ∷ []) × ItemsGive is db rows ys × (vs ≡ x ∷ ys)

    pub OrderGives : Order → Database → Group → Row → Type 0
    OrderGives no_order db rows vs = vs ≡ []
    OrderGives (order_by is) db rows vs = ItemsGive is db rows vs

    -- Of the rows of the source those pass for which WHERE is true; they are taken in any order, under SKIP LOCKED perhaps not
    -- all, and grouped. Each group for which HAVING is true gives a line. DISTINCT leaves the first of each key. The lines are in
    -- the order that ORDER BY asks, and LIMIT and OFFSET cut them. In a combination each row is as often as its counts on both
    -- sides say.
    pub Answers : Statement → Database → Frame → List Row → Type 0
    Answers (select default e f u w o rows g h form marks) db outer answer =
        (all passing taken : List Frame) × (groups kept : List Group) × (lines : List Line)
        × FromRows f db all
        × Filtered (λ row t. Holds w db (alone (where_sees form f row outer)) t) all passing
        × IsPart (may_skip form) passing taken
        × GroupedBy g (counts e u o) db taken groups
        × Filtered (λ group t. Holds h db group t) groups kept
        × AllZip
        (λ group line. Gives e db group line.shown × KeyGives u db group line.key × OrderGives o db group line.order)
        kept lines
        × IsOrdered places (directions o) (map (λ line. line.order) (ordered_by u lines))
        × (answer ≡ page rows (map (λ line. line.shown) (left_by u lines)))
    Answers (combination by all a b o rows) db outer answer =
        (xs ys both : List Row)
        × Answers a db outer xs
        × Answers b db outer ys
        × ((row : Row) → count_row row both ≡ combined by all (count_row row xs) (count_row row ys))
        × IsOrdered places (map (λ i. i.direction) (positional_items o)) (map (values_at (positional_items o)) both)
        × (answer ≡ page rows both)

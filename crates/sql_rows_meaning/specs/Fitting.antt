-- The meaning of the promise that the types of a statement's columns are right, NULL included: a column whose type is not nullable
-- never gives NULL (PostgreSQL, Constraints, Not-Null Constraints; diesel, `Nullable`).
use Rattle.std.specs.Prelude.{◌≡◌, true, false, ◌||◌, List, [], map, IsTrue}
use Rattle.std.specs.List.{AllZip}
use Rattle.sql_schema.specs.Declarations.{Declarations}
use Rattle.sql_schema.specs.declared.types.SqlType.{SqlType}
use Rattle.sql_node.specs.Tree.{Statement}
use Rattle.sql_rules.specs.Lists.{AnyOf, Each}
use Rattle.sql_rules.specs.Rules.{IsUnboxed, Present}
use Rattle.sql_rules.specs.Scope.{Part, a_select, a_combination, parts}
use Rattle.sql_rules.specs.Types.{fits}
use Rattle.sql_rules.specs.Verdicts.{holds_aggregate}
use Rattle.sql_rows_meaning.specs.Answers.{Answers}
use Rattle.sql_rows_meaning.specs.Frames.{Database}
use Rattle.sql_rows_meaning.specs.Groups.{distinct_counts, order_counts}
use Rattle.sql_rows_meaning.specs.Rows.{Row, NullPlaces}

-- as many values as types, and each fits its own
abbrev pub RowFits : List SqlType → Row → Type 0
RowFits types row = AllZip (λ t x. fits t x ≡ true) types row

-- The database conforms to the schema: each row of each of its tables has one value for each column, in order, and it fits the
-- column's type.
abbrev pub Conforms : Declarations → Database → Type 0
Conforms schema db = Each (λ t. Each (RowFits (map (λ c. c.ty) t.columns)) (db t)) schema.tables

-- A boxed statement counts in its ORDER BY or DISTINCT ON alone, and has no GROUP BY. The rule Grouping does not compare these
-- with what such a statement selects. Where no row passes, its one group has none, and a column that is selected is NULL (SQLite,
-- SELECT, Bare columns in an aggregate query).
abbrev pub CountsBeside : Part → Type 0
CountsBeside (a_select outer s) =
    (¬ IsUnboxed s.form) × (¬ Present s.group_by) × (holds_aggregate s.selection ≡ false)
    × IsTrue (distinct_counts s.distinctness || order_counts s.order)
CountsBeside (a_combination c) = ⊥

-- Each row of each answer over each database that conforms fits the types, wherever NULL comes in orders.
abbrev pub AnswersFit : Declarations → Statement → List SqlType → Type 0
AnswersFit schema s types =
    ¬ AnyOf CountsBeside (parts [] s) → (places : NullPlaces) (db : Database) → Conforms schema db → (answer : List Row)
    → Answers places s db [] answer → Each (RowFits types) answer

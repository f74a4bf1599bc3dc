-- The fourteen rules that a statement may break. Each is said of one place: a statement inside a statement, or of a clause or
-- an expression in it. Each rule names the trait bound of diesel that it replaces.
use Rattle.std.specs.Prelude.{◌≡◌, ◌≢◌, ◌<◌, List, [], ◌∷◌, ◌++◌, ◌⊎◌, length, Option, Some, None, Bool, false, IsTrue, ◌||◌}
use Rattle.sql_schema.specs.Declarations.{Declarations}
use Rattle.sql_schema.specs.Together.{may_stand_together}
use Rattle.sql_schema.specs.declared.declaration.ColumnDecl.{ColumnDecl}
use Rattle.sql_schema.specs.declared.declaration.TableDecl.{TableDecl}
use Rattle.sql_schema.specs.declared.types.Base.TheVariants.{Bool as BoolBase}
use Rattle.sql_schema.specs.declared.types.SqlType.{SqlType}
use Rattle.sql_dialect.specs.Supports.{combines}
use Rattle.sql_dialect.specs.Written.{numbers, MAX_BINDS}
use Rattle.sql_dialect.specs.declared.backend.Dialect.{Dialect}
use Rattle.sql_dialect.specs.declared.backend.Dialect.TheVariants.{Pg, Mysql, Sqlite, Bracket}
use Rattle.sql_pass.specs.Pieces.{values_of}
use Rattle.sql_leaf.specs.declared.limit_offset.LimitOffsetClause.{LimitOffsetClause}
use Rattle.sql_leaf.specs.declared.locking.LockMode.TheVariants.{ForUpdate, ForNoKeyUpdate, ForShare, ForKeyShare}
use Rattle.sql_leaf.specs.declared.locking.LockingClause.{LockingClause}
use Rattle.sql_leaf.specs.declared.locking.LockingClause.TheVariants.{NoLockingClause, LockingClause as Locked}
use Rattle.sql_leaf.specs.declared.marks.Marks.{Marks}
use Rattle.sql_node.specs.Pieces.{pieces}
use Rattle.sql_node.specs.Tree.{Origin, Form, unboxed, boxed, Expr, column, value, list, count_star, nullable, unary, count, compared, joined, exists, single, among_values, among_rows, Exprs, no_exprs, more_exprs, Items, no_items, more_items, MaybeExpr, no_expr, an_expr, Source, of_table, of_alias, join, From, no_source, from, Distinct, every, distinct, distinct_on, Order, no_order, order_by, Statement}
use Rattle.sql_origin.specs.Leaves.{is_padded}
use Rattle.sql_origin.specs.Origins.{exposed_path}
use Rattle.sql_shape.specs.Expressions.{expr_shape}
use Rattle.sql_rules.specs.Lists.{AnyOf, AnyPair, IsSuffix, Differ}
use Rattle.sql_rules.specs.Scope.{View, leaves_of, widest, Select, Combination, Part, a_select, a_combination, parts, Place, in_selection, in_distinct_on, in_on, in_where, in_group_by, in_having, in_order_by, Clause, clauses, own, nodes, flat, flat_items, AnyExpr}
use Rattle.sql_rules.specs.Types.{type_of, columns, fits}
use Rattle.sql_rules.specs.Verdicts.{Verdict, NoVerdict, Never, mix, verdict, holds_aggregate}
use Rattle.sql_rules.specs.declared.rule.Rule.{Rule}
use Rattle.sql_rules.specs.declared.rule.Rule.TheVariants as R

-- ---- where something stands

-- in a clause of the select statement
abbrev pub AnyClause : (Clause → Type 0) → View → Select → Type 0
AnyClause P outer s = AnyOf P (clauses outer s)

-- in two leaves that WHERE sees, the one on the left first
abbrev pub AnyTwoLeaves : (Origin → Origin → Type 0) → View → Select → Type 0
AnyTwoLeaves P outer s = AnyPair P (widest s.form s.source outer)

-- ---- names

abbrev pub IsTable : Declarations → TableDecl → Type 0
IsTable schema t = AnyOf (λ u. u ≡ t) schema.tables

abbrev pub IsColumn : TableDecl → ColumnDecl → Type 0
IsColumn t c = AnyOf (λ d. d ≡ c) t.columns

-- UnknownName: a column is not one that the schema declares
abbrev pub IsUnknownColumn : Declarations → Expr → Type 0
IsUnknownColumn schema (column o c) = ¬ (IsTable schema o.table × IsColumn o.table c)
IsUnknownColumn schema _ = ⊥

-- UnknownName: nor is a table
abbrev pub HasUnknownName : Declarations → View → Select → Type 0
HasUnknownName schema outer s =
    AnyOf (λ o. ¬ IsTable schema o.table) (own s) ⊎ AnyExpr (λ v. IsUnknownColumn schema) outer s

-- NotTogether: two tables differ and may not stand in one statement (diesel, `TableNotEqual`)
abbrev pub MayNotMeet : Declarations → Origin → Origin → Type 0
MayNotMeet schema a b = (a.table ≢ b.table) × (may_stand_together schema.together a.table b.table ≡ false)

-- NameClash: what names one source can be meant for the other (PostgreSQL, SELECT, FROM Clause: an alias hides the table's
-- name)
abbrev pub Clash : Origin → Origin → Type 0
Clash a b = (a ≢ b) × (IsSuffix (exposed_path a) (exposed_path b) ⊎ IsSuffix (exposed_path b) (exposed_path a))

abbrev pub IsSeen : View → Origin → Type 0
IsSeen v o = AnyOf (λ l. l ≡ o) v

-- NotInScope: a column is of a source that its clause does not see (diesel, `AppearsOnTable`, `SelectableExpression`)
abbrev pub IsOutOfScope : View → Expr → Type 0
IsOutOfScope v (column o c) = ¬ IsSeen v o
IsOutOfScope v _ = ⊥

-- ---- clauses that do not go together

abbrev pub Present : MaybeExpr → Type 0
Present no_expr = ⊥
Present (an_expr e) = Unit {0}

abbrev pub IsDistinct : Distinct → Type 0
IsDistinct every = ⊥
IsDistinct distinct = Unit {0}
IsDistinct (distinct_on e) = Unit {0}

abbrev pub IsLock : LockingClause → Type 0
IsLock NoLockingClause = ⊥
IsLock (Locked m w) = Unit {0}

abbrev pub HasLock : Form → Type 0
HasLock (unboxed l) = IsLock l
HasLock (boxed d n) = ⊥

abbrev pub IsUnboxed : Form → Type 0
IsUnboxed (unboxed l) = Unit {0}
IsUnboxed (boxed d n) = ⊥

-- a call was made that the statement can't take; a wrong number of keys is left to TypeMismatch
abbrev pub misuse : Marks → Bool
misuse m = m.no_source || (m.find_source || (m.second_lock || (m.no_lock || m.boxed_lock)))

-- Incompatible (diesel, `LockingDsl`, `HavingDsl`; PostgreSQL, SELECT, The Locking Clause)
abbrev pub IsIncompatible : Select → Type 0
IsIncompatible s =
    IsTrue (misuse s.marks)
    ⊎ ((HasLock s.form × (IsDistinct s.distinctness ⊎ (Present s.group_by ⊎ Present s.having_by)))
    ⊎ (Present s.having_by × ¬ Present s.group_by))

-- ---- lists

-- places where a list may stand
abbrev pub IsListPlace : Place → Type 0
IsListPlace in_selection = Unit {0}
IsListPlace in_distinct_on = Unit {0}
IsListPlace in_group_by = Unit {0}
IsListPlace _ = ⊥

-- EmptyList: a list has no element (PostgreSQL, SELECT: a clause names one expression or more)
abbrev pub IsEmptyList : Clause → Type 0
IsEmptyList c = IsListPlace c.place × (flat c.expr ≡ [])

-- EmptyList: an order has no element
abbrev pub IsEmptyOrder : Order → Type 0
IsEmptyOrder no_order = ⊥
IsEmptyOrder (order_by is) = flat_items is ≡ []

-- NoRelation: a join has no condition (diesel, `JoinTo`)
abbrev pub LacksOn : Source → Type 0
LacksOn (of_table t only sample) = ⊥
LacksOn (of_alias a t) = ⊥
LacksOn (join k l r on) = (¬ Present on) ⊎ (LacksOn l ⊎ LacksOn r)

abbrev pub FromLacksOn : From → Type 0
FromLacksOn no_source = ⊥
FromLacksOn (from f) = LacksOn f

-- ---- types

-- the expressions at a place that have to have a type; of a list its elements
abbrev pub tops : Place → Expr → List Expr
tops in_selection e = flat e
tops in_distinct_on e = flat e
tops in_on e = e ∷ []
tops in_where e = e ∷ []
tops in_group_by e = flat e
tops in_having e = e ∷ []
tops in_order_by e = e ∷ []

abbrev pub IsIllTyped : Expr → Type 0
IsIllTyped (value t x) = fits t x ≡ false
IsIllTyped e = type_of e ≡ None

abbrev pub IsCondition : Place → Type 0
IsCondition in_on = Unit {0}
IsCondition in_where = Unit {0}
IsCondition in_having = Unit {0}
IsCondition _ = ⊥

-- Bool, nullable or not
abbrev pub IsBool : Option SqlType → Type 0
IsBool None = ⊥
IsBool (Some t) = t.base ≡ BoolBase

-- TypeMismatch: an expression has no type, a value does not fit its own, or a condition is not Bool (diesel, `Expression`,
-- `AsExpression`, `BoolOrNullableBool`)
abbrev pub IsIllTypedClause : Clause → Type 0
IsIllTypedClause c =
    AnyOf (λ e. AnyOf IsIllTyped (nodes e)) (tops c.place c.expr) ⊎ (IsCondition c.place × ¬ IsBool (type_of c.expr))

-- ---- outer joins

-- what the columns under no nullable are columns of, outside subselects
abbrev mutual
  pub bare : Expr → View
  bare (column o c) = o ∷ []
  bare (value t x) = []
  bare (list es) = bare_of es
  bare count_star = []
  bare (nullable e) = []
  bare (unary n e) = bare e
  bare (count e) = bare e
  bare (compared by a b) = bare a ++ bare b
  bare (joined by a b) = bare a ++ bare b
  bare (exists q) = []
  bare (single q) = []
  bare (among_values n e t xs) = bare e
  bare (among_rows n e q) = bare e

  pub bare_of : Exprs → View
  bare_of no_exprs = []
  bare_of (more_exprs e es) = bare e ++ bare_of es

abbrev pub IsSelected : Place → Type 0
IsSelected in_selection = Unit {0}
IsSelected in_distinct_on = Unit {0}
IsSelected _ = ⊥

-- The source is one whose rows an outer join may lack, and it stands once in the statement: one that stands twice is left to
-- Ambiguous.
abbrev pub IsPadded : Select → Origin → Type 0
IsPadded s o =
    AnyOf (λ l. (l.origin ≡ o) × IsTrue (is_padded l)) (leaves_of s.source)
    × ¬ AnyPair (λ a b. (a ≡ o) × (b ≡ o)) (own s)

-- NeedsNullable: a column that is NULL where its row is missing is selected under no nullable (diesel, `SelectableExpression` for
-- `Join`)
abbrev pub LacksNullable : Select → Clause → Type 0
LacksNullable s c = IsSelected c.place × AnyOf (IsPadded s) (bare c.expr)

-- ---- grouping

abbrev pub CountsAggregate : Expr → Type 0
CountsAggregate (count e) = IsTrue (holds_aggregate e)
CountsAggregate _ = ⊥

abbrev pub HasAggregate : MaybeExpr → Type 0
HasAggregate no_expr = ⊥
HasAggregate (an_expr e) = IsTrue (holds_aggregate e)

abbrev pub items_verdict : MaybeExpr → Items → Verdict
items_verdict g no_items = Never
items_verdict g (more_items e by is) = mix (verdict g e) (items_verdict g is)

abbrev pub order_verdict : MaybeExpr → Order → Verdict
order_verdict g no_order = Never
order_verdict g (order_by is) = items_verdict g is

abbrev pub distinct_verdict : MaybeExpr → Distinct → Verdict
distinct_verdict g every = Never
distinct_verdict g distinct = Never
distinct_verdict g (distinct_on e) = verdict g e

-- Grouping: an aggregate stands where none may, or what is selected has no one value in a group (diesel, `ValidGrouping`).
-- The order of a boxed statement is not looked at.
abbrev pub IsMisgrouped : Select → Type 0
IsMisgrouped s =
    (HasAggregate s.where_by ⊎ HasAggregate s.group_by)
    ⊎ (((verdict s.group_by s.selection ≡ NoVerdict) ⊎ (distinct_verdict s.group_by s.distinctness ≡ NoVerdict))
    ⊎ (IsUnboxed s.form × ((mix (verdict s.group_by s.selection) (order_verdict s.group_by s.order) ≡ NoVerdict)
    ⊎ (mix (verdict s.group_by s.selection) (distinct_verdict s.group_by s.distinctness) ≡ NoVerdict))))

-- ---- DISTINCT ON and the order

-- InvalidDistinctOrder: an item of the order is not the expression of DISTINCT ON at its place, values and lengths of value
-- lists aside (PostgreSQL, SELECT, DISTINCT Clause; diesel, `ValidOrderingForDistinct`)
abbrev pub OrderDiffers : Form → Distinct → Order → Type 0
OrderDiffers (unboxed l) (distinct_on e) (order_by is) =
    Differ (λ x y. expr_shape x ≢ expr_shape y) (flat e) (flat_items is)
OrderDiffers _ _ _ = ⊥

-- ---- what a dialect has

abbrev pub IsNotPg : Dialect → Type 0
IsNotPg Pg = ⊥
IsNotPg Mysql = Unit {0}
IsNotPg Sqlite = Unit {0}
IsNotPg Bracket = Unit {0}

abbrev pub IsMysql : Dialect → Type 0
IsMysql Pg = ⊥
IsMysql Mysql = Unit {0}
IsMysql Sqlite = ⊥
IsMysql Bracket = ⊥

abbrev pub IsOffsetAlone : LimitOffsetClause → Type 0
IsOffsetAlone c = (c.limit_clause ≡ None) × (c.offset_clause ≢ None)

abbrev pub IsDistinctOn : Distinct → Type 0
IsDistinctOn every = ⊥
IsDistinctOn distinct = ⊥
IsDistinctOn (distinct_on e) = Unit {0}

-- PostgreSQL has all locks, MySQL has FOR UPDATE and FOR SHARE (Locking Reads), SQLite and Bracket have none
abbrev pub LacksLock : Dialect → LockingClause → Type 0
LacksLock d NoLockingClause = ⊥
LacksLock Pg (Locked m w) = ⊥
LacksLock Mysql (Locked ForUpdate w) = ⊥
LacksLock Mysql (Locked ForNoKeyUpdate w) = Unit {0}
LacksLock Mysql (Locked ForShare w) = ⊥
LacksLock Mysql (Locked ForKeyShare w) = Unit {0}
LacksLock Sqlite (Locked m w) = Unit {0}
LacksLock Bracket (Locked m w) = Unit {0}

-- its lock is none of the dialect's, or it was boxed for another dialect
abbrev pub LacksForm : Dialect → Form → Type 0
LacksForm d (unboxed l) = LacksLock d l
LacksForm d (boxed e n) = d ≢ e

-- ONLY or TABLESAMPLE
abbrev pub HasTableMarks : Source → Type 0
HasTableMarks (of_table t only sample) = IsTrue only ⊎ (sample ≢ None)
HasTableMarks (of_alias a t) = ⊥
HasTableMarks (join k l r on) = HasTableMarks l ⊎ HasTableMarks r

abbrev pub FromHasMarks : From → Type 0
FromHasMarks no_source = ⊥
FromHasMarks (from f) = HasTableMarks f

-- Unsupported (diesel, `QueryFragment<DB>` for the clauses that one backend has alone, `SupportsCombinationClause`). MySQL
-- can write an offset alone in a boxed statement.
abbrev pub IsSelectUnsupported : Dialect → Select → Type 0
IsSelectUnsupported d s =
    (IsNotPg d × (IsDistinctOn s.distinctness ⊎ FromHasMarks s.source))
    ⊎ (LacksForm d s.form ⊎ (IsMysql d × (IsUnboxed s.form × IsOffsetAlone s.rows)))

abbrev pub IsCombinationUnsupported : Dialect → Combination → Type 0
IsCombinationUnsupported d c = (combines d c.combinator c.duplicates ≡ false) ⊎ (IsMysql d × IsOffsetAlone c.rows)

-- ---- the rules

-- The rule is broken by a select statement inside the statement, where the clause around it sees the outer view.
abbrev pub SelectBreaks : Rule → Declarations → Dialect → View → Select → Type 0
SelectBreaks R.UnknownName schema d outer s = HasUnknownName schema outer s
SelectBreaks R.Incompatible schema d outer s = IsIncompatible s
SelectBreaks R.EmptyList schema d outer s = AnyClause IsEmptyList outer s ⊎ IsEmptyOrder s.order
SelectBreaks R.NoRelation schema d outer s = FromLacksOn s.source
SelectBreaks R.Ambiguous schema d outer s = AnyTwoLeaves (λ a b. a ≡ b) outer s
SelectBreaks R.NotTogether schema d outer s = AnyTwoLeaves (MayNotMeet schema) outer s
SelectBreaks R.NameClash schema d outer s = AnyTwoLeaves Clash outer s
SelectBreaks R.NotInScope schema d outer s = AnyExpr IsOutOfScope outer s
SelectBreaks R.TypeMismatch schema d outer s = AnyClause IsIllTypedClause outer s ⊎ IsTrue s.marks.key_count
SelectBreaks R.NeedsNullable schema d outer s = AnyClause (LacksNullable s) outer s
SelectBreaks R.Grouping schema d outer s = AnyExpr (λ v. CountsAggregate) outer s ⊎ IsMisgrouped s
SelectBreaks R.InvalidDistinctOrder schema d outer s = OrderDiffers s.form s.distinctness s.order
SelectBreaks R.Unsupported schema d outer s = IsSelectUnsupported d s
SelectBreaks R.TooManyBinds schema d outer s = ⊥

-- The rule is broken by a combination inside the statement.
abbrev pub CombinationBreaks : Rule → Dialect → Combination → Type 0
CombinationBreaks R.EmptyList d c = c.order ≡ Some []
CombinationBreaks R.TypeMismatch d c = columns c.left ≢ columns c.right
CombinationBreaks R.Unsupported d c = IsCombinationUnsupported d c
CombinationBreaks _ d c = ⊥

abbrev pub PartBreaks : Rule → Declarations → Dialect → Part → Type 0
PartBreaks r schema d (a_select outer s) = SelectBreaks r schema d outer s
PartBreaks r schema d (a_combination c) = CombinationBreaks r d c

-- TooManyBinds: the dialect numbers placeholders, and there are more values than numbers, which are of 32 bits
abbrev pub HasTooManyBinds : Dialect → Statement → Type 0
HasTooManyBinds d s = IsTrue (numbers d) × (MAX_BINDS < length (values_of (pieces d s)))

-- Rules are broken by a statement at any depth; TooManyBinds is of the whole.
abbrev pub Broken : Rule → Declarations → Dialect → Statement → Type 0
Broken R.TooManyBinds schema d s = HasTooManyBinds d s
Broken r schema d s = AnyOf (PartBreaks r schema d) (parts [] s)

-- no rule is broken
abbrev pub Accepted : Declarations → Dialect → Statement → Type 0
Accepted schema d s = (r : Rule) → ¬ Broken r schema d s

-- in the order in which they are reported
abbrev pub all_rules : List Rule
all_rules =
    R.UnknownName
    ∷ (R.Incompatible
    ∷ (R.EmptyList ∷ (R.NoRelation ∷ (R.Ambiguous ∷ (R.NotTogether ∷ (R.NameClash ∷ (R.NotInScope ∷ (R.TypeMismatch
    ∷ (R.NeedsNullable ∷ (R.Grouping ∷ (R.InvalidDistinctOrder ∷ (R.Unsupported ∷ (R.TooManyBinds ∷ [])))))))))))))

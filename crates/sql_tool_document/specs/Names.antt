-- How documents and answers name dialects and types, and how documents name what queries are made of.
use Rattle.std.specs.Prelude.{ℕ, List, [], ◌∷◌, ◌++◌, Bool, true, false, codes, Option, Some, None, find, if◌then◌else◌}
use Rattle.std.specs.Str.{bytes_eq}
use Rattle.sql_dialect.specs.declared.backend.Dialect.{Dialect}
use Rattle.sql_dialect.specs.declared.backend.Dialect.TheVariants.{Pg, Mysql, Sqlite, Bracket}
use Rattle.sql_dialect.specs.declared.combination.Combinator.{Combinator}
use Rattle.sql_dialect.specs.declared.combination.Combinator.TheVariants.{Union, Intersect, Except}
use Rattle.sql_dialect.specs.declared.combination.DuplicateRule.{DuplicateRule}
use Rattle.sql_dialect.specs.declared.combination.DuplicateRule.TheVariants.{Distinct as Distinctly, All}
use Rattle.sql_leaf.specs.declared.operator.Unary.{Unary}
use Rattle.sql_leaf.specs.declared.operator.Unary.TheVariants.{Not, IsNull, IsNotNull}
use Rattle.sql_leaf.specs.declared.operator.Comparison.{Comparison}
use Rattle.sql_leaf.specs.declared.operator.Comparison.TheVariants.{Eq, Ne, Gt, Ge, Lt, Le}
use Rattle.sql_leaf.specs.declared.operator.Logic.{Logic}
use Rattle.sql_leaf.specs.declared.operator.Logic.TheVariants.{And, Or}
use Rattle.sql_leaf.specs.declared.position.Direction.{Direction}
use Rattle.sql_leaf.specs.declared.position.Direction.TheVariants.{Asc, Desc}
use Rattle.sql_leaf.specs.declared.table_source.JoinKind.{JoinKind}
use Rattle.sql_leaf.specs.declared.table_source.JoinKind.TheVariants.{Inner, LeftOuter}
use Rattle.sql_leaf.specs.declared.table_source.TablesampleMethod.{TablesampleMethod}
use Rattle.sql_leaf.specs.declared.table_source.TablesampleMethod.TheVariants.{BernoulliMethod, SystemMethod}
use Rattle.sql_schema.specs.declared.types.Base.{Base}
use Rattle.sql_schema.specs.declared.types.Base.TheVariants.{SmallInt, Integer, BigInt, Text, Binary, Bool as Boolean}
use Rattle.sql_schema.specs.declared.types.SqlType.{SqlType}
use Rattle.sql_build_syntax.specs.declared.call.ClauseCall.{ClauseCall}
use Rattle.sql_build_syntax.specs.declared.call.ClauseCall.TheVariants as clause
use Rattle.sql_build_syntax.specs.declared.call.PlainCall.{PlainCall}
use Rattle.sql_build_syntax.specs.declared.call.PlainCall.TheVariants as plain
use Rattle.sql_build_syntax.specs.declared.expr.BinaryOperator.{BinaryOperator}
use Rattle.sql_build_syntax.specs.declared.expr.BinaryOperator.TheVariants as binary
use Rattle.sql_build_syntax.specs.declared.expr.Quantified.{Quantified}
use Rattle.sql_build_syntax.specs.declared.expr.Quantified.TheVariants as quantified
use Rattle.sql_build_syntax.specs.declared.expr.UnaryOperator.{UnaryOperator}
use Rattle.sql_build_syntax.specs.declared.expr.UnaryOperator.TheVariants as unary

-- ---- dialects and types

abbrev pub dialect_text : Dialect → List ℕ
dialect_text Pg = codes "Pg"
dialect_text Mysql = codes "Mysql"
dialect_text Sqlite = codes "Sqlite"
dialect_text Bracket = codes "Bracket"

abbrev pub dialects : List Dialect
dialects = Pg ∷ Mysql ∷ Sqlite ∷ Bracket ∷ []

-- the dialect of that name
unfoldable pub dialect_of : List ℕ → Option Dialect
dialect_of name = find (λ d. bytes_eq name (dialect_text d)) dialects

abbrev pub base_text : Base → List ℕ
base_text SmallInt = codes "SmallInt"
base_text Integer = codes "Integer"
base_text BigInt = codes "BigInt"
base_text Text = codes "Text"
base_text Binary = codes "Binary"
base_text Boolean = codes "Bool"

abbrev pub null_mark : Bool → List ℕ
null_mark true = codes "?"
null_mark false = []

-- the base's name, with a `?` after it where it may be NULL
abbrev pub type_text : SqlType → List ℕ
type_text t = base_text t.base ++ null_mark t.nullable

abbrev pub not_null : Base → SqlType
not_null b = record { base = b; nullable = false }

abbrev pub nullable : Base → SqlType
nullable b = record { base = b; nullable = true }

abbrev pub types : List SqlType
types =
    not_null SmallInt ∷ not_null Integer ∷ not_null BigInt ∷ not_null Text ∷ not_null Binary ∷ not_null Boolean
    ∷ nullable SmallInt ∷ nullable Integer ∷ nullable BigInt ∷ nullable Text ∷ nullable Binary ∷ nullable Boolean ∷ []

-- the type of that name
unfoldable pub type_of : List ℕ → Option SqlType
type_of name = find (λ t. bytes_eq name (type_text t)) types

-- ---- expressions

abbrev pub condition_text : Unary → List ℕ
condition_text Not = codes "not"
condition_text IsNull = codes "is_null"
condition_text IsNotNull = codes "is_not_null"

abbrev pub unary_text : UnaryOperator → List ℕ
unary_text (unary.Condition by) = condition_text by
unary_text unary.Nullable = codes "nullable"
unary_text unary.Count = codes "count"

abbrev pub unary_operators : List UnaryOperator
unary_operators =
    unary.Condition Not ∷ unary.Condition IsNull ∷ unary.Condition IsNotNull ∷ unary.Nullable ∷ unary.Count ∷ []

unfoldable pub unary_of : List ℕ → Option UnaryOperator
unary_of name = find (λ o. bytes_eq name (unary_text o)) unary_operators

abbrev pub comparison_text : Comparison → List ℕ
comparison_text Eq = codes "eq"
comparison_text Ne = codes "ne"
comparison_text Gt = codes "gt"
comparison_text Ge = codes "ge"
comparison_text Lt = codes "lt"
comparison_text Le = codes "le"

abbrev pub logic_text : Logic → List ℕ
logic_text And = codes "and"
logic_text Or = codes "or"

abbrev pub binary_text : BinaryOperator → List ℕ
binary_text (binary.Compare by) = comparison_text by
binary_text (binary.Join by) = logic_text by

abbrev pub binary_operators : List BinaryOperator
binary_operators =
    binary.Compare Eq ∷ binary.Compare Ne ∷ binary.Compare Gt ∷ binary.Compare Ge ∷ binary.Compare Lt ∷ binary.Compare Le
    ∷ binary.Join And ∷ binary.Join Or ∷ []

unfoldable pub binary_of : List ℕ → Option BinaryOperator
binary_of name = find (λ o. bytes_eq name (binary_text o)) binary_operators

unfoldable pub quantified_of : List ℕ → Option Quantified
quantified_of name =
    if bytes_eq name (codes "eq_any") then Some quantified.EqAny
    else if bytes_eq name (codes "ne_all") then Some quantified.NeAll
    else None

-- ---- sources and orders

-- how a source joins its two sides
unfoldable pub side_join_of : List ℕ → Option JoinKind
side_join_of name =
    if bytes_eq name (codes "inner") then Some Inner
    else if bytes_eq name (codes "left") then Some LeftOuter
    else None

unfoldable pub method_of : List ℕ → Option TablesampleMethod
method_of name =
    if bytes_eq name (codes "bernoulli") then Some BernoulliMethod
    else if bytes_eq name (codes "system") then Some SystemMethod
    else None

unfoldable pub direction_of : List ℕ → Option Direction
direction_of name =
    if bytes_eq name (codes "asc") then Some Asc
    else if bytes_eq name (codes "desc") then Some Desc
    else None

-- ---- calls

abbrev pub plain_text : PlainCall → List ℕ
plain_text plain.Distinct = codes "distinct"
plain_text plain.Count = codes "count"
plain_text plain.Nullable = codes "nullable"
plain_text plain.ForUpdate = codes "for_update"
plain_text plain.ForNoKeyUpdate = codes "for_no_key_update"
plain_text plain.ForShare = codes "for_share"
plain_text plain.ForKeyShare = codes "for_key_share"
plain_text plain.SkipLocked = codes "skip_locked"
plain_text plain.NoWait = codes "no_wait"

abbrev pub plain_calls : List PlainCall
plain_calls =
    plain.Distinct ∷ plain.Count ∷ plain.Nullable ∷ plain.ForUpdate ∷ plain.ForNoKeyUpdate ∷ plain.ForShare
    ∷ plain.ForKeyShare ∷ plain.SkipLocked ∷ plain.NoWait ∷ []

-- the call of that name that has no arguments
unfoldable pub plain_of : List ℕ → Option PlainCall
plain_of name = find (λ c. bytes_eq name (plain_text c)) plain_calls

abbrev pub clause_text : ClauseCall → List ℕ
clause_text clause.DistinctOn = codes "distinct_on"
clause_text clause.GroupBy = codes "group_by"
clause_text clause.Select = codes "select"
clause_text clause.Filter = codes "filter"
clause_text clause.OrFilter = codes "or_filter"
clause_text clause.Having = codes "having"

abbrev pub clause_calls : List ClauseCall
clause_calls = clause.DistinctOn ∷ clause.GroupBy ∷ clause.Select ∷ clause.Filter ∷ clause.OrFilter ∷ clause.Having ∷ []

-- the call of that name that has an expression
unfoldable pub clause_of : List ℕ → Option ClauseCall
clause_of name = find (λ c. bytes_eq name (clause_text c)) clause_calls

-- how a call of that name joins
unfoldable pub join_of : List ℕ → Option JoinKind
join_of name =
    if bytes_eq name (codes "inner_join") then Some Inner
    else if bytes_eq name (codes "left_outer_join") then Some LeftOuter
    else if bytes_eq name (codes "left_join") then Some LeftOuter
    else None

-- how a call of that name combines
unfoldable pub combination_of : List ℕ → Option (Combinator × DuplicateRule)
combination_of name =
    if bytes_eq name (codes "union") then Some (Union, Distinctly)
    else if bytes_eq name (codes "union_all") then Some (Union, All)
    else if bytes_eq name (codes "intersect") then Some (Intersect, Distinctly)
    else if bytes_eq name (codes "intersect_all") then Some (Intersect, All)
    else if bytes_eq name (codes "except") then Some (Except, Distinctly)
    else if bytes_eq name (codes "except_all") then Some (Except, All)
    else None

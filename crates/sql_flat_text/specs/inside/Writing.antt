-- What is written of each kind of node in a dialect: what sql_node says of statements, by kinds.
use Rattle.std.specs.Prelude.{ℕ, zero, suc, Bool, true, false, List, [], ◌∷◌, ◌++◌, Option, None, Some, codes}
use Rattle.sql_schema.specs.declared.types.SqlType.{SqlType}
use Rattle.sql_dialect.specs.Syntax.{array}
use Rattle.sql_dialect.specs.declared.backend.Dialect.{Dialect}
use Rattle.sql_dialect.specs.declared.syntax.ArrayComparison.{ArrayComparison}
use Rattle.sql_dialect.specs.declared.syntax.ArrayComparison.TheVariants.{AnsiSqlArrayComparison, PgStyleArrayComparison}
use Rattle.sql_pass.specs.Parts.{side_open}
use Rattle.sql_pass.specs.Pieces.{Piece, one, Text, Bind, Unsafe}
use Rattle.sql_pass.specs.declared.value.Bound.TheVariants.{Value as OneValue, List as ManyValues}
use Rattle.sql_pass.specs.declared.value.Value.{Value}
use Rattle.sql_leaf.specs.Limits.{limit_offset_pieces}
use Rattle.sql_leaf.specs.Locks.{locking_pieces}
use Rattle.sql_leaf.specs.Positions.{direction_pieces, position_pieces}
use Rattle.sql_leaf.specs.Sources.{alias_pieces, table_source_pieces}
use Rattle.sql_leaf.specs.declared.limit_offset.LimitOffsetClause.{LimitOffsetClause}
use Rattle.sql_leaf.specs.Operators.{unary_before, unary_after, comparison_sql, logic_sql}
use Rattle.sql_leaf.specs.Words.{among_sql, constant_sql, join_sql, combinator_sql, distinct_on_open, group_by, order_by_sql}
use Rattle.sql_node.specs.Pieces.{leaf_pieces, all_pieces}
use Rattle.sql_flat_law.specs.Rose.{Rose, node, Roses, none, more}
use Rattle.sql_flat.specs.declared.kind.FlatKind.{FlatKind}
use Rattle.sql_flat.specs.declared.kind.FlatKind.TheVariants as K
use Rattle.sql_flat.specs.declared.kind.Form.{Form}
use Rattle.sql_flat.specs.declared.kind.Form.TheVariants as form
use Rattle.sql_flat.specs.declared.kind.Uniqueness.{Uniqueness}
use Rattle.sql_flat.specs.declared.kind.Uniqueness.TheVariants as unique
use Rattle.sql_flat_text.specs.Steps.{ends_in_values}

abbrev pub distinct_word : Uniqueness → List Piece
distinct_word unique.Every = []
distinct_word unique.Distinct = one (Text (codes "DISTINCT "))
distinct_word unique.DistinctOn = []

abbrev pub behind_select : Dialect → LimitOffsetClause → Form → List Piece
behind_select d r (form.Unboxed l) = limit_offset_pieces d false r.limit_clause r.offset_clause ++ locking_pieces l
behind_select d r (form.Boxed e n) = limit_offset_pieces d true r.limit_clause r.offset_clause

abbrev pub or_none : Option (List Piece) → List Piece
or_none None = []
or_none (Some ps) = ps

-- ---- nodes that are written whole: those without children, a list of values that is bound as one, and a membership in no
-- values

-- the values among those kinds
abbrev pub values_in : List FlatKind → List Value
values_in [] = []
values_in (K.Element t v ∷ ks) = v ∷ values_in ks
values_in (k ∷ ks) = values_in ks

abbrev pub if_empty : Bool → Bool → Option (List Piece)
if_empty true n = Some (one Unsafe ++ one (Text (constant_sql n)))
if_empty false n = None

abbrev pub among_whole : ArrayComparison → Bool → Bool → List FlatKind → Option (List Piece)
among_whole PgStyleArrayComparison n values ks = None
among_whole AnsiSqlArrayComparison n false ks = None
among_whole AnsiSqlArrayComparison n true ks = if_empty (ends_in_values ks) n

abbrev pub values_whole : ArrayComparison → SqlType → List FlatKind → Option (List Piece)
values_whole PgStyleArrayComparison t ks = Some (one (Bind (ManyValues t (values_in ks))))
values_whole AnsiSqlArrayComparison t ks = None

-- what is written of a node of that kind over nodes of those kinds, where it is not written node by node
abbrev pub whole_of : Dialect → FlatKind → List FlatKind → Option (List Piece)
whole_of d (K.Column a c) ks = Some (leaf_pieces (record { alias = a; table = c.table }) c.decl)
whole_of d (K.Value t v) ks = Some (one (Bind (OneValue t v)))
whole_of d K.CountStar ks = Some (one (Text (codes "COUNT(*)")))
whole_of d (K.Among n values) ks = among_whole (array d) n values ks
whole_of d (K.Values t) ks = values_whole (array d) t ks
whole_of d (K.Element t v) ks = Some (one (Bind (OneValue t v)))
whole_of d (K.Table s) ks = Some (table_source_pieces s.table s.only s.sample)
whole_of d (K.Alias a) ks = Some (alias_pieces a.name a.table)
whole_of d (K.Position p) ks = Some (position_pieces p.column p.direction)
whole_of d _ ks = None

-- the kinds of the nodes of trees, in their order
abbrev mutual
  pub kinds : Rose FlatKind → List FlatKind
  kinds (node k ts) = k ∷ kinds_of ts

  pub kinds_of : Roses FlatKind → List FlatKind
  kinds_of none = []
  kinds_of (more t ts) = kinds t ++ kinds_of ts

abbrev pub whole : Dialect → FlatKind → Roses FlatKind → Option (List Piece)
whole d k ts = whole_of d k (kinds_of ts)

-- ---- nodes that are written node by node

-- they write nothing of their own
abbrev pub is_list : FlatKind → Bool
is_list K.List = true
is_list K.Nullable = true
is_list _ = false

-- an array as it is; values one by one, of which a statement once prepared takes neither more nor fewer
abbrev pub among_open : ArrayComparison → Bool → List Piece
among_open PgStyleArrayComparison values = one (Text (codes "("))
among_open AnsiSqlArrayComparison false = one (Text (codes "("))
among_open AnsiSqlArrayComparison true = one Unsafe ++ one (Text (codes "("))

abbrev pub join_open : Bool → List Piece
join_open false = []
join_open true = one (Text (codes "("))

abbrev pub before : Dialect → FlatKind → List Piece
before d (K.Unary u) = one (Text (unary_before u))
before d K.Count = one (Text (codes "COUNT("))
before d (K.Compared by) = one (Text (codes "("))
before d (K.Joined by) = one (Text (codes "("))
before d K.Exists = one (Text (codes "EXISTS ("))
before d K.Single = one (Text (codes "("))
before d (K.Among n values) = among_open (array d) values
before d (K.Join k on) = join_open on
before d K.On = one (Text (codes " ON "))
before d K.From = one (Text (codes " FROM "))
before d K.DistinctOn = one (Text distinct_on_open)
before d K.Where = one (Text (codes " WHERE "))
before d K.GroupBy = one (Text group_by)
before d K.Having = one (Text (codes " HAVING "))
before d K.OrderBy = one (Text order_by_sql)
before d K.Positions = one (Text order_by_sql)
before d (K.Select s) = one (Text (codes "SELECT ")) ++ distinct_word s.unique
before d K.Side = one (Text (side_open d))
before d _ = []

abbrev pub comma : List Piece
comma = one (Text (codes ", "))

-- before each child but the first
abbrev pub behind_first : List Piece → ℕ → List Piece
behind_first ps zero = []
behind_first ps (suc j) = ps

-- before the second child alone
abbrev pub at_second : List Piece → ℕ → List Piece
at_second ps zero = []
at_second ps (suc zero) = ps
at_second ps (suc (suc j)) = []

abbrev pub between : Dialect → FlatKind → ℕ → List Piece
between d (K.Compared by) j = at_second (one (Text (comparison_sql by))) j
between d (K.Joined by) j = at_second (one (Text (logic_sql by))) j
between d (K.Among n values) j = at_second (one (Text (among_sql d n))) j
between d (K.Values t) j = behind_first comma j
between d (K.Join k on) j = at_second (one (Text (join_sql k))) j
between d K.OrderBy j = behind_first comma j
between d K.Positions j = behind_first comma j
between d (K.Combination c) j = at_second (one (Text (combinator_sql c.combinator)) ++ all_pieces c.duplicates) j
between d _ j = []

abbrev pub after : Dialect → FlatKind → List Piece
after d (K.Unary u) = one (Text (unary_after u))
after d K.Count = one (Text (codes ")"))
after d (K.Compared by) = one (Text (codes ")"))
after d (K.Joined by) = one (Text (codes ")"))
after d K.Exists = one (Text (codes ")"))
after d K.Single = one (Text (codes ")"))
after d (K.Among n values) = one (Text (codes "))"))
after d K.On = one (Text (codes ")"))
after d K.DistinctOn = one (Text (codes ") "))
after d (K.Item by) = direction_pieces by
after d (K.Select s) = behind_select d s.rows s.form
after d K.Side = one (Text (codes ")"))
after d (K.Combination c) = limit_offset_pieces d false c.rows.limit_clause c.rows.offset_clause
after d _ = []

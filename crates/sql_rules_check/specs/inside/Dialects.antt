-- What a dialect lacks, by a test of one node.
use Rattle.std.specs.Prelude.{Bool, true, false, not, ◌&&◌, ◌||◌}
use Rattle.std.specs.Option.{is_none, is_some}
use Rattle.sql_dialect.specs.Supports.{combines}
use Rattle.sql_dialect.specs.contracts.backend.DialectPartialEq.TheImpl as dialect_eq
use Rattle.sql_dialect.specs.declared.backend.Dialect.{Dialect}
use Rattle.sql_dialect.specs.declared.backend.Dialect.TheVariants.{Pg, Mysql, Sqlite, Bracket}
use Rattle.sql_leaf.specs.declared.limit_offset.LimitOffsetClause.{LimitOffsetClause}
use Rattle.sql_leaf.specs.declared.locking.LockMode.TheVariants.{ForUpdate, ForNoKeyUpdate, ForShare, ForKeyShare}
use Rattle.sql_leaf.specs.declared.locking.LockingClause.{LockingClause}
use Rattle.sql_leaf.specs.declared.locking.LockingClause.TheVariants.{NoLockingClause, LockingClause as Locked}
use Rattle.sql_flat.specs.declared.kind.FlatKind.{FlatKind}
use Rattle.sql_flat.specs.declared.kind.FlatKind.TheVariants as K
use Rattle.sql_flat.specs.declared.kind.Form.{Form}
use Rattle.sql_flat.specs.declared.kind.Form.TheVariants as form
use Rattle.sql_flat.specs.declared.kind.Uniqueness.{Uniqueness}
use Rattle.sql_flat.specs.declared.kind.Uniqueness.TheVariants as unique

abbrev pub same_dialect : Dialect → Dialect → Bool
same_dialect = (dialect_eq.ghosts).eq

abbrev pub is_other : Dialect → Bool
is_other Pg = false
is_other Mysql = true
is_other Sqlite = true
is_other Bracket = true

abbrev pub is_mysql : Dialect → Bool
is_mysql Pg = false
is_mysql Mysql = true
is_mysql Sqlite = false
is_mysql Bracket = false

abbrev pub lacks_lock : Dialect → LockingClause → Bool
lacks_lock d NoLockingClause = false
lacks_lock Pg (Locked m w) = false
lacks_lock Mysql (Locked ForUpdate w) = false
lacks_lock Mysql (Locked ForNoKeyUpdate w) = true
lacks_lock Mysql (Locked ForShare w) = false
lacks_lock Mysql (Locked ForKeyShare w) = true
lacks_lock Sqlite (Locked m w) = true
lacks_lock Bracket (Locked m w) = true

abbrev pub lacks_form : Dialect → Form → Bool
lacks_form d (form.Unboxed l) = lacks_lock d l
lacks_form d (form.Boxed e n) = not (same_dialect d e)

abbrev pub is_unboxed : Form → Bool
is_unboxed (form.Unboxed l) = true
is_unboxed (form.Boxed e n) = false

abbrev pub is_distinct_on : Uniqueness → Bool
is_distinct_on unique.Every = false
is_distinct_on unique.Distinct = false
is_distinct_on unique.DistinctOn = true

abbrev pub is_offset_alone : LimitOffsetClause → Bool
is_offset_alone c = is_none c.limit_clause && is_some c.offset_clause

abbrev pub is_unsupported : Dialect → FlatKind → Bool
is_unsupported d (K.Table t) = is_other d && (t.only || is_some t.sample)
is_unsupported d (K.Select s) =
    (is_other d && is_distinct_on s.unique)
    || (lacks_form d s.form || (is_mysql d && (is_unboxed s.form && is_offset_alone s.rows)))
is_unsupported d (K.Combination c) =
    not (combines d c.combinator c.duplicates) || (is_mysql d && is_offset_alone c.rows)
is_unsupported d _ = false

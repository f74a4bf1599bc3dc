-- What parts bind.
use Rattle.std.proofs.Common.{◌≡◌, ℕ, ℤ, Bool, true, false, List, [], ◌∷◌, ◌++◌, Option, None, Some, refl, ap, ◌∙◌}
use Rattle.sql_schema.specs.Columns.{DeclaredColumn}
use Rattle.sql_schema.specs.declared.declaration.TableDecl.{TableDecl}
use Rattle.sql_dialect.specs.declared.backend.Dialect.{Dialect}
use Rattle.sql_dialect.specs.declared.backend.Dialect.TheVariants.{Pg, Mysql, Sqlite, Bracket}
use Rattle.sql_pass.specs.Bounds.{of_i16}
use Rattle.sql_pass.specs.Parts.{pieces_of_option}
use Rattle.sql_pass.specs.Paths.{dotted, path_pieces, column_pieces}
use Rattle.sql_pass.specs.Pieces.{Piece, one, values_of, is_safe}
use Rattle.sql_leaf.specs.Limits.{limit_offset_pieces}
use Rattle.sql_leaf.specs.Locks.{locking_pieces}
use Rattle.sql_leaf.specs.Positions.{direction_pieces, position_pieces}
use Rattle.sql_leaf.specs.Sources.{alias_pieces, sample_pieces, seed_pieces, table_source_pieces}
use Rattle.sql_leaf.specs.declared.locking.LockMode.{LockMode}
use Rattle.sql_leaf.specs.declared.locking.LockingClause.{LockingClause}
use Rattle.sql_leaf.specs.declared.locking.LockingClause.TheVariants.{NoLockingClause, LockingClause as Locked}
use Rattle.sql_leaf.specs.declared.locking.Modifier.{Modifier}
use Rattle.sql_leaf.specs.declared.locking.Modifier.TheVariants.{NoModifier, SkipLocked, NoWait}
use Rattle.sql_leaf.specs.declared.position.Direction.{Direction}
use Rattle.sql_leaf.specs.declared.position.Direction.TheVariants as direction
use Rattle.sql_leaf.specs.declared.position.OrderColumn.{OrderColumn}
use Rattle.sql_leaf.specs.declared.table_source.Tablesample.{Tablesample}
use Rattle.sql_flat_text.specs.inside.Kept.{IsPlain, row_values, sample_values, seed_values}

-- ---- parts that bind nothing

path-plain : (schema : Option (List ℕ)) (name : List ℕ) (ps : List Piece) → IsPlain ps
    → IsPlain (path_pieces schema name ++ ps)
unfolding one
path-plain None name ps h = h
path-plain (Some schema) name ps h = h

pub column-plain : (c : DeclaredColumn) → IsPlain (column_pieces c)
unfolding one
column-plain c = path-plain c.table.schema c.table.sql_name (dotted c.decl.sql_name) (refl, refl)

pub alias-plain : (name : List ℕ) (t : TableDecl) → IsPlain (alias_pieces name t)
unfolding one
alias-plain name t = path-plain t.schema t.sql_name _ (refl, refl)

pub direction-plain : (by : Direction) → IsPlain (direction_pieces by)
unfolding one
direction-plain direction.None = (refl, refl)
direction-plain direction.Asc = (refl, refl)
direction-plain direction.Desc = (refl, refl)

pub position-plain : (column : OrderColumn) (by : Direction) → IsPlain (position_pieces column by)
unfolding one
position-plain column direction.None = (refl, refl)
position-plain column direction.Asc = (refl, refl)
position-plain column direction.Desc = (refl, refl)

locked-plain : (m : LockMode) (by : Modifier) → IsPlain (locking_pieces (Locked m by))
unfolding one
locked-plain m NoModifier = (refl, refl)
locked-plain m SkipLocked = (refl, refl)
locked-plain m NoWait = (refl, refl)

pub locking-plain : (l : LockingClause) → IsPlain (locking_pieces l)
locking-plain NoLockingClause = (refl, refl)
locking-plain (Locked m by) = locked-plain m by

-- ---- limits and offsets

pub rows-values : (d : Dialect) (boxed : Bool) (l o : Option ℤ) → values_of (limit_offset_pieces d boxed l o)
    ≡ row_values d l o
unfolding one
rows-values Pg boxed None None = refl
rows-values Mysql boxed None None = refl
rows-values Sqlite boxed None None = refl
rows-values Bracket boxed None None = refl
rows-values Pg boxed None (Some o) = refl
rows-values Mysql false None (Some o) = refl
rows-values Mysql true None (Some o) = refl
rows-values Sqlite boxed None (Some o) = refl
rows-values Bracket boxed None (Some o) = refl
rows-values Pg boxed (Some l) None = refl
rows-values Mysql boxed (Some l) None = refl
rows-values Sqlite boxed (Some l) None = refl
rows-values Bracket boxed (Some l) None = refl
rows-values Pg boxed (Some l) (Some o) = refl
rows-values Mysql boxed (Some l) (Some o) = refl
rows-values Sqlite boxed (Some l) (Some o) = refl
rows-values Bracket boxed (Some l) (Some o) = refl

pub rows-safe : (d : Dialect) (boxed : Bool) (l o : Option ℤ) → is_safe (limit_offset_pieces d boxed l o) ≡ true
unfolding one
rows-safe d boxed None None = refl
rows-safe Pg boxed None (Some o) = refl
rows-safe Mysql false None (Some o) = refl
rows-safe Mysql true None (Some o) = refl
rows-safe Sqlite boxed None (Some o) = refl
rows-safe Bracket boxed None (Some o) = refl
rows-safe Pg boxed (Some l) None = refl
rows-safe Mysql boxed (Some l) None = refl
rows-safe Sqlite boxed (Some l) None = refl
rows-safe Bracket boxed (Some l) None = refl
rows-safe Pg boxed (Some l) (Some o) = refl
rows-safe Mysql boxed (Some l) (Some o) = refl
rows-safe Sqlite boxed (Some l) (Some o) = refl
rows-safe Bracket boxed (Some l) (Some o) = refl

-- ---- tables

path-values : (schema : Option (List ℕ)) (name : List ℕ) (ps : List Piece) → values_of (path_pieces schema name ++ ps)
    ≡ values_of ps
unfolding one
path-values None name ps = refl
path-values (Some schema) name ps = refl

path-safe : (schema : Option (List ℕ)) (name : List ℕ) (ps : List Piece) → is_safe (path_pieces schema name ++ ps)
    ≡ is_safe ps
unfolding one
path-safe None name ps = refl
path-safe (Some schema) name ps = refl

seed-values : (n : Option ℤ) → values_of (seed_pieces n) ≡ seed_values n
unfolding one
seed-values None = refl
seed-values (Some n) = refl

sampled-values : (schema : Option (List ℕ)) (name : List ℕ) (s : Option Tablesample)
    → values_of (path_pieces schema name ++ pieces_of_option sample_pieces s) ≡ sample_values s
unfolding one
sampled-values schema name None = path-values schema name []
sampled-values schema name (Some s) = path-values schema name _ ∙ ap (λ vs. of_i16 s.portion ∷ vs) (seed-values s.seed)

pub table-values : (t : TableDecl) (only : Bool) (s : Option Tablesample) → values_of (table_source_pieces t only s)
    ≡ sample_values s
unfolding one
table-values t false s = sampled-values t.schema t.sql_name s
table-values t true s = sampled-values t.schema t.sql_name s

seed-safe : (n : Option ℤ) → is_safe (seed_pieces n) ≡ true
unfolding one
seed-safe None = refl
seed-safe (Some n) = refl

sampled-safe : (schema : Option (List ℕ)) (name : List ℕ) (s : Option Tablesample)
    → is_safe (path_pieces schema name ++ pieces_of_option sample_pieces s) ≡ true
unfolding one
sampled-safe schema name None = path-safe schema name []
sampled-safe schema name (Some s) = path-safe schema name _ ∙ seed-safe s.seed

pub table-safe : (t : TableDecl) (only : Bool) (s : Option Tablesample) → is_safe (table_source_pieces t only s) ≡ true
unfolding one
table-safe t false s = sampled-safe t.schema t.sql_name s
table-safe t true s = sampled-safe t.schema t.sql_name s

pub column-none : (c : DeclaredColumn) → values_of (column_pieces c) ≡ []
column-none c = (column-plain c).0

pub column-safe : (c : DeclaredColumn) → is_safe (column_pieces c) ≡ true
column-safe c = (column-plain c).1

pub alias-none : (name : List ℕ) (t : TableDecl) → values_of (alias_pieces name t) ≡ []
alias-none name t = (alias-plain name t).0

pub alias-safe : (name : List ℕ) (t : TableDecl) → is_safe (alias_pieces name t) ≡ true
alias-safe name t = (alias-plain name t).1

pub direction-none : (by : Direction) → values_of (direction_pieces by) ≡ []
direction-none by = (direction-plain by).0

pub direction-safe : (by : Direction) → is_safe (direction_pieces by) ≡ true
direction-safe by = (direction-plain by).1

pub position-none : (column : OrderColumn) (by : Direction) → values_of (position_pieces column by) ≡ []
position-none column by = (position-plain column by).0

pub position-safe : (column : OrderColumn) (by : Direction) → is_safe (position_pieces column by) ≡ true
position-safe column by = (position-plain column by).1

pub locking-none : (l : LockingClause) → values_of (locking_pieces l) ≡ []
locking-none l = (locking-plain l).0

pub locking-safe : (l : LockingClause) → is_safe (locking_pieces l) ≡ true
locking-safe l = (locking-plain l).1

pub ruleset plain = (
  column-none,
  column-safe,
  alias-none,
  alias-safe,
  direction-none,
  direction-safe,
  position-none,
  position-safe,
  locking-none,
  locking-safe,
)

pub ruleset kept = (rows-values, rows-safe, table-values, table-safe)

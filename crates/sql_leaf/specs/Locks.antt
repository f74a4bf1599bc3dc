-- Locks (PostgreSQL, SELECT, The Locking Clause; MySQL, Locking Reads).
use Rattle.std.specs.Prelude.{ℕ, List, [], ◌++◌, codes}
use Rattle.sql_pass.specs.Pieces.{Piece, one, Text}
use Rattle.sql_leaf.specs.declared.locking.LockMode.{LockMode}
use Rattle.sql_leaf.specs.declared.locking.LockMode.TheVariants.{ForUpdate, ForNoKeyUpdate, ForShare, ForKeyShare}
use Rattle.sql_leaf.specs.declared.locking.LockingClause.{LockingClause}
use Rattle.sql_leaf.specs.declared.locking.LockingClause.TheVariants.{NoLockingClause, LockingClause as Locked}
use Rattle.sql_leaf.specs.declared.locking.Modifier.{Modifier}
use Rattle.sql_leaf.specs.declared.locking.Modifier.TheVariants.{NoModifier, SkipLocked, NoWait}

abbrev pub lock_sql : LockMode → List ℕ
lock_sql ForUpdate = codes " FOR UPDATE"
lock_sql ForNoKeyUpdate = codes " FOR NO KEY UPDATE"
lock_sql ForShare = codes " FOR SHARE"
lock_sql ForKeyShare = codes " FOR KEY SHARE"

unfoldable pub skip_locked : List ℕ
skip_locked = codes " SKIP LOCKED"

abbrev pub modifier_pieces : Modifier → List Piece
modifier_pieces NoModifier = []
modifier_pieces SkipLocked = one (Text skip_locked)
modifier_pieces NoWait = one (Text (codes " NOWAIT"))

-- ` FOR UPDATE SKIP LOCKED`
abbrev pub locking_pieces : LockingClause → List Piece
locking_pieces NoLockingClause = []
locking_pieces (Locked mode modifier) = one (Text (lock_sql mode)) ++ modifier_pieces modifier

-- The contents of a statement cache: different pairs of a dialect and a key, the one that was used last first, at most as many as
-- its capacity (diesel, `connection::statement_cache`, whose `StatementCacheKey` tells statements apart). A key is that of a
-- statement with an id, so equal pairs are requests of one shape.
use Rattle.std.specs.Prelude.{◌≡◌, ◌⊎◌, min, ℕ, ◌+◌, ◌-◌, ◌^◌, List, ◌∷◌, ◌++◌, take, Contains, Some, Result, OnOk, OnErr}
use Rattle.sql_schema.specs.Declarations.{Declarations}
use Rattle.sql_dialect.specs.declared.backend.Dialect.{Dialect}
use Rattle.sql_node.specs.Tree.{Statement}
use Rattle.sql_key.specs.Keys.{id_of}
use Rattle.sql_rules_law.specs.Fitting.{ValuesFit}
use Rattle.sql_rows.specs.declared.cache.RequestKey.{RequestKey}

-- the pairs, and how often a call found its own
pub record Entries : Type 0 where
  pub schema : Declarations
  pub keys : List RequestKey
  pub capacity : ℕ
  pub hits : ℕ

-- the pair that a call looks up: the statement has an id, and its values fit
pub record IsLookedUp (d : Dialect) (s : Statement) (pair : RequestKey) : Type 0 where
  pub fit : ValuesFit s
  pub id : id_of s ≡ Some pair.key
  pub dialect : pair.dialect ≡ d

-- one more, unless it stands at the last value
abbrev pub one_more : ℕ → ℕ
one_more n = min (n + 1) (2 ^ 64 - 1)

-- the pair was there: it comes to the front, and the hit counts
pub record IsHit (before : Entries) (pair : RequestKey) (after : Entries) : Type 0 where
  pub front : List RequestKey
  pub back : List RequestKey
  pub was : before.keys ≡ front ++ pair ∷ back
  pub is : after ≡ record before { keys = pair ∷ (front ++ back); hits = one_more before.hits }

-- the pair was not there: it is put first, and a full list loses its last
abbrev pub put : Entries → RequestKey → Entries
put before pair = record before { keys = pair ∷ take (before.capacity - 1) before.keys }

-- The change that a call makes to the entries. Out of memory leaves them as they were, or, where the pair was there, as after the hit.
pub record IsNext {A E : Type 0} (d : Dialect) (s : Statement) (before : Entries) (answer : Result A E) (after : Entries) : Type 0 where
  pub found : (pair : RequestKey) → IsLookedUp d s pair → Contains before.keys pair
      → OnOk answer (IsHit before pair after) × OnErr answer ((after ≡ before) ⊎ IsHit before pair after)
  pub not_found : (pair : RequestKey) → IsLookedUp d s pair → ¬ Contains before.keys pair
      → OnOk answer (after ≡ put before pair) × OnErr answer (after ≡ before)
  pub not_looked_up : ((pair : RequestKey) → ¬ IsLookedUp d s pair) → after ≡ before

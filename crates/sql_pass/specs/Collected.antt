-- The contents of a collector: the types of the binds and their bytes, in order, None for a NULL.
use Rattle.std.specs.Prelude.{ℕ, List, ◌∷◌, [], ◌++◌, map, Option, Some, None, Vec}
use Rattle.std.specs.declared.alloc.Global.{Global}
use Rattle.sql_dialect.specs.declared.backend.Dialect.{Dialect}
use Rattle.sql_pass.specs.Bounds.{type_of}
use Rattle.sql_pass.specs.Bytes.{bytes_of}
use Rattle.sql_pass.specs.declared.collect.BindType.{BindType}
use Rattle.sql_pass.specs.declared.value.Bound.{Bound}

pub record Collected : Type 0 where
  pub types : List BindType
  pub bytes : List (Option (List ℕ))

-- the same with one more bind
abbrev pub with_bind : Collected → BindType → Option (List ℕ) → Collected
with_bind c t b = record { types = c.types ++ t ∷ []; bytes = c.bytes ++ b ∷ [] }

-- the same with more values at its end
abbrev pub with_values : Dialect → Collected → List Bound → Collected
with_values d c vs = record { types = c.types ++ map type_of vs; bytes = c.bytes ++ map (bytes_of d) vs }

-- a vector as its bytes
abbrev pub plain_one : Option (Vec ℕ Global) → Option (List ℕ)
plain_one None = None
plain_one (Some v) = Some v.items

abbrev pub plain : List (Option (Vec ℕ Global)) → List (Option (List ℕ))
plain = map plain_one

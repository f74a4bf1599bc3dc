-- The names of a path.
use Rattle.std.specs.Prelude.{ℕ, List, [], ◌∷◌}
use Rattle.sql_grammar.specs.Tree.{Name}

pub record Path : Type 0 where
  pub first : Name
  pub more : List Name

abbrev pub prefixed : Name → Path → Path
prefixed a p = record { first = a; more = p.first ∷ p.more }

-- names before a path, the nearest first
abbrev pub prefixed_by : List Name → Path → Path
prefixed_by [] p = p
prefixed_by (a ∷ more) p = prefixed_by more (prefixed a p)

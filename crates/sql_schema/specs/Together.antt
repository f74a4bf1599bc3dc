-- Which tables may stand in one statement (diesel, `allow_tables_to_appear_in_same_query!`).
use Rattle.std.specs.Prelude.{ℕ, List, Bool, ◌&&◌, ◌||◌}
use Rattle.std.specs.List.{list_any}
use Rattle.std.specs.Str.{bytes_eq}
use Rattle.sql_schema.specs.declared.declaration.TableDecl.{TableDecl}

-- the pair has the names of the two, in either order
abbrev pub pair_names : List ℕ × List ℕ → TableDecl → TableDecl → Bool
pair_names p a b = (bytes_eq p.0 a.name && bytes_eq p.1 b.name) || (bytes_eq p.0 b.name && bytes_eq p.1 a.name)

abbrev pub may_stand_together : List (List ℕ × List ℕ) → TableDecl → TableDecl → Bool
may_stand_together pairs a b = list_any (λ p. pair_names p a b) pairs

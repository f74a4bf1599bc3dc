-- The names of a path in the tree of a statement.
use Rattle.std.specs.Prelude.{ℕ, List, [], ◌∷◌}
use Rattle.sql_grammar.specs.Tree as g
use Rattle.sql_pass.specs.declared.value.Bound.{Bound}

abbrev pub names_in : g.Expression Bound → List (List ℕ)
names_in (g.Path name names) = name ∷ names
names_in e = []

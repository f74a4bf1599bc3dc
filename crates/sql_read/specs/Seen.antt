-- A tree of the program, seen as the grammar's, and when a text has no reading.
use Rattle.std.specs.Prelude.{ℕ, List}
use Rattle.sql_dialect.specs.declared.backend.Dialect.{Dialect}
use Rattle.sql_grammar.specs.MarkTree as t
use Rattle.sql_grammar.specs.Reading.{IsReading}
use Rattle.sql_read.specs.declared.tree.Tree.{Tree}
use Rattle.sql_read_tree.specs.View.{query_tree}

abbrev pub tree_of : Tree → t.Query
tree_of tree = query_tree tree.query.value

-- no tree is a reading of the text in the dialect
abbrev pub HasNoReading : Dialect → List ℕ → Type 0
HasNoReading d text = (q : t.Query) → IsReading d text q → ⊥

-- How many placeholders stand in lists and in parts of a query, and a count that stops at the greatest number.
use Rattle.std.specs.Prelude.{ℕ, ◌+◌, List, [], ◌∷◌, length, if◌then◌else◌, nat_lt}
use Rattle.sql_grammar.specs.MarkTree as t
use Rattle.sql_grammar.specs.Values as v
use Rattle.sql_read_tree.specs.View.{Ordered}

unfoldable pub capped : ℕ → ℕ
capped n = if nat_lt n 18446744073709551615 then n else 18446744073709551615

abbrev pub in_list : List t.Expression → ℕ
in_list [] = 0
in_list (e ∷ es) = length (v.values_expression e) + in_list es

abbrev pub in_items : List Ordered → ℕ
in_items [] = 0
in_items (i ∷ is) = length (v.values_expression i.0) + in_items is

-- the lists of a query

abbrev pub selected : t.Query → List t.Mark
selected (t.Select u es f w g h o p l) = v.values_expressions es
selected (t.Combined a by all b o p) = []

abbrev pub grouped : t.Query → List t.Mark
grouped (t.Select u es f w g h o p l) = v.values_maybe_expressions g
grouped (t.Combined a by all b o p) = []

abbrev pub ordered : t.Query → List t.Mark
ordered (t.Select u es f w g h o p l) = v.values_maybe_items o
ordered (t.Combined a by all b o p) = []

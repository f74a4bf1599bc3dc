-- The tables of lists and of the parts of a query, and what an alias hides.
use Rattle.std.specs.Prelude.{ℕ, ◌+◌, List, [], ◌∷◌, ◌++◌, length, Option, Some, None}
use Rattle.sql_grammar.specs.MarkTree as t
use Rattle.sql_grammar.specs.MarkTree.{Name}
use Rattle.sql_read_tree.specs.View.{Ordered}
use Rattle.sql_audit_resolution.specs.Leaves as l
use Rattle.sql_audit_resolution.specs.Leaves.{Backwards}

abbrev pub in_list : List t.Expression → ℕ
in_list [] = 0
in_list (e ∷ es) = length (l.tables_expression e) + in_list es

abbrev pub in_items : List Ordered → ℕ
in_items [] = 0
in_items (i ∷ is) = length (l.tables_expression i.0) + in_items is

abbrev pub selected : t.Query → ℕ
selected (t.Select u es f w g h o p k) = length (l.tables_expressions es)
selected (t.Combined a by all b o p) = 0

-- what stands before a select statement's FROM
abbrev pub before_from : t.Distinctness → t.Query → ℕ
before_from d q = length (l.tables_distinct d) + selected q

abbrev pub grouped : t.Query → ℕ
grouped (t.Select u es f w g h o p k) = length (l.tables_group g)
grouped (t.Combined a by all b o p) = 0

abbrev pub ordered : t.Query → ℕ
ordered (t.Select u es f w g h o p k) = length (l.tables_order o)
ordered (t.Combined a by all b o p) = 0

-- the path by which columns name a leaf
abbrev pub exposed_by : Option Name → Backwards → Backwards
exposed_by None table = table
exposed_by (Some alias) table = alias ∷ []

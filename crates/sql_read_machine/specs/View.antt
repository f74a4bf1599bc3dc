-- The program's stack, seen as the machine's items.
use Rattle.std.specs.Prelude.{◌≡◌, ℕ, List, [], ◌∷◌, map, reverse, string_bytes, Option, Some, None}
use Rattle.sql_grammar.specs.MarkTree as t
use Rattle.sql_grammar.specs.Token as token
use Rattle.sql_grammar.proofs.Machine as m
use Rattle.sql_read_lexer.specs.View.{token_of, comparison_of}
use Rattle.sql_read_tree.specs.View.{logic_of, direction_of, kind_of, operator_of, wait_of, mode_of, lock_of, sample_of, page_of, place_of, items_of, places_of, group_of, order_of, by_places_of, expression_tree, item_tree, source_tree, distinctness_tree, query_tree, maybe_tree, maybe_source_tree}
use Rattle.sql_read_machine.specs.declared.entry.Items.{Items}
use Rattle.sql_read_machine.specs.declared.entry.Places.{Places}
use Rattle.sql_read_machine.specs.declared.entry.Clauses.{Clauses}
use Rattle.sql_read_machine.specs.declared.entry.Right.{Right}
use Rattle.sql_read_machine.specs.declared.entry.Right.TheVariants as r
use Rattle.sql_read_machine.specs.declared.entry.Stack.{Stack}
use Rattle.sql_read_machine.specs.declared.entry.Entry.{Entry}
use Rattle.sql_read_machine.specs.declared.entry.Entry.TheVariants as e

abbrev pub items_seen : Items → t.Items
items_seen i = items_of (item_tree i.first) (map item_tree (reverse i.later.items))

abbrev pub places_seen : Places → t.Places
places_seen p = places_of (place_of p.first) (map place_of (reverse p.later.items))

abbrev pub right_of : Right → m.Rest
right_of (r.Compares by a) = m.Compares (comparison_of by) (expression_tree a)
right_of (r.Joins by a) = m.Joins (logic_of by) (expression_tree a)
right_of (r.IsNull b) = m.IsNull b
right_of (r.IsIn b is) = m.IsIn b (items_seen is)
right_of (r.IsInQuery b q) = m.IsInQuery b (query_tree q.value)
right_of (r.Equals n) = m.Equals (string_bytes n)
right_of (r.JoinsTo k s a) = m.JoinsTo (kind_of k) (source_tree s) (expression_tree a)

abbrev pub clauses_of : Clauses → m.Clauses
clauses_of c =
    record {
      source = maybe_source_tree c.source;
      filter = maybe_tree c.filter;
      group = group_of (map expression_tree c.group.items);
      having = maybe_tree c.having;
      order = order_of (map item_tree c.order.items);
      places = by_places_of (map place_of c.places.items);
      page = page_of c.page;
      lock = lock_of c.lock;
    }

abbrev pub entry_of : Entry → m.Item
entry_of (e.Raw x) = m.Raw (token_of x)
entry_of (e.Dotted n) = m.Dotted n.first n.more
entry_of (e.E a) = m.E (expression_tree a)
entry_of (e.Listed is) = m.Listed (items_seen is)
entry_of (e.Numbered ps) = m.Numbered (places_seen ps)
entry_of (e.Ordered by) = m.Ordered (direction_of by)
entry_of (e.Row is) = m.Row (items_seen is)
entry_of e.StarRow = m.StarRow
entry_of (e.RightPart x) = m.Right (right_of x)
entry_of (e.Q q) = m.Q (query_tree q.value)
entry_of (e.Combines by all q) = m.Combines (operator_of by) all (query_tree q.value)
entry_of (e.Side q) = m.Side (query_tree q.value)
entry_of (e.FromQuery q) = m.FromQuery (query_tree q.value)
entry_of (e.S s) = m.S (source_tree s)
entry_of (e.AliasAs a) = m.AliasAs (string_bytes a)
entry_of (e.SampledBy s) = m.SampledBy (sample_of s)
entry_of (e.Seeded p) = m.Seeded p
entry_of (e.OnExpression a) = m.OnExpression (expression_tree a)
entry_of (e.OnRow is) = m.OnRow (items_seen is)
entry_of (e.JoinTo s a) = m.JoinTo (source_tree s) (expression_tree a)
entry_of (e.Distinctly u) = m.Distinctly (distinctness_tree u)
entry_of (e.Waiting w) = m.Waiting (wait_of w)
entry_of (e.Locking by w) = m.Locking (mode_of by) (wait_of w)
entry_of e.OnlyLast = m.OnlyLast
entry_of e.RowsOnly = m.RowsOnly
entry_of (e.Fetches p) = m.Fetches p
entry_of (e.Tail c) = m.Tail (clauses_of c.value)

-- the last entry is the top
unfoldable pub stack_of : Stack → m.Stack
stack_of s = map entry_of (reverse s.entries.items)

-- what a pop says
abbrev pub Popped : m.Stack → Option Entry → m.Stack → Type 0
Popped before None after = (before ≡ []) × (after ≡ [])
Popped before (Some x) after = before ≡ entry_of x ∷ after

-- what is taken from the top of the stack, and the stack after it
abbrev pub Took : {A : Type 0} → A × m.Stack → A → m.Stack → Type 0
Took both a after = (a ≡ both.0) × (after ≡ both.1)

-- the stack that tokens make, from the last to the first, of one that is there
abbrev pub fold_on : m.Stack → List token.Token → m.Stack
fold_on σ [] = σ
fold_on σ (x ∷ xs) = m.step x (fold_on σ xs)

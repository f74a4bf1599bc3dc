-- The placeholders of lists, and of a query in its parts.
use Rattle.std.proofs.Common.{◌≡◌, ◌+◌, List, [], ◌∷◌, length, length-append, refl, arith}
use Rattle.sql_read_tree.specs.Counts as counts
use Rattle.sql_grammar.specs.MarkTree as t
use Rattle.sql_grammar.specs.Values as v
use Rattle.sql_read_tree.specs.View.{Ordered, expressions_of, group_of, items_of, order_of}

pub expressions_count : (e : t.Expression) (es : List t.Expression)
    → length (v.values_expressions (expressions_of e es)) ≡ length (v.values_expression e) + counts.in_list es
expressions_count e [] = omega arith
expressions_count e (f ∷ fs) =
    let more = expressions_count f fs in rw length-append (omega (arith, more))

pub group_count : (es : List t.Expression) → length (v.values_maybe_expressions (group_of es)) ≡ counts.in_list es
group_count [] = refl
group_count (e ∷ es) = expressions_count e es

items_count : (i : Ordered) (is : List Ordered)
    → length (v.values_items (items_of i is)) ≡ length (v.values_expression i.0) + counts.in_items is
items_count i [] = omega arith
items_count i (j ∷ js) = let more = items_count j js in rw length-append (omega (arith, more))

pub order_count : (is : List Ordered) → length (v.values_maybe_items (order_of is)) ≡ counts.in_items is
order_count [] = refl
order_count (i ∷ is) = items_count i is

pub query_count : (q : t.Query) (u : t.Distinctness) (es : t.Expressions) (s : t.MaybeSource)
    (w : t.MaybeExpression) (g : t.MaybeExpressions) (h : t.MaybeExpression) (o : t.MaybeItems) (p : t.Page)
    (l : t.Lock)
    → q ≡ t.Select u es s w g h o p l
    → length (v.values_query q)
    ≡ length (v.values_distinct u) + (length (counts.selected q) + (length (v.values_maybe_source s)
    + (length (v.values_maybe w) + (length (counts.grouped q) + (length (v.values_maybe h)
    + (length (counts.ordered q) + length (v.values_page p)))))))
query_count q u es s w g h o p l is =
    rw (
      is,
      length-append (v.values_distinct u) _,
      length-append (v.values_expressions es) _,
      length-append (v.values_maybe_source s) _,
      length-append (v.values_maybe w) _,
      length-append (v.values_maybe_expressions g) _,
      length-append (v.values_maybe h) _,
      length-append (v.values_maybe_items o) _,
    )
    refl

-- Two changes of a statement as one.
use Rattle.std.proofs.Common.{◌≡◌, false, Option, Some, None, option_map, refl, ap, ◌∙◌}
use Rattle.std.specs.Prelude.{ℤ}
use Rattle.sql_leaf.specs.declared.limit_offset.LimitOffsetClause.{LimitOffsetClause}
use Rattle.sql_leaf.specs.declared.operator.Logic.TheVariants.{And, Or}
use Rattle.sql_node.specs.Tree.{Statement, select, combination, Expr, MaybeExpr, no_expr, an_expr, joined, Items, no_items, more_items, order_by, Form, unboxed, boxed}
use Rattle.sql_expr.specs.Calls.{beside}
use Rattle.sql_select.specs.Clauses.{Clauses, statement_of, changed, rows_changed}
use Rattle.sql_select.specs.Changes.{columns_as_selected, filtered, items_then, items_in, ordered, ordered_then, selected}
use Rattle.sql_select.specs.Parts.{clauses_of}

pub twice : (f g h : Clauses → Clauses) → ((c : Clauses) → f (g c) ≡ h c) → (s : Statement)
    → changed f (changed g s) ≡ changed h s
twice f g h is (select d e s u w o r x y form m) =
    ap statement_of
    (is (record {
      selection = (d, e);
      source = s;
      distinct = u;
      condition = w;
      order = o;
      rows = r;
      group_by = x;
      having = y;
      form = form;
      marks = m;
    }))
twice f g h is (combination by all a b o r) = refl

pub rows-twice : (f g h : LimitOffsetClause → LimitOffsetClause) → ((r : LimitOffsetClause) → f (g r) ≡ h r)
    → (s : Statement) → rows_changed f (rows_changed g s) ≡ rows_changed h s
rows-twice f g h is (select d e s u w o r x y form m) = ap (λ q. select d e s u w o q x y form m) (is r)
rows-twice f g h is (combination by all a b o r) = ap (λ q. combination by all a b o q) (is r)

columns-twice : (f : Form) → columns_as_selected (columns_as_selected f) ≡ columns_as_selected f
columns-twice (unboxed l) = refl
columns-twice (boxed d n) = refl

abbrev selected_in : Expr → Clauses → Clauses
selected_in e c = record c { selection = (false, e); form = columns_as_selected c.form }

selected_in-twice : (d e : Expr) (c : Clauses) → selected_in e (selected_in d c) ≡ selected_in e c
selected_in-twice d e c = ap (λ f. record c { selection = (false, e); form = f }) (columns-twice c.form)

pub selected-twice : (d e : Expr) (s : Statement) → selected e (selected d s) ≡ selected e s
selected-twice d e = twice (selected_in e) (selected_in d) (selected_in e) (selected_in-twice d e)

pub items-append : (is js ks : Items) → items_then (items_then is js) ks ≡ items_then is (items_then js ks)
items-append no_items js ks = refl
items-append (more_items e by is) js ks = ap (more_items e by) (items-append is js ks)

abbrev ordered_in : Items → Clauses → Clauses
ordered_in is c = record c { order = order_by (items_then (items_in c.order) is) }

ordered_in-append : (is js : Items) (c : Clauses) → ordered_in js (ordered_in is c) ≡ ordered_in (items_then is js) c
ordered_in-append is js c = ap (λ all. record c { order = order_by all }) (items-append (items_in c.order) is js)

pub ordered-append : (is js : Items) (s : Statement)
    → ordered_then js (ordered_then is s) ≡ ordered_then (items_then is js) s
ordered-append is js = twice (ordered_in js) (ordered_in is) (ordered_in (items_then is js)) (ordered_in-append is js)

pub or-filter : (a b : Expr) (s : Statement) → option_map (λ c. c.condition) (clauses_of s) ≡ Some no_expr
    → filtered Or b (filtered And a s) ≡ filtered And (joined Or a b) s
or-filter a b (select d e s u no_expr o r x y form m) is = refl
or-filter a b (select d e s u (an_expr w) o r x y form m) is = cc
or-filter a b (combination by all l r o rows) is = refl

pub filter-append : (a b : Expr) (s : Statement)
    → option_map (λ c. c.condition) (clauses_of (filtered And b (filtered And a s)))
    ≡ option_map (λ c. an_expr (joined And (beside And c.condition a) b)) (clauses_of s)
filter-append a b (select d e s u w o r x y form m) = refl
filter-append a b (combination by all l r o rows) = refl

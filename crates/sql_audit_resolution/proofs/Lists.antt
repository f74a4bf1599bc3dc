-- Lists of expressions, one after the other; and how many leaves stand in them.
use Rattle.std.proofs.Common.{◌≡◌, ℕ, ◌+◌, List, [], ◌∷◌, ◌++◌, length, Bool, refl, sym, ◌∙◌, length-append, arith}
use Rattle.sql_grammar.specs.MarkTree as t
use Rattle.sql_schema.specs.declared.declaration.TableDecl.{TableDecl}
use Rattle.sql_read_tree.specs.View.{Ordered, expressions_of, group_of, items_of, order_of}
use Rattle.sql_audit_resolution.specs.Leaves as l
use Rattle.sql_audit_resolution.specs.Leaves.{Level}
use Rattle.sql_audit_resolution.specs.Uses as u
use Rattle.sql_audit_resolution.specs.inside.After as x
use Rattle.sql_audit_resolution.specs.inside.After.{Known, after}
use Rattle.sql_audit_resolution.specs.inside.Lists as lists
use Rattle.sql_audit_resolution.proofs.Joined.{joined, nothing}

-- ## What is known after them

expressions_after : (ts : List TableDecl) (ls : List Level) (k : Known) (e : t.Expression) (es : List t.Expression)
    → after ts k (l.tables_expressions (expressions_of e es)) (λ n. u.uses_expressions ls n (expressions_of e es))
    ≡ x.after_list ts ls (x.after_expression ts ls k e) es
unfolding x.after_expression
expressions_after ts ls k e [] = refl
expressions_after ts ls k e (f ∷ fs) =
    sym (joined ts k (l.tables_expression e) (l.tables_expressions (expressions_of f fs))
    (λ n. u.uses_expression ls n e) (λ n. u.uses_expressions ls n (expressions_of f fs)))
    ∙ expressions_after ts ls (x.after_expression ts ls k e) f fs

group_after : (ts : List TableDecl) (ls : List Level) (k : Known) (es : List t.Expression)
    → after ts k (l.tables_group (group_of es)) (λ n. u.uses_group ls n (group_of es)) ≡ x.after_list ts ls k es
group_after ts ls k [] = nothing ts k
group_after ts ls k (e ∷ es) = expressions_after ts ls k e es

items_after : (ts : List TableDecl) (ls : List Level) (k : Known) (i : Ordered) (is : List Ordered)
    → after ts k (l.tables_items (items_of i is)) (λ n. u.uses_items ls n (items_of i is))
    ≡ x.after_items ts ls (x.after_expression ts ls k i.0) is
unfolding x.after_expression
items_after ts ls k i [] = refl
items_after ts ls k i (j ∷ js) =
    sym (joined ts k (l.tables_expression i.0) (l.tables_items (items_of j js))
    (λ n. u.uses_expression ls n i.0) (λ n. u.uses_items ls n (items_of j js)))
    ∙ items_after ts ls (x.after_expression ts ls k i.0) j js

order_after : (ts : List TableDecl) (ls : List Level) (k : Known) (is : List Ordered)
    → after ts k (l.tables_order (order_of is)) (λ n. u.uses_order ls n (order_of is)) ≡ x.after_items ts ls k is
order_after ts ls k [] = nothing ts k
order_after ts ls k (i ∷ is) = items_after ts ls k i is

pub every_after : (ts : List TableDecl) (ls : List Level) (k : Known) → x.after_distinct ts ls k t.Every ≡ k
unfolding x.after_distinct
every_after ts ls k = nothing ts k

pub distinct_after : (ts : List TableDecl) (ls : List Level) (k : Known) → x.after_distinct ts ls k t.Distinct ≡ k
unfolding x.after_distinct
distinct_after ts ls k = nothing ts k

pub distinct_on_after : (ts : List TableDecl) (ls : List Level) (k : Known) (e : t.Expression)
    (es : List t.Expression) → x.after_distinct ts ls k (t.DistinctOn (expressions_of e es))
    ≡ x.after_list ts ls (x.after_expression ts ls k e) es
unfolding x.after_distinct
distinct_on_after ts ls k e es = expressions_after ts ls k e es

pub none_after : (ts : List TableDecl) (ls : List Level) (k : Known) → x.after_maybe ts ls k t.NoExpression ≡ k
unfolding x.after_maybe
none_after ts ls k = nothing ts k

pub some_after : (ts : List TableDecl) (ls : List Level) (k : Known) (e : t.Expression)
    → x.after_maybe ts ls k (t.SomeExpression e) ≡ x.after_expression ts ls k e
unfolding x.after_maybe x.after_expression
some_after ts ls k e = refl

pub no_source_after : (ts : List TableDecl) (k : Known) → x.after_from ts k t.NoSource ≡ k
unfolding x.after_from
no_source_after ts k = nothing ts k

pub source_after : (ts : List TableDecl) (k : Known) (s : t.Source)
    → x.after_from ts k (t.SomeSource s) ≡ x.after_source ts k s
unfolding x.after_from x.after_source
source_after ts k s = refl

pub selected_after : (ts : List TableDecl) (ls : List Level) (k : Known) (d : t.Distinctness) (e : t.Expression)
    (es : List t.Expression) (f : t.MaybeSource) (w : t.MaybeExpression) (g : t.MaybeExpressions)
    (h : t.MaybeExpression) (o : t.MaybeItems) (p : t.Page) (m : t.Lock)
    → x.after_selected ts ls k (t.Select d (expressions_of e es) f w g h o p m)
    ≡ x.after_list ts ls (x.after_expression ts ls k e) es
unfolding x.after_selected
selected_after ts ls k d e es f w g h o p m = expressions_after ts ls k e es

pub grouped_after : (ts : List TableDecl) (ls : List Level) (k : Known) (d : t.Distinctness) (es : t.Expressions)
    (f : t.MaybeSource) (w : t.MaybeExpression) (g : List t.Expression) (h : t.MaybeExpression) (o : t.MaybeItems)
    (p : t.Page) (m : t.Lock)
    → x.after_grouped ts ls k (t.Select d es f w (group_of g) h o p m) ≡ x.after_list ts ls k g
unfolding x.after_grouped
grouped_after ts ls k d es f w g h o p m = group_after ts ls k g

pub ordered_after : (ts : List TableDecl) (ls : List Level) (k : Known) (d : t.Distinctness) (es : t.Expressions)
    (f : t.MaybeSource) (w : t.MaybeExpression) (g : t.MaybeExpressions) (h : t.MaybeExpression) (o : List Ordered)
    (p : t.Page) (m : t.Lock)
    → x.after_ordered ts ls k (t.Select d es f w g h (order_of o) p m) ≡ x.after_items ts ls k o
unfolding x.after_ordered
ordered_after ts ls k d es f w g h o p m = order_after ts ls k o

pub selected_none : (ts : List TableDecl) (ls : List Level) (k : Known) (a : t.Query) (by : t.SetOperator) (all : Bool)
    (b : t.Query) (o : t.MaybePlaces) (p : t.Page) → x.after_selected ts ls k (t.Combined a by all b o p) ≡ k
unfolding x.after_selected
selected_none ts ls k a by all b o p = refl

pub grouped_none : (ts : List TableDecl) (ls : List Level) (k : Known) (a : t.Query) (by : t.SetOperator) (all : Bool)
    (b : t.Query) (o : t.MaybePlaces) (p : t.Page) → x.after_grouped ts ls k (t.Combined a by all b o p) ≡ k
unfolding x.after_grouped
grouped_none ts ls k a by all b o p = refl

pub ordered_none : (ts : List TableDecl) (ls : List Level) (k : Known) (a : t.Query) (by : t.SetOperator) (all : Bool)
    (b : t.Query) (o : t.MaybePlaces) (p : t.Page) → x.after_ordered ts ls k (t.Combined a by all b o p) ≡ k
unfolding x.after_ordered
ordered_none ts ls k a by all b o p = refl

-- ## How many leaves stand in them

pub expressions_count : (e : t.Expression) (es : List t.Expression)
    → length (l.tables_expressions (expressions_of e es)) ≡ length (l.tables_expression e) + lists.in_list es
expressions_count e [] = omega arith
expressions_count e (f ∷ fs) = let more = expressions_count f fs in rw length-append (omega (arith, more))

pub group_count : (es : List t.Expression) → length (l.tables_group (group_of es)) ≡ lists.in_list es
group_count [] = refl
group_count (e ∷ es) = expressions_count e es

items_count : (i : Ordered) (is : List Ordered)
    → length (l.tables_items (items_of i is)) ≡ length (l.tables_expression i.0) + lists.in_items is
items_count i [] = omega arith
items_count i (j ∷ js) = let more = items_count j js in rw length-append (omega (arith, more))

pub order_count : (is : List Ordered) → length (l.tables_order (order_of is)) ≡ lists.in_items is
order_count [] = refl
order_count (i ∷ is) = items_count i is

pub query_count : (q : t.Query) (d : t.Distinctness) (es : t.Expressions) (s : t.MaybeSource)
    (w : t.MaybeExpression) (g : t.MaybeExpressions) (h : t.MaybeExpression) (o : t.MaybeItems) (p : t.Page)
    (m : t.Lock)
    → q ≡ t.Select d es s w g h o p m
    → length (l.tables_query q)
    ≡ length (l.tables_distinct d) + (lists.selected q + (length (l.tables_from s)
    + (length (l.tables_maybe w) + (lists.grouped q + (length (l.tables_maybe h) + lists.ordered q)))))
query_count q d es s w g h o p m is =
    rw (
      is,
      length-append (l.tables_distinct d) _,
      length-append (l.tables_expressions es) _,
      length-append (l.tables_from s) _,
      length-append (l.tables_maybe w) _,
      length-append (l.tables_group g) _,
      length-append (l.tables_maybe h) _,
    )
    refl

pub ruleset parts = (none_after, some_after, no_source_after, source_after)

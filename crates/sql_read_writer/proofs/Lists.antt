-- A list is written as its first element and then each of the others after a comma.
use Rattle.std.proofs.Common.{◌≡◌, ℕ, List, [], ◌∷◌, ◌++◌, refl, ap, ◌∙◌, codes, Bool}
use Rattle.sql_dialect.specs.declared.backend.Dialect.{Dialect}
use Rattle.sql_grammar.specs.MarkTree as t
use Rattle.sql_grammar.specs.MarkTree.{Mark, Expression, MaybeExpression, NoExpression, SomeExpression, MaybeSource, Distinctness, Every, Distinct, DistinctOn, Query, Select, Combined, Page, Lock, SetOperator, Expressions, MaybeExpressions, MaybeItems, MaybePlaces}
use Rattle.sql_grammar.specs.Text as x
use Rattle.sql_read_tree.specs.View.{Ordered, Placed, expressions_of, items_of, places_of, group_of, order_of, by_places_of}
use Rattle.sql_read_writer.specs.More as more

pub marks_text : (d : Dialect) (m : Mark) (ms : List Mark) (rest : List ℕ)
    → x.marks d m ms rest ≡ x.mark d m (more.marks d ms rest)
unfolding x.marks
marks_text d m [] rest = refl
marks_text d m (n ∷ ns) rest = ap (λ t. x.mark d m (44 ∷ 32 ∷ t)) (marks_text d n ns rest)

pub expressions_text : (d : Dialect) (e : Expression) (es : List Expression) (rest : List ℕ)
    → x.expressions d (expressions_of e es) rest ≡ x.expression d e (more.listed d (codes ", ") es rest)
unfolding x.expression
expressions_text d e [] rest = refl
expressions_text d e (f ∷ fs) rest = ap (λ t. x.expression d e (44 ∷ 32 ∷ t)) (expressions_text d f fs rest)

items_text : (d : Dialect) (i : Ordered) (is : List Ordered) (rest : List ℕ)
    → x.items d (items_of i is) rest ≡ x.expression d i.0 (x.direction i.1 (more.items d (codes ", ") is rest))
unfolding x.expression
items_text d i [] rest = refl
items_text d i (j ∷ js) rest = ap (λ t. x.expression d i.0 (x.direction i.1 (44 ∷ 32 ∷ t))) (items_text d j js rest)

places_text : (i : Placed) (is : List Placed) (rest : List ℕ)
    → x.places (places_of i is) rest ≡ more.place i (more.places (codes ", ") is rest)
unfolding x.places
places_text i [] rest = refl
places_text i (j ∷ js) rest = ap (λ t. i.0 ++ x.direction i.1 (44 ∷ 32 ∷ t)) (places_text j js rest)

group_text : (d : Dialect) (es : List Expression) (rest : List ℕ)
    → x.group_by d (group_of es) rest ≡ more.listed d (codes " GROUP BY ") es rest
unfolding x.expression
group_text d [] rest = refl
group_text d (e ∷ es) rest = ap (λ t. codes " GROUP BY " ++ t) (expressions_text d e es rest)

order_text : (d : Dialect) (is : List Ordered) (rest : List ℕ)
    → x.order_by d (order_of is) rest ≡ more.items d (codes " ORDER BY ") is rest
unfolding x.expression
order_text d [] rest = refl
order_text d (i ∷ is) rest = ap (λ t. codes " ORDER BY " ++ t) (items_text d i is rest)

by_places_text : (ps : List Placed) (rest : List ℕ) → x.by_places (by_places_of ps) rest
    ≡ more.places (codes " ORDER BY ") ps rest
unfolding x.by_places
by_places_text [] rest = refl
by_places_text (p ∷ ps) rest = ap (λ t. codes " ORDER BY " ++ t) (places_text p ps rest)

where_text : (d : Dialect) (e : MaybeExpression) (rest : List ℕ)
    → x.where_by d e rest ≡ more.condition d (codes " WHERE ") e rest
unfolding x.expression
where_text d NoExpression rest = refl
where_text d (SomeExpression e) rest = refl

having_text : (d : Dialect) (e : MaybeExpression) (rest : List ℕ)
    → x.having_by d e rest ≡ more.condition d (codes " HAVING ") e rest
unfolding x.expression
having_text d NoExpression rest = refl
having_text d (SomeExpression e) rest = refl

pub every_text : (d : Dialect) (rest : List ℕ) → x.distinct d Every rest ≡ rest
unfolding x.expression
every_text d rest = refl

pub distinct_text : (d : Dialect) (rest : List ℕ) → x.distinct d Distinct rest ≡ codes "DISTINCT " ++ rest
unfolding x.expression
distinct_text d rest = refl

pub distinct_on_text : (d : Dialect) (e : Expression) (es : List Expression) (rest : List ℕ)
    → x.distinct d (DistinctOn (expressions_of e es)) rest
    ≡ codes "DISTINCT ON (" ++ x.expression d e (more.listed d (codes ", ") es (codes ") " ++ rest))
unfolding x.expression
distinct_on_text d e es rest = ap (λ t. codes "DISTINCT ON (" ++ t) (expressions_text d e es _)

pub selected_text : (d : Dialect) (u : Distinctness) (e : Expression) (es : List Expression) (f : MaybeSource)
    (w : MaybeExpression) (g : MaybeExpressions) (h : MaybeExpression) (o : MaybeItems) (p : Page) (l : Lock)
    (rest : List ℕ)
    → more.selected_part d (Select u (expressions_of e es) f w g h o p l) rest
    ≡ x.expression d e (more.listed d (codes ", ") es rest)
unfolding more.selected_part
selected_text d u e es f w g h o p l rest = expressions_text d e es rest

pub grouped_text : (d : Dialect) (u : Distinctness) (es : Expressions) (f : MaybeSource)
    (w : MaybeExpression) (g : List Expression) (h : MaybeExpression) (o : MaybeItems) (p : Page) (l : Lock)
    (rest : List ℕ)
    → more.group_part d (Select u es f w (group_of g) h o p l) rest ≡ more.listed d (codes " GROUP BY ") g rest
unfolding more.group_part
grouped_text d u es f w g h o p l rest = group_text d g rest

pub ordered_text : (d : Dialect) (u : Distinctness) (es : Expressions) (f : MaybeSource)
    (w : MaybeExpression) (g : MaybeExpressions) (h : MaybeExpression) (o : List Ordered) (p : Page) (l : Lock)
    (rest : List ℕ)
    → more.order_part d (Select u es f w g h (order_of o) p l) rest ≡ more.items d (codes " ORDER BY ") o rest
unfolding more.order_part
ordered_text d u es f w g h o p l rest = order_text d o rest

pub selected_none : (d : Dialect) (a : Query) (by : SetOperator) (all : Bool) (b : Query) (o : MaybePlaces) (p : Page)
    (rest : List ℕ) → more.selected_part d (Combined a by all b o p) rest ≡ rest
unfolding more.selected_part
selected_none d a by all b o p rest = refl

pub group_none : (d : Dialect) (a : Query) (by : SetOperator) (all : Bool) (b : Query) (o : MaybePlaces) (p : Page)
    (rest : List ℕ) → more.group_part d (Combined a by all b o p) rest ≡ rest
unfolding more.group_part
group_none d a by all b o p rest = refl

pub order_none : (d : Dialect) (a : Query) (by : SetOperator) (all : Bool) (b : Query) (o : MaybePlaces) (p : Page)
    (rest : List ℕ) → more.order_part d (Combined a by all b o p) rest ≡ rest
unfolding more.order_part
order_none d a by all b o p rest = refl

pub select_text : (d : Dialect) (q : Query) (u : Distinctness) (es : Expressions) (f : MaybeSource)
    (w : MaybeExpression) (g : MaybeExpressions) (h : MaybeExpression) (o : MaybeItems) (p : Page) (l : Lock)
    (rest : List ℕ) → q ≡ Select u es f w g h o p l
    → x.query d q rest
    ≡ codes "SELECT "
    ++ x.distinct d u (more.selected_part d q (x.from d f (more.condition d (codes " WHERE ") w
    (more.group_part d q (more.condition d (codes " HAVING ") h
    (more.order_part d q (x.page d p (x.lock l rest))))))))
unfolding x.expression more.selected_part more.group_part more.order_part
select_text d q u es f w g h o p l rest is =
    rw is
    (ap (λ z. codes "SELECT " ++ x.distinct d u (x.expressions d es (x.from d f z)))
    (where_text d w _ ∙ ap (λ z. more.condition d (codes " WHERE ") w (x.group_by d g z)) (having_text d h _)))

pub combined_text : (d : Dialect) (a : Query) (by : SetOperator) (all : Bool) (b : Query) (o : List Placed) (p : Page)
    (rest : List ℕ)
    → x.query d (Combined a by all b (by_places_of o) p) rest
    ≡ x.side_open d (x.query d a (codes ")" ++ x.operator by (x.all_word all (x.side_open d (x.query d b
    (codes ")" ++ more.places (codes " ORDER BY ") o (x.page d p rest)))))))
unfolding x.expression
combined_text d a by all b o p rest =
    ap
    (λ z. x.side_open d (x.query d a (codes ")" ++ x.operator by (x.all_word all (x.side_open d (x.query d b
    (codes ")" ++ z)))))))
    (by_places_text o _)

pub ruleset lists = (
  marks_text,
  every_text,
  distinct_text,
  distinct_on_text,
  combined_text,
  selected_text,
  grouped_text,
  ordered_text,
  selected_none,
  group_none,
  order_none,
)

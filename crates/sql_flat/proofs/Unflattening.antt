-- What the nodes of a statement stand for is the statement.
use Rattle.std.proofs.Common.{◌≡◌, ℕ, List, [], ◌∷◌, Option, None, Some, refl, sym, ap, ◌∙◌}
use Rattle.sql_flat_law.specs.Rose.{Rose, Roses, flat, none, more, leaf, roses_of}
use Rattle.sql_flat_law.specs.Folds.{folded, folded_each}
use Rattle.sql_flat_law.proofs.Backward.{run-flat}
use Rattle.sql_schema.specs.declared.types.SqlType.{SqlType}
use Rattle.sql_pass.specs.declared.value.Value.{Value}
use Rattle.sql_leaf.specs.declared.position.PositionalItem.{PositionalItem}
use Rattle.sql_node.specs.Tree.{Form, unboxed, boxed, Expr, column, value, list, count_star, nullable, unary, count, compared, joined, exists, single, among_values, among_rows, Exprs, no_exprs, more_exprs, Items, no_items, more_items, MaybeExpr, no_expr, an_expr, Source, of_table, of_alias, join, From, no_source, from, Distinct, every, distinct, distinct_on, Order, no_order, order_by, Statement, select, combination}
use Rattle.sql_node.specs.View.{exprs_of, items_of, maybe_of}
use Rattle.sql_flat.specs.declared.kind.FlatKind.{FlatKind}
use Rattle.sql_flat.specs.declared.kind.FlatKind.TheVariants as K
use Rattle.sql_flat.specs.declared.kind.FlatNode.{FlatNode}
use Rattle.sql_flat.specs.Flat.{flat_node, flat_of, form_of, uniqueness, expr_rose, exprs_roses, items_roses, maybe_roses, source_rose, from_roses, distinct_roses, order_roses, positions_roses, rose, selecting_of}
use Rattle.sql_flat.specs.inside.Parts.{Part, expr_of, expr_part, source_part, statement_part, order_part, Clauses, no_clauses, form_in, exprs_in, items_in, values_in, positions_in, first, on_of, positions_of, statement_of, put_clauses, over_clauses, over}
use Rattle.sql_flat.specs.inside.Reading.{kind_of, end_of, read_from, root_of}

-- what a tree of nodes stands for, and each of some
abbrev read : Rose FlatKind → Part
read = folded over

abbrev read_each : Roses FlatKind → List Part
read_each = folded_each over

form-back : (f : Form) → form_in (form_of f) ≡ f
form-back (unboxed l) = refl
form-back (boxed d n) = refl

values-read : (t : SqlType) (vs : List Value) → values_in (read_each (roses_of (λ v. leaf (K.Element t v)) vs)) ≡ vs
values-read t [] = refl
values-read t (v ∷ vs) = ap (λ l. v ∷ l) (values-read t vs)

positions-read : (ps : List PositionalItem) → positions_in (read_each (roses_of (λ p. leaf (K.Position p)) ps)) ≡ ps
positions-read [] = refl
positions-read (p ∷ ps) = ap (λ l. p ∷ l) (positions-read ps)

positional-read : (o : Option (List PositionalItem)) → positions_of (first (read_each (positions_roses o))) ≡ o
positional-read None = refl
positional-read (Some ps) = ap Some (positions-read ps)

-- ---- clauses, each before those that follow

abbrev maybe_parts : FlatKind → MaybeExpr → List Part → List Part
maybe_parts k no_expr ps = ps
maybe_parts k (an_expr e) ps = over k (expr_part e ∷ []) ∷ ps

abbrev from_parts : From → List Part → List Part
from_parts no_source ps = ps
from_parts (from s) ps = over K.From (source_part s ∷ []) ∷ ps

abbrev distinct_parts : Distinct → List Part → List Part
distinct_parts every ps = ps
distinct_parts distinct ps = ps
distinct_parts (distinct_on e) ps = over K.DistinctOn (expr_part e ∷ []) ∷ ps

abbrev order_parts : Order → List Part
order_parts no_order = []
order_parts (order_by is) = order_part is ∷ []

abbrev clause_parts : Distinct → Expr → From → MaybeExpr → MaybeExpr → MaybeExpr → Order → List Part
clause_parts u e f w g h o =
    distinct_parts u
    (expr_part e
    ∷ from_parts f (maybe_parts K.Where w (maybe_parts K.GroupBy g (maybe_parts K.Having h (order_parts o)))))

abbrev clauses : Distinct → Option Expr → From → MaybeExpr → MaybeExpr → MaybeExpr → Order → Clauses
clauses u e f w g h o = record {
  distinct_clause = u;
  selection = e;
  from_clause = f;
  where_clause = w;
  group_by = g;
  having = h;
  order = o;
}

distinct-put : (u : Distinct) (ps : List Part)
    → put_clauses (no_clauses (uniqueness u)) (distinct_parts u ps)
    ≡ put_clauses (clauses u None no_source no_expr no_expr no_expr no_order) ps
distinct-put every ps = refl
distinct-put distinct ps = refl
distinct-put (distinct_on e) ps = refl

from-put : (u : Distinct) (e : Option Expr) (f : From) (ps : List Part)
    → put_clauses (clauses u e no_source no_expr no_expr no_expr no_order) (from_parts f ps)
    ≡ put_clauses (clauses u e f no_expr no_expr no_expr no_order) ps
from-put u e no_source ps = refl
from-put u e (from s) ps = refl

where-put : (u : Distinct) (e : Option Expr) (f : From) (w : MaybeExpr) (ps : List Part)
    → put_clauses (clauses u e f no_expr no_expr no_expr no_order) (maybe_parts K.Where w ps)
    ≡ put_clauses (clauses u e f w no_expr no_expr no_order) ps
where-put u e f no_expr ps = refl
where-put u e f (an_expr x) ps = refl

group-put : (u : Distinct) (e : Option Expr) (f : From) (w g : MaybeExpr) (ps : List Part)
    → put_clauses (clauses u e f w no_expr no_expr no_order) (maybe_parts K.GroupBy g ps)
    ≡ put_clauses (clauses u e f w g no_expr no_order) ps
group-put u e f w no_expr ps = refl
group-put u e f w (an_expr x) ps = refl

having-put : (u : Distinct) (e : Option Expr) (f : From) (w g h : MaybeExpr) (ps : List Part)
    → put_clauses (clauses u e f w g no_expr no_order) (maybe_parts K.Having h ps)
    ≡ put_clauses (clauses u e f w g h no_order) ps
having-put u e f w g no_expr ps = refl
having-put u e f w g (an_expr x) ps = refl

order-put : (u : Distinct) (e : Option Expr) (f : From) (w g h : MaybeExpr) (o : Order)
    → put_clauses (clauses u e f w g h no_order) (order_parts o) ≡ clauses u e f w g h o
order-put u e f w g h no_order = refl
order-put u e f w g h (order_by is) = refl

clauses-put : (u : Distinct) (e : Expr) (f : From) (w g h : MaybeExpr) (o : Order)
    → put_clauses (no_clauses (uniqueness u)) (clause_parts u e f w g h o) ≡ clauses u (Some e) f w g h o
clauses-put u e f w g h o =
    let having_on = maybe_parts K.Having h (order_parts o) in
    let group_on = maybe_parts K.GroupBy g having_on in
    let where_on = maybe_parts K.Where w group_on in
    distinct-put u (expr_part e ∷ from_parts f where_on)
    ∙ from-put u (Some e) f where_on ∙ where-put u (Some e) f w group_on ∙ group-put u (Some e) f w g having_on
    ∙ having-put u (Some e) f w g h (order_parts o) ∙ order-put u (Some e) f w g h o

-- ---- nodes

mutual
  pub expr-read : (e : Expr) → read (expr_rose e) ≡ expr_part e
  expr-read (column o c) = refl
  expr-read (value t v) = refl
  expr-read (list es) = ap (λ x. expr_part (list x)) (exprs-read es)
  expr-read count_star = refl
  expr-read (nullable e) = rw (expr-read e) refl
  expr-read (unary u e) = rw (expr-read e) refl
  expr-read (count e) = rw (expr-read e) refl
  expr-read (compared by a b) = rw (expr-read a, expr-read b) refl
  expr-read (joined by a b) = rw (expr-read a, expr-read b) refl
  expr-read (exists q) = rw (statement-read q) refl
  expr-read (single q) = rw (statement-read q) refl
  expr-read (among_values n e t vs) = rw (expr-read e, values-read t vs) refl
  expr-read (among_rows n e q) = rw (expr-read e, statement-read q) refl

  exprs-read : (es : Exprs) → exprs_of (exprs_in (read_each (exprs_roses es))) ≡ es
  exprs-read no_exprs = refl
  exprs-read (more_exprs e es) = rw (expr-read e) (ap (more_exprs e) (exprs-read es))

  items-read : (is : Items) → items_of (items_in (read_each (items_roses is))) ≡ is
  items-read no_items = refl
  items-read (more_items e by is) = rw (expr-read e) (ap (more_items e by) (items-read is))

  maybe-read : (k : FlatKind) (w : MaybeExpr) (rest : Roses FlatKind)
      → read_each (maybe_roses k w rest) ≡ maybe_parts k w (read_each rest)
  maybe-read k no_expr rest = refl
  maybe-read k (an_expr e) rest = ap (λ p. over k (p ∷ []) ∷ read_each rest) (expr-read e)

  on-read : (on : MaybeExpr) → maybe_of (on_of (first (read_each (maybe_roses K.On on none)))) ≡ on
  on-read no_expr = refl
  on-read (an_expr e) = rw (expr-read e) refl

  source-read : (s : Source) → read (source_rose s) ≡ source_part s
  source-read (of_table t only sample) = refl
  source-read (of_alias a t) = refl
  source-read (join k l r on) =
      rw (source-read l, source-read r) (ap (λ x. source_part (join k l r x)) (on-read on))

  from-read : (f : From) (rest : Roses FlatKind) → read_each (from_roses f rest) ≡ from_parts f (read_each rest)
  from-read no_source rest = refl
  from-read (from s) rest = ap (λ p. over K.From (p ∷ []) ∷ read_each rest) (source-read s)

  distinct-read : (u : Distinct) (rest : Roses FlatKind)
      → read_each (distinct_roses u rest) ≡ distinct_parts u (read_each rest)
  distinct-read every rest = refl
  distinct-read distinct rest = refl
  distinct-read (distinct_on e) rest = ap (λ p. over K.DistinctOn (p ∷ []) ∷ read_each rest) (expr-read e)

  order-read : (o : Order) → read_each (order_roses o) ≡ order_parts o
  order-read no_order = refl
  order-read (order_by is) = ap (λ x. order_part x ∷ []) (items-read is)

  pub statement-read : (s : Statement) → read (rose s) ≡ statement_part s
  statement-read (select default e f u w o rows g h form marks) =
      let having_on = maybe_roses K.Having h (order_roses o) in
      let group_on = maybe_roses K.GroupBy g having_on in
      let where_on = maybe_roses K.Where w group_on in
      let selecting = selecting_of default u rows form marks in
      ap (λ ps. over_clauses selecting (put_clauses (no_clauses (uniqueness u)) ps))
      (distinct-read u (more (expr_rose e) (from_roses f where_on))
      ∙ ap (distinct_parts u)
      ((λ i. expr-read e i ∷ read_each (from_roses f where_on))
      ∙ ap (λ ps. expr_part e ∷ ps)
      (from-read f where_on
      ∙ ap (from_parts f)
      (maybe-read K.Where w group_on
      ∙ ap (maybe_parts K.Where w)
      (maybe-read K.GroupBy g having_on
      ∙ ap (maybe_parts K.GroupBy g)
      (maybe-read K.Having h (order_roses o) ∙ ap (maybe_parts K.Having h) (order-read o)))))))
      ∙ ap (over_clauses selecting) (clauses-put u e f w g h o)
      ∙ ap (λ x. statement_part (select default e f u w o rows g h x marks)) (form-back form)
  statement-read (combination by all a b o rows) =
      rw (statement-read a, statement-read b, positional-read o) refl

-- what the loop over the flat list of a statement ends with
pub all-read : (s : Statement) → read_from 0 (flat_of s) ≡ (0, statement_part s) ∷ []
all-read s =
    run-flat flat_node kind_of end_of over (λ _ _. refl) (λ _ _. refl) (rose s)
    ∙ ap (λ p. (0, p) ∷ []) (statement-read s)

-- the list of a statement stands for it
pub root-read : (s : Statement) (nodes : List FlatNode) → nodes ≡ flat_of s → root_of (read_from 0 nodes) ≡ Some s
root-read s nodes h = rw (h, all-read s) refl

-- and over that of an expression
all-read-expr : (e : Expr) → read_from 0 (flat flat_node 0 (expr_rose e) []) ≡ (0, expr_part e) ∷ []
all-read-expr e =
    run-flat flat_node kind_of end_of over (λ _ _. refl) (λ _ _. refl) (expr_rose e)
    ∙ ap (λ p. (0, p) ∷ []) (expr-read e)

-- what the first tree on a stack stands for
abbrev or : {X : Type 0} → X → Option X → X
or d None = d
or d (Some x) = x

abbrev got : {X : Type 0} → (Part → Option X) → X → List (ℕ × Part) → X
got f d [] = d
got f d (p ∷ ps) = or d (f p.1)

-- one statement to a list
pub one-statement : (a b : Statement) → flat_of a ≡ flat_of b → a ≡ b
one-statement a b h = sym (ap (got statement_of a) (all-read a)) ∙ ap (λ l. got statement_of a (read_from 0 l)) h
    ∙ ap (got statement_of a) (all-read b)

-- and one expression
pub one-expr : (a b : Expr) → flat flat_node 0 (expr_rose a) [] ≡ flat flat_node 0 (expr_rose b) [] → a ≡ b
one-expr a b h = sym (ap (got expr_of a) (all-read-expr a)) ∙ ap (λ l. got expr_of a (read_from 0 l)) h
    ∙ ap (got expr_of a) (all-read-expr b)

pub ruleset one = (one-statement, one-expr)

-- Whether values fit: the test along the tree, a test along lists of parts, and the relation are one.
use Rattle.std.proofs.Common.{◌≡◌, ◌↔◌, Bool, true, false, ◌&&◌, List, [], ◌∷◌, ◌++◌, IsTrue, refl, sym, ap, ◌∙◌, subst}
use Rattle.std.specs.List.{list_all}
use Rattle.std.specs.Cmp.{first_so, second_so}
use Rattle.std.proofs.lemmas.List.Folds.{list_all-append}
use Rattle.sql_node.specs.Tree.{Expr, column, value, list, count_star, nullable, unary, count, compared, joined, exists, single, among_values, among_rows, Exprs, no_exprs, more_exprs, Items, no_items, more_items, MaybeExpr, no_expr, an_expr, Source, of_table, of_alias, join, From, no_source, from, Distinct, every, distinct, distinct_on, Order, no_order, order_by, Statement, select, combination}
use Rattle.sql_shape.specs.Nodes.{all_expr, all_exprs, all_items, all_maybe, all_source, all_from, all_distinct, all_order}
use Rattle.sql_rules.specs.Lists.{Each}
use Rattle.sql_rules.specs.Scope.{View, origins, origins_of, widest, Part, a_select, a_combination, parts, in_expr, in_exprs, in_items, in_maybe, in_source, in_from, in_distinct, in_order, Place, in_selection, in_distinct_on, in_on, in_where, in_group_by, in_having, in_order_by, Clause, clauses, maybe_clause, ons, ons_of, distinct_clause, item_clauses, order_clauses, nodes, nodes_of, EachExprIn}
use Rattle.sql_rules.specs.Types.{fits, all_fit}
use Rattle.sql_rules_law.specs.Fitting.{Fits, ValuesFit, fit_tests, values_fit}

-- ## The test along lists of parts

abbrev expr_fits : Expr → Bool
expr_fits (value t x) = fits t x
expr_fits (among_values n e t xs) = all_fit t xs
expr_fits _ = true

abbrev clause_fits : Clause → Bool
clause_fits c = list_all expr_fits (nodes c.expr)

abbrev part_fits : Part → Bool
part_fits (a_select outer s) = list_all clause_fits (clauses outer s)
part_fits (a_combination c) = true

-- ## Along the tree

-- a test along the tree says what two tests along lists say: of nodes or clauses, and of the statements inside
record Says {X : Type 0} (test : X → Bool) (b : Bool) (xs : List X) (ps : List Part) : Type 0 where
  pub says : b ≡ (list_all test xs && list_all part_fits ps)

and-true : (b : Bool) → b ≡ (b && true)
and-true true = refl
and-true false = refl

assoc : (n p q : Bool) → ((n && p) && q) ≡ (n && (p && q))
assoc true p q = refl
assoc false p q = refl

turned : (n p a : Bool) → ((n && p) && a) ≡ ((a && n) && p)
turned true true true = refl
turned true true false = refl
turned true false true = refl
turned true false false = refl
turned false p true = refl
turned false p false = refl

both-tests : (x y a b : Bool) → ((x && y) && (a && b)) ≡ ((x && a) && (y && b))
both-tests true true a b = refl
both-tests true false true b = refl
both-tests true false false b = refl
both-tests false y a b = refl

-- of lists one after the other
both : {X : Type 0} {test : X → Bool} {s t : Bool} {xs ys : List X} {ps qs : List Part} → Says test s xs ps
    → Says test t ys qs → Says test (s && t) (xs ++ ys) (ps ++ qs)
both {X} {test} {s} {t} {xs} {ys} {ps} {qs} h k =
    record {
      says =
          (λ i. h.says i && k.says i)
          ∙ both-tests (list_all test xs) (list_all part_fits ps) (list_all test ys) (list_all part_fits qs)
          ∙ (λ i. sym (list_all-append test xs ys) i && sym (list_all-append part_fits ps qs) i);
    }

-- of the nodes below one that binds nothing itself
below : {b : Bool} {xs : List Expr} {ps : List Part} (e : Expr) → expr_fits e ≡ true → Says expr_fits b xs ps
    → Says expr_fits b (e ∷ xs) ps
below {b} {xs} {ps} e f h =
    record { says = h.says ∙ ap (λ x. (x && list_all expr_fits xs) && list_all part_fits ps) (sym f) }

-- of an expression's nodes, in a clause
in-clause : {b : Bool} {ps : List Part} (p : Place) (v : View) (e : Expr) → Says expr_fits b (nodes e) ps
    → Says clause_fits b (record { place = p; view = v; expr = e } ∷ []) ps
in-clause {b} {ps} p v e h =
    record { says = h.says ∙ ap (λ x. x && list_all part_fits ps) (and-true (list_all expr_fits (nodes e))) }

mutual
  expr-says : (v : View) (e : Expr) → Says expr_fits (all_expr fit_tests e) (nodes e) (in_expr v e)
  expr-says v (column o c) = record { says = refl }
  expr-says v (value t x) = record { says = and-true (fits t x) ∙ and-true (fits t x && true) }
  expr-says v (list es) = below (list es) refl (exprs-says v es)
  expr-says v count_star = record { says = refl }
  expr-says v (nullable e) = below (nullable e) refl (expr-says v e)
  expr-says v (unary n e) = below (unary n e) refl (expr-says v e)
  expr-says v (count e) = below (count e) refl (expr-says v e)
  expr-says v (compared by a b) = below (compared by a b) refl (both (expr-says v a) (expr-says v b))
  expr-says v (joined by a b) = below (joined by a b) refl (both (expr-says v a) (expr-says v b))
  expr-says v (exists q) = record { says = statement-says v q }
  expr-says v (single q) = record { says = statement-says v q }
  expr-says v (among_values n e t xs) =
      record {
        says =
            ap (λ b. b && all_fit t xs) (expr-says v e).says
            ∙ turned (list_all expr_fits (nodes e)) (list_all part_fits (in_expr v e)) (all_fit t xs);
      }
  expr-says v (among_rows n e q) =
      record {
        says =
            (λ i. (expr-says v e).says i && statement-says v q i)
            ∙ assoc (list_all expr_fits (nodes e)) (list_all part_fits (in_expr v e)) (list_all part_fits (parts v q))
            ∙ ap (λ b. list_all expr_fits (nodes e) && b) (sym (list_all-append part_fits (in_expr v e) (parts v q)));
      }

  exprs-says : (v : View) (es : Exprs) → Says expr_fits (all_exprs fit_tests es) (nodes_of es) (in_exprs v es)
  exprs-says v no_exprs = record { says = refl }
  exprs-says v (more_exprs e es) = both (expr-says v e) (exprs-says v es)

  items-says : (v : View) (is : Items) → Says clause_fits (all_items fit_tests is) (item_clauses v is) (in_items v is)
  items-says v no_items = record { says = refl }
  items-says v (more_items e by is) = both (in-clause in_order_by v e (expr-says v e)) (items-says v is)

  maybe-says : (p : Place) (v : View) (e : MaybeExpr)
      → Says clause_fits (all_maybe fit_tests e) (maybe_clause p v e) (in_maybe v e)
  maybe-says p v no_expr = record { says = refl }
  maybe-says p v (an_expr e) = in-clause p v e (expr-says v e)

  source-says : (s : Source) → Says clause_fits (all_source fit_tests s) (ons s) (in_source s)
  source-says (of_table t only sample) = record { says = refl }
  source-says (of_alias a t) = record { says = refl }
  source-says (join k a b on) =
      both (source-says a) (both (source-says b) (maybe-says in_on (origins a ++ origins b) on))

  from-says : (f : From) → Says clause_fits (all_from fit_tests f) (ons_of f) (in_from f)
  from-says no_source = record { says = refl }
  from-says (from s) = source-says s

  distinct-says : (v : View) (u : Distinct)
      → Says clause_fits (all_distinct fit_tests u) (distinct_clause v u) (in_distinct v u)
  distinct-says v every = record { says = refl }
  distinct-says v distinct = record { says = refl }
  distinct-says v (distinct_on e) = in-clause in_distinct_on v e (expr-says v e)

  order-says : (v : View) (o : Order) → Says clause_fits (all_order fit_tests o) (order_clauses v o) (in_order v o)
  order-says v no_order = record { says = refl }
  order-says v (order_by is) = items-says v is

  statement-says : (v : View) (s : Statement) → values_fit s ≡ list_all part_fits (parts v s)
  statement-says v (select default e f u w o rows g h form marks) =
      let own : View = origins_of f in
      let groups = both (maybe-says in_group_by own g) (both (maybe-says in_having own h) (order-says own o)) in
      let wheres = both (maybe-says in_where (widest form f v) w) groups in
      let selections = both (in-clause in_selection own e (expr-says own e)) (both (from-says f) wheres) in
      (both (distinct-says own u) selections).says
  statement-says v (combination by all a b o rows) =
      (λ i. statement-says v a i && (sym (and-true (values_fit b)) ∙ statement-says v b) i)
      ∙ sym (list_all-append part_fits (parts v a) (parts v b))

-- ## The test says what it has to

each-says : {X : Type 0} (P : X → Type 0) (t : X → Bool) → ((x : X) → IsTrue (t x) ↔ P x) → (xs : List X)
    → IsTrue (list_all t xs) ↔ Each P xs
each-says P t d [] = (λ e. tt, λ h. refl)
each-says P t d (x ∷ xs) = (
  λ e. ((d x).0 (first_so (t x) (list_all t xs) e), (each-says P t d xs).0 (second_so (t x) (list_all t xs) e)),
  λ h. (λ i. (d x).1 h.0 i && (each-says P t d xs).1 h.1 i),
)

expr-fit : (v : View) (e : Expr) → IsTrue (expr_fits e) ↔ Fits v e
expr-fit v (value t x) = (λ h. h, λ h. h)
expr-fit v (among_values n e t xs) = (λ h. h, λ h. h)
expr-fit v _ = (λ h. tt, λ h. refl)

part-fit : (p : Part) → IsTrue (part_fits p) ↔ EachExprIn Fits p
part-fit (a_select outer s) =
    each-says (λ c. Each (Fits c.view) (nodes c.expr)) clause_fits
    (λ c. each-says (Fits c.view) expr_fits (expr-fit c.view) (nodes c.expr)) (clauses outer s)
part-fit (a_combination c) = (λ h. tt, λ h. refl)

pub test : (s : Statement) → IsTrue (values_fit s) ↔ ValuesFit s
test s =
    subst (λ b. IsTrue b ↔ ValuesFit s) (sym (statement-says [] s))
    (each-says (EachExprIn Fits) part_fits part-fit (parts [] s))

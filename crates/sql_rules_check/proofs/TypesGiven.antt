-- What the nodes of a statement have is what its expressions have.
use Rattle.std.proofs.Common.{◌&&◌, ◌≡◌, ◌++◌, List, [], ◌∷◌, Bool, true, false, Option, None, Some, refl, ap, sym, ◌∙◌, map, if◌then◌else◌}
use Rattle.std.proofs.lemmas.List.{map-append}
use Rattle.sql_flat_law.specs.Rose.{leaf, roses_of}
use Rattle.sql_flat_law.specs.Folds.{folded, folded_each}
use Rattle.sql_schema.specs.declared.types.SqlType.{SqlType}
use Rattle.sql_pass.specs.declared.value.Value.{Value}
use Rattle.sql_node.specs.Tree.{Form, unboxed, boxed, Expr, column, value, list, count_star, nullable, unary, count, compared, joined, exists, single, among_values, among_rows, Exprs, no_exprs, more_exprs, Items, no_items, more_items, MaybeExpr, From, Order, Distinct, every, distinct, distinct_on, Statement, select, combination}
use Rattle.sql_rules.specs.Scope.{flat, flat_items}
use Rattle.sql_rules.specs.Types.{one, many, given, given_each, columns, element_types, form_columns, fits, all_fit, only_type, compared_type, type_of}
use Rattle.sql_rules.proofs.Nulled.{elements}
use Rattle.sql_flat.specs.Flat.{form_of, expr_rose, exprs_roses, items_roses, rose, uniqueness}
use Rattle.sql_flat.specs.declared.kind.FlatKind.TheVariants as K
use Rattle.sql_rules_check.specs.inside.Typing.{typing, types_of_each, where_all, both, columns_as, selection}
use Rattle.sql_rules_check.proofs.SourceLeaves.{select_roses}

none-stays : (t : SqlType) (vs : List Value)
    → where_all None (folded_each typing (roses_of (λ v. leaf (K.Element t v)) vs)) ≡ None
none-stays t [] = refl
none-stays t (v ∷ vs) = by_test (fits t v) (none-stays t vs)
  where
    by_test : (b : Bool) → where_all None (folded_each typing (roses_of (λ v. leaf (K.Element t v)) vs)) ≡ None
        → where_all (both None (only_type (one (if b then Some t else None))))
        (folded_each typing (roses_of (λ v. leaf (K.Element t v)) vs)) ≡ None
    by_test true h = h
    by_test false h = h

values-typed : (t : SqlType) (vs : List Value)
    → where_all (Some t) (folded_each typing (roses_of (λ v. leaf (K.Element t v)) vs))
    ≡ (if all_fit t vs then Some t else None)
values-typed t [] = refl
values-typed t (v ∷ vs) = by_test (fits t v) (values-typed t vs) (none-stays t vs)
  where
    by_test : (b : Bool)
        → where_all (Some t) (folded_each typing (roses_of (λ v. leaf (K.Element t v)) vs))
        ≡ (if all_fit t vs then Some t else None)
        → where_all None (folded_each typing (roses_of (λ v. leaf (K.Element t v)) vs)) ≡ None
        → where_all (both (Some t) (only_type (one (if b then Some t else None))))
        (folded_each typing (roses_of (λ v. leaf (K.Element t v)) vs))
        ≡ (if b && all_fit t vs then Some t else None)
    by_test true h k = h
    by_test false h k = k

columns-form : (f : Form) (ts : List (Option SqlType)) → columns_as (form_of f) ts ≡ form_columns f ts
columns-form (unboxed l) ts = refl
columns-form (boxed d true) ts = refl
columns-form (boxed d false) ts = refl

mutual
  pub expr-typed : (e : Expr) → folded typing (expr_rose e) ≡ given e
  expr-typed (column o c) = refl
  expr-typed (value t v) = refl
  expr-typed (list es) = ap many (exprs-typed es)
  expr-typed count_star = refl
  expr-typed (nullable e) = rw (expr-typed e) refl
  expr-typed (unary n e) = rw (expr-typed e) refl
  expr-typed (count e) = rw (expr-typed e) refl
  expr-typed (compared by a b) = rw (expr-typed a, expr-typed b) refl
  expr-typed (joined by a b) = rw (expr-typed a, expr-typed b) refl
  expr-typed (exists q) = refl
  expr-typed (single q) = rw (statement-typed q) refl
  expr-typed (among_values n e t vs) =
      rw (expr-typed e, values-typed t vs) (by_test (all_fit t vs))
    where
      by_test : (b : Bool)
          → one (compared_type (only_type (given e)) (if b then Some t else None))
          ≡ one (if b then compared_type (only_type (given e)) (Some t) else None)
      by_test true = refl
      by_test false = no_type (only_type (given e))
        where
          no_type : (u : Option SqlType) → one (compared_type u None) ≡ one None
          no_type None = refl
          no_type (Some u) = refl
  expr-typed (among_rows n e q) = rw (expr-typed e, statement-typed q) refl

  exprs-typed : (es : Exprs) → types_of_each (folded_each typing (exprs_roses es)) ≡ given_each es
  exprs-typed no_exprs = refl
  exprs-typed (more_exprs e es) = rw (expr-typed e, exprs-typed es) refl

  pub statement-typed : (s : Statement) → folded typing (rose s) ≡ many (columns s)
  statement-typed (select default e f every w o rows g h form marks) =
      rw (expr-typed e) (ap many (columns-form form (element_types (given e))))
  statement-typed (select default e f distinct w o rows g h form marks) =
      rw (expr-typed e) (ap many (columns-form form (element_types (given e))))
  statement-typed (select default e f (distinct_on u) w o rows g h form marks) =
      rw (expr-typed e) (ap many (columns-form form (element_types (given e))))
  statement-typed (combination by all a b o rows) = rw (statement-typed a) refl

-- the selection of a select statement, among its clauses
pub selection-typed : (e : Expr) (f : From) (u : Distinct) (w : MaybeExpr) (o : Order) (g h : MaybeExpr)
    → selection (uniqueness u) (folded_each typing (select_roses e f u w o g h)) ≡ given e
selection-typed e f every w o g h = expr-typed e
selection-typed e f distinct w o g h = expr-typed e
selection-typed e f (distinct_on u) w o g h = expr-typed e

-- the items of an order
pub items-typed : (is : Items)
    → types_of_each (folded_each typing (items_roses is)) ≡ map type_of (flat_items is)
items-typed no_items = refl
items-typed (more_items e by is) =
    (λ i. element_types (expr-typed e i) ++ items-typed is i)
    ∙ ap (λ ts. ts ++ map type_of (flat_items is)) (elements e)
    ∙ sym (map-append type_of (flat e) (flat_items is))

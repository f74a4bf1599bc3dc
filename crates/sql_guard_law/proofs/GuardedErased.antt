-- The shape of a guarded expression is the shape of the expression, guarded by the shape of the predicate.
use Rattle.std.proofs.Common.{◌≡◌, ℕ, List, [], ◌∷◌, ◌++◌, map, Option, None, Some, refl, sym, ap, ap₂, ◌∙◌}
use Rattle.sql_schema.specs.declared.declaration.TableDecl.{TableDecl}
use Rattle.sql_pass.specs.declared.value.Value.{Value}
use Rattle.sql_leaf.specs.declared.table_source.JoinKind.TheVariants.{Inner, LeftOuter}
use Rattle.sql_leaf.specs.declared.operator.Logic.TheVariants.{And}
use Rattle.sql_node.specs.Tree.{Origin, Expr, column, value, list, count_star, nullable, unary, count, compared, joined, exists, single, among_values, among_rows, Exprs, no_exprs, more_exprs, Items, no_items, more_items, MaybeExpr, no_expr, an_expr, Source, of_table, of_alias, join, From, no_source, from, Distinct, every, distinct, distinct_on, Order, no_order, order_by, Statement, select, combination}
use Rattle.sql_shape.specs.Shape.{blank_rows, change_exprs, change_items, change_maybe, change_source, change_from, change_distinct, change_order, erased_expr, erased, null}
use Rattle.sql_source.specs.Fields.{fields_in, fields_in_each}
use Rattle.sql_guard_law.specs.Guarded.{guarded_expr, guarded_exprs, guarded_items, guarded_maybe, guarded_source, guarded_from, guarded_distinct, guarded_order, guarded}
use Rattle.sql_guard_law.specs.Restricted.{predicate_under, predicate_of, predicates, predicates_from, with_all, open_leaves}

module _ (many : List Value → List Value) where
  abbrev erased_exprs : Exprs → Exprs
  erased_exprs = change_exprs null (λ t. many)

  abbrev erased_items : Items → Items
  erased_items = change_items null (λ t. many)

  abbrev erased_maybe : MaybeExpr → MaybeExpr
  erased_maybe = change_maybe null (λ t. many)

  abbrev erased_source : Source → Source
  erased_source = change_source null (λ t. many)

  abbrev erased_from : From → From
  erased_from = change_from null (λ t. many)

  abbrev erased_distinct : Distinct → Distinct
  erased_distinct = change_distinct null (λ t. many)

  abbrev erased_order : Order → Order
  erased_order = change_order null (λ t. many)

module _ (many : List Value → List Value) where
  mutual
    erased-fields : (a : List ℕ) (t : TableDecl) (e : Expr)
        → erased_expr many (fields_in a t e) ≡ fields_in a t (erased_expr many e)
    erased-fields a t (column o c) = refl
    erased-fields a t (value ty x) = refl
    erased-fields a t (list es) = ap list (erased_all-fields a t es)
    erased-fields a t count_star = refl
    erased-fields a t (nullable e) = ap nullable (erased-fields a t e)
    erased-fields a t (unary u e) = ap (unary u) (erased-fields a t e)
    erased-fields a t (count e) = ap count (erased-fields a t e)
    erased-fields a t (compared by l r) = ap₂ (compared by) (erased-fields a t l) (erased-fields a t r)
    erased-fields a t (joined by l r) = ap₂ (joined by) (erased-fields a t l) (erased-fields a t r)
    erased-fields a t (exists q) = refl
    erased-fields a t (single q) = refl
    erased-fields a t (among_values n e ty xs) = ap (λ x. among_values n x ty (many xs)) (erased-fields a t e)
    erased-fields a t (among_rows n e q) = ap (λ x. among_rows n x (erased many q)) (erased-fields a t e)

    erased_all-fields : (a : List ℕ) (t : TableDecl) (es : Exprs)
        → erased_exprs many (fields_in_each a t es) ≡ fields_in_each a t (erased_exprs many es)
    erased_all-fields a t no_exprs = refl
    erased_all-fields a t (more_exprs e es) = ap₂ more_exprs (erased-fields a t e) (erased_all-fields a t es)

  erased-under : (p : Expr) (alias : Option (List ℕ)) (t : TableDecl)
      → erased_expr many (predicate_under p alias t) ≡ predicate_under (erased_expr many p) alias t
  erased-under p None t = refl
  erased-under p (Some a) t = erased-fields a t p

  erased-with_all : (ps : List Expr) (c : MaybeExpr)
      → erased_maybe many (with_all ps c) ≡ with_all (map (erased_expr many) ps) (erased_maybe many c)
  erased-with_all [] c = refl
  erased-with_all (p ∷ ps) no_expr = erased-with_all ps (an_expr p)
  erased-with_all (p ∷ ps) (an_expr c) = erased-with_all ps (an_expr (joined And c p))

  open-erased : (t : TableDecl) (s : Source) → open_leaves t (erased_source many s) ≡ open_leaves t s
  open-erased t (of_table u only sample) = refl
  open-erased t (of_alias a u) = refl
  open-erased t (join Inner l r on) = ap₂ ◌++◌ (open-erased t l) (open-erased t r)
  open-erased t (join LeftOuter l r on) = open-erased t l

  erased-each : (p : Expr) (os : List Origin)
      → map (erased_expr many) (map (predicate_of p) os) ≡ map (predicate_of (erased_expr many p)) os
  erased-each p [] = refl
  erased-each p (o ∷ os) = ap₂ ◌∷◌ (erased-under p o.alias o.table) (erased-each p os)

  erased-predicates : (t : TableDecl) (p : Expr) (s : Source)
      → map (erased_expr many) (predicates t p s) ≡ predicates t (erased_expr many p) (erased_source many s)
  erased-predicates t p s =
      erased-each p (open_leaves t s) ∙ ap (map (predicate_of (erased_expr many p))) (sym (open-erased t s))

  erased-predicates_from : (t : TableDecl) (p : Expr) (f : From)
      → map (erased_expr many) (predicates_from t p f) ≡ predicates_from t (erased_expr many p) (erased_from many f)
  erased-predicates_from t p no_source = refl
  erased-predicates_from t p (from s) = erased-predicates t p s

  module _ (t : TableDecl) (p : Expr) where
    mutual
      pub erased-guarded : (e : Expr)
          → erased_expr many (guarded_expr t p e) ≡ guarded_expr t (erased_expr many p) (erased_expr many e)
      erased-guarded (column o c) = refl
      erased-guarded (value ty x) = refl
      erased-guarded (list es) = ap list (erased_exprs-guarded es)
      erased-guarded count_star = refl
      erased-guarded (nullable e) = ap nullable (erased-guarded e)
      erased-guarded (unary u e) = ap (unary u) (erased-guarded e)
      erased-guarded (count e) = ap count (erased-guarded e)
      erased-guarded (compared by a b) = ap₂ (compared by) (erased-guarded a) (erased-guarded b)
      erased-guarded (joined by a b) = ap₂ (joined by) (erased-guarded a) (erased-guarded b)
      erased-guarded (exists q) = ap exists (erased_statement-guarded q)
      erased-guarded (single q) = ap single (erased_statement-guarded q)
      erased-guarded (among_values n e ty xs) = ap (λ x. among_values n x ty (many xs)) (erased-guarded e)
      erased-guarded (among_rows n e q) = ap₂ (among_rows n) (erased-guarded e) (erased_statement-guarded q)

      erased_exprs-guarded : (es : Exprs)
          → erased_exprs many (guarded_exprs t p es) ≡ guarded_exprs t (erased_expr many p) (erased_exprs many es)
      erased_exprs-guarded no_exprs = refl
      erased_exprs-guarded (more_exprs e es) = ap₂ more_exprs (erased-guarded e) (erased_exprs-guarded es)

      erased_items-guarded : (is : Items)
          → erased_items many (guarded_items t p is) ≡ guarded_items t (erased_expr many p) (erased_items many is)
      erased_items-guarded no_items = refl
      erased_items-guarded (more_items e by is) =
          ap₂ (λ x l. more_items x by l) (erased-guarded e) (erased_items-guarded is)

      erased_maybe-guarded : (c : MaybeExpr)
          → erased_maybe many (guarded_maybe t p c) ≡ guarded_maybe t (erased_expr many p) (erased_maybe many c)
      erased_maybe-guarded no_expr = refl
      erased_maybe-guarded (an_expr e) = ap an_expr (erased-guarded e)

      erased_source-guarded : (s : Source)
          → erased_source many (guarded_source t p s) ≡ guarded_source t (erased_expr many p) (erased_source many s)
      erased_source-guarded (of_table u only sample) = refl
      erased_source-guarded (of_alias a u) = refl
      erased_source-guarded (join Inner l r on) =
          λ i. join Inner (erased_source-guarded l i) (erased_source-guarded r i) (erased_maybe-guarded on i)
      erased_source-guarded (join LeftOuter l r on) =
          λ i. join LeftOuter (erased_source-guarded l i) (erased_source-guarded r i)
          ((erased-with_all (predicates t p r) (guarded_maybe t p on)
          ∙ ap₂ with_all (erased-predicates t p r) (erased_maybe-guarded on)) i)

      erased_from-guarded : (f : From)
          → erased_from many (guarded_from t p f) ≡ guarded_from t (erased_expr many p) (erased_from many f)
      erased_from-guarded no_source = refl
      erased_from-guarded (from s) = ap from (erased_source-guarded s)

      erased_distinct-guarded : (u : Distinct)
          → erased_distinct many (guarded_distinct t p u) ≡ guarded_distinct t (erased_expr many p)
          (erased_distinct many u)
      erased_distinct-guarded every = refl
      erased_distinct-guarded distinct = refl
      erased_distinct-guarded (distinct_on e) = ap distinct_on (erased-guarded e)

      erased_order-guarded : (o : Order)
          → erased_order many (guarded_order t p o) ≡ guarded_order t (erased_expr many p) (erased_order many o)
      erased_order-guarded no_order = refl
      erased_order-guarded (order_by is) = ap order_by (erased_items-guarded is)

      erased_statement-guarded : (s : Statement)
          → erased many (guarded t p s) ≡ guarded t (erased_expr many p) (erased many s)
      erased_statement-guarded (select default e f u w o rows g h form marks) = λ i.
          select default (erased-guarded e i) (erased_from-guarded f i) (erased_distinct-guarded u i)
          ((erased-with_all (predicates_from t p f) (guarded_maybe t p w)
          ∙ ap₂ with_all (erased-predicates_from t p f) (erased_maybe-guarded w)) i)
          (erased_order-guarded o i) (blank_rows rows) (erased_maybe-guarded g i) (erased_maybe-guarded h i) form marks
      erased_statement-guarded (combination by all a b o rows) =
          ap₂ (λ l r. combination by all l r o (blank_rows rows)) (erased_statement-guarded a)
          (erased_statement-guarded b)

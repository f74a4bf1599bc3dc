-- What guarding the statements inside an expression leaves as it is: its type, its verdict and its columns.
use Rattle.std.proofs.Common.{◌≡◌, ◌||◌, List, [], ◌∷◌, ◌++◌, map, refl, sym, ap, ap₂, ◌∙◌, if◌then◌else◌}
use Rattle.std.proofs.lemmas.List.{map-append}
use Rattle.sql_schema.specs.declared.declaration.ColumnDecl.{ColumnDecl}
use Rattle.sql_schema.specs.declared.declaration.TableDecl.{TableDecl}
use Rattle.sql_node.specs.Tree.{Origin, Expr, column, value, list, count_star, nullable, unary, count, compared, joined, exists, single, among_values, among_rows, Exprs, no_exprs, more_exprs, Items, no_items, more_items, MaybeExpr, no_expr, an_expr, Distinct, every, distinct, distinct_on, Order, no_order, order_by, Statement, select, combination}
use Rattle.sql_rules.specs.Rules.{bare, bare_of, items_verdict, order_verdict, distinct_verdict}
use Rattle.sql_rules.specs.Scope.{flat, flat_of, flat_items}
use Rattle.sql_rules.specs.Types.{one, many, given, given_each, only_type, element_types, columns, all_nullable, unary_type, if_typed, big_type, compared_type, joined_type, among_type, as_nullable, single_type, form_columns}
use Rattle.sql_rules.specs.Verdicts.{Yes, NoVerdict, mix, verdict, verdict_of, fields, fields_of, holds_column, holds_key, column_verdict}
use Rattle.sql_guard_law.specs.Guarded.{guarded_expr, guarded_exprs, guarded_items, guarded_maybe, guarded_distinct, guarded_order, guarded}
use Rattle.sql_guard_law.proofs.GuardedShapes.{holds_aggregate-same}

module _ (t : TableDecl) (p : Expr) where
  mutual
    pub given-same : (e : Expr) → given (guarded_expr t p e) ≡ given e
    given-same (column o c) = refl
    given-same (value ty x) = refl
    given-same (list es) = ap many (given_each-same es)
    given-same count_star = refl
    given-same (nullable e) = ap all_nullable (given-same e)
    given-same (unary u e) = ap (λ g. one (unary_type u (only_type g))) (given-same e)
    given-same (count e) = ap (λ g. one (if_typed (only_type g) big_type)) (given-same e)
    given-same (compared by a b) =
        ap₂ (λ g k. one (compared_type (only_type g) (only_type k))) (given-same a) (given-same b)
    given-same (joined by a b) = ap₂ (λ g k. one (joined_type (only_type g) (only_type k))) (given-same a) (given-same b)
    given-same (exists q) = refl
    given-same (single q) = ap (λ ts. one (as_nullable (single_type ts))) (columns-same q)
    given-same (among_values n e ty xs) = ap (λ g. one (among_type (only_type g) ty xs)) (given-same e)
    given-same (among_rows n e q) =
        ap₂ (λ g ts. one (compared_type (only_type g) (single_type ts))) (given-same e) (columns-same q)

    pub given_each-same : (es : Exprs) → given_each (guarded_exprs t p es) ≡ given_each es
    given_each-same no_exprs = refl
    given_each-same (more_exprs e es) = ap₂ (λ g ts. element_types g ++ ts) (given-same e) (given_each-same es)

    pub columns-same : (s : Statement) → columns (guarded t p s) ≡ columns s
    columns-same (select default e f u w o rows g h form marks) =
        ap (λ k. form_columns form (element_types k)) (given-same e)
    columns-same (combination by all a b o rows) = columns-same a

  commuted : (xs : List Expr) → map nullable (map (guarded_expr t p) xs) ≡ map (guarded_expr t p) (map nullable xs)
  commuted [] = refl
  commuted (x ∷ xs) = ap (λ l. nullable (guarded_expr t p x) ∷ l) (commuted xs)

  mutual
    pub flat-same : (e : Expr) → flat (guarded_expr t p e) ≡ map (guarded_expr t p) (flat e)
    flat-same (list es) = flat_of-same es
    flat-same (nullable e) = ap (map nullable) (flat-same e) ∙ commuted (flat e)
    flat-same (column o c) = refl
    flat-same (value ty x) = refl
    flat-same count_star = refl
    flat-same (unary u e) = refl
    flat-same (count e) = refl
    flat-same (compared by a b) = refl
    flat-same (joined by a b) = refl
    flat-same (exists q) = refl
    flat-same (single q) = refl
    flat-same (among_values n e ty xs) = refl
    flat-same (among_rows n e q) = refl

    pub flat_of-same : (es : Exprs) → flat_of (guarded_exprs t p es) ≡ map (guarded_expr t p) (flat_of es)
    flat_of-same no_exprs = refl
    flat_of-same (more_exprs e es) =
        ap₂ ◌++◌ (flat-same e) (flat_of-same es) ∙ sym (map-append (guarded_expr t p) (flat e) (flat_of es))

  pub flat_items-same : (is : Items) → flat_items (guarded_items t p is) ≡ map (guarded_expr t p) (flat_items is)
  flat_items-same no_items = refl
  flat_items-same (more_items e by is) =
      ap₂ ◌++◌ (flat-same e) (flat_items-same is) ∙ sym (map-append (guarded_expr t p) (flat e) (flat_items is))

  mutual
    pub bare-same : (e : Expr) → bare (guarded_expr t p e) ≡ bare e
    bare-same (column o c) = refl
    bare-same (value ty x) = refl
    bare-same (list es) = bare_of-same es
    bare-same count_star = refl
    bare-same (nullable e) = refl
    bare-same (unary u e) = bare-same e
    bare-same (count e) = bare-same e
    bare-same (compared by a b) = ap₂ ◌++◌ (bare-same a) (bare-same b)
    bare-same (joined by a b) = ap₂ ◌++◌ (bare-same a) (bare-same b)
    bare-same (exists q) = refl
    bare-same (single q) = refl
    bare-same (among_values n e ty xs) = bare-same e
    bare-same (among_rows n e q) = bare-same e

    bare_of-same : (es : Exprs) → bare_of (guarded_exprs t p es) ≡ bare_of es
    bare_of-same no_exprs = refl
    bare_of-same (more_exprs e es) = ap₂ ◌++◌ (bare-same e) (bare_of-same es)

  mutual
    fields-same : (e : Expr) → fields (guarded_expr t p e) ≡ fields e
    fields-same (column o c) = refl
    fields-same (list es) = fields_of-same es
    fields-same (nullable e) = fields-same e
    fields-same (value ty x) = refl
    fields-same count_star = refl
    fields-same (unary u e) = refl
    fields-same (count e) = refl
    fields-same (compared by a b) = refl
    fields-same (joined by a b) = refl
    fields-same (exists q) = refl
    fields-same (single q) = refl
    fields-same (among_values n e ty xs) = refl
    fields-same (among_rows n e q) = refl

    fields_of-same : (es : Exprs) → fields_of (guarded_exprs t p es) ≡ fields_of es
    fields_of-same no_exprs = refl
    fields_of-same (more_exprs e es) = ap₂ ◌++◌ (fields-same e) (fields_of-same es)

  column_verdict-same : (g : MaybeExpr) (o : Origin) (c : ColumnDecl)
      → column_verdict (guarded_maybe t p g) o c ≡ column_verdict g o c
  column_verdict-same no_expr o c = refl
  column_verdict-same (an_expr e) o c =
      ap (λ fs. if holds_column fs o c.name || holds_key fs o then Yes else NoVerdict) (fields-same e)

  module _ (g : MaybeExpr) where
    mutual
      pub verdict-same : (e : Expr) → verdict (guarded_maybe t p g) (guarded_expr t p e) ≡ verdict g e
      verdict-same (column o c) = column_verdict-same g o c
      verdict-same (value ty x) = refl
      verdict-same (list es) = verdict_of-same es
      verdict-same count_star = refl
      verdict-same (nullable e) = verdict-same e
      verdict-same (unary u e) = verdict-same e
      verdict-same (count e) = ap (λ b. if b then NoVerdict else Yes) (holds_aggregate-same t p e)
      verdict-same (compared by a b) = ap₂ mix (verdict-same a) (verdict-same b)
      verdict-same (joined by a b) = ap₂ mix (verdict-same a) (verdict-same b)
      verdict-same (exists q) = refl
      verdict-same (single q) = refl
      verdict-same (among_values n e ty xs) = verdict-same e
      verdict-same (among_rows n e q) = verdict-same e

      verdict_of-same : (es : Exprs) → verdict_of (guarded_maybe t p g) (guarded_exprs t p es) ≡ verdict_of g es
      verdict_of-same no_exprs = refl
      verdict_of-same (more_exprs e es) = ap₂ mix (verdict-same e) (verdict_of-same es)

    items_verdict-same : (is : Items) → items_verdict (guarded_maybe t p g) (guarded_items t p is) ≡ items_verdict g is
    items_verdict-same no_items = refl
    items_verdict-same (more_items e by is) = ap₂ mix (verdict-same e) (items_verdict-same is)

    pub order_verdict-same : (o : Order) → order_verdict (guarded_maybe t p g) (guarded_order t p o) ≡ order_verdict g o
    order_verdict-same no_order = refl
    order_verdict-same (order_by is) = items_verdict-same is

    pub distinct_verdict-same : (u : Distinct)
        → distinct_verdict (guarded_maybe t p g) (guarded_distinct t p u) ≡ distinct_verdict g u
    distinct_verdict-same every = refl
    distinct_verdict-same distinct = refl
    distinct_verdict-same (distinct_on e) = verdict-same e

-- The elements of a list are those of its flattening, for types and for trees.
use Rattle.std.proofs.Common.{◌≡◌, Bool, List, [], ◌∷◌, ◌++◌, map, refl, ap, sym, ◌∙◌}
use Rattle.std.proofs.lemmas.List.{map-append}
use Rattle.sql_dialect.specs.declared.backend.Dialect.{Dialect}
use Rattle.sql_leaf.specs.declared.limit_offset.LimitOffsetClause.{LimitOffsetClause}
use Rattle.sql_leaf.specs.declared.marks.Marks.{Marks}
use Rattle.sql_node.specs.Tree.{Form, Expr, column, value, list, count_star, nullable, unary, count, compared, joined, exists, single, among_values, among_rows, Exprs, no_exprs, more_exprs, MaybeExpr, From, Distinct, Order, select}
use Rattle.sql_normal.specs.Filled.{lead, trees, trees_in}
use Rattle.sql_rules.specs.Scope.{flat, flat_of}
use Rattle.sql_rules.specs.Types.{columns, form_columns, type_of}
use Rattle.sql_rules.proofs.Nulled.{elements}

nullables : (d : Dialect) (es : List Expr)
    → map (λ x. lead (trees d x)) es ≡ map (λ x. lead (trees d x)) (map nullable es)
nullables d [] = refl
nullables d (e ∷ es) = ap (λ ts. lead (trees d e) ∷ ts) (nullables d es)

mutual
  pub flat-trees : (d : Dialect) (e : Expr) → trees d e ≡ map (λ x. lead (trees d x)) (flat e)
  flat-trees d (list es) = flat-trees_in d es
  flat-trees d (nullable e) = flat-trees d e ∙ nullables d (flat e)
  flat-trees d (column o c) = refl
  flat-trees d (value t x) = refl
  flat-trees d count_star = refl
  flat-trees d (unary n e) = refl
  flat-trees d (count e) = refl
  flat-trees d (compared by a b) = refl
  flat-trees d (joined by a b) = refl
  flat-trees d (exists q) = refl
  flat-trees d (single q) = refl
  flat-trees d (among_values n e t xs) = refl
  flat-trees d (among_rows n e q) = refl

  flat-trees_in : (d : Dialect) (es : Exprs) → trees_in d es ≡ map (λ x. lead (trees d x)) (flat_of es)
  flat-trees_in d no_exprs = refl
  flat-trees_in d (more_exprs e es) =
      (λ i. flat-trees d e i ++ flat-trees_in d es i)
      ∙ sym (map-append (λ x. lead (trees d x)) (flat e) (flat_of es))

pub flat-columns : (default : Bool) (e : Expr) (f : From) (u : Distinct) (w : MaybeExpr) (o : Order)
    (rows : LimitOffsetClause) (g h : MaybeExpr) (form : Form) (marks : Marks)
    → columns (select default e f u w o rows g h form marks) ≡ form_columns form (map type_of (flat e))
flat-columns default e f u w o rows g h form marks = ap (form_columns form) (elements e)

-- The types of an expression's elements: what nullables do to them, and that they are those of its flattening.
use Rattle.std.proofs.Common.{◌≡◌, List, [], ◌∷◌, ◌++◌, map, refl, sym, ap, ◌∙◌}
use Rattle.std.proofs.lemmas.List.{map-append}
use Rattle.sql_node.specs.Tree.{Expr, column, value, list, count_star, nullable, unary, count, compared, joined, exists, single, among_values, among_rows, Exprs, no_exprs, more_exprs}
use Rattle.sql_rules.specs.Scope.{flat, flat_of}
use Rattle.sql_rules.specs.Types.{Given, one, many, given, given_each, element_types, only_type, all_nullable, as_nullable, type_of}

pub nulled_one : (g : Given) → as_nullable (only_type g) ≡ only_type (all_nullable g)
nulled_one (one t) = refl
nulled_one (many ts) = refl

pub nulled_elements : (g : Given) → element_types (all_nullable g) ≡ map as_nullable (element_types g)
nulled_elements (one t) = refl
nulled_elements (many ts) = refl

pub nulled_each : (es : List Expr) → map as_nullable (map type_of es) ≡ map type_of (map nullable es)
nulled_each [] = refl
nulled_each (e ∷ es) =
    ap (λ t. t ∷ map as_nullable (map type_of es)) (nulled_one (given e))
    ∙ ap (λ ts. type_of (nullable e) ∷ ts) (nulled_each es)

mutual
  pub elements : (e : Expr) → element_types (given e) ≡ map type_of (flat e)
  elements (list es) = elements_of es
  elements (nullable e) = nulled_elements (given e) ∙ (ap (map as_nullable) (elements e) ∙ nulled_each (flat e))
  elements (column o c) = refl
  elements (value t x) = refl
  elements count_star = refl
  elements (unary n e) = refl
  elements (count e) = refl
  elements (compared by a b) = refl
  elements (joined by a b) = refl
  elements (exists q) = refl
  elements (single q) = refl
  elements (among_values n e t xs) = refl
  elements (among_rows n e q) = refl

  elements_of : (es : Exprs) → given_each es ≡ map type_of (flat_of es)
  elements_of no_exprs = refl
  elements_of (more_exprs e es) =
      ap (λ ts. ts ++ given_each es) (elements e)
      ∙ (ap (λ ts. map type_of (flat e) ++ ts) (elements_of es) ∙ sym (map-append type_of (flat e) (flat_of es)))

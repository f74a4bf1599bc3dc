-- What has a type is no list, and a list that is not empty has an element.
use Rattle.std.proofs.Common.{◌≡◌, List, [], ◌∷◌, ◌++◌, map, Option, refl, ap, inl, inr, ◌⊎◌}
use Rattle.sql_schema.specs.declared.types.SqlType.{SqlType}
use Rattle.sql_node.specs.Tree.{Expr, column, value, list, count_star, nullable, unary, count, compared, joined, exists, single, among_values, among_rows, Exprs, no_exprs, more_exprs}
use Rattle.sql_normal.specs.inside.HasText.{IsSingle, HasElement, SomeElement}
use Rattle.sql_rules.specs.Lists.{AnyOf, Each}
use Rattle.sql_rules.specs.Rules.{IsIllTyped}
use Rattle.sql_rules.specs.Scope.{nodes, nodes_of, flat, flat_of}
use Rattle.sql_rules.specs.Types.{many, given, only_type, all_nullable, as_nullable}
use Rattle.sql_rules_law.proofs.Lists.{each_not, each_map, each_front, each_back, each_under}

-- ## Operands

-- of a list, and of nullables over one, types are many
single_or_many : (e : Expr) → IsSingle e ⊎ ((ts : List (Option SqlType)) × (given e ≡ many ts))
single_or_many (list es) = inr (_, refl)
single_or_many (nullable e) = go (single_or_many e)
  where
    go : IsSingle e ⊎ ((ts : List (Option SqlType)) × (given e ≡ many ts))
        → IsSingle e ⊎ ((ts : List (Option SqlType)) × (all_nullable (given e) ≡ many ts))
    go (inl h) = inl h
    go (inr h) = inr (map as_nullable h.0, ap all_nullable h.1)
single_or_many _ = inl tt

pub typed_is_single : (e : Expr) → ¬ IsIllTyped e → IsSingle e
typed_is_single (value t x) h = tt
typed_is_single (list es) h = absurd (h refl)
typed_is_single (nullable e) h = go (single_or_many (nullable e))
  where
    go : IsSingle (nullable e) ⊎ ((ts : List (Option SqlType)) × (given (nullable e) ≡ many ts)) → IsSingle (nullable e)
    go (inl k) = k
    go (inr k) = absurd (h (ap only_type k.1))
typed_is_single _ h = tt

abbrev pub AreTyped : List Expr → Type 0
AreTyped es = Each (λ e. ¬ IsIllTyped e) es

pub tops_typed : (es : List Expr) → ¬ AnyOf (λ e. AnyOf IsIllTyped (nodes e)) es → Each (λ e. AreTyped (nodes e)) es
tops_typed es h = each_map _ _ (λ e k. each_not IsIllTyped (nodes e) k) es (each_not _ es h)

-- ## Lists

-- what stands below an expression that is no list
abbrev below : Expr → List Expr
below (column o c) = []
below (value t x) = []
below (list es) = nodes_of es
below count_star = []
below (nullable e) = nodes e
below (unary n e) = nodes e
below (count e) = nodes e
below (compared by a b) = nodes a ++ nodes b
below (joined by a b) = nodes a ++ nodes b
below (exists q) = []
below (single q) = []
below (among_values n e t xs) = nodes e
below (among_rows n e q) = nodes e

-- Everything is typed that stands inside an expression, or inside the elements of a list.
abbrev mutual
  pub IsTypedInside : Expr → Type 0
  IsTypedInside (list es) = AreTypedInside es
  IsTypedInside (nullable e) = IsTypedInside e
  IsTypedInside e = AreTyped (below e)

  pub AreTypedInside : Exprs → Type 0
  AreTypedInside no_exprs = Unit {0}
  AreTypedInside (more_exprs e es) = IsTypedInside e × AreTypedInside es

pub inside_one : (e : Expr) → AreTyped (nodes e) → IsTypedInside e
inside_one (list es) t = absurd (t.0 refl)
inside_one (nullable e) t = inside_one e t.1
inside_one (column o c) t = tt
inside_one (value k x) t = tt
inside_one count_star t = tt
inside_one (exists q) t = tt
inside_one (single q) t = tt
inside_one _ t = t.1

mutual
  pub inside_list : (e : Expr) → Each (λ x. AreTyped (nodes x)) (flat e) → IsTypedInside e
  inside_list (list es) t = inside_lists es t
  inside_list (nullable e) t =
      inside_list e (each_map _ _ (λ x h. h.1) (flat e) (each_under (λ x. AreTyped (nodes x)) nullable (flat e) t))
  inside_list _ t = t.0.1

  inside_lists : (es : Exprs) → Each (λ x. AreTyped (nodes x)) (flat_of es) → AreTypedInside es
  inside_lists no_exprs t = tt
  inside_lists (more_exprs e es) t =
      (inside_list e (each_front _ (flat e) (flat_of es) t), inside_lists es (each_back _ (flat e) (flat_of es) t))

-- ## Elements

abbrev IsSome : List Expr → Type 0
IsSome [] = ⊥
IsSome (e ∷ es) = Unit {0}

some_list : (es : List Expr) → ¬ (es ≡ []) → IsSome es
some_list [] h = h refl
some_list (e ∷ es) h = tt

some_either : (xs ys : List Expr) → IsSome (xs ++ ys) → IsSome xs ⊎ IsSome ys
some_either [] ys h = inr h
some_either (x ∷ xs) ys h = inl tt

some_mapped : (f : Expr → Expr) (xs : List Expr) → IsSome (map f xs) → IsSome xs
some_mapped f [] h = h
some_mapped f (x ∷ xs) h = tt

mutual
  element : (e : Expr) → IsSome (flat e) → HasElement e
  element (list es) h = elements es h
  element (nullable e) h = element e (some_mapped nullable (flat e) h)
  element _ h = tt

  elements : (es : Exprs) → IsSome (flat_of es) → SomeElement es
  elements no_exprs h = h
  elements (more_exprs e es) h =
      elim (some_either (flat e) (flat_of es) h) [ inl k ↦ inl (element e k) | inr k ↦ inr (elements es k) ]

pub has_element : (e : Expr) → ¬ (flat e ≡ []) → HasElement e
has_element e h = element e (some_list (flat e) h)

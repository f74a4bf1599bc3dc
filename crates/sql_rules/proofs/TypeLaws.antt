-- An expression without a type leaves all around it without one, so that the type of the whole and the values in it tell whether
-- some expression in it is ill-typed.
use Rattle.std.proofs.Common.{◌≡◌, Bool, true, false, not, ◌||◌, List, [], ◌∷◌, ◌++◌, map, Option, Some, None, refl, sym, ap, ◌∙◌, subst, inl, inr, if◌then◌else◌, cond}
use Rattle.std.specs.Bool.{Decides}
use Rattle.std.specs.List.{list_any}
use Rattle.std.specs.Option.{is_none, is_some}
use Rattle.std.proofs.lemmas.Bool.{true≢false, false≢true}
use Rattle.std.proofs.lemmas.Bool.Decides.{Decides-at, Decides-like}
use Rattle.sql_schema.specs.declared.types.SqlType.{SqlType}
use Rattle.sql_pass.specs.declared.value.Value.{Value}
use Rattle.sql_node.specs.Tree.{Expr, column, value, list, count_star, nullable, unary, count, compared, joined, exists, single, among_values, among_rows}
use Rattle.sql_rules.specs.Lists.{AnyOf}
use Rattle.sql_rules.specs.Rules.{IsIllTyped}
use Rattle.sql_rules.specs.Scope.{nodes, flat}
use Rattle.sql_rules.specs.Types.{Given, one, many, given, only_type, all_nullable, as_nullable, unary_type, if_typed, compared_type, joined_type, among_type, single_type, big_type, columns, type_of, fits, all_fit}
use Rattle.sql_rules.specs.inside.Misfits.{misfit}
use Rattle.std.proofs.lemmas.List.Folds.{list_any-append}
use Rattle.sql_rules.proofs.Loops.{any-decides, any_each, any_map, map_any}

-- whether one expression, apart from those in it, is ill-typed
abbrev ill : Expr → Bool
ill (value t x) = not (fits t x)
ill e = is_none (type_of e)

untyped : (t : Option SqlType) → Decides (is_none t) (t ≡ None)
untyped None = (λ e. refl, λ e. refl)
untyped (Some t) = (λ e. absurd (false≢true e), λ e. cc)

refused : (b : Bool) → Decides (not b) (b ≡ false)
refused true = (λ e. absurd (false≢true e), λ e. absurd (true≢false e))
refused false = (λ e. refl, λ e. refl)

ill-decides : (e : Expr) → Decides (ill e) (IsIllTyped e)
ill-decides (value t x) = refused (fits t x)
ill-decides (column o c) = untyped _
ill-decides (list es) = untyped _
ill-decides count_star = untyped _
ill-decides (nullable e) = untyped _
ill-decides (unary n e) = untyped _
ill-decides (count e) = untyped _
ill-decides (compared by a b) = untyped _
ill-decides (joined by a b) = untyped _
ill-decides (exists q) = untyped _
ill-decides (single q) = untyped _
ill-decides (among_values n e t xs) = untyped _
ill-decides (among_rows n e q) = untyped _

-- ---- what has no type leaves what stands around it without one

up : (f : Option SqlType → Option SqlType) → f None ≡ None → (t : Option SqlType) → is_none t ≡ true
    → is_none (f t) ≡ true
up f e None h = ap is_none e
up f e (Some t) h = absurd (false≢true h)

compared-right : (a : Option SqlType) → compared_type a None ≡ None
compared-right None = refl
compared-right (Some a) = refl

joined-right : (a : Option SqlType) → joined_type a None ≡ None
joined-right None = refl
joined-right (Some a) = refl

either : (b : Bool) (n : Option SqlType) → (if b then n else n) ≡ n
either true n = refl
either false n = refl

nullable-type : (g : Given) → only_type (all_nullable g) ≡ as_nullable (only_type g)
nullable-type (one t) = refl
nullable-type (many ts) = refl

as_nullable-none : (t : Option SqlType) → is_none (as_nullable t) ≡ is_none t
as_nullable-none None = refl
as_nullable-none (Some t) = refl

-- ---- tests

absorb : (top n m : Bool) → (n ≡ true → top ≡ true) → (top || (n || m)) ≡ (top || m)
absorb true n m h = refl
absorb false true m h = absurd (false≢true (h refl))
absorb false false m h = refl

absorb_both : (top n m k l : Bool) → (n ≡ true → top ≡ true) → (k ≡ true → top ≡ true)
    → (top || ((n || m) || (k || l))) ≡ (top || (m || l))
absorb_both true n m k l h i = refl
absorb_both false true m k l h i = absurd (false≢true (h refl))
absorb_both false false m true l h i = absurd (false≢true (i refl))
absorb_both false false m false l h i = refl

-- the whole has no type, or a value in it does not fit
abbrev pub ill_typed : Expr → Bool
ill_typed e = is_none (type_of e) || list_any misfit (nodes e)

abbrev any_ill : Expr → Bool
any_ill e = list_any ill (nodes e)

below : (top : Bool) (e : Expr) → any_ill e ≡ ill_typed e → (is_none (type_of e) ≡ true → top ≡ true)
    → (top || any_ill e) ≡ (top || list_any misfit (nodes e))
below top e h up = ap (λ b. top || b) h ∙ absorb top (is_none (type_of e)) (list_any misfit (nodes e)) up

below_both : (top : Bool) (a b : Expr) → any_ill a ≡ ill_typed a → any_ill b ≡ ill_typed b
    → (is_none (type_of a) ≡ true → top ≡ true) → (is_none (type_of b) ≡ true → top ≡ true)
    → (top || list_any ill (nodes a ++ nodes b)) ≡ (top || list_any misfit (nodes a ++ nodes b))
below_both top a b h k up other =
    ap (λ x. top || x)
    (list_any-append ill (nodes a) (nodes b) ∙ ap (λ x. x || any_ill b) h ∙ ap (λ x. ill_typed a || x) k)
    ∙ absorb_both top (is_none (type_of a)) (list_any misfit (nodes a)) (is_none (type_of b))
    (list_any misfit (nodes b)) up other
    ∙ ap (λ x. top || x) (sym (list_any-append misfit (nodes a) (nodes b)))

same_test : (e : Expr) → any_ill e ≡ ill_typed e
same_test (column o c) = refl
same_test (value t x) = refl
same_test (list es) = refl
same_test count_star = refl
same_test (nullable e) =
    below _ e (same_test e) (λ h. ap is_none (nullable-type (given e)) ∙ as_nullable-none (type_of e) ∙ h)
same_test (unary u e) = below _ e (same_test e) (up (unary_type u) refl (type_of e))
same_test (count e) = below _ e (same_test e) (up (λ t. if_typed t big_type) refl (type_of e))
same_test (compared by a b) =
    below_both _ a b (same_test a) (same_test b) (up (λ t. compared_type t (type_of b)) refl (type_of a))
    (up (λ t. compared_type (type_of a) t) (compared-right (type_of a)) (type_of b))
same_test (joined by a b) =
    below_both _ a b (same_test a) (same_test b) (up (λ t. joined_type t (type_of b)) refl (type_of a))
    (up (λ t. joined_type (type_of a) t) (joined-right (type_of a)) (type_of b))
same_test (exists q) = refl
same_test (single q) = or-false _
  where
    or-false : (b : Bool) → (b || false) ≡ (b || (false || false))
    or-false b = refl
same_test (among_values n e t xs) =
    below _ e (same_test e) (up (λ x. among_type x t xs) (either (all_fit t xs) None) (type_of e))
same_test (among_rows n e q) =
    below _ e (same_test e) (up (λ x. compared_type x (single_type (columns q))) refl (type_of e))

pub none-test : {X : Type 0} (t : Option X) (r : Bool) → is_some t ≡ not r → is_none t ≡ r
none-test None true h = refl
none-test None false h = absurd (false≢true h)
none-test (Some x) true h = absurd (true≢false h)
none-test (Some x) false h = refl

pub any-mapped : {X Y : Type 0} (t : Y → Bool) (f : X → Y) (xs : List X)
    → list_any (λ x. t (f x)) xs ≡ list_any t (map f xs)
any-mapped t f [] = refl
any-mapped t f (x ∷ xs) = ap (λ b. t (f x) || b) (any-mapped t f xs)

pub ill_typed-decides : (e : Expr) → Decides (ill_typed e) (AnyOf IsIllTyped (nodes e))
ill_typed-decides e =
    Decides-at (ill_typed e) (any_ill e) (sym (same_test e)) (any-decides IsIllTyped ill ill-decides (nodes e))

-- ---- under nullables

nullable-test : (e : Expr) → ill_typed (nullable e) ≡ ill_typed e
nullable-test e =
    ap (λ b. b || list_any misfit (nodes e)) (ap is_none (nullable-type (given e)) ∙ as_nullable-none (type_of e))

abbrev IllInside : Expr → Type 0
IllInside e = AnyOf IsIllTyped (nodes e)

out_of : (e : Expr) → IllInside (nullable e) → IllInside e
out_of e h = (ill_typed-decides e).0 (sym (nullable-test e) ∙ (ill_typed-decides (nullable e)).1 h)

into : (e : Expr) → IllInside e → IllInside (nullable e)
into e h = (ill_typed-decides (nullable e)).0 (nullable-test e ∙ (ill_typed-decides e).1 h)

pub flat-nullable : {b : Bool} (e : Expr) → Decides b (AnyOf (λ x. AnyOf IsIllTyped (nodes x)) (flat e))
    → Decides b (AnyOf (λ x. AnyOf IsIllTyped (nodes x)) (flat (nullable e)))
flat-nullable {b} e d =
    Decides-like b (λ h. map_any IllInside nullable (flat e)
    (any_each IllInside (λ x. IllInside (nullable x)) into (flat e) h))
    (λ h. any_each (λ x. IllInside (nullable x)) IllInside out_of (flat e) (any_map IllInside nullable (flat e) h)) d

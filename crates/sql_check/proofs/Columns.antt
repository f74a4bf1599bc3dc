-- Each column of a statement that breaks no rule has a type.
use Rattle.std.proofs.Common.{◌≡◌, List, [], ◌∷◌, map, Option, None, Some, true, false, refl, sym, ap, subst, inl, inr}
use Rattle.sql_schema.specs.Declarations.{Declarations}
use Rattle.sql_schema.specs.declared.types.SqlType.{SqlType}
use Rattle.sql_dialect.specs.declared.backend.Dialect.{Dialect}
use Rattle.sql_node.specs.Tree.{Form, unboxed, boxed, Expr, column, value, list, count_star, nullable, unary, count, compared, joined, exists, single, among_values, among_rows, Statement, select, combination}
use Rattle.sql_rules.specs.Lists.{AnyOf, Each}
use Rattle.sql_rules.specs.Rules.{Accepted, PartBreaks, IsIllTyped, IsIllTypedClause}
use Rattle.sql_rules.specs.Scope.{View, parts, flat, nodes, distinct_clause}
use Rattle.sql_rules.specs.Types.{given, element_types, as_nullable, type_of, columns, form_columns}
use Rattle.sql_rules.specs.declared.rule.Rule.TheVariants as R
use Rattle.sql_rules.proofs.Lists.{any_left, any_right}
use Rattle.sql_rules.proofs.Nulled.{elements}
use Rattle.sql_check.specs.Typed.{known}

-- ---- types that are there

abbrev IsThere : Option SqlType → Type 0
IsThere None = ⊥
IsThere (Some t) = Unit {0}

there : (t : Option SqlType) → ¬ (t ≡ None) → IsThere t
there None h = h refl
there (Some t) h = tt

typed : (e : Expr) → ¬ IsIllTyped e → IsThere (type_of e)
typed (value t x) h = tt
typed (column o c) h = tt
typed (list es) h = there _ h
typed count_star h = tt
typed (nullable e) h = there _ h
typed (unary n e) h = there _ h
typed (count e) h = there _ h
typed (compared by a b) h = there _ h
typed (joined by a b) h = there _ h
typed (exists q) h = there _ h
typed (single q) h = there _ h
typed (among_values n e t xs) h = there _ h
typed (among_rows n e q) h = there _ h

-- an expression is the first of those that stand in it
top : (e : Expr) → ¬ AnyOf IsIllTyped (nodes e) → ¬ IsIllTyped e
top (column o c) h = λ i. h (inl i)
top (value t x) h = λ i. h (inl i)
top (list es) h = λ i. h (inl i)
top count_star h = λ i. h (inl i)
top (nullable e) h = λ i. h (inl i)
top (unary n e) h = λ i. h (inl i)
top (count e) h = λ i. h (inl i)
top (compared by a b) h = λ i. h (inl i)
top (joined by a b) h = λ i. h (inl i)
top (exists q) h = λ i. h (inl i)
top (single q) h = λ i. h (inl i)
top (among_values n e t xs) h = λ i. h (inl i)
top (among_rows n e q) h = λ i. h (inl i)

each_typed : (es : List Expr) → ¬ AnyOf (λ e. AnyOf IsIllTyped (nodes e)) es → Each IsThere (map type_of es)
each_typed [] h = tt
each_typed (e ∷ es) h = (typed e (top e (λ i. h (inl i))), each_typed es (λ i. h (inr i)))

nulled_there : (t : Option SqlType) → IsThere t → IsThere (as_nullable t)
nulled_there None h = h
nulled_there (Some t) h = tt

all_nulled_there : (ts : List (Option SqlType)) → Each IsThere ts → Each IsThere (map as_nullable ts)
all_nulled_there [] h = tt
all_nulled_there (t ∷ ts) h = (nulled_there t h.0, all_nulled_there ts h.1)

in_form : (form : Form) (ts : List (Option SqlType)) → Each IsThere ts → Each IsThere (form_columns form ts)
in_form (unboxed l) ts h = h
in_form (boxed d false) ts h = h
in_form (boxed d true) ts h = all_nulled_there ts h

are_there : (schema : Declarations) (d : Dialect) (outer : View) (s : Statement)
    → ¬ AnyOf (PartBreaks R.TypeMismatch schema d) (parts outer s) → Each IsThere (columns s)
are_there schema d outer (combination by all a b o rows) h =
    are_there schema d outer a (λ i. h (inr (any_left (PartBreaks R.TypeMismatch schema d) (parts outer a)
    (parts outer b) i)))
are_there schema d outer (select default e f u w o rows g x form marks) h =
    let selection : ¬ AnyOf (λ y. AnyOf IsIllTyped (nodes y)) (flat e) =
    λ i. h (inl (inl (any_right IsIllTypedClause (distinct_clause _ u) _ (inl (inl i))))) in
    in_form form (element_types (given e)) (subst (Each IsThere) (sym (elements e)) (each_typed (flat e) selection))

known_all : (ts : List (Option SqlType)) → Each IsThere ts → map Some (known ts) ≡ ts
known_all [] h = refl
known_all (None ∷ ts) h = absurd h.0
known_all (Some t ∷ ts) h = ap (λ us. Some t ∷ us) (known_all ts h.1)

pub known_columns : (schema : Declarations) (d : Dialect) (s : Statement) → Accepted schema d s
    → map Some (known (columns s)) ≡ columns s
known_columns schema d s h = known_all (columns s) (are_there schema d [] s (h R.TypeMismatch))

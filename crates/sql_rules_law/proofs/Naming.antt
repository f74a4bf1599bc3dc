-- Each column's path names one leaf.
use Rattle.std.proofs.Common.{◌≡◌, ℕ, ◌<◌, List, [], ◌∷◌, ◌++◌, Bool, true, false, Some, refl, sym, ap, inl, inr, ◌⊎◌, ◌∙◌, subst}
use Rattle.std.proofs.lemmas.Bool.{cases_order, false≢true}
use Rattle.std.proofs.lemmas.Cmp.{nat_list_eq_equiv}
use Rattle.std.specs.Prelude.{slice_get}
use Rattle.std.specs.Str.{bytes_eq}
use Rattle.sql_schema.proofs.ExactTypes.{exact-text}
use Rattle.sql_schema.specs.Declarations.{Declarations}
use Rattle.sql_schema.specs.declared.declaration.ColumnDecl.{ColumnDecl}
use Rattle.sql_dialect.specs.declared.backend.Dialect.{Dialect}
use Rattle.sql_node.specs.Tree.{Origin, Expr, column, Statement}
use Rattle.sql_origin.specs.Origins.{exposed_path, same_origin}
use Rattle.sql_origin.proofs.OriginLaws.{same-equal}
use Rattle.sql_rules.specs.Lists.{AnyOf, AnyPair, IsSuffix}
use Rattle.sql_rules.specs.Names.{path, Names, NamesOnly, IsNamed}
use Rattle.sql_rules.specs.Rules.{IsUnknownColumn, Clash, IsSeen, IsOutOfScope, PartBreaks, Broken}
use Rattle.sql_rules.specs.Scope.{View, widest, Part, a_select, a_combination, parts, clauses, nodes, EachExprIn, EachNode}
use Rattle.sql_rules.specs.declared.rule.Rule.TheVariants as R
use Rattle.sql_rules_law.proofs.Lists.{each_not, each_both, each_map, each_apply, place_of, pair_at, any_or_none}
use Rattle.sql_rules_law.proofs.Views.{IsPart, clauses_part, pair_in_part}

-- ## What can be decided

true_or_not : (b : Bool) → (b ≡ true) ⊎ ¬ (b ≡ true)
true_or_not true = inl refl
true_or_not false = inr (λ h. false≢true h)

same_or_other : (a b : Origin) → (a ≡ b) ⊎ ¬ (a ≡ b)
same_or_other a b =
    elim (true_or_not (same_origin a b)) [
      | inl h ↦ inl ((same-equal a b).0 h)
      | inr n ↦ inr (λ e. n ((same-equal a b).1 e))
    ]

same_text_or_other : (a b : List ℕ) → (a ≡ b) ⊎ ¬ (a ≡ b)
same_text_or_other a b =
    elim (true_or_not (bytes_eq a b)) [
      | inl h ↦ inl (exact-text a b h)
      | inr n ↦ inr (λ e. n (subst (λ c. bytes_eq a c ≡ true) e (nat_list_eq_equiv.refl a)))
    ]

decided : {P : Type 0} → P ⊎ ¬ P → ¬ ¬ P → P
decided (inl p) h = p
decided (inr n) h = absurd (h n)

seen_or_not : (v : View) (o : Origin) → IsSeen v o ⊎ ¬ IsSeen v o
seen_or_not v o = any_or_none (λ l. l ≡ o) (λ l. same_or_other l o) v

-- the table has a column of that name
abbrev HasName : List ColumnDecl → List ℕ → Type 0
HasName cs name = AnyOf (λ (d : ColumnDecl). d.sql_name ≡ name) cs

name_or_not : (cs : List ColumnDecl) (name : List ℕ) → HasName cs name ⊎ ¬ HasName cs name
name_or_not cs name = any_or_none (λ (d : ColumnDecl). d.sql_name ≡ name) (λ d. same_text_or_other d.sql_name name) cs

column_named : (cs : List ColumnDecl) (c : ColumnDecl) → AnyOf (λ d. d ≡ c) cs → HasName cs c.sql_name
column_named [] c h = absurd h
column_named (d ∷ cs) c (inl e) = inl (ap (λ (x : ColumnDecl). x.sql_name) e)
column_named (d ∷ cs) c (inr h) = inr (column_named cs c h)

-- ## One leaf

front_of : List (List ℕ) → List (List ℕ)
front_of [] = []
front_of (x ∷ []) = []
front_of (x ∷ (y ∷ ys)) = x ∷ front_of (y ∷ ys)

front-push : (xs : List (List ℕ)) (x : List ℕ) → front_of (xs ++ x ∷ []) ≡ xs
unfolding front_of
front-push [] x = refl
front-push (a ∷ []) x = refl
front-push (a ∷ (b ∷ xs)) x = ap (λ ys. a ∷ ys) (front-push (b ∷ xs) x)

-- what a column's path names exposes a path that ends in the column's own
named_suffix : (o l : Origin) (c : ColumnDecl) → Names (path o c) l → IsSuffix (exposed_path o) (exposed_path l)
named_suffix o l c h =
    let same : h.0 ≡ exposed_path o =
    sym (front-push h.0 h.1) ∙ ap front_of (sym h.2) ∙ front-push (exposed_path o) c.sql_name in
    subst (λ f. IsSuffix f (exposed_path l)) same h.3

named_self : (o : Origin) (c : ColumnDecl) → HasName o.table.columns c.sql_name → Names (path o c) o
named_self o c h = (exposed_path o, c.sql_name, refl, ([], refl), h)

only_one : (v : View) → ¬ AnyPair (λ a b. a ≡ b) v → ¬ AnyPair Clash v → (o : Origin) (c : ColumnDecl)
    → HasName o.table.columns c.sql_name → IsSeen v o → NamesOnly v (path o c) o
only_one v one apart o c has seen =
    let at = place_of o v seen in (
      at.0,
      at.1,
      named_self o c has,
      λ j l e names. other j l e (named_suffix o l c names) at.0 at.1 (cases_order j at.0),
    )
  where
    other : (j : ℕ) (l : Origin) → slice_get v j ≡ Some l → IsSuffix (exposed_path o) (exposed_path l) → (k : ℕ)
        → slice_get v k ≡ Some o → (j ≡ k) ⊎ ((j < k) ⊎ (k < j)) → j ≡ k
    other j l e s k f (inl h) = h
    other j l e s k f (inr (inl h)) = elim (same_or_other l o) [
      | inl q ↦ absurd (one (pair_at (λ a b. a ≡ b) v j k l o h e f q))
      | inr q ↦ absurd (apart (pair_at Clash v j k l o h e f (q, inr s)))
    ]
    other j l e s k f (inr (inr h)) = elim (same_or_other o l) [
      | inl q ↦ absurd (one (pair_at (λ a b. a ≡ b) v k j o l h f e q))
      | inr q ↦ absurd (apart (pair_at Clash v k j o l h f e (q, inl s)))
    ]

-- ## Everywhere

expr_law : (schema : Declarations) (v : View) → ¬ AnyPair (λ a b. a ≡ b) v → ¬ AnyPair Clash v → (e : Expr)
    → ¬ IsUnknownColumn schema e → ¬ IsOutOfScope v e → IsNamed v e
expr_law schema v one apart (column o c) u s =
    only_one v one apart o c
    (decided (name_or_not o.table.columns c.sql_name) (λ n. u (λ h. n (column_named o.table.columns c h.1))))
    (decided (seen_or_not v o) s)
expr_law schema v one apart _ u s = tt

part_law : (schema : Declarations) (d : Dialect) (p : Part)
    → ¬ PartBreaks R.UnknownName schema d p → ¬ PartBreaks R.Ambiguous schema d p → ¬ PartBreaks R.NameClash schema d p
    → ¬ PartBreaks R.NotInScope schema d p → EachExprIn IsNamed p
part_law schema d (a_select outer s) unknown twice clash scope =
    let cs = clauses outer s in
    let known = each_not (λ c. AnyOf (IsUnknownColumn schema) (nodes c.expr)) cs (λ h. unknown (inr h)) in
    let seen = each_not (λ c. AnyOf (IsOutOfScope c.view) (nodes c.expr)) cs scope in
    each_both _ _ _
    (λ c (within : IsPart c.view (widest s.form s.source outer))
    (h : ¬ AnyOf (IsUnknownColumn schema) (nodes c.expr) × ¬ AnyOf (IsOutOfScope c.view) (nodes c.expr)).
    each_both _ _ _
    (expr_law schema c.view (λ p. twice (pair_in_part _ c.view _ within p)) (λ p. clash (pair_in_part _ c.view _
    within p)))
    (nodes c.expr) (each_not _ (nodes c.expr) h.0) (each_not _ (nodes c.expr) h.1))
    cs (clauses_part outer s) (each_both _ _ _ (λ c x y. (x, y)) cs known seen)
part_law schema d (a_combination c) unknown twice clash scope = tt

pub names_one_leaf : (schema : Declarations) (d : Dialect) (s : Statement)
    → ¬ Broken R.UnknownName schema d s → ¬ Broken R.Ambiguous schema d s → ¬ Broken R.NameClash schema d s
    → ¬ Broken R.NotInScope schema d s → EachNode IsNamed s
names_one_leaf schema d s unknown twice clash scope =
    let ps : List Part = parts [] s in
    each_apply _ _ ps (each_apply _ _ ps (each_apply _ _ ps (each_map _ _ (part_law schema d) ps
    (each_not (PartBreaks R.UnknownName schema d) ps unknown)) (each_not (PartBreaks R.Ambiguous schema d) ps twice))
    (each_not (PartBreaks R.NameClash schema d) ps clash)) (each_not (PartBreaks R.NotInScope schema d) ps scope)

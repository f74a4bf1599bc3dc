-- Tests for ends of paths, and for leaves that may not stand beside each other, decide what they test.
use Rattle.std.proofs.Common.{◌≡◌, ℕ, Bool, true, false, not, ◌&&◌, ◌||◌, List, [], ◌∷◌, ◌++◌, Option, Some, None, refl, sym, ap, ◌∙◌, subst, inl, inr}
use Rattle.std.specs.Bool.{Decides}
use Rattle.std.specs.Str.{bytes_eq}
use Rattle.std.proofs.lemmas.Bool.{true≢false, false≢true}
use Rattle.std.proofs.lemmas.Bool.Decides.{Decides-and, Decides-or, Decides-not}
use Rattle.std.proofs.lemmas.Slice.Eq.{bytes_eq-Decides}
use Rattle.sql_schema.specs.Equality.{same_table}
use Rattle.sql_schema.specs.declared.declaration.TableDecl.{TableDecl}
use Rattle.sql_node.specs.Tree.{Origin}
use Rattle.sql_origin.proofs.OriginLaws.{origin-decides, table-decides}
use Rattle.sql_origin.specs.Origins.{same_origin, table_path, path_under, exposed_path}
use Rattle.sql_rules.specs.Lists.{IsSuffix}
use Rattle.sql_schema.specs.Declarations.{Declarations}
use Rattle.sql_schema.specs.Together.{may_stand_together}
use Rattle.sql_rules.specs.Rules.{Clash, MayNotMeet}
use Rattle.sql_rules_check.specs.inside.Ends.{path_ends, front_under, last_under, leaf_ends, leaves_clash, tables_part}
use Rattle.sql_rules_check.specs.inside.Tables.{last_alike}

last_of_one : {X : Type 0} (x y : X) (front : List X) → y ∷ [] ≡ front ++ x ∷ [] → x ≡ y
last_of_one x y [] e = cc
last_of_one x y (z ∷ []) e = cc
last_of_one x y (z ∷ (w ∷ front)) e = cc

last_of_two : {X : Type 0} (x t y : X) (front : List X) → t ∷ (y ∷ []) ≡ front ++ x ∷ [] → x ≡ y
last_of_two x t y [] e = cc
last_of_two x t y (z ∷ []) e = cc
last_of_two x t y (z ∷ (w ∷ [])) e = cc
last_of_two x t y (z ∷ (w ∷ (v ∷ front))) e = cc

two_in_one : {X : Type 0} (s x y : X) (front : List X) → y ∷ [] ≡ front ++ s ∷ (x ∷ []) → ⊥
two_in_one s x y [] e = cc
two_in_one s x y (z ∷ []) e = cc
two_in_one s x y (z ∷ (w ∷ front)) e = cc

two_in_two : {X : Type 0} (s x t y : X) (front : List X) → t ∷ (y ∷ []) ≡ front ++ s ∷ (x ∷ []) → (s ≡ t) × (x ≡ y)
two_in_two s x t y [] e = (cc, cc)
two_in_two s x t y (z ∷ []) e = (cc, cc)
two_in_two s x t y (z ∷ (w ∷ [])) e = (cc, cc)
two_in_two s x t y (z ∷ (w ∷ (v ∷ front))) e = (cc, cc)

and_parts : (a b : Bool) → (a && b) ≡ true → (a ≡ true) × (b ≡ true)
and_parts true b h = (refl, h)
and_parts false b h = absurd (false≢true h)

and_both : (a b : Bool) → a ≡ true → b ≡ true → (a && b) ≡ true
and_both a b h k = ap (λ x. x && b) h ∙ k

pub end-decides : (f : Option (List ℕ)) (x : List ℕ) (g : Option (List ℕ)) (y : List ℕ)
    → Decides (path_ends f x g y) (IsSuffix (table_path f x) (table_path g y))
end-decides None x None y = (
  λ h. ([], ap (λ z. z ∷ []) (sym ((bytes_eq-Decides x y).0 h))),
  λ p. (bytes_eq-Decides x y).1 (last_of_one x y p.0 p.1),
)
end-decides None x (Some t) y = (
  λ h. (t ∷ [], ap (λ z. t ∷ (z ∷ [])) (sym ((bytes_eq-Decides x y).0 h))),
  λ p. (bytes_eq-Decides x y).1 (last_of_two x t y p.0 p.1),
)
end-decides (Some s) x None y = (λ h. absurd (false≢true h), λ p. absurd (two_in_one s x y p.0 p.1))
end-decides (Some s) x (Some t) y = (
  λ h. let p = and_parts (bytes_eq s t) (bytes_eq x y) h in
      ([], λ i. (sym ((bytes_eq-Decides s t).0 p.0)) i ∷ ((sym ((bytes_eq-Decides x y).0 p.1)) i ∷ [])),
  λ p. let q = two_in_two s x t y p.0 p.1 in
      and_both (bytes_eq s t) (bytes_eq x y) ((bytes_eq-Decides s t).1 q.0) ((bytes_eq-Decides x y).1 q.1),
)

path-of : (a : Option (List ℕ)) (t : TableDecl) → path_under a t ≡ table_path (front_under a t) (last_under a t)
path-of None t = refl
path-of (Some a) t = refl

pub leaf-ends : (a b : Origin) → Decides (leaf_ends a b) (IsSuffix (exposed_path a) (exposed_path b))
leaf-ends a b =
    subst (λ p. Decides (leaf_ends a b) (IsSuffix p (exposed_path b))) (sym (path-of a.alias a.table))
    (subst
    (λ q. Decides (leaf_ends a b)
    (IsSuffix (table_path (front_under a.alias a.table) (last_under a.alias a.table)) q))
    (sym (path-of b.alias b.table))
    (end-decides (front_under a.alias a.table) (last_under a.alias a.table) (front_under b.alias b.table)
    (last_under b.alias b.table)))

pub clash-decides : (a b : Origin) → Decides (leaves_clash a b) (Clash a b)
clash-decides a b =
    Decides-and (not (same_origin a b)) (leaf_ends a b || leaf_ends b a)
    (Decides-not (same_origin a b) (origin-decides a b))
    (Decides-or (leaf_ends a b) (leaf_ends b a) (leaf-ends a b) (leaf-ends b a))

refused : (b : Bool) → Decides (not b) (b ≡ false)
refused true = (λ e. absurd (false≢true e), λ e. absurd (true≢false e))
refused false = (λ e. refl, λ e. refl)

pub apart-decides : (s : Declarations) (a b : Origin) → Decides (tables_part s a.table b.table) (MayNotMeet s a b)
apart-decides s a b =
    Decides-and (not (same_table a.table b.table)) (not (may_stand_together s.together a.table b.table))
    (Decides-not (same_table a.table b.table) (table-decides a.table b.table))
    (refused (may_stand_together s.together a.table b.table))

-- ---- the last names of leaves that clash are one

end-last : (f : Option (List ℕ)) (x : List ℕ) (g : Option (List ℕ)) (y : List ℕ) → path_ends f x g y ≡ true
    → bytes_eq x y ≡ true
end-last None x g y h = h
end-last (Some s) x None y h = absurd (false≢true h)
end-last (Some s) x (Some t) y h = (and_parts (bytes_eq s t) (bytes_eq x y) h).1

last-of : (a b : Origin) → leaf_ends a b ≡ true → last_alike a b ≡ true
last-of a b =
    end-last (front_under a.alias a.table) (last_under a.alias a.table) (front_under b.alias b.table)
    (last_under b.alias b.table)

last-back : (a b : Origin) → last_alike b a ≡ true → last_alike a b ≡ true
last-back a b h =
    (bytes_eq-Decides (last_under a.alias a.table) (last_under b.alias b.table)).1
    (sym ((bytes_eq-Decides (last_under b.alias b.table) (last_under a.alias a.table)).0 h))

pub clash-last : (a b : Origin) → Clash a b → last_alike a b ≡ true
clash-last a b h =
    elim h.1 [
      | inl p ↦ last-of a b ((leaf-ends a b).1 p)
      | inr p ↦ last-back a b (last-of b a ((leaf-ends b a).1 p))
    ]

-- Policies one after the other, and what a statement that they guard gives the laws.
use Rattle.std.proofs.Common.{◌≡◌, ◌<◌, ◌≤◌, ◌+◌, ◌&&◌, ℕ, Bool, true, false, not, List, [], ◌∷◌, map, length, drop, get_or, inl, refl, sym, subst, zero, suc}
use Rattle.std.specs.Bool.{Decides}
use Rattle.std.proofs.lemmas.Bool.{false≢true, true≢false}
use Rattle.std.proofs.lemmas.Bool.Decides.{Decides-and}
use Rattle.std.proofs.lemmas.List.{drop_more, drop_all}
use Rattle.sql_schema.specs.declared.declaration.TableDecl.{TableDecl}
use Rattle.sql_node.specs.Tree.{Expr, exists, single, among_rows}
use Rattle.sql_rules.specs.Lists.{AnyOf, Each}
use Rattle.sql_rules.specs.Scope.{Part, a_select, a_combination, clauses, nodes, own}
use Rattle.sql_rules.proofs.Loops.{any_each}
use Rattle.sql_guard_law.specs.Policies.{HasPolicy, IsPolicy, LacksPolicy, Policy}
use Rattle.sql_guard_law.specs.Tenant.{HoldsSubselect, IsBeyond, IsOutOfKind, IsPredicate, IsSubselect}
use Rattle.sql_guard.specs.Closed.{IsCovered, IsSound, ReadsUncovered, policy_on}
use Rattle.sql_guard.specs.Misread.{is_misread}

-- ---- each of a list, so far as a loop has come

module _ {X Y : Type 0} (f : X → Y) (P : Y → Type 0) where
  each-drop : (xs : List X) (i : ℕ) → Each P (map f xs) → Each P (map f (drop i xs))
  each-drop xs zero h = h
  each-drop [] (suc i) h = h
  each-drop (x ∷ xs) (suc i) h = each-drop xs i h.1

  module _ (xs : List X) (i : ℕ) where
    pub each-next : (x : X) → i < length xs → x ≡ get_or xs i x → P (f x)
        → (Each P (map f (drop i xs)) → Each P (map f xs)) → Each P (map f (drop (i + 1) xs)) → Each P (map f xs)
    each-next x l e p so h =
        so (subst (λ ys. Each P (map f ys)) (sym (drop_more xs i x l)) (subst (λ y. P (f y)) e p, h))

    pub each-fails : (x : X) → i < length xs → x ≡ get_or xs i x → ¬ P (f x) → ¬ Each P (map f xs)
    each-fails x l e n h =
        n (subst (λ y. P (f y)) (sym e)
        (subst (λ ys. Each P (map f ys)) (drop_more xs i x l) (each-drop xs i h)).0)

    pub each-end : length xs ≤ i → (Each P (map f (drop i xs)) → Each P (map f xs)) → Each P (map f xs)
    each-end l so = so (subst (λ ys. Each P (map f ys)) (sym (drop_all i xs l)) tt)

  pub each-begin : (xs : List X) → Each P (map f (drop 0 xs)) → Each P (map f xs)
  each-begin xs h = h

-- ---- a sound policy

not-decides : (b : Bool) → Decides (not b) (b ≡ false)
not-decides true = (λ e. absurd (false≢true e), λ h. absurd (true≢false h))
not-decides false = (λ e. refl, λ h. refl)

pub sound-decides : (t : TableDecl) (p : Expr) (a b : Bool) → Decides a (IsPredicate t p) → b ≡ is_misread p
    → Decides (a && not b) (IsSound (policy_on t p))
sound-decides t p a b d e =
    Decides-and a (not b) d (subst (λ x. Decides (not x) (is_misread p ≡ false)) (sym e) (not-decides (is_misread p)))

-- ---- what the laws ask

pub are-policies : (qs : List Policy) → Each IsSound qs → Each IsPolicy qs
are-policies [] h = tt
are-policies (q ∷ qs) h = (h.0.0, are-policies qs h.1)

pub lacks-policy : (qs : List Policy) (p : Part) → LacksPolicy qs p → ReadsUncovered qs p
lacks-policy qs (a_select outer s) h =
    any_each (λ o. ¬ HasPolicy qs o.table) (λ o. ¬ IsCovered qs o.table) (λ o n c. n c.0) (own s) h
lacks-policy qs (a_combination c) h = h

of-subselect : (e : Expr) → IsSubselect e → IsBeyond e
of-subselect (exists q) h = tt
of-subselect (single q) h = tt
of-subselect (among_rows n e q) h = tt
of-subselect _ h = absurd h

-- a statement of the kind that can be restricted has no subselect
pub holds-subselect : (p : Part) → HoldsSubselect p → IsOutOfKind p
holds-subselect (a_select outer s) h =
    inl (any_each (λ c. AnyOf IsSubselect (nodes c.expr)) (λ c. AnyOf IsBeyond (nodes c.expr))
    (λ c. any_each IsSubselect IsBeyond of-subselect (nodes c.expr)) (clauses outer s) h)
holds-subselect (a_combination c) h = h

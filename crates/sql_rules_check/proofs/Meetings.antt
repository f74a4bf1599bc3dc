-- Two leaves that may not meet are of two tables, so that one leaf of each table tells of all.
use Rattle.std.proofs.Common.{◌≡◌, ◌⊎◌, ℕ, Bool, true, false, cond, ◌&&◌, ◌||◌, List, [], ◌∷◌, ◌++◌, Option, Some, None, refl, sym, ap, ◌∙◌, subst, inl, inr}
use Rattle.std.specs.BTreeMap.{BTreeMap, IsEmpty, Updates, get, is_at}
use Rattle.std.specs.Map.{lookup}
use Rattle.std.specs.Str.{bytes_eq}
use Rattle.sql_schema.specs.Declarations.{Declarations}
use Rattle.sql_schema.specs.Together.{pair_names, may_stand_together}
use Rattle.sql_schema.specs.declared.declaration.TableDecl.{TableDecl}
use Rattle.sql_schema.specs.inside.NameSets.{Name, name_cmp}
use Rattle.sql_schema.proofs.Repeats.{or-swapped}
use Rattle.sql_node.specs.Tree.{Origin}
use Rattle.sql_rules.specs.Lists.{AnyOf, AnyPair}
use Rattle.sql_rules.specs.Rules.{MayNotMeet}
use Rattle.sql_rules.proofs.Loops.{any_each}
use Rattle.sql_rules_check.specs.inside.Tables.{HasTable, Cover, Holds}
use denote.Ref.{Bor}

-- ---- a relation of either order, which nothing has to itself

module _ {X : Type 0} (R : X → X → Type 0) where
  -- two elements at any two places
  abbrev Meet : List X → List X → Type 0
  Meet xs ys = AnyOf (λ x. AnyOf (R x) ys) xs

  pair-meets : (zs xs : List X) → ((x : X) → AnyOf (λ y. R x y) xs → AnyOf (λ y. R x y) zs)
      → ((P : X → Type 0) → AnyOf P xs → AnyOf P zs) → AnyPair R xs → Meet zs zs
  pair-meets zs [] f g h = absurd h
  pair-meets zs (x ∷ xs) f g (inl h) =
      g (λ y. AnyOf (R y) zs) (inl (f x (inr h)))
  pair-meets zs (x ∷ xs) f g (inr h) =
      pair-meets zs xs (λ y k. f y (inr k)) (λ P k. g P (inr k)) h

  pub pair-meet : (xs : List X) → AnyPair R xs → Meet xs xs
  pair-meet xs h = pair-meets xs xs (λ x k. k) (λ P k. k) h

  module _ (back : (x y : X) → R x y → R y x) (none : (x : X) → R x x → ⊥) where
    left-of : (x : X) (xs : List X) → AnyOf (λ y. R y x) xs → AnyOf (R x) xs
    left-of x xs h = any_each (λ y. R y x) (R x) (λ y r. back y x r) xs h

    with-first : (x : X) (xs ys : List X) → AnyOf (λ y. AnyOf (R y) (x ∷ xs)) ys
        → AnyOf (R x) ys ⊎ AnyOf (λ y. AnyOf (R y) xs) ys
    with-first x xs [] h = absurd h
    with-first x xs (y ∷ ys) (inl (inl r)) = inl (inl (back y x r))
    with-first x xs (y ∷ ys) (inl (inr h)) = inr (inl h)
    with-first x xs (y ∷ ys) (inr h) =
        elim (with-first x xs ys h) [ inl r ↦ inl (inr r) | inr k ↦ inr (inr k) ]

    pub meet-pair : (xs : List X) → Meet xs xs → AnyPair R xs
    meet-pair [] h = absurd h
    meet-pair (x ∷ xs) (inl (inl r)) = absurd (none x r)
    meet-pair (x ∷ xs) (inl (inr h)) = inl h
    meet-pair (x ∷ xs) (inr h) =
        elim (with-first x xs xs h) [ inl r ↦ inl r | inr k ↦ inr (meet-pair xs k) ]

-- ---- lists of leaves with the same tables

pair-back : (p : List ℕ × List ℕ) (a b : TableDecl) → pair_names p a b ≡ pair_names p b a
pair-back p a b = or-swapped (bytes_eq p.0 a.name && bytes_eq p.1 b.name) (bytes_eq p.0 b.name && bytes_eq p.1 a.name)

together-back : (ps : List (List ℕ × List ℕ)) (a b : TableDecl) → may_stand_together ps a b ≡ may_stand_together ps b a
together-back [] a b = refl
together-back (p ∷ ps) a b =
    ap (λ x. x || may_stand_together ps a b) (pair-back p a b)
    ∙ ap (λ x. pair_names p b a || x) (together-back ps a b)

module _ (s : Declarations) where
  meet-back : (a b : Origin) → MayNotMeet s a b → MayNotMeet s b a
  meet-back a b h = (λ e. h.0 (sym e), together-back s.together b.table a.table ∙ h.1)

  meet-self : (a : Origin) → MayNotMeet s a a → ⊥
  meet-self a h = h.0 refl

  -- what is said of tables holds of another leaf of the table
  alike-right : (a : Origin) (b c : Origin) → c.table ≡ b.table → MayNotMeet s a b → MayNotMeet s a c
  alike-right a b c e h = (
    λ p. h.0 (p ∙ e),
    ap (may_stand_together s.together a.table) e ∙ h.1,
  )

  some-right : (a b : Origin) (ks : List Origin) → HasTable ks b → MayNotMeet s a b → AnyOf (MayNotMeet s a) ks
  some-right a b ks h m = any_each (λ k. k.table ≡ b.table) (MayNotMeet s a) (λ k e. alike-right a b k e m) ks h

  each-right : (a : Origin) (ks os : List Origin) → Cover ks os → AnyOf (MayNotMeet s a) os → AnyOf (MayNotMeet s a) ks
  each-right a ks [] c h = absurd h
  each-right a ks (o ∷ os) c (inl m) = some-right a o ks c.0 m
  each-right a ks (o ∷ os) c (inr h) = each-right a ks os c.1 h

  some-left : (b : Origin) (ks : List Origin) (zs : List Origin) → HasTable ks b → AnyOf (MayNotMeet s b) zs
      → AnyOf (λ k. AnyOf (MayNotMeet s k) zs) ks
  some-left b ks zs h m =
      any_each (λ k. k.table ≡ b.table) (λ k. AnyOf (MayNotMeet s k) zs)
      (λ k e. any_each (MayNotMeet s b) (MayNotMeet s k)
      (λ z r. meet-back z k (alike-right z b k e (meet-back b z r))) zs m)
      ks h

  each-left : (ks os : List Origin) → Cover ks os → (zs : List Origin) → AnyOf (λ o. AnyOf (MayNotMeet s o) zs) os
      → AnyOf (λ k. AnyOf (MayNotMeet s k) zs) ks
  each-left ks [] c zs h = absurd h
  each-left ks (o ∷ os) c zs (inl m) = some-left o ks zs c.0 m
  each-left ks (o ∷ os) c zs (inr h) = each-left ks os c.1 zs h

  pub pair-covered : (ks os : List Origin) → Cover ks os → AnyPair (MayNotMeet s) os → AnyPair (MayNotMeet s) ks
  pair-covered ks os c h =
      meet-pair (MayNotMeet s) meet-back meet-self ks
      (each-left ks os c ks
      (any_each (λ o. AnyOf (MayNotMeet s o) os) (λ o. AnyOf (MayNotMeet s o) ks)
      (λ o m. each-right o ks os c m) os (pair-meet (MayNotMeet s) os h)))

-- ---- one more leaf

pub has-more : (ks : List Origin) (x o : Origin) → HasTable ks o → HasTable (ks ++ x ∷ []) o
has-more [] x o h = absurd h
has-more (k ∷ ks) x o (inl e) = inl e
has-more (k ∷ ks) x o (inr h) = inr (has-more ks x o h)

pub has-last : (ks : List Origin) (x : Origin) → HasTable (ks ++ x ∷ []) x
has-last [] x = inl refl
has-last (k ∷ ks) x = inr (has-last ks x)

pub cover-more : (ks os : List Origin) (x : Origin) → Cover ks os → Cover (ks ++ x ∷ []) os
cover-more ks [] x c = tt
cover-more ks (o ∷ os) x c = (has-more ks x o c.0, cover-more ks os x c.1)

pub cover-next : (ks os : List Origin) (x : Origin) → Cover ks os → HasTable ks x → Cover ks (os ++ x ∷ [])
cover-next ks [] x c h = (h, tt)
cover-next ks (o ∷ os) x c h = (c.0, cover-next ks os x c.1 h)

-- ---- maps of tables by name

pub held-none : (m : BTreeMap Name (Bor TableDecl)) → IsEmpty m → (t : TableDecl) → Holds m t → ⊥
held-none m e t h = let none : None ≡ Some h.1 = sym (ap (lookup (is_at (name_cmp h.0))) e) ∙ h.2 in cc

by-key : (P : TableDecl → Type 0) (b : Bool) (v u : Bor TableDecl) (o : Option (Bor TableDecl)) (t : TableDecl)
    → cond b (Some v) o ≡ Some u → u.now ≡ t → (o ≡ Some u → P t) → P v.now → P t
by-key P true v u o t e f old p = let one : v ≡ u = cc in subst P (ap (λ x. x.now) one ∙ f) p
by-key P false v u o t e f old p = old e

pub held-more : (P : TableDecl → Type 0) (m n : BTreeMap Name (Bor TableDecl)) (k : Name) (v : Bor TableDecl)
    → Updates name_cmp m n k (Some v)
    → ((t : TableDecl) → Holds m t → P t) → P v.now → (t : TableDecl) → Holds n t → P t
held-more P m n k v u old p t h =
    by-key P (is_at (name_cmp k) h.0) v h.1 (get name_cmp m h.0) t (sym (u.0 h.0) ∙ h.2) h.3
    (λ e. old t (h.0, h.1, e, h.3)) p

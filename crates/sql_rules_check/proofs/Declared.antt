-- The tables of a schema have different names, so that the one of a table's name alone has to be compared with it.
use Rattle.std.proofs.Common.{arith, ◌≡◌, ◌<◌, Bool, true, false, not, ◌&&◌, ◌||◌, cond, ℕ, zero, suc, length, List, [], ◌∷◌, Some, None, refl, sym, ap, ◌∙◌, subst, inl, inr}
use Rattle.std.specs.Prelude.{Contains}
use Rattle.std.specs.Bool.{Decides}
use Rattle.std.specs.List.{list_any, find}
use Rattle.std.specs.Option.{option_eq}
use Rattle.std.specs.Str.{bytes_eq}
use Rattle.std.proofs.lemmas.Bool.{false≢true, false_from_ne_true}
use Rattle.std.proofs.lemmas.Bool.Decides.{Decides-like, Decides-not}
use Rattle.std.proofs.lemmas.Cmp.{nat_list_eq_equiv}
use Rattle.sql_schema.specs.Columns.{table_named}
use Rattle.sql_schema.specs.Refusals.{any_two, tables_clash}
use Rattle.sql_schema.specs.declared.declaration.TableDecl.{TableDecl}
use Rattle.sql_schema.proofs.RefusalLaws.{neither}
use Rattle.sql_rules.specs.Lists.{AnyOf}

-- what is found stands among the tables
found-among : (ts : List TableDecl) (q : List ℕ) (u : TableDecl) → table_named ts q ≡ Some u → AnyOf (λ v. v ≡ u) ts
found-among [] q u e = cc
found-among (t ∷ ts) q u e = by-test (bytes_eq t.name q) (found-among ts q u) e
  where
    by-test : (b : Bool) → (table_named ts q ≡ Some u → AnyOf (λ v. v ≡ u) ts)
        → cond b (Some t) (table_named ts q) ≡ Some u → AnyOf (λ v. v ≡ u) (t ∷ ts)
    by-test true later is = inl (let one : t ≡ u = cc in one)
    by-test false later is = inr (later is)

-- one that stands among them passes a test
one-passes : (test : TableDecl → Bool) (t : TableDecl) → test t ≡ true → (ts : List TableDecl) → AnyOf (λ u. u ≡ t) ts
    → list_any test ts ≡ true
one-passes test t p [] h = absurd h
one-passes test t p (u ∷ ts) (inl e) = ap (λ b. b || list_any test ts) (ap test e ∙ p)
one-passes test t p (u ∷ ts) (inr h) = ap (λ b. test u || b) (one-passes test t p ts h) ∙ or-true (test u)
  where
    or-true : (b : Bool) → (b || true) ≡ true
    or-true true = refl
    or-true false = refl

clash : (a b : TableDecl) → bytes_eq a.name b.name ≡ true → tables_clash a b ≡ true
clash a b h = ap (λ x. x || (option_eq bytes_eq a.schema b.schema && bytes_eq a.sql_name b.sql_name)) h

-- one that stands among them is found by its name
among-found : (ts : List TableDecl) → any_two tables_clash ts ≡ false → (t : TableDecl) → AnyOf (λ u. u ≡ t) ts
    → table_named ts t.name ≡ Some t
among-found [] apart t h = absurd h
among-found (x ∷ xs) apart t (inl e) =
    subst (λ u. table_named (x ∷ xs) u.name ≡ Some u) e
    (ap (λ b. cond b (Some x) (find (λ u. bytes_eq u.name x.name) xs)) (nat_list_eq_equiv.refl x.name))
among-found (x ∷ xs) apart t (inr h) =
    let both = neither (list_any (tables_clash x) xs) (any_two tables_clash xs) apart in
    let other : bytes_eq x.name t.name ≡ false =
    false_from_ne_true (bytes_eq x.name t.name)
    (λ e. false≢true (sym both.0 ∙ one-passes (tables_clash x) t (clash x t e) xs h)) in
    ap (λ b. cond b (Some x) (table_named xs t.name)) other ∙ among-found xs both.1 t h

-- no table has that name
pub none-declared : (ts : List TableDecl) → any_two tables_clash ts ≡ false → (t : TableDecl)
    → table_named ts t.name ≡ None → (b : Bool) → b ≡ false → Decides b (AnyOf (λ u. u ≡ t) ts)
none-declared ts apart t none b is = (
  λ e. absurd (false≢true (sym is ∙ e)),
  λ h. absurd (let found = among-found ts apart t h in let wrong : None ≡ Some t = sym none ∙ found in cc),
)

-- one has it, and whether it is this one was tested
pub one-declared : (ts : List TableDecl) → any_two tables_clash ts ≡ false → (t u : TableDecl)
    → table_named ts t.name ≡ Some u → (b : Bool) → Decides b (u ≡ t) → Decides b (AnyOf (λ u. u ≡ t) ts)
one-declared ts apart t u named b d = (
  λ e. subst (λ v. AnyOf (λ w. w ≡ v) ts) (d.0 e) (found-among ts t.name u named),
  λ h. d.1 (let found = among-found ts apart t h in let both : Some u ≡ Some t = sym named ∙ found in cc),
)

-- two of one name are one
pub one-of-name : (ts : List TableDecl) → any_two tables_clash ts ≡ false → (t u : TableDecl) → AnyOf (λ v. v ≡ t) ts
    → AnyOf (λ v. v ≡ u) ts → t.name ≡ u.name → t ≡ u
one-of-name ts apart t u p q e =
    let one = among-found ts apart t p in
    let other = among-found ts apart u q in
    let both : Some t ≡ Some u = sym one ∙ ap (table_named ts) e ∙ other in cc

-- an element that a list contains is one of its elements
pub contained-any : {X : Type 0} (xs : List X) (x : X) → Contains xs x → AnyOf (λ d. d ≡ x) xs
contained-any [] x (k, l, e) = let n : k < 0 = l in omega arith
contained-any (y ∷ ys) x (zero, l, e) = inl e
contained-any (y ∷ ys) x (suc k, l, e) =
    let n : suc k < suc (length ys) = l in
    let m : k < length ys = omega arith in
    inr (contained-any ys x (k, m, e))

-- of two of which the second holds, the first alone has to be tested
pub not-both : {P Q : Type 0} (b : Bool) → Q → Decides b P → Decides (not b) (¬ (P × Q))
not-both b q d = Decides-not b (Decides-like b (λ p. (p, q)) (λ both. both.0) d)

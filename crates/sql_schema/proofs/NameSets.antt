-- A name that is added to an ordered set is in it from then on, beside those that were.
use Rattle.std.proofs.Common.{◌≡◌, ◌⊎◌, inl, inr, Bool, true, false, ◌||◌, ◌&&◌, not, cond, ℕ, List, [], ◌∷◌, Option, Some, None, option_map, refl, ap, sym, ◌∙◌}
use Rattle.std.specs.List.{list_any}
use Rattle.std.specs.Option.{option_cmp, option_eq}
use Rattle.std.specs.Ordering.{is_eq, ordering_then}
use Rattle.std.specs.declared.cmp.Ordering.{Ordering}
use Rattle.std.specs.declared.cmp.Ordering.TheVariants.{Less, Equal, Greater}
use Rattle.std.specs.BTreeMap.{is_at}
use Rattle.std.specs.BTreeSet.{BTreeSet, IsEmpty, Updates, contains}
use Rattle.std.specs.Str.{bytes_eq}
use Rattle.std.proofs.lemmas.Map.Text.{is_eq-slice_cmp}
use Rattle.sql_schema.specs.inside.NameSets.{Name, name_cmp, pair_cmp, path_cmp, named, has_name, has_pair, has_path}

cond-or : (b c : Bool) → cond b true c ≡ (b || c)
cond-or true c = refl
cond-or false c = refl

pub is_eq-then : (o p : Ordering) → is_eq (ordering_then o p) ≡ (is_eq o && is_eq p)
is_eq-then Less p = refl
is_eq-then Equal p = refl
is_eq-then Greater p = refl

-- ---- names

pub no-name : (s : BTreeSet Name) → IsEmpty s → (q : List ℕ) → has_name s q ≡ false
no-name s e q = ap (list_any (is_at (name_cmp (named q)))) e

pub name-added : (s n : BTreeSet Name) (k : Name) → Updates name_cmp s n k true → (q : List ℕ)
    → has_name n q ≡ (bytes_eq k.now q || has_name s q)
name-added s n k u q =
    u.0 (named q) ∙ cond-or (is_eq (name_cmp k (named q))) (has_name s q)
    ∙ ap (λ b. b || has_name s q) (is_eq-slice_cmp k.now q)

-- ---- pairs of names

pub no-pair : (s : BTreeSet (Name × Name)) → IsEmpty s → (a b : List ℕ) → has_pair s a b ≡ false
no-pair s e a b = ap (list_any (is_at (pair_cmp (named a, named b)))) e

pub pair-added : (s n : BTreeSet (Name × Name)) (k : Name × Name) → Updates pair_cmp s n k true → (a b : List ℕ)
    → has_pair n a b ≡ ((bytes_eq k.0.now a && bytes_eq k.1.now b) || has_pair s a b)
pair-added s n k u a b =
    u.0 (named a, named b) ∙ cond-or (is_eq (pair_cmp k (named a, named b))) (has_pair s a b)
    ∙ ap (λ x. x || has_pair s a b)
    (is_eq-then (name_cmp k.0 (named a)) (name_cmp k.1 (named b))
    ∙ ap (λ x. x && is_eq (name_cmp k.1 (named b))) (is_eq-slice_cmp k.0.now a)
    ∙ ap (λ x. bytes_eq k.0.now a && x) (is_eq-slice_cmp k.1.now b))

-- ---- schemas, where there is one, with names

pub no-path : (s : BTreeSet (Option Name × Name)) → IsEmpty s → (o : Option (List ℕ)) (q : List ℕ)
    → has_path s o q ≡ false
no-path s e o q = ap (list_any (is_at (path_cmp (option_map named o, named q)))) e

schema-same : (x : Option Name) (o : Option (List ℕ))
    → is_eq (option_cmp name_cmp x (option_map named o)) ≡ option_eq bytes_eq (option_map (λ s. s.now) x) o
schema-same None None = refl
schema-same None (Some b) = refl
schema-same (Some a) None = refl
schema-same (Some a) (Some b) = is_eq-slice_cmp a.now b

pub path-added : (s n : BTreeSet (Option Name × Name)) (k : Option Name × Name) → Updates path_cmp s n k true
    → (o : Option (List ℕ)) (q : List ℕ)
    → has_path n o q ≡ ((option_eq bytes_eq (option_map (λ x. x.now) k.0) o && bytes_eq k.1.now q) || has_path s o q)
path-added s n k u o q =
    u.0 (option_map named o, named q)
    ∙ cond-or (is_eq (path_cmp k (option_map named o, named q))) (has_path s o q)
    ∙ ap (λ x. x || has_path s o q)
    (is_eq-then (option_cmp name_cmp k.0 (option_map named o)) (name_cmp k.1 (named q))
    ∙ ap (λ x. x && is_eq (name_cmp k.1 (named q))) (schema-same k.0 o)
    ∙ ap (λ x. option_eq bytes_eq (option_map (λ y. y.now) k.0) o && x) (is_eq-slice_cmp k.1.now q))

pub any-alike : {A : Type 0} (f g : A → Bool) → ((x : A) → f x ≡ g x) → (xs : List A) → list_any f xs ≡ list_any g xs
any-alike f g same [] = refl
any-alike f g same (x ∷ xs) = ap (λ b. b || list_any f xs) (same x) ∙ ap (λ b. g x || b) (any-alike f g same xs)

schema-read : (x y : Option Name) → option_cmp name_cmp x y ≡ option_cmp name_cmp (option_map named (option_map (λ s. s.now) x)) y
schema-read None None = refl
schema-read None (Some y) = refl
schema-read (Some x) None = refl
schema-read (Some x) (Some y) = refl

-- a set is asked by the bytes
pub path-read : (s : BTreeSet (Option Name × Name)) (k : Option Name × Name)
    → contains path_cmp s k ≡ has_path s (option_map (λ x. x.now) k.0) k.1.now
path-read s k =
    any-alike (is_at (path_cmp k)) _
    (λ y. ap (λ o. is_eq (ordering_then o (name_cmp k.1 y.1))) (schema-read k.0 y.0)) s.keys

-- ---- two answers of sets

pub both-new : (a b p q : Bool) → a ≡ not p → b ≡ not q → (a ≡ true) × (b ≡ true) → (p || q) ≡ false
both-new a b true q e f h = absurd (let wrong : true ≡ false = sym h.0 ∙ e in cc)
both-new a b false true e f h = absurd (let wrong : true ≡ false = sym h.1 ∙ f in cc)
both-new a b false false e f h = refl

pub one-known : (a b p q : Bool) → a ≡ not p → b ≡ not q → ((a ≡ true) × (b ≡ false)) ⊎ (a ≡ false)
    → (p || q) ≡ true
one-known a b true q e f h = refl
one-known a b false true e f h = refl
one-known a b false false e f (inl h) = absurd (let wrong : true ≡ false = sym f ∙ h.1 in cc)
one-known a b false false e f (inr h) = absurd (let wrong : true ≡ false = sym e ∙ h in cc)

pub known-either : (a b p q : Bool) → a ≡ p → b ≡ not q → ((a ≡ false) × (b ≡ false)) ⊎ (a ≡ true) → (p || q) ≡ true
known-either a b true q e f h = refl
known-either a b false true e f h = refl
known-either a b false false e f (inl h) = absurd (let wrong : true ≡ false = sym f ∙ h.1 in cc)
known-either a b false false e f (inr h) = absurd (let wrong : true ≡ false = sym h ∙ e in cc)

pub known-neither : (a b p q : Bool) → a ≡ p → b ≡ not q → (a ≡ false) × (b ≡ true) → (p || q) ≡ false
known-neither a b true q e f h = absurd (let wrong : true ≡ false = sym e ∙ h.0 in cc)
known-neither a b false true e f h = absurd (let wrong : true ≡ false = sym h.1 ∙ f in cc)
known-neither a b false false e f h = refl

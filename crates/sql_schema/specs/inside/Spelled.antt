-- All names of a table in one text: each byte as two letters from A to P, a full stop after each name, and marks that tell
-- what comes next. Tables of one text have the same names.
use Rattle.std.specs.Prelude.{◌≡◌, ℕ, List, [], ◌∷◌, ◌++◌, ◌+◌, ◌/◌, ◌%◌, Option, None, Some}
use Rattle.std.proofs.Common.{sym, ap, refl, arith}
use Rattle.sql_schema.specs.declared.declaration.ColumnDecl.{ColumnDecl}
use Rattle.sql_schema.specs.declared.declaration.TableDecl.{TableDecl}

abbrev pub spelled : List ℕ → List ℕ
spelled [] = 46 ∷ []
spelled (b ∷ bs) = (65 + b / 16) ∷ (65 + b % 16) ∷ spelled bs

abbrev pub schema_text : Option (List ℕ) → List ℕ
schema_text None = 45 ∷ []
schema_text (Some s) = 43 ∷ spelled s

abbrev pub columns_text : List ColumnDecl → List ℕ
columns_text [] = 59 ∷ []
columns_text (c ∷ cs) = 44 ∷ (spelled c.name ++ (spelled c.sql_name ++ columns_text cs))

abbrev pub keys_text : List (List ℕ) → List ℕ
keys_text [] = 59 ∷ []
keys_text (k ∷ ks) = 44 ∷ (spelled k ++ keys_text ks)

abbrev pub table_text : TableDecl → List ℕ
table_text t =
    spelled t.name
    ++ (schema_text t.schema ++ (spelled t.sql_name ++ (columns_text t.columns ++ keys_text t.primary_key)))

-- ---- what the text tells

abbrev pub head_of : List ℕ → ℕ
head_of [] = 0
head_of (x ∷ xs) = x

abbrev pub tail_of : List ℕ → List ℕ
tail_of [] = []
tail_of (x ∷ xs) = xs

-- two halves tell a byte
same-byte : (x y : ℕ) → 65 + x / 16 ≡ 65 + y / 16 → 65 + x % 16 ≡ 65 + y % 16 → x ≡ y
same-byte x y h l = omega arith

before-stop : (x : ℕ) → 46 ≡ 65 + x / 16 → ⊥
before-stop x h = omega arith

-- a name is read off the text, and what comes after it
pub same-spelled : (a b r s : List ℕ) → spelled a ++ r ≡ spelled b ++ s → (a ≡ b) × (r ≡ s)
same-spelled [] [] r s h = (refl, ap tail_of h)
same-spelled [] (y ∷ ys) r s h = absurd (before-stop y (ap head_of h))
same-spelled (x ∷ xs) [] r s h = absurd (before-stop x (ap head_of (sym h)))
same-spelled (x ∷ xs) (y ∷ ys) r s h =
    let p = same-byte x y (ap head_of h) (ap (λ l. head_of (tail_of l)) h) in
    let q = same-spelled xs ys r s (ap (λ l. tail_of (tail_of l)) h) in
    (λ i. p i ∷ q.0 i, q.1)

pub same-name : (a b : TableDecl) → table_text a ≡ table_text b → a.name ≡ b.name
same-name a b h = (same-spelled a.name b.name _ _ h).0

pub same-schema : (a b : Option (List ℕ)) (r s : List ℕ) → schema_text a ++ r ≡ schema_text b ++ s → (a ≡ b) × (r ≡ s)
same-schema None None r s h = (refl, ap tail_of h)
same-schema None (Some b) r s h = absurd (let e = ap head_of h in omega arith)
same-schema (Some a) None r s h = absurd (let e = ap head_of h in omega arith)
same-schema (Some a) (Some b) r s h = let p = same-spelled a b r s (ap tail_of h) in (ap Some p.0, p.1)

pub same-keys : (a b : List (List ℕ)) → keys_text a ≡ keys_text b → a ≡ b
same-keys [] [] h = refl
same-keys [] (y ∷ ys) h = absurd (let e = ap head_of h in omega arith)
same-keys (x ∷ xs) [] h = absurd (let e = ap head_of h in omega arith)
same-keys (x ∷ xs) (y ∷ ys) h =
    let p = same-spelled x y (keys_text xs) (keys_text ys) (ap tail_of h) in
    let q = same-keys xs ys p.1 in
    λ i. p.0 i ∷ q i

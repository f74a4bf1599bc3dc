-- A quoted name tells the name.
use Rattle.std.proofs.Common.{◌≡◌, ℕ, eqb, cond, Bool, true, false, List, [], ◌∷◌, ◌++◌, refl, sym, ◌∙◌}
use Rattle.std.proofs.lemmas.Bool.{eqb-true, eqb-false}
use Rattle.std.proofs.lemmas.List.{append_cancel_right}
use Rattle.sql_dialect.specs.Quote.{doubled, quoted_by}
use Rattle.sql_dialect.specs.Written.{quoted}
use Rattle.sql_dialect.specs.declared.backend.Dialect.{Dialect}
use Rattle.sql_dialect.specs.declared.backend.Dialect.TheVariants.{Pg, Mysql, Sqlite, Bracket}

-- a byte before the rest, twice where it is the mark
abbrev put : ℕ → Bool → ℕ → List ℕ → List ℕ
put mark is a rest = cond is (mark ∷ (mark ∷ rest)) (a ∷ rest)

first : (mark a b : ℕ) (s t : Bool) → eqb a mark ≡ s → eqb b mark ≡ t → (xs ys : List ℕ)
    → put mark s a xs ≡ put mark t b ys → (a ≡ b) × (xs ≡ ys)
first mark a b true true is it xs ys h = (eqb-true a mark is ∙ sym (eqb-true b mark it), cc)
first mark a b true false is it xs ys h = let same : b ≡ mark = cc in absurd (eqb-false b mark it same)
first mark a b false true is it xs ys h = let same : a ≡ mark = cc in absurd (eqb-false a mark is same)
first mark a b false false is it xs ys h = (cc, cc)

some : (mark a : ℕ) (s : Bool) (xs : List ℕ) {A : Type 0} → [] ≡ put mark s a xs → A
some mark a true xs h = cc
some mark a false xs h = cc

doubled-injective : (mark : ℕ) (xs ys : List ℕ) → doubled mark xs ≡ doubled mark ys → xs ≡ ys
doubled-injective mark [] [] h = refl
doubled-injective mark [] (b ∷ ys) h = some mark b (eqb b mark) (doubled mark ys) h
doubled-injective mark (a ∷ xs) [] h = some mark a (eqb a mark) (doubled mark xs) (sym h)
doubled-injective mark (a ∷ xs) (b ∷ ys) h =
    let p = first mark a b (eqb a mark) (eqb b mark) refl refl (doubled mark xs) (doubled mark ys) h in
    let rest = doubled-injective mark xs ys p.1 in
    λ i. p.0 i ∷ rest i

quoted_by-injective : (start mark : ℕ) (a b : List ℕ) → quoted_by start mark a ≡ quoted_by start mark b → a ≡ b
quoted_by-injective start mark a b h =
    let e : doubled mark a ++ mark ∷ [] ≡ doubled mark b ++ mark ∷ [] = cc in
    doubled-injective mark a b (append_cancel_right (doubled mark a) (doubled mark b) (mark ∷ []) e)

pub quoted-injective : (d : Dialect) (a b : List ℕ) → quoted d a ≡ quoted d b → a ≡ b
quoted-injective Pg a b h = quoted_by-injective 34 34 a b h
quoted-injective Mysql a b h = quoted_by-injective 96 96 a b h
quoted-injective Sqlite a b h = quoted_by-injective 96 96 a b h
quoted-injective Bracket a b h = quoted_by-injective 91 93 a b h

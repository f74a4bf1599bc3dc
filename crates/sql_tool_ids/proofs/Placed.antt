-- No id is given to two shapes: it is the place of its own shape in the list of all, whatever of that is forgotten.
use Rattle.std.proofs.Common.{◌≡◌, ◌∙◌, ◌+◌, ℕ, zero, suc, Bool, true, false, cond, Option, Some, None, List, [], ◌∷◌, ◌++◌, map, refl, sym, ap, subst, append_assoc, inl, inr, arith}
use Rattle.std.specs.List.{slice_get}
use Rattle.std.specs.Prelude.{nat_le}
use Rattle.sql_schema.specs.Declarations.{Declarations}
use Rattle.sql_dialect.specs.declared.backend.Dialect.{Dialect}
use Rattle.sql_node.specs.Tree.{Statement}
use Rattle.sql_shape.specs.Ids.{has_id}
use Rattle.sql_shape.specs.Shape.{shape}
use Rattle.sql_rules_law.specs.Blank.{blank_bound}
use Rattle.sql_rules.specs.Lists.{AnyOf}
use Rattle.sql_rules_law.proofs.OneText as one
use Rattle.sql_rules_law.proofs.SafeLaws.{safe_alike}
use Rattle.sql_rules_law.proofs.TypeLaws as columns
use Rattle.sql_check.specs.Compiled.{sql_of, binds_of, is_safe_in}
use Rattle.sql_tool_build.proofs.First.{none_some}
use Rattle.sql_tool_build.specs.Ids.{RequestShape, IsId}
use Rattle.sql_tool_build.specs.Output.{Line, StatementRequest, line_shape}
use Rattle.sql_tool_build.specs.Shared.{OneIdServes}
use Rattle.sql_tool_ids.specs.Memory.{AreLinesAfter, Memory, after_line, forgotten, learnt, no_memory}

some_one : {X : Type 0} (x y : X) → Prim.Path (Option X) (Some x) (Some y) → x ≡ y
some_one x y h = cc

-- ---- a list with what another has at the same places

abbrev IsPart : List (Option RequestShape) → List (Option RequestShape) → Type 0
IsPart [] [] = Unit {0}
IsPart [] (y ∷ ys) = ⊥
IsPart (x ∷ xs) [] = ⊥
IsPart (None ∷ xs) (y ∷ ys) = IsPart xs ys
IsPart (Some s ∷ xs) (y ∷ ys) = (y ≡ Some s) × IsPart xs ys

part-more : (xs ys : List (Option RequestShape)) (o : Option RequestShape) → IsPart xs ys
    → IsPart (xs ++ o ∷ []) (ys ++ o ∷ [])
part-more [] [] None p = tt
part-more [] [] (Some s) p = (refl, tt)
part-more [] (y ∷ ys) o p = absurd p
part-more (x ∷ xs) [] o p = absurd p
part-more (None ∷ xs) (y ∷ ys) o p = part-more xs ys o p
part-more (Some s ∷ xs) (y ∷ ys) o p = (p.0, part-more xs ys o p.1)

part-none : (xs ys : List (Option RequestShape)) → IsPart xs ys → IsPart (map (λ o. None) xs) ys
part-none [] [] p = tt
part-none [] (y ∷ ys) p = absurd p
part-none (x ∷ xs) [] p = absurd p
part-none (None ∷ xs) (y ∷ ys) p = part-none xs ys p
part-none (Some s ∷ xs) (y ∷ ys) p = part-none xs ys p.1

part-at : (xs ys : List (Option RequestShape)) (i : ℕ) (s : RequestShape) → IsPart xs ys
    → slice_get xs i ≡ Some (Some s) → slice_get ys i ≡ Some (Some s)
part-at [] [] i s p h = absurd (none_some (Some s) h)
part-at [] (y ∷ ys) i s p h = absurd p
part-at (x ∷ xs) [] i s p h = absurd p
part-at (None ∷ xs) (y ∷ ys) zero s p h = absurd (none_some s (some_one None (Some s) h))
part-at (None ∷ xs) (y ∷ ys) (suc i) s p h = part-at xs ys i s p h
part-at (Some t ∷ xs) (y ∷ ys) zero s p h = ap Some p.0 ∙ h
part-at (Some t ∷ xs) (y ∷ ys) (suc i) s p h = part-at xs ys i s p.1 h

longer : (xs ys : List (Option RequestShape)) (i : ℕ) (x : Option RequestShape) → slice_get xs i ≡ Some x
    → slice_get (xs ++ ys) i ≡ Some x
longer [] ys i x h = absurd (none_some x h)
longer (y ∷ xs) ys zero x h = h
longer (y ∷ xs) ys (suc i) x h = longer xs ys i x h

part-after : (most : ℕ) (m : Memory) (base : List (Option RequestShape)) (l : Line) → IsPart m.shapes base
    → IsPart (after_line most m l).shapes (base ++ line_shape l ∷ [])
part-after most m base l p = by (nat_le most (learnt m l).count)
  where
    by : (b : Bool) → IsPart (cond b (forgotten (learnt m l)) (learnt m l)).shapes (base ++ line_shape l ∷ [])
    by true =
        part-none (m.shapes ++ line_shape l ∷ []) (base ++ line_shape l ∷ []) (part-more m.shapes base (line_shape l) p)
    by false = part-more m.shapes base (line_shape l) p

-- ---- the place of an id

abbrev Stands : ℕ → List (Option RequestShape) → RequestShape → Type 0
Stands n shapes own = (i : ℕ) × (n ≡ i + 1) × (slice_get shapes i ≡ Some (Some own))

abbrev IsPlaced : List (Option RequestShape) → Option RequestShape → Option ℕ → Type 0
IsPlaced shapes None id = id ≡ None
IsPlaced shapes (Some own) None = ⊥
IsPlaced shapes (Some own) (Some n) = Stands n shapes own

placed : (xs ys rest : List (Option RequestShape)) (o : Option RequestShape) (id : Option ℕ) → IsPart xs ys
    → IsId (xs ++ o ∷ []) o id → IsPlaced (ys ++ o ∷ rest) o id
placed xs ys rest None id p h = h
placed xs ys rest (Some own) None p h = absurd h
placed xs ys rest (Some own) (Some n) p (i, at, is, none) = (
  i,
  at,
  subst (λ zs. slice_get zs i ≡ Some (Some own)) (append_assoc ys (Some own ∷ []) rest)
      (longer (ys ++ Some own ∷ []) rest i (Some own)
      (part-at (xs ++ Some own ∷ []) (ys ++ Some own ∷ []) i own (part-more xs ys (Some own) p) is)),
)

line-placed : (most : ℕ) (schema : Declarations) (m : Memory) (base : List (Option RequestShape))
    (rs : List StatementRequest) (ls : List Line) (l : Line)
    → IsPart m.shapes base → AreLinesAfter most schema m rs ls → AnyOf (λ x. x ≡ l) ls
    → IsPlaced (base ++ map line_shape ls) (line_shape l) l.id
line-placed most schema m base rs [] l p h there = absurd there
line-placed most schema m base [] (x ∷ ls) l p h there = absurd h
line-placed most schema m base (r ∷ rs) (x ∷ ls) l p h (inl same) =
    subst (λ y. IsPlaced (base ++ line_shape x ∷ map line_shape ls) (line_shape y) y.id) same
    (placed m.shapes base (map line_shape ls) (line_shape x) x.id p h.0.id)
line-placed most schema m base (r ∷ rs) (x ∷ ls) l p h (inr later) =
    subst (λ xs. IsPlaced xs (line_shape l) l.id) (append_assoc base (line_shape x ∷ []) (map line_shape ls))
    (line-placed most schema (after_line most m x) (base ++ line_shape x ∷ []) rs ls l (part-after most m base x p) h.1 later)

-- ---- what was prepared for one id

abbrev shaped : Dialect → Statement → RequestShape
shaped d s = record { dialect = d; shape = shape s }

-- an accepted line with an id is of a statement that has one
own-place : (xs : List (Option RequestShape)) (d : Dialect) (s : Statement) (n : ℕ) (b : Bool)
    → IsPlaced xs (cond b (Some (shaped d s)) None) (Some n) → (b ≡ true) × Stands n xs (shaped d s)
own-place xs d s n true h = (refl, h)
own-place xs d s n false h = absurd (none_some n (sym h))

one-place : (xs : List (Option RequestShape)) (a b : RequestShape) (n : ℕ) → Stands n xs a → Stands n xs b → a ≡ b
one-place xs a b n (i, at, is) (j, also, it) =
    let same : i ≡ j = omega (arith, at, also) in
    some_one _ _ (some_one _ _ (sym is ∙ ap (slice_get xs) same ∙ it))

pub one-id : (most : ℕ) (schema : Declarations) (rs : List StatementRequest) (ls : List Line)
    → AreLinesAfter most schema no_memory rs ls → OneIdServes ls
one-id most schema rs ls lines d e s t ts us n first second =
    let xs = map line_shape ls in
    let (has, mine) =
    own-place xs d s n (has_id s) (line-placed most schema no_memory [] rs ls _ tt lines first) in
    let (also, other) =
    own-place xs e t n (has_id t) (line-placed most schema no_memory [] rs ls _ tt lines second) in
    let same = one-place xs (shaped d s) (shaped e t) n mine other in
    let dialects = ap (λ k. k.dialect) same in
    let shapes = ap (λ k. k.shape) same in
    record {
      dialect = dialects;
      shapes = shapes;
      text = one.text d s t shapes ∙ ap (λ x. sql_of x t) dialects;
      safe = safe_alike d s t shapes ∙ ap (λ x. is_safe_in x t) dialects;
      values = one.values d s t shapes ∙ ap (λ x. map blank_bound (binds_of x t)) dialects;
      types = columns.types s t shapes has;
    }

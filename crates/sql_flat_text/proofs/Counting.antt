-- The steps that turns of the loop take.
use Rattle.std.proofs.Common.{◌≡◌, ◌<◌, ◌≤◌, ◌-◌, ◌+◌, nat_le, not, ◌&&◌, ℕ, zero, suc, Bool, true, false, List, [], ◌∷◌, length, map, take, reverse, drop, get_or, if◌then◌else◌, Option, None, Some, refl, sym, ap, ◌∙◌, arith}
use Rattle.std.specs.Prelude.{is_some}
use Rattle.std.proofs.lemmas.Bool.{lt-ltb, le-ltb}
use Rattle.std.proofs.lemmas.Bool.Decides.{nat_tests}
use Rattle.std.proofs.lemmas.List.{drop-drop, drop_all, drop_more, length-map, length-reverse}
use Rattle.sql_schema.specs.declared.types.SqlType.{SqlType}
use Rattle.sql_dialect.specs.Syntax.{array}
use Rattle.sql_dialect.specs.declared.backend.Dialect.{Dialect}
use Rattle.sql_dialect.specs.declared.syntax.ArrayComparison.{ArrayComparison}
use Rattle.sql_dialect.specs.declared.syntax.ArrayComparison.TheVariants.{AnsiSqlArrayComparison, PgStyleArrayComparison}
use Rattle.sql_pass.specs.Pieces.{Piece}
use Rattle.sql_flat.specs.declared.kind.FlatKind.{FlatKind}
use Rattle.sql_flat.specs.declared.kind.FlatKind.TheVariants as K
use Rattle.sql_flat.specs.declared.kind.FlatNode.{FlatNode}
use Rattle.sql_flat_text.specs.Steps.{binds_arrays, covered_to, ends_in_values, is_whole, is_whole_at, kind_of, own_steps, steps_from}
use Rattle.sql_flat_text.specs.declared.place.Open.{Open}
use Rattle.sql_flat_text.specs.inside.Turns.{Frames, frame_of, frames, onward, opened, opened_index, reads, with_child}
use Rattle.sql_flat_text.specs.inside.Writing.{among_whole, if_empty, values_whole, whole_of}

-- ---- what is written whole

if-empty-is : (e n : Bool) → e ≡ is_some (if_empty e n)
if-empty-is true n = refl
if-empty-is false n = refl

among-is : (c : ArrayComparison) (n v : Bool) (ks : List FlatKind)
    → (not (binds_arrays c) && (v && ends_in_values ks)) ≡ is_some (among_whole c n v ks)
among-is PgStyleArrayComparison n v ks = refl
among-is AnsiSqlArrayComparison n false ks = refl
among-is AnsiSqlArrayComparison n true ks = if-empty-is (ends_in_values ks) n

values-is : (c : ArrayComparison) (t : SqlType) (ks : List FlatKind) → binds_arrays c ≡ is_some (values_whole c t ks)
values-is PgStyleArrayComparison t ks = refl
values-is AnsiSqlArrayComparison t ks = refl

whole-is : (d : Dialect) (k : FlatKind) (ks : List FlatKind) → is_whole d k ks ≡ is_some (whole_of d k ks)
whole-is d (K.Among n values) ks = among-is (array d) n values ks
whole-is d (K.Values t) ks = values-is (array d) t ks
whole-is d k ks = refl

-- ---- which nodes are passed over

module _ (d : Dialect) where
  here : (u i : ℕ) (x : FlatNode) (xs : List FlatNode) → u ≤ i
      → steps_from d u i (x ∷ xs)
      ≡ own_steps (is_whole_at d i x xs) + steps_from d (covered_to (is_whole_at d i x xs) x.end) (i + 1) xs
  unfolding steps_from
  here u i x xs h = rw (le-ltb i u h) refl

  reached : (u i : ℕ) (xs : List FlatNode) → u ≤ i → steps_from d u i xs ≡ steps_from d 0 i xs
  unfolding steps_from
  reached u i [] h = refl
  reached u i (x ∷ xs) h = here u i x xs h ∙ sym (here 0 i x xs (omega arith))

  -- no node takes a step before the index u, which lies k further on
  jumps : (k u i : ℕ) (xs : List FlatNode) → i + k ≡ u → steps_from d u i xs ≡ steps_from d 0 u (drop k xs)
  unfolding steps_from
  jumps zero u i xs h = ap (λ j. steps_from d u j xs) (omega arith) ∙ reached u u xs (omega arith)
  jumps (suc k) u i [] h = refl
  jumps (suc k) u i (x ∷ xs) h = rw (lt-ltb i u (omega arith)) (jumps k u (i + 1) xs (omega arith))

  passed-on : (u i : ℕ) (nodes : List FlatNode) → i < length nodes
      → steps_from d u (i + 1) (drop (i + 1) nodes)
      ≡ steps_from d 0 (onward i u (length nodes)) (drop (onward i u (length nodes)) nodes)
  unfolding steps_from
  passed-on u i nodes h = by_test (nat_le u i) (nat_le u (length nodes)) refl refl
    where
      by_test : (a b : Bool) → nat_le u i ≡ a → nat_le u (length nodes) ≡ b
          → steps_from d u (i + 1) (drop (i + 1) nodes)
          ≡ steps_from d 0 (if a then i + 1 else (if b then u else length nodes))
          (drop (if a then i + 1 else (if b then u else length nodes)) nodes)
      by_test true b p q = reached u (i + 1) (drop (i + 1) nodes) (grind (arith, nat_tests))
      by_test false true p q =
          let l : i < u = grind (arith, nat_tests) in
          jumps (u - (i + 1)) u (i + 1) (drop (i + 1) nodes) (omega arith)
          ∙ ap (steps_from d 0 u) (drop-drop (u - (i + 1)) (i + 1) nodes ∙ ap (λ m. drop m nodes) (omega arith))
      by_test false false p q =
          let l : length nodes < u = grind (arith, nat_tests) in
          jumps (u - (i + 1)) u (i + 1) (drop (i + 1) nodes) (omega arith)
          ∙ ap (steps_from d 0 u)
          (drop-drop (u - (i + 1)) (i + 1) nodes ∙ drop_all (i + 1 + (u - (i + 1))) nodes (omega arith))
          ∙ ap (steps_from d 0 (length nodes)) (sym (drop_all (length nodes) nodes (omega arith)))

  goes-on : (o : Option (List Piece)) (x : FlatNode) (i : ℕ) (nodes : List FlatNode) → i < length nodes
      → steps_from d (covered_to (is_some o) x.end) (i + 1) (drop (i + 1) nodes)
      ≡ steps_from d 0 (opened_index o x i (length nodes)) (drop (opened_index o x i (length nodes)) nodes)
  goes-on (Some ps) x i nodes h = passed-on x.end i nodes h
  goes-on None x i nodes h = refl

  -- a node that is begun takes its own steps, and those of the next follow
  pub takes : (i : ℕ) (nodes : List FlatNode) (x : FlatNode) (o : Option (List Piece)) → i < length nodes
      → x ≡ get_or nodes i x → o ≡ reads d i x (drop (i + 1) nodes)
      → steps_from d 0 i (drop i nodes)
      ≡ own_steps (is_some o)
      + steps_from d 0 (opened_index o x i (length nodes)) (drop (opened_index o x i (length nodes)) nodes)
  takes i nodes x o within at is =
      let seen : drop i nodes ≡ x ∷ drop (i + 1) nodes =
      drop_more nodes i x within ∙ ap (λ y. y ∷ drop (i + 1) nodes) (sym at) in
      let whole : is_whole_at d i x (drop (i + 1) nodes) ≡ is_some o =
      whole-is d x.kind (map kind_of (take (x.end - (i + 1)) (drop (i + 1) nodes))) ∙ ap is_some (sym is) in
      ap (steps_from d 0 i) seen ∙ here 0 i x (drop (i + 1) nodes) (omega arith)
      ∙ ap (λ w. own_steps w + steps_from d (covered_to w x.end) (i + 1) (drop (i + 1) nodes)) whole
      ∙ ap (λ n. own_steps (is_some o) + n) (goes-on o x i nodes within)

-- nothing is left
pub none-left : (d : Dialect) (i : ℕ) (nodes : List FlatNode) → length nodes ≤ i → steps_from d 0 i (drop i nodes) ≡ 0
unfolding steps_from
none-left d i nodes over = ap (steps_from d 0 i) (drop_all i nodes over)

pub own-some : (o : Option (List Piece)) → 1 ≤ own_steps (is_some o)
own-some (Some ps) = omega arith
own-some None = omega arith

-- ---- the nodes that are open

pub frames-length : (os : List Open) → length (frames os) ≡ length os
frames-length os = length-map (reverse os) frame_of ∙ length-reverse os

-- a turn that begins a node is one step, and leaves one where it opens it
pub opened-length : (o : Option (List Piece)) (x : FlatNode) (fs : Frames)
    → 1 + length (opened o x (with_child fs)) ≡ own_steps (is_some o) + length fs
opened-length (Some ps) x [] = refl
opened-length (Some ps) x (f ∷ fs) = refl
opened-length None x [] = refl
opened-length None x (f ∷ fs) = omega arith

-- What the loop has written of the list of a statement.
use Rattle.std.proofs.Common.{◌≡◌, ◌<◌, ◌≤◌, true, List, [], length, Ok, Err, IsTrue, refl, sym, ap, ◌∙◌, subst, arith}
use Rattle.sql_dialect.specs.Written.{numbers, MAX_BINDS}
use Rattle.sql_dialect.specs.declared.backend.Dialect.{Dialect}
use Rattle.sql_dialect.specs.declared.builder.BindError.TheVariants.{TooManyBinds}
use Rattle.sql_pass.specs.Pieces.{text_of, count_of, values_of, is_safe}
use Rattle.sql_node.specs.Pieces.{pieces}
use Rattle.sql_node.specs.Tree.{Statement}
use Rattle.sql_flat_law.proofs.Telling.{tells-tree}
use Rattle.sql_flat.specs.Flat.{flat_node, flat_of, rose}
use Rattle.sql_flat.specs.declared.kind.FlatNode.{FlatNode}
use Rattle.sql_flat_text.proofs.Pouring.{count-values}
use Rattle.sql_flat_text.proofs.Reading.{reads-whole}
use Rattle.sql_flat_text.proofs.Written.{statement-written}
use Rattle.sql_flat_text.specs.inside.Sinks.{Sunk, nothing, poured, Fits, Overflows, Poured, Pours, poured_by}
use Rattle.sql_flat_text.specs.inside.Turns.{end_of, reads, told_from}
use Rattle.sql_flat_text.specs.inside.Writing.{after, before, between, comma, is_list, whole}
use Rattle.sql_flat_text.specs.Steps.{kind_of}

flat-told : (d : Dialect) (s : Statement) (nodes : List FlatNode) → nodes ≡ flat_of s → told_from d [] true 0 nodes
    ≡ pieces d s
flat-told d s nodes is =
    ap (told_from d [] true 0) is
    ∙ tells-tree flat_node kind_of end_of (reads d) is_list (before d) (between d) (after d) comma (λ _ _. refl)
    (λ _ _. refl) (whole d) (reads-whole d) (rose s)
    ∙ statement-written d s

module _ {d : Dialect} {start t : Sunk} {nodes : List FlatNode} (s : Statement) where
  fused : Pours d start (told_from d [] true 0 nodes) (Ok tt) t → start ≡ nothing → nodes ≡ flat_of s
      → t ≡ poured d nothing (pieces d s)
  unfolding Poured
  fused w none is = (poured_by w).0 ∙ (λ i. poured d (none i) (flat-told d s nodes is i))

  pub fused-text : Pours d start (told_from d [] true 0 nodes) (Ok tt) t → start ≡ nothing → nodes ≡ flat_of s
      → t.text ≡ text_of d 0 (pieces d s)
  unfolding poured
  fused-text w none is = ap (λ x. x.text) (fused w none is)

  pub fused-values : Pours d start (told_from d [] true 0 nodes) (Ok tt) t → start ≡ nothing → nodes ≡ flat_of s
      → t.values ≡ values_of (pieces d s)
  unfolding poured
  fused-values w none is = ap (λ x. x.values) (fused w none is)

  pub fused-safe : Pours d start (told_from d [] true 0 nodes) (Ok tt) t → start ≡ nothing → nodes ≡ flat_of s
      → t.safe ≡ is_safe (pieces d s)
  unfolding poured
  fused-safe w none is = ap (λ x. x.safe) (fused w none is)

  -- there was a number for each value
  pub fused-room : Pours d start (told_from d [] true 0 nodes) (Ok tt) t → start ≡ nothing → nodes ≡ flat_of s
      → IsTrue (numbers d) → MAX_BINDS < length (values_of (pieces d s)) → ⊥
  unfolding Poured poured Fits
  fused-room w none is numbered more =
      let counted = ap (λ x. x.count) (fused w none is) ∙ count-values d 0 (pieces d s) numbered in
      let fits =
      (poured_by w).1 (subst (λ x. IsTrue (numbers d) → x.count ≤ MAX_BINDS) (sym none) (λ h. omega arith)) numbered in
      omega arith

  -- or there are more values than numbers
  pub fused-many : Pours d start (told_from d [] true 0 nodes) (Err TooManyBinds) t → start ≡ nothing
      → nodes ≡ flat_of s
      → IsTrue (numbers d) × (MAX_BINDS < length (values_of (pieces d s)))
  unfolding Poured Overflows
  fused-many w none is =
      let many = poured_by w refl in
      let over = subst (λ x. MAX_BINDS < x) (λ i. count_of d (none i).count (flat-told d s nodes is i)) many.1 in
      let counted = count-values d 0 (pieces d s) many.0 in
      (many.0, omega arith)

pub ruleset fusing = (fused-text, fused-values, fused-safe, fused-room, fused-many)

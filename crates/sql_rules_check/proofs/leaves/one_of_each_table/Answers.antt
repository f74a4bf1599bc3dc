use Rattle.std.proofs.Common.{◌≡◌, ◌+◌, ◌++◌, [], ◌∷◌, map, take, refl, sym, ap, ◌∙◌, subst, inl}
use Rattle.std.proofs.lemmas.List.{take_more}
use Rattle.sql_origin.specs.Borrowed.{origin_of}
use Rattle.sql_rules.specs.Lists.{AnyOf}
use Rattle.sql_rules.proofs.Lists.{any_left, any_right}
use Rattle.sql_rules.proofs.Loops.{here_any}
use Rattle.sql_rules_check.proofs.SourceLeaves.{map-append}
use Rattle.sql_rules_check.specs.inside.Tables.{Cover, Holds}
use Rattle.sql_rules_check.proofs.Meetings.{cover-more, cover-next, has-last, held-more}
use Rattle.sql_rules_check.proofs.leaves.one_of_each_table.Goals as goal
use Rattle.sql_rules_check.proofs.leaves.one_of_each_table.Goals.{then-not-held+in_ok-insert+in_ok-push, else-not-held}

pub loop-leaf-preserved : goal.loop-leaf-preserved
loop-leaf-preserved c =
    let xs = c.args.leaves.now in
    let i = c.loop-leaf.leaf-index in
    let leaf = c.leaf-item.result in
    let x = origin_of leaf in
    let inv = c.loop-leaf.invariant in
    let ks = map origin_of c.loop-leaf.kept.items in
    let os = map origin_of (take i xs) in
    let next : map origin_of (take (i + 1) xs) ≡ os ++ x ∷ [] =
    ap (map origin_of) (take_more xs i leaf c.loop-leaf-test.true ∙ ap (λ y. take i xs ++ y ∷ []) (sym c.leaf-item.is))
    ∙ map-append origin_of (take i xs) (leaf ∷ []) in
    elim c.if-not-held.branch [
      | then-not-held+in_ok-insert+in_ok-push w ↦
          let kept : map origin_of c.if-not-held.kept.items ≡ ks ++ x ∷ [] =
          ap (map origin_of) (ap (λ o. o.items) w.kept-is ∙ w.in_ok-push.ensures.items)
          ∙ map-append origin_of c.loop-leaf.kept.items (leaf ∷ []) in
          record {
            held =
                λ t h. subst (AnyOf (λ k. k.table ≡ t)) (sym kept)
                (held-more (λ u. AnyOf (λ k. k.table ≡ u) (ks ++ x ∷ [])) c.loop-leaf.tables w.insert.new.self
                w.name.result leaf.table w.in_ok-insert.ensures.updates
                (λ u p. any_left (λ k. k.table ≡ u) ks (x ∷ []) (inv.held u p))
                (any_right (λ k. k.table ≡ x.table) ks (x ∷ []) (inl refl))
                t (subst (λ m. Holds m t) w.tables-is h));
            all =
                subst (λ v. Cover v (map origin_of (take (i + 1) xs))) (sym kept)
                (subst (Cover (ks ++ x ∷ [])) (sym next)
                (cover-next (ks ++ x ∷ []) os x (cover-more ks os x inv.all) (has-last ks x)));
            among =
                subst (Cover (map origin_of xs)) (sym kept)
                (cover-next (map origin_of xs) ks x inv.among
                (here_any origin_of (λ k. k.table ≡ x.table) xs i leaf leaf c.loop-leaf-test.true c.leaf-item.is refl));
          }
      | else-not-held w ↦
          let kept : map origin_of c.if-not-held.kept.items ≡ ks = ap (λ o. map origin_of o.items) w.kept-is in
          record {
            held =
                λ t h. subst (AnyOf (λ k. k.table ≡ t)) (sym kept) (inv.held t (subst (λ m. Holds m t) w.tables-is h));
            all =
                subst (λ v. Cover v (map origin_of (take (i + 1) xs))) (sym kept)
                (subst (Cover ks) (sym next)
                (cover-next ks os x inv.all (inv.held x.table (c.is_held-held.ensures w.if-not-held.false))));
            among = subst (Cover (map origin_of xs)) (sym kept) inv.among;
          }
    ]

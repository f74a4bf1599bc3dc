use Rattle.std.proofs.Common.{rules, ◌≡◌, ◌∙◌, true, Option, Some, None, ap, refl, sym}
use Rattle.std.specs.Prelude.{is_some}
use Rattle.hardieflax_c.proofs.handle.Handle.take.Goals as goal

kept : {X : Type 0} (o : Option X) → true ≡ is_some o → (x : X) × (o ≡ Some x)
kept None h = cc
kept (Some x) h = (x, refl)

pub into_box-requires : goal.into_box-requires
into_box-requires c =
    let used : c.args.self.now.in_use ≡ true = search rules in
    let (x, is) = kept c.args.self.now.owner.kept (sym used ∙ c.requires) in
    (x, ap (λ o. o.kept) c.replace-owner.ensures.value ∙ is)

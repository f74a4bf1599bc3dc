use Rattle.std.proofs.Common.{◌∙◌, length, ap, inl, inr, sym}
use Rattle.std.specs.Prelude.{option_and_then}
use Rattle.hardieflax_c.proofs.handle.Handle.audit_next.Goals as goal

pub returns : goal.returns
returns c =
    let r = c.audit-status.new.self in
    let shows = c.put.ensures.0 in
    let was = ap (λ k. k.session) c.deref_mut.ensures.value ∙ c.in-Ok.ensures.kept in
    let is = ap (option_and_then (λ k. k.session)) shows.kept in
    record {
      done = λ s old ended. (r, shows, c.audit-status.ensures.done s (was ∙ old) ended);
      partial = λ s old ended. elim (c.audit-status.ensures.partial s (was ∙ old) ended) [
        | inl none ↦ inl (shows.counts ∙ ap length none)
        | inr some ↦ inr (r, shows, some)
      ];
      nothing = λ other more. shows.counts ∙ ap length (c.audit-status.ensures.nothing other more);
      usage = (λ ended. sym was ∙ c.audit-status.ensures.usage.0 ended, λ none. c.audit-status.ensures.usage.1 (was ∙ none));
      decided = λ s old. c.audit-status.ensures.status s (was ∙ old);
      session = is ∙ c.audit-status.ensures.session ∙ was;
      sound = c.put.ensures.1;
    }

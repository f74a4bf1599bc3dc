use Rattle.std.proofs.Common.{◌∙◌, length, ap, inl, inr}
use Rattle.std.specs.Prelude.{option_and_then}
use Rattle.hardieflax_c.proofs.handle.Handle.ask.Goals as goal

pub returns : goal.returns
returns c =
    let r = c.ask-status.new.self in
    let shows = c.put.ensures.0 in
    record {
      done = λ is. (r, shows, c.ask-status.ensures.output is);
      partial = λ is. elim (c.ask-status.ensures.partial is) [
        | inl none ↦ inl (shows.counts ∙ ap length none)
        | inr some ↦ inr (r, shows, some)
      ];
      nothing = λ other more. shows.counts ∙ ap length (c.ask-status.ensures.nothing other more);
      decided = c.ask-status.ensures.status;
      session = ap (option_and_then (λ k. k.session)) shows.kept ∙ c.ask-status.ensures.session
          ∙ ap (λ k. k.session) c.deref_mut.ensures.value ∙ c.in-Ok.ensures.kept;
      sound = c.put.ensures.1;
    }

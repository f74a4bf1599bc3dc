use Rattle.std.proofs.Common.{◌∙◌, length, ap, sym}
use Rattle.std.specs.Prelude.{option_and_then}
use Rattle.hardieflax_c.proofs.handle.Handle.reset.Goals as goal

pub returns : goal.returns
returns c =
    let shows = c.put.ensures.0 in
    let was = ap (λ k. k.session) c.deref_mut.ensures.value ∙ c.in-Ok.ensures.kept in
    let is = ap (option_and_then (λ k. k.session)) shows.kept in
    record {
      done = λ ended. let (before, after, old, new, kept, grows) = c.reset-status.ensures.done ended in
          (before, after, sym was ∙ old, is ∙ new, kept, grows);
      usage = (λ ended. sym was ∙ c.reset-status.ensures.usage.0 ended, λ none. c.reset-status.ensures.usage.1 (was ∙ none));
      none = λ none. is ∙ c.reset-status.ensures.none (was ∙ none);
      nothing = shows.counts ∙ ap length c.reset-status.ensures.answer;
      ends = c.reset-status.ensures.status;
      sound = c.put.ensures.1;
    }

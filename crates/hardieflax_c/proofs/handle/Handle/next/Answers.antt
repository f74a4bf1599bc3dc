use Rattle.std.proofs.Common.{◌∙◌, length, ap, sym}
use Rattle.std.specs.Prelude.{option_and_then}
use Rattle.hardieflax_c.proofs.handle.Handle.next.Goals as goal

pub returns : goal.returns
returns c =
    let r = c.next-status.new.self in
    let shows = c.put.ensures.0 in
    let was = ap (λ k. k.session) c.deref_mut.ensures.value ∙ c.in-Ok.ensures.kept in
    let is = ap (option_and_then (λ k. k.session)) shows.kept in
    record {
      done = λ ended. let (before, after, a, old, new, read, none, kept, grows) = c.next-status.ensures.done ended in
          (r, before, after, a, shows, sym was ∙ old, is ∙ new, read, none, kept, grows);
      deep = λ after ended has.
          let (before, a, old, read, none, cut, kept, grows) = c.next-status.ensures.deep after ended (sym is ∙ has) in
          (r, before, a, shows, sym was ∙ old, read, none, cut, kept, grows);
      shallow = λ before a ended old. c.next-status.ensures.shallow before a ended (was ∙ old);
      nothing = λ other none. shows.counts ∙ ap length (c.next-status.ensures.nothing other (λ ended. sym is ∙ none ended));
      usage = (λ ended. sym was ∙ c.next-status.ensures.usage.0 ended, λ none. c.next-status.ensures.usage.1 (was ∙ none));
      bad = λ ended. let (same, declares) = c.next-status.ensures.bad ended in
          (is ∙ same ∙ was, λ before a old. declares before a (was ∙ old));
      large = λ ended. let (same, above) = c.next-status.ensures.large ended in (is ∙ same ∙ was, above);
      too_large = λ has above. c.next-status.ensures.too_large (λ none. has (sym was ∙ none)) above;
      ends = c.next-status.ensures.status;
      sound = c.put.ensures.1;
    }

use Rattle.std.proofs.Common.{◌∙◌, length, ap, sym}
use Rattle.std.specs.Prelude.{option_and_then}
use Rattle.hardieflax_c.proofs.handle.Handle.open.Goals as goal

pub returns : goal.returns
returns c =
    let r = c.open-status.new.self in
    let shows = c.put.ensures.0 in
    let is = ap (option_and_then (λ k. k.session)) shows.kept in
    record {
      done = λ ended. let (a, s, read, session, kept, answered) = c.open-status.ensures.opened ended in
          (r, s, a, shows, is ∙ session, read, kept, answered);
      deep = λ s ended has. let (a, read, cut, kept, answered) = c.open-status.ensures.deep s ended (sym is ∙ has) in
          (r, a, shows, read, cut, kept, answered);
      shallow = c.open-status.ensures.shallow;
      nothing = λ other none. let (session, empty) = c.open-status.ensures.refused other (λ ended. sym is ∙ none ended) in
          (shows.counts ∙ ap length empty, is ∙ session);
      decided = c.open-status.ensures.status;
      sound = c.put.ensures.1;
    }

use Rattle.std.proofs.Common.{sym, refl}
use Rattle.sql_flat_text.proofs.Pouring.{bind-written}
use Rattle.sql_flat_text.proofs.sink.Sink.push_placeholder.Goals as goal

pub returns : goal.returns
returns g c = λ b.
    let same = g.met.DB.Backend.builds in
    bind-written g.DB.Backend.speaks _ _ b
    (rw same at c.in_ok-push_bind_param.ensures.text)
    (rw same at c.in_ok-push_bind_param.ensures.count)
    refl refl
    (λ full. let refused = c.in_ok-push_bind_param.ensures.full.1 (rw (sym same) at full) in cc)

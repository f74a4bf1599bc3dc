use Rattle.std.proofs.Common.{◌≡◌, ◌∙◌}
use Rattle.std.proofs.lemmas.Result.{err_from_is_err_and}
use Rattle.sql_dialect.specs.declared.builder.BindError.TheVariants.{TooManyBinds}
use Rattle.sql_flat_text.proofs.Fusing.{fused-many, fused-room, fused-safe, fused-text, fused-values}
use Rattle.sql_flat_text.proofs.fused.write_flat.Goals as goal

pub returns-in_err-write-clause-too_many : goal.returns-in_err-write-clause-too_many
returns-in_err-write-clause-too_many g c = λ s is many.
    let (e, made, same) = err_from_is_err_and c.from_residual.result c.from_residual.ensures.1 in
    let known : c.in_err-write.field-0.0 ≡ TooManyBinds = cc in
    fused-many s (rw known at c.in_err-write.ensures.text) c.new-sink.ensures (c.nodes.ensures.nodes ∙ is)

pub returns-clause-sql : goal.returns-clause-sql
returns-clause-sql g c = λ s is.
    c.finish.ensures.sql ∙ fused-text s c.in_ok-write.ensures.text c.new-sink.ensures (c.nodes.ensures.nodes ∙ is)

pub returns-clause-binds : goal.returns-clause-binds
returns-clause-binds g c = λ s is.
    c.finish.ensures.binds ∙ fused-values s c.in_ok-write.ensures.text c.new-sink.ensures (c.nodes.ensures.nodes ∙ is)

pub returns-clause-safe : goal.returns-clause-safe
returns-clause-safe g c = λ s is.
    c.finish.ensures.safe ∙ fused-safe s c.in_ok-write.ensures.text c.new-sink.ensures (c.nodes.ensures.nodes ∙ is)

pub returns-clause-room : goal.returns-clause-room
returns-clause-room g c = λ s is numbered more.
    absurd (fused-room s c.in_ok-write.ensures.text c.new-sink.ensures (c.nodes.ensures.nodes ∙ is) numbered more)

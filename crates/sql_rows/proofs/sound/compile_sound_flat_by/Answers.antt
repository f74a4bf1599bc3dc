use Rattle.std.proofs.lemmas.Result.{IfOk-weaker}
use Rattle.sql_rows.proofs.sound.compile_sound_flat_by.Goals as goal

pub returns : goal.returns
returns g c = λ s flat.
    let compiles = c.compile_flat_by.ensures s flat in
    record {
      compiles = compiles;
      sound =
          IfOk-weaker c.compile_flat_by.result _ _
          (λ b built.
          c.types_are_sound.ensures c.args.schema.now g.DB.Backend.speaks s b.sql_types built.accepted built.sql_types)
          compiles.built;
    }

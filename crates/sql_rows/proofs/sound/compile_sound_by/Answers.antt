use Rattle.std.proofs.lemmas.Result.{IfOk-weaker}
use Rattle.sql_node.specs.View.{statement_tree}
use Rattle.sql_rows.proofs.sound.compile_sound_by.Goals as goal

pub returns : goal.returns
returns g c = record {
  compiles = c.compile_by.ensures;
  sound =
      IfOk-weaker c.compile_by.result _ _
      (λ b built.
      c.types_are_sound.ensures c.args.schema.now g.DB.Backend.speaks (statement_tree c.args.statement.now) b.sql_types
      built.accepted built.sql_types)
      c.compile_by.ensures.built;
}

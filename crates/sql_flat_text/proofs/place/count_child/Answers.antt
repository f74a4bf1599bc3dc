use Rattle.std.proofs.Common.{arith}
use Rattle.std.proofs.lemmas.Grind.{common_steps}
use Rattle.sql_flat_text.proofs.Framing.{frames-count}
use Rattle.sql_flat_text.proofs.place.count_child.Goals as goal

pub returns-in-Some-clause-frames : goal.returns-in-Some-clause-frames
returns-in-Some-clause-frames c =
    frames-count _ _ c.in-Some.top.now c.args.open.now.ok.0 (grind (arith, common_steps)) (grind (arith, common_steps))

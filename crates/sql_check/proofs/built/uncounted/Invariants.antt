use Rattle.sql_check.proofs.built.uncounted.Given as goal

abbrev pub ghosts-fused_from : goal.ghosts-fused_from
ghosts-fused_from g a = record { name = a.blank.name; parts = a.blank.parts }

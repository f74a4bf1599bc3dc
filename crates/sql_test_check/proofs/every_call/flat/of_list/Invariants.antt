use Rattle.sql_test_check.proofs.every_call.flat.of_list.Given as goal

abbrev pub ghosts-counted : goal.ghosts-counted
ghosts-counted a = record { name = a.blank.name; parts = a.blank.parts }

use Rattle.sql_grammar.proofs.Worked as worked
use Rattle.sql_grammar.proofs.worked_readings.Goals as goal

pub returns : goal.returns
returns c = record { pg = worked.pg; mysql = worked.mysql; sqlite = worked.sqlite; bracket = worked.bracket }

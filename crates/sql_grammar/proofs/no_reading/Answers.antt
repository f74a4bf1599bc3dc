use Rattle.sql_grammar.proofs.Unread as unread
use Rattle.sql_grammar.proofs.no_reading.Goals as goal

pub returns : goal.returns
returns c = record {
  lock_on_sqlite = unread.lock_on_sqlite;
  intersect_all_on_bracket = unread.intersect_all_on_bracket;
  limit_on_bracket = unread.limit_on_bracket;
  bare_condition = unread.bare_condition;
  number_as_value = unread.number_as_value;
  text_as_value = unread.text_as_value;
}

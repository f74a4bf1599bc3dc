use Rattle.sql_grammar.proofs.Worked as worked
use Rattle.sql_grammar.proofs.worked_tokens.Goals as goal

pub returns : goal.returns
returns c =
    record {
      spaces = worked.spaces;
      doubled = worked.doubled;
      backticks = worked.backticks;
      lone_quote = worked.lone_quote;
      lone_backtick = worked.lone_backtick;
      square = worked.square;
      lone_square = worked.lone_square;
      lower = worked.lower;
      digits = worked.digits;
      last = worked.last;
      past = worked.past;
      zero = worked.zero;
      leading_zero = worked.leading_zero;
      last_on_bracket = worked.last_on_bracket;
      past_on_bracket = worked.past_on_bracket;
      leading_zero_on_bracket = worked.leading_zero_on_bracket;
      spaced_number = worked.spaced_number;
      question = worked.question;
      question_on_pg = worked.question_on_pg;
      number_on_mysql = worked.number_on_mysql;
      number_on_sqlite = worked.number_on_sqlite;
      tab = worked.tab;
      newline = worked.newline;
      tab_in_name = worked.tab_in_name;
    }

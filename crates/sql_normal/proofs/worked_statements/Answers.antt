use Rattle.sql_normal.proofs.Worked as worked
use Rattle.sql_normal.proofs.worked_statements.Goals as goal

pub returns : goal.returns
returns c = record {
  pg_written = worked.pg-text;
  pg_read = worked.pg;
  mysql_written = worked.mysql-text;
  mysql_read = worked.mysql;
  sqlite_written = worked.sqlite-text;
  sqlite_read = worked.sqlite;
  bracket_written = worked.bracket-text;
  bracket_read = worked.bracket;
}

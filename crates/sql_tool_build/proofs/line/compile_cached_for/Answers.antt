use Rattle.sql_tool_build.proofs.line.compile_cached_for.Goals as goal

pub returns-in-Pg-clause-compiled : goal.returns-in-Pg-clause-compiled
returns-in-Pg-clause-compiled c = rw c.in-Pg.is c.compile_cached_by.ensures.compiled.compiles

pub returns-in-Mysql-clause-compiled : goal.returns-in-Mysql-clause-compiled
returns-in-Mysql-clause-compiled c = rw c.in-Mysql.is c.compile_cached_by-in-Mysql.ensures.compiled.compiles

pub returns-in-Sqlite-clause-compiled : goal.returns-in-Sqlite-clause-compiled
returns-in-Sqlite-clause-compiled c = rw c.in-Sqlite.is c.compile_cached_by-in-Sqlite.ensures.compiled.compiles

pub returns-in-Bracket-clause-compiled : goal.returns-in-Bracket-clause-compiled
returns-in-Bracket-clause-compiled c = rw c.in-Bracket.is c.compile_cached_by-in-Bracket.ensures.compiled.compiles

pub returns-in-Pg-clause-entries : goal.returns-in-Pg-clause-entries
returns-in-Pg-clause-entries c = rw c.in-Pg.is c.compile_cached_by.ensures.entries

pub returns-in-Mysql-clause-entries : goal.returns-in-Mysql-clause-entries
returns-in-Mysql-clause-entries c = rw c.in-Mysql.is c.compile_cached_by-in-Mysql.ensures.entries

pub returns-in-Sqlite-clause-entries : goal.returns-in-Sqlite-clause-entries
returns-in-Sqlite-clause-entries c = rw c.in-Sqlite.is c.compile_cached_by-in-Sqlite.ensures.entries

pub returns-in-Bracket-clause-entries : goal.returns-in-Bracket-clause-entries
returns-in-Bracket-clause-entries c = rw c.in-Bracket.is c.compile_cached_by-in-Bracket.ensures.entries

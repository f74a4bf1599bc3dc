-- The forms in which a dialect writes what the dialects write differently.
use Rattle.sql_dialect.specs.declared.backend.Dialect.{Dialect}
use Rattle.sql_dialect.specs.declared.backend.Dialect.TheVariants.{Pg, Mysql, Sqlite, Bracket}
use Rattle.sql_dialect.specs.declared.syntax.EmptyFromClauseSyntax.{EmptyFromClauseSyntax}
use Rattle.sql_dialect.specs.declared.syntax.EmptyFromClauseSyntax.TheVariants.{AnsiSqlFromClauseSyntax}
use Rattle.sql_dialect.specs.declared.syntax.ExistsSyntax.{ExistsSyntax}
use Rattle.sql_dialect.specs.declared.syntax.ExistsSyntax.TheVariants.{AnsiSqlExistsSyntax}
use Rattle.sql_dialect.specs.declared.syntax.ArrayComparison.{ArrayComparison}
use Rattle.sql_dialect.specs.declared.syntax.ArrayComparison.TheVariants.{AnsiSqlArrayComparison, PgStyleArrayComparison}
use Rattle.sql_dialect.specs.declared.syntax.SelectStatementSyntax.{SelectStatementSyntax}
use Rattle.sql_dialect.specs.declared.syntax.SelectStatementSyntax.TheVariants.{AnsiSqlSelectStatement}
use Rattle.sql_dialect.specs.declared.syntax.AliasSyntax.{AliasSyntax}
use Rattle.sql_dialect.specs.declared.syntax.AliasSyntax.TheVariants.{AsAliasSyntax}

abbrev pub empty_from : Dialect → EmptyFromClauseSyntax
empty_from d = AnsiSqlFromClauseSyntax

abbrev pub exists : Dialect → ExistsSyntax
exists d = AnsiSqlExistsSyntax

-- `= ANY` takes an array in PostgreSQL alone (Row and Array Comparisons); the others compare by IN (MySQL, Comparison
-- Functions and Operators; SQLite, The IN and NOT IN operators).
abbrev pub array : Dialect → ArrayComparison
array Pg = PgStyleArrayComparison
array Mysql = AnsiSqlArrayComparison
array Sqlite = AnsiSqlArrayComparison
array Bracket = AnsiSqlArrayComparison

abbrev pub select : Dialect → SelectStatementSyntax
select d = AnsiSqlSelectStatement

abbrev pub alias : Dialect → AliasSyntax
alias d = AsAliasSyntax

-- Which combinations a dialect has. PostgreSQL has all six (7.4 Combining Queries). MySQL has them too, from
-- release 8.0.31 on (13.2.14 Set Operations). SQLite has ALL after UNION alone (SELECT, Compound Select Statements), and so
-- has Bracket.
use Rattle.std.specs.Prelude.{Bool, true, false}
use Rattle.sql_dialect.specs.declared.backend.Dialect.{Dialect}
use Rattle.sql_dialect.specs.declared.backend.Dialect.TheVariants.{Pg, Mysql, Sqlite, Bracket}
use Rattle.sql_dialect.specs.declared.combination.Combinator.{Combinator}
use Rattle.sql_dialect.specs.declared.combination.Combinator.TheVariants.{Union, Intersect, Except}
use Rattle.sql_dialect.specs.declared.combination.DuplicateRule.{DuplicateRule}
use Rattle.sql_dialect.specs.declared.combination.DuplicateRule.TheVariants.{Distinct, All}

abbrev pub combines : Dialect → Combinator → DuplicateRule → Bool
combines Pg c r = true
combines Mysql c r = true
combines Sqlite Union r = true
combines Sqlite Intersect Distinct = true
combines Sqlite Intersect All = false
combines Sqlite Except Distinct = true
combines Sqlite Except All = false
combines Bracket Union r = true
combines Bracket Intersect Distinct = true
combines Bracket Intersect All = false
combines Bracket Except Distinct = true
combines Bracket Except All = false

-- whether ALL stands after the operator
abbrev pub is_all : DuplicateRule → Bool
is_all Distinct = false
is_all All = true

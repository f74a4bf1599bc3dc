-- The dialects by their numbers in the header.
use Rattle.std.specs.Prelude.{ℕ, nat_eq, Option, Some, None, if◌then◌else◌}
use Rattle.sql_dialect.specs.declared.backend.Dialect.{Dialect}
use Rattle.sql_dialect.specs.declared.backend.Dialect.TheVariants.{Pg, Mysql, Sqlite, Bracket}

abbrev pub dialect_at : ℕ → Option Dialect
dialect_at n =
    if nat_eq n 0 then Some Pg
    else if nat_eq n 1 then Some Mysql
    else if nat_eq n 2 then Some Sqlite
    else if nat_eq n 3 then Some Bracket
    else None

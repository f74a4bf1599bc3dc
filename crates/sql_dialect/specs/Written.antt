-- The text that each dialect writes for a name and for a placeholder.
use Rattle.std.specs.Prelude.{ℕ, ◌+◌, List, [], ◌∷◌, Bool, true, false, decimal}
use Rattle.sql_dialect.specs.Quote.{quoted_by}
use Rattle.sql_dialect.specs.declared.backend.Dialect.{Dialect}
use Rattle.sql_dialect.specs.declared.backend.Dialect.TheVariants.{Pg, Mysql, Sqlite, Bracket}

-- a name, in double quotes (34), in backticks (96) or in square brackets (91 and 93)
abbrev pub quoted : Dialect → List ℕ → List ℕ
quoted Pg name = quoted_by 34 34 name
quoted Mysql name = quoted_by 96 96 name
quoted Sqlite name = quoted_by 96 96 name
quoted Bracket name = quoted_by 91 93 name

-- The placeholder with number n: `$n` (PostgreSQL, 4.2.2 Positional Parameters), `?` (MySQL, 13.5.1 PREPARE Statement;
-- SQLite, SQL Language Expressions, 3 Literal Values and Parameters), `@pn` on Bracket.
abbrev pub placeholder : Dialect → ℕ → List ℕ
placeholder Pg n = 36 ∷ decimal n
placeholder Mysql n = 63 ∷ []
placeholder Sqlite n = 63 ∷ []
placeholder Bracket n = 64 ∷ (112 ∷ decimal n)

-- whether placeholders have numbers
abbrev pub numbers : Dialect → Bool
numbers Pg = true
numbers Mysql = false
numbers Sqlite = false
numbers Bracket = true

-- how many numbers are taken after one more value
abbrev pub raised : Dialect → ℕ → ℕ
raised Pg n = n + 1
raised Mysql n = n
raised Sqlite n = n
raised Bracket n = n + 1

-- the last number
abbrev pub MAX_BINDS : ℕ
MAX_BINDS = 4294967295

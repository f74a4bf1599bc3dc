-- The words of statements that several nodes share or that depend on a dialect, on a join or on a combination. A text of ten bytes or more
-- does not unfold.
use Rattle.std.specs.Prelude.{ℕ, Bool, true, false, List, codes}
use Rattle.sql_dialect.specs.Syntax.{array}
use Rattle.sql_dialect.specs.declared.backend.Dialect.{Dialect}
use Rattle.sql_dialect.specs.declared.combination.Combinator.{Combinator}
use Rattle.sql_dialect.specs.declared.combination.Combinator.TheVariants.{Union, Intersect, Except}
use Rattle.sql_dialect.specs.declared.syntax.ArrayComparison.{ArrayComparison}
use Rattle.sql_dialect.specs.declared.syntax.ArrayComparison.TheVariants.{AnsiSqlArrayComparison, PgStyleArrayComparison}
use Rattle.sql_leaf.specs.declared.table_source.JoinKind.{JoinKind}
use Rattle.sql_leaf.specs.declared.table_source.JoinKind.TheVariants.{Inner, LeftOuter}

unfoldable pub distinct_on_open : List ℕ
distinct_on_open = codes "DISTINCT ON ("

unfoldable pub group_by : List ℕ
group_by = codes " GROUP BY "

unfoldable pub order_by_sql : List ℕ
order_by_sql = codes " ORDER BY "

-- Whether something is among values, or negated: PostgreSQL compares with an array (Row and Array Comparisons), the
-- others look in a list.
abbrev pub among_word : ArrayComparison → Bool → List ℕ
among_word PgStyleArrayComparison false = codes " = ANY("
among_word PgStyleArrayComparison true = codes " != ALL("
among_word AnsiSqlArrayComparison false = codes " IN ("
among_word AnsiSqlArrayComparison true = codes " NOT IN ("

abbrev pub among_sql : Dialect → Bool → List ℕ
among_sql d n = among_word (array d) n

-- nothing is among no values
abbrev pub constant_sql : Bool → List ℕ
constant_sql false = codes "(1=0)"
constant_sql true = codes "(1=1)"

abbrev pub join_sql : JoinKind → List ℕ
join_sql Inner = codes " INNER JOIN "
join_sql LeftOuter = codes " LEFT OUTER JOIN "

abbrev pub combinator_sql : Combinator → List ℕ
combinator_sql Union = codes " UNION "
combinator_sql Intersect = codes " INTERSECT "
combinator_sql Except = codes " EXCEPT "

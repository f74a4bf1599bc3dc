-- The examples have texts, and their normal trees are those that the grammar has as examples.
use Rattle.std.proofs.Common.{◌≡◌, length, refl, rules, arith, subst, List}
use Rattle.std.specs.Prelude.{ℕ, decimal, codes}
use Rattle.std.proofs.lemmas.Fmt.{decimal_digit}
use Rattle.sql_dialect.specs.declared.backend.Dialect.{Dialect}
use Rattle.sql_dialect.specs.declared.backend.Dialect.TheVariants.{Pg, Mysql, Sqlite, Bracket}
use Rattle.sql_grammar.specs.Examples.{pg_query, mysql_query, sqlite_query, bracket_query}
use Rattle.sql_grammar.specs.MarkTree.{Query}
use Rattle.sql_grammar.specs.Reading.{OnlyReading}
use Rattle.sql_pass.specs.Pieces.{one, text_of, values_of}
use Rattle.sql_pass.specs.Parts.{side_open, from_open}
use Rattle.sql_leaf.specs.Limits.{least_limit, largest_limit, fetch_next, rows_only}
use Rattle.sql_leaf.specs.Locks.{skip_locked}
use Rattle.sql_leaf.specs.Words.{distinct_on_open, group_by, order_by_sql}
use Rattle.sql_node.specs.Pieces.{pieces}
use Rattle.sql_node.specs.Tree.{Statement}
use Rattle.sql_normal.specs.Examples.{pg_statement, mysql_statement, sqlite_statement, bracket_statement, pg_text, mysql_text, sqlite_text, bracket_text}
use Rattle.sql_normal.specs.Filled.{normal}
use Rattle.sql_normal.specs.inside.HasText.{HasText, HasNumbers}
use Rattle.sql_normal.proofs.ReadingLaws.{only_reading}

read-as : (d : Dialect) (s : Statement) (text : List ℕ) (q : Query) → HasText d s
    → HasNumbers d (length (values_of (pieces d s))) → text_of d 0 (pieces d s) ≡ text → normal d s ≡ q
    → OnlyReading d text q
read-as d s text q h k w e =
    subst (λ t. OnlyReading d t q) w (subst (λ t. OnlyReading d (text_of d 0 (pieces d s)) t) e (only_reading d s h k))

digit-1 : decimal 1 ≡ codes "1"
digit-1 = decimal_digit 1 (omega arith)

digit-2 : decimal 2 ≡ codes "2"
digit-2 = decimal_digit 2 (omega arith)

digit-3 : decimal 3 ≡ codes "3"
digit-3 = decimal_digit 3 (omega arith)

digit-4 : decimal 4 ≡ codes "4"
digit-4 = decimal_digit 4 (omega arith)

pg-has-text : HasText Pg pg_statement
pg-has-text = search (rules, arith)

pg-has-numbers : HasNumbers Pg (length (values_of (pieces Pg pg_statement)))
unfolding one
pg-has-numbers t = omega arith

pub pg-text : text_of Pg 0 (pieces Pg pg_statement) ≡ pg_text
unfolding one distinct_on_open order_by_sql skip_locked
pg-text = rw (digit-1, digit-2, digit-3) refl

pub pg : OnlyReading Pg pg_text pg_query
pg = read-as Pg pg_statement pg_text pg_query pg-has-text pg-has-numbers pg-text refl

mysql-has-text : HasText Mysql mysql_statement
mysql-has-text = search (rules, arith)

mysql-normal : normal Mysql mysql_statement ≡ mysql_query
mysql-normal = rw digit-1 refl

pub mysql-text : text_of Mysql 0 (pieces Mysql mysql_statement) ≡ mysql_text
unfolding one side_open order_by_sql largest_limit
mysql-text = rw digit-1 refl

pub mysql : OnlyReading Mysql mysql_text mysql_query
mysql = read-as Mysql mysql_statement mysql_text mysql_query mysql-has-text (λ t. cc) mysql-text mysql-normal

sqlite-has-text : HasText Sqlite sqlite_statement
sqlite-has-text = search (rules, arith)

pub sqlite-text : text_of Sqlite 0 (pieces Sqlite sqlite_statement) ≡ sqlite_text
unfolding one side_open from_open group_by least_limit
sqlite-text = refl

pub sqlite : OnlyReading Sqlite sqlite_text sqlite_query
sqlite = read-as Sqlite sqlite_statement sqlite_text sqlite_query sqlite-has-text (λ t. cc) sqlite-text refl

bracket-has-text : HasText Bracket bracket_statement
bracket-has-text = search (rules, arith)

bracket-has-numbers : HasNumbers Bracket (length (values_of (pieces Bracket bracket_statement)))
unfolding one
bracket-has-numbers t = omega arith

pub bracket-text : text_of Bracket 0 (pieces Bracket bracket_statement) ≡ bracket_text
unfolding one fetch_next rows_only
bracket-text = rw (digit-1, digit-2, digit-3, digit-4) refl

pub bracket : OnlyReading Bracket bracket_text bracket_query
bracket =
    read-as Bracket bracket_statement bracket_text bracket_query bracket-has-text bracket-has-numbers bracket-text refl

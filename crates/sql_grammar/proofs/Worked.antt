-- Texts with their tokens, and statements with their readings, computed.
use Rattle.std.proofs.Common.{◌≡◌, ℕ, List, [], ◌∷◌, Option, Some, None, refl, sym, rules, arith, codes}
use Rattle.std.proofs.lemmas.Fmt.{decimal_digit}
use Rattle.sql_dialect.specs.declared.backend.Dialect.{Dialect}
use Rattle.sql_dialect.specs.declared.backend.Dialect.TheVariants.{Pg, Mysql, Sqlite, Bracket}
use Rattle.sql_grammar.specs.Token.{SELECT, Equal, LessOrEqual, Token, Quoted, Word, Unknown, Number, Mark, Sign, Open, Close, Dot}
use Rattle.sql_grammar.specs.Spelling as spell
use Rattle.sql_grammar.specs.Tokens as lex
use Rattle.sql_grammar.specs.Tokens.{tokens}
use Rattle.sql_grammar.specs.Fits as f
use Rattle.sql_grammar.specs.Grammar as r
use Rattle.sql_grammar.specs.MarkTree.{Query}
use Rattle.sql_grammar.specs.Reading.{OnlyReading}
use Rattle.sql_grammar.specs.Examples.{pg_text, pg_query, mysql_text, mysql_query, sqlite_text, sqlite_query, bracket_text, bracket_query}
use Rattle.sql_grammar.proofs.Readings.{only}

unfoldable pub computed : Dialect → List ℕ → Option (List Token)
unfolding lex.tokens_from lex.from_extended lex.from_begun lex.put lex.ending lex.extended lex.begun lex.begun_name lex.begun_placeholder spell.quote spell.end_quote spell.is_letter spell.is_digit spell.word_of spell.word_among spell.same_bytes spell.spelling spell.value_after spell.is_placeholder_number
computed d text = tokens d text

pub spaces : tokens Pg (codes "SELECT   ( \"a\".\"x\"=$7 )")
    ≡ Some (Word SELECT ∷ Open ∷ Quoted (codes "a") ∷ Dot ∷ Quoted (codes "x") ∷ Sign Equal ∷ Mark (Some 7) ∷ Close
    ∷ [])
unfolding computed
spaces = refl

pub doubled : tokens Pg (codes "\"a\"\"b`\"") ≡ Some (Quoted (codes "a\"b`") ∷ [])
unfolding computed
doubled = refl

pub backticks : tokens Sqlite (codes "`a``b\"`.`c`") ≡ Some (Quoted (codes "a`b\"") ∷ Dot ∷ Quoted (codes "c") ∷ [])
unfolding computed
backticks = refl

pub lone_quote : tokens Pg (codes "\"") ≡ None
unfolding computed
lone_quote = refl

pub lone_backtick : tokens Mysql (codes "SELECT `a``") ≡ None
unfolding computed
lone_backtick = refl

pub square : tokens Bracket (codes "[a]]b[].[c]") ≡ Some (Quoted (codes "a]b[") ∷ Dot ∷ Quoted (codes "c") ∷ [])
unfolding computed
square = refl

pub lone_square : tokens Bracket (codes "[a]]") ≡ None
unfolding computed
lone_square = refl

pub lower : tokens Pg (codes "select") ≡ Some (Unknown (codes "select") ∷ [])
unfolding computed
lower = refl

pub digits : tokens Mysql (codes "x007<=1")
    ≡ Some (Unknown (codes "x") ∷ Number (codes "007") ∷ Sign LessOrEqual ∷ Number (codes "1") ∷ [])
unfolding computed
digits = refl

pub last : tokens Pg (codes "$4294967295") ≡ Some (Mark (Some 4294967295) ∷ [])
unfolding computed
last = refl

pub past : tokens Pg (codes "$4294967296") ≡ None
unfolding computed
past = refl

pub zero : tokens Pg (codes "$0") ≡ None
unfolding computed
zero = refl

pub leading_zero : tokens Pg (codes "SELECT $01") ≡ None
unfolding computed
leading_zero = refl

pub last_on_bracket : tokens Bracket (codes "@p4294967295") ≡ Some (Mark (Some 4294967295) ∷ [])
unfolding computed
last_on_bracket = refl

pub past_on_bracket : tokens Bracket (codes "@p4294967296") ≡ None
unfolding computed
past_on_bracket = refl

pub leading_zero_on_bracket : tokens Bracket (codes "SELECT @p01") ≡ None
unfolding computed
leading_zero_on_bracket = refl

pub spaced_number : tokens Bracket (codes "@p 1") ≡ None
unfolding computed
spaced_number = refl

pub question : tokens Sqlite (codes "(?)") ≡ Some (Open ∷ Mark None ∷ Close ∷ [])
unfolding computed
question = refl

pub question_on_pg : tokens Pg (codes "?") ≡ None
unfolding computed
question_on_pg = refl

pub number_on_mysql : tokens Mysql (codes "$1") ≡ None
unfolding computed
number_on_mysql = refl

pub number_on_sqlite : tokens Sqlite (codes "$1") ≡ None
unfolding computed
number_on_sqlite = refl

pub tab : tokens Pg (codes "SELECT\t1") ≡ None
unfolding computed
tab = refl

pub newline : tokens Pg (codes "SELECT\n1") ≡ None
unfolding computed
newline = refl

pub tab_in_name : tokens Pg (codes "\"\t\"") ≡ Some (Quoted (codes "\t") ∷ [])
unfolding computed
tab_in_name = refl

-- the tokens of a tree, computed
spelled : Dialect → Query → List Token
unfolding r.names r.marks r.logic r.direction r.among r.constant r.kind r.method r.only r.seed r.sample r.no_limit r.rows r.fetch r.page r.mode r.wait r.lock r.operator r.all_word r.side_open r.places r.by_places r.query
spelled d q = r.query d q []

pg-fits : f.FitsQuery Pg pg_query
unfolding f.FitsQuery
pg-fits = search (rules, arith)

pub pg : OnlyReading Pg pg_text pg_query
unfolding computed spelled
pg = only Pg pg_text pg_query (r.query Pg pg_query [], refl, (pg-fits, refl))

first-place : f.IsPlace (codes "1")
first-place = (1, omega arith, sym (decimal_digit 1 (omega arith)))

mysql-fits : f.FitsQuery Mysql mysql_query
unfolding f.FitsQuery
mysql-fits = search (rules, arith, first-place)

pub mysql : OnlyReading Mysql mysql_text mysql_query
unfolding computed spelled
mysql = only Mysql mysql_text mysql_query (r.query Mysql mysql_query [], refl, (mysql-fits, refl))

sqlite-fits : f.FitsQuery Sqlite sqlite_query
unfolding f.FitsQuery
sqlite-fits = search (rules, arith)

pub sqlite : OnlyReading Sqlite sqlite_text sqlite_query
unfolding computed spelled
sqlite = only Sqlite sqlite_text sqlite_query (r.query Sqlite sqlite_query [], refl, (sqlite-fits, refl))

bracket-fits : f.FitsQuery Bracket bracket_query
unfolding f.FitsQuery
bracket-fits = search (rules, arith)

pub bracket : OnlyReading Bracket bracket_text bracket_query
unfolding computed spelled
bracket = only Bracket bracket_text bracket_query (r.query Bracket bracket_query [], refl, (bracket-fits, refl))

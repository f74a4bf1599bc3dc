-- Which bytes tokens are spelled with.
use Rattle.std.specs.Prelude.{ℕ, ◌+◌, ◌*◌, ◌-◌, List, [], ◌∷◌, ◌++◌, Bool, true, false, nat_eq, nat_lt, nat_le, ◌&&◌, ◌||◌, if◌then◌else◌, codes}
use Rattle.sql_dialect.specs.declared.backend.Dialect.{Dialect}
use Rattle.sql_dialect.specs.declared.backend.Dialect.TheVariants.{Pg, Mysql, Sqlite, Bracket}
use Rattle.sql_dialect.specs.Written.{MAX_BINDS}
use Rattle.sql_grammar.specs.Token.{Keyword, SELECT, DISTINCT, ON, FROM, WHERE, GROUP, BY, HAVING, ORDER, ASC, DESC, LIMIT, OFFSET, FOR, UPDATE, SHARE, NO, KEY, SKIP, LOCKED, NOWAIT, UNION, INTERSECT, EXCEPT, ALL, AS, ONLY, TABLESAMPLE, BERNOULLI, SYSTEM, REPEATABLE, INNER, LEFT, OUTER, JOIN, EXISTS, AND, OR, NOT, IS, NULL, COUNT, ANY, IN, ROWS, FETCH, NEXT, Comparison, Equal, NotEqual, Less, LessOrEqual, Greater, GreaterOrEqual, Token, Word, Unknown}

-- ## Words

-- an ASCII letter
unfoldable pub is_letter : ℕ → Bool
is_letter c = (nat_le 65 c && nat_le c 90) || (nat_le 97 c && nat_le c 122)

unfoldable pub all_letters : List ℕ → Bool
all_letters [] = true
all_letters (c ∷ cs) = is_letter c && all_letters cs

unfoldable pub spelling : Keyword → List ℕ
spelling SELECT = codes "SELECT"
spelling DISTINCT = codes "DISTINCT"
spelling ON = codes "ON"
spelling FROM = codes "FROM"
spelling WHERE = codes "WHERE"
spelling GROUP = codes "GROUP"
spelling BY = codes "BY"
spelling HAVING = codes "HAVING"
spelling ORDER = codes "ORDER"
spelling ASC = codes "ASC"
spelling DESC = codes "DESC"
spelling LIMIT = codes "LIMIT"
spelling OFFSET = codes "OFFSET"
spelling FOR = codes "FOR"
spelling UPDATE = codes "UPDATE"
spelling SHARE = codes "SHARE"
spelling NO = codes "NO"
spelling KEY = codes "KEY"
spelling SKIP = codes "SKIP"
spelling LOCKED = codes "LOCKED"
spelling NOWAIT = codes "NOWAIT"
spelling UNION = codes "UNION"
spelling INTERSECT = codes "INTERSECT"
spelling EXCEPT = codes "EXCEPT"
spelling ALL = codes "ALL"
spelling AS = codes "AS"
spelling ONLY = codes "ONLY"
spelling TABLESAMPLE = codes "TABLESAMPLE"
spelling BERNOULLI = codes "BERNOULLI"
spelling SYSTEM = codes "SYSTEM"
spelling REPEATABLE = codes "REPEATABLE"
spelling INNER = codes "INNER"
spelling LEFT = codes "LEFT"
spelling OUTER = codes "OUTER"
spelling JOIN = codes "JOIN"
spelling EXISTS = codes "EXISTS"
spelling AND = codes "AND"
spelling OR = codes "OR"
spelling NOT = codes "NOT"
spelling IS = codes "IS"
spelling NULL = codes "NULL"
spelling COUNT = codes "COUNT"
spelling ANY = codes "ANY"
spelling IN = codes "IN"
spelling ROWS = codes "ROWS"
spelling FETCH = codes "FETCH"
spelling NEXT = codes "NEXT"

abbrev pub keywords : List Keyword
keywords =
    SELECT ∷ DISTINCT ∷ ON ∷ FROM ∷ WHERE ∷ GROUP ∷ BY ∷ HAVING ∷ ORDER ∷ ASC ∷ DESC ∷ LIMIT ∷ OFFSET ∷ FOR ∷ UPDATE
    ∷ SHARE ∷ NO ∷ KEY ∷ SKIP ∷ LOCKED ∷ NOWAIT ∷ UNION ∷ INTERSECT ∷ EXCEPT ∷ ALL ∷ AS ∷ ONLY ∷ TABLESAMPLE
    ∷ BERNOULLI ∷ SYSTEM ∷ REPEATABLE ∷ INNER ∷ LEFT ∷ OUTER ∷ JOIN ∷ EXISTS ∷ AND ∷ OR ∷ NOT ∷ IS ∷ NULL ∷ COUNT
    ∷ ANY ∷ IN ∷ ROWS ∷ FETCH ∷ NEXT ∷ []

unfoldable pub same_bytes : List ℕ → List ℕ → Bool
same_bytes [] [] = true
same_bytes [] (b ∷ bs) = false
same_bytes (a ∷ xs) [] = false
same_bytes (a ∷ xs) (b ∷ bs) = nat_eq a b && same_bytes xs bs

-- the first of these keywords that is spelled so
unfoldable pub word_among : List Keyword → List ℕ → Token
word_among [] w = Unknown w
word_among (k ∷ ks) w = if same_bytes (spelling k) w then Word k else word_among ks w

-- the token of a word, by its letters
unfoldable pub word_of : List ℕ → Token
word_of w = word_among keywords w

-- ## Numbers

unfoldable pub is_digit : ℕ → Bool
is_digit c = nat_le 48 c && nat_le c 57

unfoldable pub all_digits : List ℕ → Bool
all_digits [] = true
all_digits (c ∷ cs) = is_digit c && all_digits cs

-- the number that digits write after those of n
unfoldable pub value_after : ℕ → List ℕ → ℕ
value_after n [] = n
value_after n (c ∷ cs) = value_after (10 * n + (c - 48)) cs

abbrev pub value_of : List ℕ → ℕ
value_of digits = value_after 0 digits

-- Digits number a placeholder where the first isn't `0` and the number is at most MAX_BINDS.
unfoldable pub is_placeholder_number : List ℕ → Bool
is_placeholder_number [] = false
is_placeholder_number (c ∷ cs) = nat_lt 48 c && nat_le (value_of (c ∷ cs)) MAX_BINDS

-- ## Signs

-- The quote that begins a name: `"` on Pg (PostgreSQL, 4.1.1 Identifiers and Key Words), a backtick on Mysql (MySQL, 9.2
-- Schema Object Names) and Sqlite, which takes MySQL's form (SQLite Keywords), `[` on Bracket.
unfoldable pub quote : Dialect → ℕ
quote Pg = 34
quote Mysql = 96
quote Sqlite = 96
quote Bracket = 91

-- The quote that ends it: the same, and `]` on Bracket. It stands in a name doubled.
unfoldable pub end_quote : Dialect → ℕ
end_quote Pg = 34
end_quote Mysql = 96
end_quote Sqlite = 96
end_quote Bracket = 93

-- the byte is `=`
abbrev pub is_equal : ℕ → Bool
is_equal c = nat_eq c 61

-- the byte is `p`
abbrev pub is_p : ℕ → Bool
is_p c = nat_eq c 112

-- a comparison, before more text
unfoldable pub sign_text : Comparison → List ℕ → List ℕ
sign_text Equal rest = codes "=" ++ rest
sign_text NotEqual rest = codes "!=" ++ rest
sign_text Less rest = codes "<" ++ rest
sign_text LessOrEqual rest = codes "<=" ++ rest
sign_text Greater rest = codes ">" ++ rest
sign_text GreaterOrEqual rest = codes ">=" ++ rest

-- The tokens of a text of SQL (PostgreSQL, 4.1 Lexical Structure; MySQL, 9 Language Structure; SQLite, SQLite Keywords).
use Rattle.std.specs.Prelude.{ℕ, List, Option}

-- The words of the grammar, spelled as they stand here, in capital letters.
pub data Keyword : Type 0 where
  SELECT : Keyword
  DISTINCT : Keyword
  ON : Keyword
  FROM : Keyword
  WHERE : Keyword
  GROUP : Keyword
  BY : Keyword
  HAVING : Keyword
  ORDER : Keyword
  ASC : Keyword
  DESC : Keyword
  LIMIT : Keyword
  OFFSET : Keyword
  FOR : Keyword
  UPDATE : Keyword
  SHARE : Keyword
  NO : Keyword
  KEY : Keyword
  SKIP : Keyword
  LOCKED : Keyword
  NOWAIT : Keyword
  UNION : Keyword
  INTERSECT : Keyword
  EXCEPT : Keyword
  ALL : Keyword
  AS : Keyword
  ONLY : Keyword
  TABLESAMPLE : Keyword
  BERNOULLI : Keyword
  SYSTEM : Keyword
  REPEATABLE : Keyword
  INNER : Keyword
  LEFT : Keyword
  OUTER : Keyword
  JOIN : Keyword
  EXISTS : Keyword
  AND : Keyword
  OR : Keyword
  NOT : Keyword
  IS : Keyword
  NULL : Keyword
  COUNT : Keyword
  ANY : Keyword
  IN : Keyword
  ROWS : Keyword
  FETCH : Keyword
  NEXT : Keyword

-- `=`, `!=`, `<`, `<=`, `>` and `>=`
pub data Comparison : Type 0 where
  Equal : Comparison
  NotEqual : Comparison
  Less : Comparison
  LessOrEqual : Comparison
  Greater : Comparison
  GreaterOrEqual : Comparison

pub data Token : Type 0 where
  -- a quoted identifier, by the bytes of its name
  Quoted : List ℕ → Token
  Word : Keyword → Token
  -- a word that the grammar doesn't have, by its letters
  Unknown : List ℕ → Token
  -- by its digits
  Number : List ℕ → Token
  -- the place of a value, with its number where it has one
  Mark : Option ℕ → Token
  Sign : Comparison → Token
  -- `(`, `)`, `,`, `.`, `*` and `-`
  Open : Token
  Close : Token
  Comma : Token
  Dot : Token
  Star : Token
  Minus : Token

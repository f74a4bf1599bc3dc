-- The bytes of a bound value. PostgreSQL's binary forms have the most significant byte first (Formats and Format Codes);
-- MySQL's binary protocol has the least significant one first (Binary Protocol Value). SQLite and Bracket have no form of
-- their own and take MySQL's.
use Rattle.std.specs.Prelude.{ℕ, ℤ, pos, negsuc, Bool, true, false, ◌||◌, List, [], ◌∷◌, ◌++◌, length, Option, Some, None, nat_lt, if◌then◌else◌}
use Rattle.std.specs.Int.{w16, w32, w64, to_be_bytes, to_le_bytes, cast_unsigned}
use Rattle.std.specs.List.{flat_map, list_any}
use Rattle.sql_dialect.specs.declared.backend.Dialect.{Dialect}
use Rattle.sql_dialect.specs.declared.backend.Dialect.TheVariants.{Pg, Mysql, Sqlite, Bracket}
use Rattle.sql_schema.specs.declared.types.Base.{Base}
use Rattle.sql_schema.specs.declared.types.Base.TheVariants as T
use Rattle.sql_schema.specs.declared.types.SqlType.{SqlType}
use Rattle.sql_pass.specs.declared.value.Bound.{Bound}
use Rattle.sql_pass.specs.declared.value.Bound.TheVariants as B
use Rattle.sql_pass.specs.declared.value.Value.{Value}
use Rattle.sql_pass.specs.declared.value.Value.TheVariants as V

-- whether the most significant byte stands first
abbrev pub big_end : Dialect → Bool
big_end Pg = true
big_end Mysql = false
big_end Sqlite = false
big_end Bracket = false

-- whole numbers, in two's complement
abbrev pub two_bytes : Dialect → ℤ → List ℕ
two_bytes d n = if big_end d then to_be_bytes w16 (cast_unsigned w16 n) else to_le_bytes w16 (cast_unsigned w16 n)

abbrev pub four_bytes : Dialect → ℤ → List ℕ
four_bytes d n = if big_end d then to_be_bytes w32 (cast_unsigned w32 n) else to_le_bytes w32 (cast_unsigned w32 n)

abbrev pub eight_bytes : Dialect → ℤ → List ℕ
eight_bytes d n = if big_end d then to_be_bytes w64 (cast_unsigned w64 n) else to_le_bytes w64 (cast_unsigned w64 n)

abbrev pub bool_byte : Bool → ℕ
bool_byte true = 1
bool_byte false = 0

-- the bytes of one value, none for NULL
abbrev pub value_bytes : Dialect → Value → Option (List ℕ)
value_bytes d (V.SmallInt n) = Some (two_bytes d n)
value_bytes d (V.Integer n) = Some (four_bytes d n)
value_bytes d (V.BigInt n) = Some (eight_bytes d n)
value_bytes d (V.Text t) = Some t
value_bytes d (V.Binary b) = Some b
value_bytes d (V.Bool b) = Some (bool_byte b ∷ [])
value_bytes d V.Null = None

-- A list has PostgreSQL's binary form of arrays (array_recv, array_send): the number of dimensions, whether a NULL stands
-- in it, the number of the elements' type, then the length and the first index of the one dimension, and each element
-- after its length, a NULL as the length -1 alone. Each of these numbers has four bytes.
unfoldable pub int4 : ℤ → List ℕ
int4 n = to_be_bytes w32 (cast_unsigned w32 n)

-- the number of a type (PostgreSQL, the catalog pg_type)
abbrev pub element_number : Base → ℕ
element_number T.Bool = 16
element_number T.Binary = 17
element_number T.BigInt = 20
element_number T.SmallInt = 21
element_number T.Integer = 23
element_number T.Text = 25

abbrev pub is_null : Value → Bool
is_null (V.SmallInt n) = false
is_null (V.Integer n) = false
is_null (V.BigInt n) = false
is_null (V.Text t) = false
is_null (V.Binary b) = false
is_null (V.Bool b) = false
is_null V.Null = true

-- 1 where a NULL stands in the list
abbrev pub null_flag : List Value → ℤ
null_flag vs = pos (bool_byte (list_any is_null vs))

-- bytes after their length
abbrev pub sized : Option (List ℕ) → List ℕ
sized None = int4 (negsuc 0)
sized (Some b) = int4 (pos (length b)) ++ b

abbrev pub element : Value → List ℕ
element v = sized (value_bytes Pg v)

unfoldable pub list_bytes : SqlType → List Value → List ℕ
list_bytes t vs =
    int4 (pos 1) ++ int4 (null_flag vs) ++ int4 (pos (element_number t.base)) ++ int4 (pos (length vs)) ++ int4 (pos 1)
    ++ flat_map element vs

-- the bytes of a bind; a list has the same in every dialect
abbrev pub bytes_of : Dialect → Bound → Option (List ℕ)
bytes_of d (B.Value t v) = value_bytes d v
bytes_of d (B.List t vs) = Some (list_bytes t vs)

-- the longest list and the longest element that such a form takes
abbrev pub MAX_LENGTH : ℕ
MAX_LENGTH = 2147483647

abbrev pub is_long : List ℕ → Bool
is_long b = nat_lt MAX_LENGTH (length b)

-- whether its bytes alone are too many for an element
abbrev pub is_long_element : Value → Bool
is_long_element (V.SmallInt n) = false
is_long_element (V.Integer n) = false
is_long_element (V.BigInt n) = false
is_long_element (V.Text t) = is_long t
is_long_element (V.Binary b) = is_long b
is_long_element (V.Bool b) = false
is_long_element V.Null = false

-- whether a list, or an element of one, is too long to be bound
abbrev pub is_too_long : Bound → Bool
is_too_long (B.Value t v) = false
is_too_long (B.List t vs) = nat_lt MAX_LENGTH (length vs) || list_any is_long_element vs

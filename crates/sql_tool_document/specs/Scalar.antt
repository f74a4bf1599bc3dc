-- Which JSON is a value of a type (RFC 8259, 3 Values and 6 Numbers).
use Rattle.std.specs.Prelude.{ℕ, ◌&&◌, not, ℤ, pos, negsuc, int_lt, nat_lt, nat_le, List, Bool, Option, Some, None, option_map, option_and_then, is_some, if◌then◌else◌}
use Rattle.std.specs.List.{list_any}
use Rattle.std.specs.Result.{result_ok}
use Rattle.serde_json.specs.Data.{Data}
use Rattle.serde_json.specs.Find.{as_null, as_bool, as_number, as_i64, as_u64, as_str}
use Rattle.hex.specs.Hex.{decode_of}
use Rattle.sql_schema.specs.declared.types.Base.{Base}
use Rattle.sql_schema.specs.declared.types.Base.TheVariants as base
use Rattle.sql_pass.specs.declared.value.Value.{Value}
use Rattle.sql_pass.specs.declared.value.Value.TheVariants.{SmallInt, Integer, BigInt, Text, Binary, Bool as Boolean, Null}

infixl 10 ◌>>=◌
abbrev pub ◌>>=◌ : {A B : Type 0} → Option A → (A → Option B) → Option B
o >>= f = option_and_then f o

-- a whole number of 64 bits
abbrev pub whole : Data → Option ℤ
whole d = as_number d >>= as_i64

-- such a number from low to below high
abbrev pub within : ℤ → ℤ → ℤ → Option ℤ
within low high z = if not (int_lt z low) && int_lt z high then Some z else None

abbrev pub small_of : Data → Option ℤ
small_of d = whole d >>= within (negsuc 32767) (pos 32768)

abbrev pub medium_of : Data → Option ℤ
medium_of d = whole d >>= within (negsuc 2147483647) (pos 2147483648)

-- such a number of 32 bits and no sign
abbrev pub below : ℕ → ℕ → Option ℕ
below high n = if nat_lt n high then Some n else None

abbrev pub place_number_of : Data → Option ℕ
place_number_of d = (as_number d >>= as_u64) >>= below 4294967296

abbrev pub is_upper_case : ℕ → Bool
is_upper_case c = nat_le 65 c && nat_le c 90

-- the bytes that a text of lower case hexadecimal digits spells, two digits a byte
unfoldable pub bytes_of : List ℕ → Option (List ℕ)
bytes_of s = if list_any is_upper_case s then None else result_ok (decode_of s)

-- a value of that base
abbrev pub of_base : Base → Data → Option Value
of_base base.SmallInt d = option_map SmallInt (small_of d)
of_base base.Integer d = option_map Integer (medium_of d)
of_base base.BigInt d = option_map BigInt (whole d)
of_base base.Text d = option_map Text (as_str d)
of_base base.Binary d = option_map Binary (as_str d >>= bytes_of)
of_base base.Bool d = option_map Boolean (as_bool d)

-- null, or a value of that base
unfoldable pub value_of : Base → Data → Option Value
value_of b d = if is_some (as_null d) then Some Null else of_base b d

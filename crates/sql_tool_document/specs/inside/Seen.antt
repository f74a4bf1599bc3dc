-- The data that a JSON tree stands for whose texts are borrowed. A key that comes twice has its last value.
use Rattle.std.specs.Prelude.{ℕ, ◌^◌, ◌&&◌, ◌==◌, List, drop, slice_index, Bool, true, false, not, nat_lt, nat_le, if◌then◌else◌, Option, Some, None}
use Rattle.std.specs.Borrow.{Bor}
use Rattle.std.specs.Float.{binary64}
use Rattle.std.specs.Str.{bytes_eq}
use Rattle.fast_float.specs.Text.{minus, Parts, scan, digits_of, nearest, with_sign}
use Rattle.json.specs.Json as json
use Rattle.json.specs.Value.{value_view, items_view, members_view}
use Rattle.json.specs.declared.value.Value.{Value}
use Rattle.serde_json.specs.Data.{Num, unsigned, negative, float, Data, null, boolean, number, string, array, object, Items, no_items, item, Members, no_members, put}
use Rattle.serde_json.specs.Find.{is_float}
use Rattle.serde_json.specs.Read.{is_integer}
use Rattle.sql_tool_document.specs.declared.number.Whole.{Whole}
use Rattle.sql_tool_document.specs.declared.number.Whole.TheVariants.{Natural, Negative}

-- the number that a numeral is, after its sign, where a float may be too large
abbrev pub num_from : Bool → Parts → Num
num_from false p = if is_integer p && nat_lt (digits_of p) (2 ^ 64) then unsigned (digits_of p) else float (nearest binary64 false p)
num_from true p =
    if is_integer p && nat_lt 0 (digits_of p) && nat_le (digits_of p) (2 ^ 63) then negative (with_sign true (digits_of p)) else float (nearest binary64 true p)

unfoldable pub num_of : List ℕ → Num
num_of s = if slice_index s 0 == minus then num_from true (scan (drop 1 s)) else num_from false (scan s)

-- the number, where it is no float
abbrev pub if_whole : Num → Option Num
if_whole n = if is_float n then None else Some n

abbrev pub num_of_whole : Whole → Num
num_of_whole (Natural n) = unsigned n
num_of_whole (Negative z) = negative z

abbrev mutual
  pub data_of : json.Json → Data
  data_of json.null = null
  data_of (json.boolean b) = boolean b
  data_of (json.number s) = number (num_of s)
  data_of (json.string s) = string s
  data_of (json.array js) = array (data_items js)
  data_of (json.object ms) = object (data_members ms no_members)

  pub data_items : json.Items → Items
  data_items json.no_items = no_items
  data_items (json.item j js) = item (data_of j) (data_items js)

  pub data_members : json.Members → Members → Members
  data_members json.no_members found = found
  data_members (json.member k j ms) found = data_members ms (put k (data_of j) found)

abbrev pub seen : {A : Type 0} → Value A → Data
seen v = data_of (value_view v)

abbrev pub items_seen : {A : Type 0} → List (Value A) → Items
items_seen vs = data_items (items_view vs)

abbrev pub members_seen : {A : Type 0} → List (Bor (List ℕ) × Value A) → Members
members_seen ms = data_members (members_view ms) no_members

-- whether each number is whole and of 64 bits, also those whose key comes again
abbrev mutual
  pub is_whole : json.Json → Bool
  is_whole json.null = true
  is_whole (json.boolean b) = true
  is_whole (json.number s) = not (is_float (num_of s))
  is_whole (json.string s) = true
  is_whole (json.array js) = items_are_whole js
  is_whole (json.object ms) = members_are_whole ms

  pub items_are_whole : json.Items → Bool
  items_are_whole json.no_items = true
  items_are_whole (json.item j js) = is_whole j && items_are_whole js

  pub members_are_whole : json.Members → Bool
  members_are_whole json.no_members = true
  members_are_whole (json.member k j ms) = is_whole j && members_are_whole ms

-- the only member of an object whose first member has this key and this value: each other has the same key
abbrev pub alone : List ℕ → Data → json.Members → Option (List ℕ × Data)
alone k d json.no_members = Some (k, d)
alone k d (json.member l j ms) = if bytes_eq l k then alone k (data_of j) ms else None

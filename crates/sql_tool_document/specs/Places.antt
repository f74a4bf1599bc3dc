-- Places for values in JSON, and the values that are put there.
use Rattle.std.specs.Prelude.{ℕ, List, codes, Option, Some, None, option_map, if◌then◌else◌}
use Rattle.std.specs.Option.{unwrap_or}
use Rattle.std.specs.Str.{bytes_eq}
use Rattle.serde_json.specs.Data.{Data, null, boolean, number, string, array, object, Items, no_items, item, Members, no_members, member}
use Rattle.serde_json.specs.Find.{get, as_str}
use Rattle.sql_tool_document.specs.Members.{single}
use Rattle.sql_tool_document.specs.Scalar.{◌>>=◌}

-- what may stand for a place: null, a truth value, a number or a text
abbrev pub scalar : Data → Option Data
scalar null = Some null
scalar (boolean b) = Some (boolean b)
scalar (number n) = Some (number n)
scalar (string s) = Some (string s)
scalar (array ds) = None
scalar (object ms) = None

-- the value of that name, among those of an object that may be absent
abbrev pub value_for : Option Data → List ℕ → Option Data
value_for values name = values >>= get name >>= scalar

-- PLACE: `{"value":NAME}`, an object of this one member; what is put there, none where it is no place, or the name has no value
abbrev pub placed : Option Data → Members → Option Data
placed values ms =
    single ms >>= λ m. if bytes_eq m.0 (codes "value") then as_str m.1 >>= value_for values else None

-- The JSON with a value at each place. A place whose name has no value stays.
abbrev mutual
  pub filled : Option Data → Data → Data
  filled values null = null
  filled values (boolean b) = boolean b
  filled values (number n) = number n
  filled values (string s) = string s
  filled values (array ds) = array (filled_items values ds)
  filled values (object ms) = unwrap_or (placed values ms) (object (filled_members values ms))

  pub filled_items : Option Data → Items → Items
  filled_items values no_items = no_items
  filled_items values (item d ds) = item (filled values d) (filled_items values ds)

  pub filled_members : Option Data → Members → Members
  filled_members values no_members = no_members
  filled_members values (member k d ms) = member k (filled values d) (filled_members values ms)

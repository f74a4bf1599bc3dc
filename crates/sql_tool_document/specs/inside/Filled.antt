-- The same places in a JSON tree whose texts are borrowed.
use Rattle.std.specs.Prelude.{ℕ, List, codes, Option, Some, None, if◌then◌else◌}
use Rattle.std.specs.Option.{unwrap_or}
use Rattle.std.specs.Str.{bytes_eq}
use Rattle.json.specs.Find as find
use Rattle.json.specs.Json.{Json, null, boolean, number, string, array, object, Items, no_items, item, Members, no_members, member}
use Rattle.serde_json.specs.Data as seen
use Rattle.serde_json.specs.Find.{as_str}
use Rattle.sql_tool_document.specs.Members.{single}
use Rattle.sql_tool_document.specs.Scalar.{◌>>=◌}
use Rattle.sql_tool_document.specs.inside.Seen.{data_members}

abbrev pub scalar_json : Json → Option Json
scalar_json null = Some null
scalar_json (boolean b) = Some (boolean b)
scalar_json (number s) = Some (number s)
scalar_json (string s) = Some (string s)
scalar_json (array js) = None
scalar_json (object ms) = None

abbrev pub json_for : Option Json → List ℕ → Option Json
json_for values name = values >>= find.get name >>= scalar_json

abbrev pub placed_json : Option Json → Members → Option Json
placed_json values ms =
    single (data_members ms seen.no_members) >>= λ m.
    if bytes_eq m.0 (codes "value") then as_str m.1 >>= json_for values else None

abbrev mutual
  pub filled_json : Option Json → Json → Json
  filled_json values null = null
  filled_json values (boolean b) = boolean b
  filled_json values (number s) = number s
  filled_json values (string s) = string s
  filled_json values (array js) = array (items_filled values js)
  filled_json values (object ms) = unwrap_or (placed_json values ms) (object (members_filled values ms))

  pub items_filled : Option Json → Items → Items
  items_filled values no_items = no_items
  items_filled values (item j js) = item (filled_json values j) (items_filled values js)

  pub members_filled : Option Json → Members → Members
  members_filled values no_members = no_members
  members_filled values (member k j ms) = member k (filled_json values j) (members_filled values ms)

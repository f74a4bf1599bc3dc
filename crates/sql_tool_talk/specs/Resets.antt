-- Which lines have a session begin anew.
use Rattle.std.specs.Prelude.{ℕ, List, codes, Bool, false, ◌&&◌, Option, None, Some, is_some, option_map, option_and_then, if◌then◌else◌}
use Rattle.std.specs.Str.{is_utf8}
use Rattle.serde_json.specs.Data.{Data}
use Rattle.serde_json.specs.Find.{as_bool, get}
use Rattle.serde_json.specs.Read.{read}
use Rattle.sql_tool_document.specs.Members.{only_member}

-- it is there, and true
abbrev pub is_true : Option Bool → Bool
is_true None = false
is_true (Some b) = b

-- an object with one member, "reset", which is true
abbrev pub is_reset_value : Data → Bool
is_reset_value d = is_some (only_member d) && is_true (option_and_then as_bool (get (codes "reset") d))

-- the JSON text (RFC 8259) of such an object
unfoldable pub is_reset : List ℕ → Bool
is_reset line = if is_utf8 line then is_true (option_map is_reset_value (read line)) else false

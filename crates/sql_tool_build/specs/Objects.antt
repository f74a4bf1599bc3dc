-- The JSON object (RFC 8259) of a request's line.
use Rattle.std.specs.Prelude.{ℕ, List, Bool, map, codes, Option, Some, None}
use Rattle.serde_json.specs.Data.{Data, null, boolean, number, string, array, object, unsigned, no_items, item, no_members, member}
use Rattle.serde_json.specs.View.{items_of}
use Rattle.serde_json.specs.Find.{of_integer}
use Rattle.hex.specs.Hex.{encode_lower}
use Rattle.sql_dialect.specs.declared.backend.Dialect.{Dialect}
use Rattle.sql_schema.specs.declared.types.SqlType.{SqlType}
use Rattle.sql_pass.specs.declared.value.Value.{Value}
use Rattle.sql_pass.specs.declared.value.Value.TheVariants as V
use Rattle.sql_pass.specs.declared.value.Bound.{Bound}
use Rattle.sql_pass.specs.declared.value.Bound.TheVariants as B
use Rattle.sql_tool_document.specs.Names.{type_text}
use Rattle.sql_node.specs.Tree.{Statement}
use Rattle.sql_check.specs.Compiled.{sql_of, binds_of, is_safe_in}
use Rattle.sql_tool_build.specs.Judgement.{Judgement, refuses, accepts}

abbrev pub value_data : Value → Data
value_data (V.SmallInt z) = number (of_integer z)
value_data (V.Integer z) = number (of_integer z)
value_data (V.BigInt z) = number (of_integer z)
value_data (V.Text s) = string s
value_data (V.Binary b) = string (encode_lower b)
value_data (V.Bool b) = boolean b
value_data V.Null = null

abbrev pub type_data : SqlType → Data
type_data t = string (type_text t)

-- `[TYPE,VALUE]`, or `[TYPE,[VALUE..]]` for a list that is bound as one
abbrev pub bound_data : Bound → Data
bound_data (B.Value t v) = array (item (type_data t) (item (value_data v) no_items))
bound_data (B.List t vs) = array (item (type_data t) (item (array (items_of (map value_data vs))) no_items))

abbrev pub id_data : Option ℕ → Data
id_data None = null
id_data (Some n) = number (unsigned n)

abbrev pub statement_data : List Bound → List SqlType → Option ℕ → Bool → List ℕ → Data
statement_data binds columns id safe text =
    object (member (codes "binds") (array (items_of (map bound_data binds)))
    (member (codes "columns") (array (items_of (map type_data columns)))
    (member (codes "id") (id_data id)
    (member (codes "safe") (boolean safe)
    (member (codes "sql") (string text) no_members)))))

-- the values of a statement in the order of their placeholders, the types of its columns, its id, whether it is safe to prepare
-- for other values, and its text
abbrev pub accepted : Dialect → Option ℕ → Statement → List SqlType → Data
accepted d id s ts = statement_data (binds_of d s) ts id (is_safe_in d s) (sql_of d s)

abbrev pub refused : List ℕ → Data
refused name = object (member (codes "refused") (string name) no_members)

abbrev pub line_object : Dialect → Option ℕ → Judgement → Data
line_object d id (refuses name) = refused name
line_object d id (accepts s ts) = accepted d id s ts

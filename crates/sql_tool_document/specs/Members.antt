-- Members of objects and items of arrays (RFC 8259, 4 Objects and 5 Arrays).
use Rattle.std.specs.Prelude.{ℕ, List, [], ◌∷◌, Bool, Option, Some, None, is_some, option_map, if◌then◌else◌}
use Rattle.serde_json.specs.Data.{Data, Items, no_items, item, Members, no_members, member}
use Rattle.serde_json.specs.Find.{get, at, as_str, as_array, as_object}
use Rattle.sql_tool_document.specs.Scalar.{◌>>=◌}

-- what f gives where there is a value, else the other
abbrev pub if_some : {A B : Type 0} → Option A → (A → Option B) → Option B → Option B
if_some None f other = other
if_some (Some a) f other = f a

-- what f gives for a value that may be absent
abbrev pub if_any : {A : Type 0} → (Data → Option A) → Option Data → Option (Option A)
if_any f None = Some None
if_any f (Some d) = option_map Some (f d)

-- ---- members

-- a member that is a text
abbrev pub text_at : List ℕ → Data → Option (List ℕ)
text_at name d = get name d >>= as_str

-- a member that is a text, or where there is no member the default
abbrev pub text_or : Option Data → List ℕ → Option (List ℕ)
text_or None default = Some default
text_or (Some d) default = as_str d

-- a member that is an array
abbrev pub items_at : List ℕ → Data → Option Items
items_at name d = get name d >>= as_array

abbrev pub has : List ℕ → Data → Bool
has name d = is_some (get name d)

-- the member of an object of one
abbrev pub single : Members → Option (List ℕ × Data)
single no_members = None
single (member k d no_members) = Some (k, d)
single (member k d (member l e ms)) = None

abbrev pub only_member : Data → Option (List ℕ × Data)
only_member d = as_object d >>= single

-- ---- arrays

-- each item
abbrev pub each : {A : Type 0} → (Data → Option A) → Items → Option (List A)
each f no_items = Some []
each f (item d ds) = f d >>= λ x. each f ds >>= λ xs. Some (x ∷ xs)

-- each item of an array, and none where there is no array
abbrev pub each_if_any : {A : Type 0} → (Data → Option A) → Option Data → Option (List A)
each_if_any f None = Some []
each_if_any f (Some d) = as_array d >>= each f

abbrev pub two_items : Items → Option (Data × Data)
two_items no_items = None
two_items (item a no_items) = None
two_items (item a (item b no_items)) = Some (a, b)
two_items (item a (item b (item c ds))) = None

-- an array of two items
abbrev pub two_of : Data → Option (Data × Data)
two_of d = as_array d >>= two_items

-- the item after the first, in an array of two
abbrev pub argument_of : Data → Option Data
argument_of d = if is_some (at 2 d) then None else at 1 d

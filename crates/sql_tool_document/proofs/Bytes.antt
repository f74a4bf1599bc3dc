-- From bytes to the value that they are.
use Rattle.std.proofs.Common.{◌≡◌, ℕ, List, Bool, true, false, Option, Some, None, option_map, refl, sym, ap, ◌∙◌}
use Rattle.std.specs.Str.{IsUtf8, is_utf8}
use Rattle.std.proofs.lemmas.Str.{is_utf8-from_IsUtf8, IsUtf8-from_is_utf8}
use Rattle.serde_json.specs.Data.{Data}
use Rattle.json.specs.Json as json
use Rattle.serde_json.specs.Read.{read, of_json}
use Rattle.serde_json.specs.Written.{has_float}
use Rattle.sql_tool_document.specs.inside.Seen.{data_of, is_whole}
use Rattle.sql_tool_document.proofs.Seen.{of-json, whole-read, whole-floats}
use Rattle.sql_tool_document.specs.Documents.{value_in, without_floats}

pub value_from_read : (bytes : List ℕ) (d : Data) → IsUtf8 bytes → read bytes ≡ Some d → value_in bytes ≡ without_floats d
unfolding value_in
value_from_read bytes d text is = rw (is_utf8-from_IsUtf8 bytes text, is) refl

refused_at : (bytes : List ℕ) (b : Bool) → is_utf8 bytes ≡ b → (IsUtf8 bytes → read bytes ≡ None)
    → value_in bytes ≡ None
unfolding value_in
refused_at bytes true is none = rw (is, none (IsUtf8-from_is_utf8 bytes is)) refl
refused_at bytes false is none = rw is refl

pub no_value : (bytes : List ℕ) → (IsUtf8 bytes → read bytes ≡ None) → value_in bytes ≡ None
no_value bytes none = refused_at bytes (is_utf8 bytes) refl none

-- ## A tree with borrowed texts

pub whole-value : (bytes : List ℕ) (j : json.Json) → IsUtf8 bytes → read bytes ≡ of_json j → is_whole j ≡ true
    → value_in bytes ≡ Some (data_of j)
whole-value bytes j text is whole =
    let none : without_floats (data_of j) ≡ Some (data_of j) = rw (whole-floats j whole) refl in
    value_from_read bytes (data_of j) text (is ∙ whole-read j whole) ∙ none

abbrev pub there : Option Data → Option (Unit {0})
there o = option_map (λ d. tt) o

pub float-none : (bytes : List ℕ) (d : Data) → IsUtf8 bytes → read bytes ≡ Some d → has_float d ≡ true
    → there (value_in bytes) ≡ None
float-none bytes d text is float = ap there (value_from_read bytes d text is) ∙ rw float refl

pub float-some : (bytes : List ℕ) (d : Data) → IsUtf8 bytes → read bytes ≡ Some d → has_float d ≡ false
    → there (value_in bytes) ≡ Some tt
float-some bytes d text is whole = ap there (value_from_read bytes d text is) ∙ rw whole refl

without : (d : Data) (b : Bool) → has_float d ≡ b → there (without_floats d) ≡ Some tt → without_floats d ≡ Some d
without d true is some =
    let none : without_floats d ≡ None = rw is refl in
    let e : None ≡ Some (tt {0}) = sym (ap there none) ∙ some in absurd (cc)
without d false is some = rw is refl

read-value : (bytes : List ℕ) (j : json.Json) (o : Option Data) → IsUtf8 bytes → read bytes ≡ o → read bytes ≡ of_json j
    → there (value_in bytes) ≡ Some tt → value_in bytes ≡ Some (data_of j)
read-value bytes j None text is same some =
    let e : None ≡ Some (tt {0}) = sym (ap there (no_value bytes (λ t. is))) ∙ some in absurd (cc)
read-value bytes j (Some d) text is same some =
    let value = value_from_read bytes d text is in
    value ∙ without d (has_float d) refl (sym (ap there value) ∙ some) ∙ ap Some (of-json j d (sym same ∙ is))

pub tree-value : (bytes : List ℕ) (j : json.Json) → IsUtf8 bytes → read bytes ≡ of_json j
    → there (value_in bytes) ≡ Some tt → value_in bytes ≡ Some (data_of j)
tree-value bytes j text same some = read-value bytes j (read bytes) text refl same some

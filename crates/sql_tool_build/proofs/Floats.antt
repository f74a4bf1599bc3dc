-- No number of a line is a float.
use Rattle.std.proofs.Common.{◌≡◌, ℕ, List, [], ◌∷◌, map, Bool, false, Option, Some, None, refl}
use Rattle.std.specs.Prelude.{ℤ, pos, negsuc}
use Rattle.serde_json.specs.View.{items_of}
use Rattle.serde_json.specs.Data.{number}
use Rattle.serde_json.specs.Find.{of_integer}
use Rattle.serde_json.specs.Written.{has_float, items_have_float}
use Rattle.sql_schema.specs.declared.types.SqlType.{SqlType}
use Rattle.sql_pass.specs.declared.value.Bound.{Bound}
use Rattle.sql_pass.specs.declared.value.Bound.TheVariants as B
use Rattle.sql_pass.specs.declared.value.Value.{Value}
use Rattle.sql_pass.specs.declared.value.Value.TheVariants as V
use Rattle.sql_tool_build.specs.Objects.{value_data, type_data, bound_data, id_data, statement_data}

float-number : (z : ℤ) → has_float (number (of_integer z)) ≡ false
float-number (pos n) = refl
float-number (negsuc n) = refl

float-value : (v : Value) → has_float (value_data v) ≡ false
float-value (V.SmallInt z) = float-number z
float-value (V.Integer z) = float-number z
float-value (V.BigInt z) = float-number z
float-value (V.Text s) = refl
float-value (V.Binary b) = refl
float-value (V.Bool b) = refl
float-value V.Null = refl

float-values : (vs : List Value) → items_have_float (items_of (map value_data vs)) ≡ false
float-values [] = refl
float-values (v ∷ vs) = rw (float-value v) (float-values vs)

float-bound : (b : Bound) → has_float (bound_data b) ≡ false
float-bound (B.Value t v) = rw (float-value v) refl
float-bound (B.List t vs) = rw (float-values vs) refl

float-bounds : (bs : List Bound) → items_have_float (items_of (map bound_data bs)) ≡ false
float-bounds [] = refl
float-bounds (b ∷ bs) = rw (float-bound b) (float-bounds bs)

float-types : (ts : List SqlType) → items_have_float (items_of (map type_data ts)) ≡ false
float-types [] = refl
float-types (t ∷ ts) = float-types ts

float-id : (o : Option ℕ) → has_float (id_data o) ≡ false
float-id None = refl
float-id (Some n) = refl

pub float-statement : (bs : List Bound) (ts : List SqlType) (o : Option ℕ) (safe : Bool) (text : List ℕ)
    → has_float (statement_data bs ts o safe text) ≡ false
float-statement bs ts o safe text = rw (float-bounds bs, float-types ts, float-id o) refl

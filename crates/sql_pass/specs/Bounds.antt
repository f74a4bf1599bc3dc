-- The value that a borrowed one stands for, the type of a bind, and Rust's values as bound values.
use Rattle.std.specs.Prelude.{ℕ, ℤ, Bool, false, List}
use Rattle.sql_schema.specs.declared.types.Base.{Base}
use Rattle.sql_schema.specs.declared.types.Base.TheVariants as T
use Rattle.sql_pass.specs.declared.collect.BindType.{BindType}
use Rattle.sql_pass.specs.declared.collect.BindType.TheVariants as K
use Rattle.sql_pass.specs.declared.value.Bound.{Bound}
use Rattle.sql_pass.specs.declared.value.Bound.TheVariants as B
use Rattle.sql_pass.specs.declared.value.BoundRef.{BoundRef}
use Rattle.sql_pass.specs.declared.value.BoundRef.TheVariants as R
use Rattle.sql_pass.specs.declared.value.Value.{Value}
use Rattle.sql_pass.specs.declared.value.Value.TheVariants as V

abbrev pub bound_of : BoundRef → Bound
bound_of (R.Value t v) = B.Value t v.now
bound_of (R.List t vs) = B.List t vs.now

-- the type of a bind
abbrev pub type_of : Bound → BindType
type_of (B.Value t v) = K.Value t
type_of (B.List t vs) = K.List t

-- a value under the type of that base which has no NULL
abbrev pub plain_value : Base → Value → Bound
plain_value base v = B.Value (record { base = base; nullable = false }) v

abbrev pub of_i16 : ℤ → Bound
of_i16 n = plain_value T.SmallInt (V.SmallInt n)

abbrev pub of_i32 : ℤ → Bound
of_i32 n = plain_value T.Integer (V.Integer n)

abbrev pub of_i64 : ℤ → Bound
of_i64 n = plain_value T.BigInt (V.BigInt n)

abbrev pub of_bool : Bool → Bound
of_bool b = plain_value T.Bool (V.Bool b)

abbrev pub of_text : List ℕ → Bound
of_text t = plain_value T.Text (V.Text t)

abbrev pub of_bytes : List ℕ → Bound
of_bytes b = plain_value T.Binary (V.Binary b)

-- The line that shows a query: its text, ` -- binds: `, and its values in Rust's debug form of a list (std, `Debug`).
use Rattle.std.specs.Prelude.{ℕ, List, Option, Some, codes, decimal, if◌then◌else◌}
use Rattle.std.specs.Fmt.{◌++?◌, signed_decimal, debug_str, debug_list}
use Rattle.sql_pass.specs.declared.value.Value.{Value}
use Rattle.sql_pass.specs.declared.value.Value.TheVariants as V
use Rattle.sql_pass.specs.declared.value.Bound.{Bound}
use Rattle.sql_pass.specs.declared.value.Bound.TheVariants as B

-- None where it is a text past ASCII, of whose escapes nothing is said
abbrev pub value_debug : Value → Option (List ℕ)
value_debug (V.SmallInt z) = Some (signed_decimal z)
value_debug (V.Integer z) = Some (signed_decimal z)
value_debug (V.BigInt z) = Some (signed_decimal z)
value_debug (V.Text s) = debug_str s
value_debug (V.Binary b) = debug_list (λ n. Some (decimal n)) b
value_debug (V.Bool b) = Some (if b then codes "true" else codes "false")
value_debug V.Null = Some (codes "None")

-- the value, or the values of a list, without the type
abbrev pub bound_debug : Bound → Option (List ℕ)
bound_debug (B.Value t v) = value_debug v
bound_debug (B.List t vs) = debug_list value_debug vs

abbrev pub debug_line : List ℕ → List Bound → Option (List ℕ)
debug_line text binds = Some text ++? Some (codes " -- binds: ") ++? debug_list bound_debug binds

-- The same line of what is held for it.
use Rattle.std.specs.Prelude.{ℕ, List, Option, Some, codes, string_bytes}
use Rattle.std.specs.Fmt.{◌++?◌, debug_list}
use Rattle.sql_pass.specs.declared.value.Value.{Value}
use Rattle.sql_raw.specs.Debug.{value_debug}
use Rattle.sql_raw.specs.declared.debug.DebugQuery.{DebugQuery}
use Rattle.sql_raw.specs.declared.shown.ShownBound.{ShownBound}
use Rattle.sql_raw.specs.declared.shown.ShownBound.TheVariants as S
use Rattle.sql_raw.specs.declared.shown.ShownValue.{ShownValue}

abbrev pub shown_value : ShownValue → Value
shown_value v = v.0

abbrev pub shown_debug : ShownBound → Option (List ℕ)
shown_debug (S.Value v) = value_debug (shown_value v)
shown_debug (S.List vs) = debug_list (λ v. value_debug (shown_value v)) vs.items

-- the text that is held
abbrev pub shown_text : DebugQuery → List ℕ
shown_text q = string_bytes q.sql

-- the line that is written
abbrev pub shown_line : DebugQuery → Option (List ℕ)
shown_line q = Some (shown_text q) ++? Some (codes " -- binds: ") ++? debug_list shown_debug q.binds.items

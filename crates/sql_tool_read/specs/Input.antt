-- The text that an input holds.
use Rattle.std.specs.Prelude.{ℕ, ◌-◌, List, length, take, Option, Some, None, ◌==◌, slice_index, if◌then◌else◌}
use Rattle.std.specs.Str.{is_utf8}

-- the bytes without one newline at their end
unfoldable pub without_newline : List ℕ → List ℕ
without_newline bytes = if slice_index bytes (length bytes - 1) == 10 then take (length bytes - 1) bytes else bytes

-- those bytes, where they are UTF-8
unfoldable pub input_text : List ℕ → Option (List ℕ)
input_text bytes = if is_utf8 (without_newline bytes) then Some (without_newline bytes) else None

use Rattle.std.proofs.Common.{◌≡◌, ◌++◌, false, take}
use Rattle.std.specs.List.{flat_map, list_any}
use Rattle.sql_pass.specs.Bytes.{element, is_long_element}
use Rattle.sql_pass.proofs.bytes.push_elements.Given as goal

abbrev pub invariant-loop-value : goal.invariant-loop-value
invariant-loop-value l =
    (l.out.items ≡ l.initial.out.items ++ flat_map element (take l.value-index l.values))
    × (list_any is_long_element (take l.value-index l.values) ≡ false)

use Rattle.std.proofs.Common.{◌≡◌, map, take, option_map}
use Rattle.json.specs.Value.{value_view}
use Rattle.sql_tool_document.specs.inside.Filled.{filled_json}
use Rattle.sql_tool_document.proofs.Filling.{entry_filled, entry_view}
use Rattle.sql_tool_document.proofs.place.+fill.Given as goal

-- the items so far are filled
abbrev pub invariant-fill_items-loop-item : goal.invariant-fill_items-loop-item
invariant-fill_items-loop-item l =
    map value_view l.all.items
    ≡ map (λ v. filled_json (option_map (λ w. value_view w.now) l.values) (value_view v)) (take l.item-index l.item-items)

-- the members so far are filled
abbrev pub invariant-fill_members-loop-key : goal.invariant-fill_members-loop-key
invariant-fill_members-loop-key l =
    map entry_view l.all.items
    ≡ map (entry_filled (option_map (λ w. value_view w.now) l.values)) (take l.key-index l.key-items)

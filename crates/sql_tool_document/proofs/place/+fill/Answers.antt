use Rattle.std.proofs.Common.{◌≡◌, ◌∙◌, map, option_map, ap}
use Rattle.std.proofs.lemmas.List.{take_all}
use Rattle.json.specs.Value.{items_view, members_view, value_view}
use Rattle.sql_tool_document.proofs.Filling.{entry_filled, entry_view, items_done, members_done}
use Rattle.sql_tool_document.specs.inside.Filled.{filled_json, items_filled, members_filled}
use Rattle.sql_tool_document.proofs.place.+fill.Goals as goal

pub fill_items-returns : goal.fill_items-returns
fill_items-returns n c =
    let values = option_map (λ w. value_view w.now) c.args.values in
    let xs = c.deref-item-items.result.now in
    let made = c.loop-item.all.items in
    items_done values made xs
    (c.loop-item.invariant
    ∙ ap (map (λ v. filled_json values (value_view v))) (take_all c.loop-item.item-index xs c.loop-item-test.false))
    ∙ ap (λ ys. items_filled values (items_view ys)) c.deref-item-items.ensures.value

pub fill_members-returns : goal.fill_members-returns
fill_members-returns n c =
    let values = option_map (λ w. value_view w.now) c.args.values in
    let xs = c.deref-key-items.result.now in
    let made = c.loop-key.all.items in
    members_done values made xs
    (c.loop-key.invariant ∙ ap (map (entry_filled values)) (take_all c.loop-key.key-index xs c.loop-key-test.false))
    ∙ ap (λ ys. members_filled values (members_view ys)) c.deref-key-items.ensures.value

use Rattle.std.proofs.Common.{option_map, sym, ap, ◌∙◌}
use Rattle.json.specs.Value.{value_view}
use Rattle.sql_tool_document.specs.inside.Seen.{data_of}
use Rattle.sql_tool_document.proofs.Seen.{get-seen, seen-some}
use Rattle.sql_tool_document.proofs.look.get.Goals as goal

pub returns : goal.returns
returns c =
    seen-some c.get.result ∙ ap (option_map data_of) c.get.ensures
    ∙ sym (get-seen c.args.name.now (value_view c.args.value.now))

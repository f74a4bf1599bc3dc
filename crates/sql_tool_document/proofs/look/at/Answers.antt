use Rattle.std.proofs.Common.{option_map, sym, ap, ◌∙◌}
use Rattle.json.specs.Value.{value_view}
use Rattle.sql_tool_document.specs.inside.Seen.{data_of}
use Rattle.sql_tool_document.proofs.Seen.{at-seen, seen-some}
use Rattle.sql_tool_document.proofs.look.at.Goals as goal

pub returns : goal.returns
returns c =
    seen-some c.at.result ∙ ap (option_map data_of) c.at.ensures
    ∙ sym (at-seen c.args.place (value_view c.args.value.now))

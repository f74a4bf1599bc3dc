use Rattle.std.proofs.Common.{rules, Some, codes, option_and_then, option_map, ap, subst, sym}
use Rattle.serde_json.specs.Find as find
use Rattle.serde_json.specs.View.{view}
use Rattle.sql_tool_document.specs.Giving.{Gives}
use Rattle.sql_tool_document.specs.Trees.{template_tree}
use Rattle.sql_tool_document.proofs.Bytes.{no_value, value_from_read}
use Rattle.sql_tool_document.proofs.session.template_of.Goals as goal

pub returns-in-Ok : goal.returns-in-Ok
returns-in-Ok c =
    subst
    (λ o. Gives template_tree c.template_in.result (option_map Some (option_and_then (find.get (codes "tenant")) o)))
    (sym (value_from_read c.args.bytes.now (view c.in-Ok.value) c.in-Ok.ensures.ok.0 c.in-Ok.ensures.ok.1))
    c.template_in.ensures

pub returns-in-Err-2 : goal.returns-in-Err-2
returns-in-Err-2 c =
    ap (λ o. option_map Some (option_and_then (find.get (codes "tenant")) o))
    (no_value c.args.bytes.now (c.in-Err-2.ensures.err (λ memory. search rules)))

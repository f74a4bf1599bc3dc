use Rattle.std.proofs.Common.{◌≡◌, ◌∙◌, ◌<◌, suc, Some, codes, option_map, ap, arith, sym}
use Rattle.serde_json.specs.Data.{depth}
use Rattle.serde_json.specs.Find as find
use Rattle.serde_json.specs.Read.{max_depth}
use Rattle.serde_json.specs.View.{view}
use Rattle.sql_tool_document.proofs.Keeping.{float_refused, no_part, part_kept}
use Rattle.sql_tool_document.proofs.Nesting.{get-depth}
use Rattle.sql_tool_document.proofs.session.template_in.Goals as goal

pub returns-then-has_float : goal.returns-then-has_float
returns-then-has_float c = float_refused (codes "tenant") (view c.args.value.now) (sym c.if-has_float.ensures)

pub returns-in_default : goal.returns-in_default
returns-in_default c = no_part (codes "tenant") (view c.args.value.now) (sym (ap (option_map (λ v. view v.now)) (sym c.in_default.is) ∙ c.get.ensures))

pub returns : goal.returns
returns c =
    let e = view c.args.value.now in
    let d = view c.in-Some.policies.now in
    let found : find.get (codes "tenant") e ≡ Some d =
    sym (ap (option_map (λ v. view v.now)) (sym c.in-Some.is) ∙ c.get.ensures) in
    let below : depth e < suc max_depth = omega (arith, c.requires) in
    let within : depth d < max_depth = get-depth (codes "tenant") e max_depth below d found in
    part_kept c.in_ok-text.text.items (codes "tenant") e d (sym c.if-has_float.ensures) found c.in_ok-text.ensures.utf8
    (c.in_ok-text.ensures.reads_back (omega (arith, within)))

use Rattle.std.proofs.Common.{rules, ◌≡◌, ◌∙◌, ap, string_bytes}
use Rattle.std.specs.Prelude.{codes, Some}
use Rattle.std.specs.Fmt.{◌++?◌, debug_list}
use Rattle.sql_pass.specs.Pieces.{text_of, values_of}
use Rattle.sql_raw.specs.Debug.{bound_debug}
use Rattle.sql_raw.specs.Shown.{shown_debug}
use Rattle.sql_raw.proofs.Lists.{shown-alike}
use Rattle.sql_raw.proofs.debug.debug_query.Goals as goal

pub returns-in-Ok-clause-line : goal.returns-in-Ok-clause-line
returns-in-Ok-clause-line g c =
    let pieces = g.T.QueryFragment.pieces c.args.query.now in
    let text : string_bytes c.finish-sql.result ≡ text_of g.DB.Backend.speaks 0 pieces = search rules in
    let binds = shown-alike shown_debug bound_debug c.in-Ok.binds.items (values_of pieces) c.in-Ok.ensures in
    λ i. Some (text i) ++? Some (codes " -- binds: ") ++? binds i

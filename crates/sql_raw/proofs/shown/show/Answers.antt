use Rattle.std.proofs.Common.{◌≡◌, ◌∙◌, ap, sym}
use Rattle.std.specs.Fmt.{debug_list}
use Rattle.sql_raw.specs.Debug.{value_debug, bound_debug}
use Rattle.sql_raw.specs.Shown.{shown_value}
use Rattle.sql_raw.proofs.Lists.{shown-list}
use Rattle.sql_raw.proofs.shown.show.Goals as goal

pub returns-in_ok-all-in-List : goal.returns-in_ok-all-in-List
returns-in_ok-all-in-List c =
    let whole : debug_list value_debug c.in-List.values ≡ bound_debug c.args.bound = cc in
    shown-list value_debug shown_value c.in_ok-all-in-List.all.items
    ∙ ap (debug_list value_debug) (c.in_ok-all-in-List.ensures ∙ c.into_inner.ensures) ∙ whole

use Rattle.std.proofs.Common.{◌≡◌, subst}
use Rattle.std.specs.Fmt.{DisplaysOnOk, debug_list}
use Rattle.sql_raw.specs.Debug.{value_debug}
use Rattle.sql_raw.specs.Shown.{shown_debug, shown_value}
use Rattle.sql_raw.proofs.shown.ShownBoundDebug.fmt.Goals as goal

pub returns-in-List : goal.returns-in-List
returns-in-List g c =
    let is : debug_list (λ v. value_debug (shown_value v)) c.as_slice.result.now ≡ shown_debug c.args.self.now = cc in
    record {
      writes =
          subst (λ o. DisplaysOnOk g.W.Write.write_str_gives c.args.f.now c.fmt-in-List.result o c.fmt-in-List.new.f) is
          c.fmt-in-List.ensures.writes;
    }

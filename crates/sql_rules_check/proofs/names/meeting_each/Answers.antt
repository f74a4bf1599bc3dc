use Rattle.std.proofs.Common.{map}
use Rattle.std.specs.Bool.{one_answer}
use Rattle.sql_origin.specs.Borrowed.{origin_of}
use Rattle.sql_rules_check.specs.inside.Sites.{is_ambiguous, is_apart, is_clashing}
use Rattle.sql_rules_check.proofs.LeafPairs.{ambiguous-decides, apart-any, clash-any}
use Rattle.sql_rules_check.proofs.names.meeting_each.Goals as goal

pub returns : goal.returns
returns c =
    let v = map origin_of c.args.leaves.now in
    let s = c.args.schema.now in record {
      ambiguous = one_answer _ (is_ambiguous v) c.in_ok-ambiguous.ensures (ambiguous-decides v);
      apart = one_answer _ (is_apart s v) c.in_ok-apart.ensures (apart-any s v);
      clashing = one_answer _ (is_clashing v) c.in_ok-clashing.ensures (clash-any v);
    }

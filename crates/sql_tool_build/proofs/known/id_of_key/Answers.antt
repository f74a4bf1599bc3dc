use Rattle.std.proofs.Common.{◌≡◌, ◌∙◌, Some, None, rules}
use Rattle.sql_tool_build.specs.inside.Keys.{seen_at}
use Rattle.sql_tool_build.proofs.Keys.{blind, kept-seen, kept-new}
use Rattle.sql_tool_build.proofs.known.id_of_key.Goals as goal

pub returns-in-Some-clause-kept : goal.returns-in-Some-clause-kept
returns-in-Some-clause-kept c =
    let f = seen_at c.args.seen.now in
    let h : f c.args.key ≡ Some c.in-Some.first = search rules in
    kept-seen f (blind c.args.seen.now) c.args.key c.in-Some.first c.args.number h

pub returns-in_ok-insert-in-None-clause-kept : goal.returns-in_ok-insert-in-None-clause-kept
returns-in_ok-insert-in-None-clause-kept c =
    let f = seen_at c.args.seen.now in
    let h : f c.args.key ≡ None = search rules in
    λ q. c.in_ok-insert-in-None.ensures.updates.0 q ∙ kept-new f (blind c.args.seen.now) c.args.key c.args.number h q

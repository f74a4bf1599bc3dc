use Rattle.std.proofs.Common.{ap, sym, ◌∙◌, arith}
use Rattle.sql_origin.specs.Borrowed.{origin_of}
use Rattle.sql_origin.specs.Origins.{same_origin}
use Rattle.sql_rules_check.specs.inside.Ends.{leaves_clash, tables_part}
use Rattle.sql_rules_check.proofs.OneLeaf.{pair-alone}
use Rattle.sql_rules_check.proofs.names.meeting.Goals as goal

pub returns-in-len1-clause-ambiguous : goal.returns-in-len1-clause-ambiguous
returns-in-len1-clause-ambiguous c =
    ap (λ p. p.ambiguous) c.no_pair-in-len1.ensures
    ∙ sym (pair-alone origin_of same_origin c.args.leaves.now (omega arith))

pub returns-in-len1-clause-apart : goal.returns-in-len1-clause-apart
returns-in-len1-clause-apart c =
    let s = c.args.schema.now in
    ap (λ p. p.apart) c.no_pair-in-len1.ensures
    ∙ sym (pair-alone origin_of (λ a b. tables_part s a.table b.table) c.args.leaves.now (omega arith))

pub returns-in-len1-clause-clashing : goal.returns-in-len1-clause-clashing
returns-in-len1-clause-clashing c =
    ap (λ p. p.clashing) c.no_pair-in-len1.ensures
    ∙ sym (pair-alone origin_of leaves_clash c.args.leaves.now (omega arith))

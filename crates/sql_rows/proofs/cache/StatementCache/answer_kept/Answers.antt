use Rattle.std.proofs.Common.{◌≡◌, List, [], None, Some, subst}
use Rattle.std.specs.List.{slice_get}
use Rattle.std.proofs.lemmas.Result.{IfErr-weaker, IfOk-weaker}
use Rattle.sql_node.specs.View.{statement_tree}
use Rattle.sql_check.specs.Errors.{rule_of}
use Rattle.sql_rows.specs.declared.cache.RequestKey.{RequestKey}
use Rattle.sql_rows.proofs.cache.StatementCache.answer_kept.Goals as goal

pub recall-requires : goal.recall-requires
recall-requires g c = λ e.
    let h : slice_get [] 0 ≡ Some c.args.pair =
    subst (λ (ks : List RequestKey). slice_get ks 0 ≡ Some c.args.pair) e c.requires.first in
    absurd (cc)

pub returns : goal.returns
returns g c =
    let told = c.in_ok-kept.ensures c.args.pair c.requires.first g.DB.Backend.speaks
    (statement_tree c.args.statement.now) c.requires.looked_up in
    let schema = c.args.self.now.schema in
    record {
      compiles = record {
        built = IfOk-weaker c.tell.result _ _ (λ b gives. gives schema told) c.tell.ensures.built;
        read = IfOk-weaker c.tell.result _ _ (λ b gives. gives schema told) c.tell.ensures.read;
        refused =
            IfErr-weaker c.tell.result _ _
            (λ e is r of. let h : None ≡ Some r = subst (λ x. rule_of x ≡ Some r) is of in absurd (cc))
            c.tell.ensures.refused;
      };
      sound = IfOk-weaker c.tell.result _ _ (λ b gives. gives schema told) c.tell.ensures.sound;
    }

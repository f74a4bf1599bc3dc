use Rattle.std.proofs.Common.{◌∙◌, map, take, ap, rules, tests}
use Rattle.std.proofs.lemmas.Iterator.{YieldsList-from_slice}
use Rattle.std.proofs.lemmas.Iterator.Consumers.{count_from_yields_List}
use Rattle.std.proofs.lemmas.Iterator.Search.{YieldsList-from_take_while}
use Rattle.std.proofs.lemmas.List.Folds.{length-prefix_len}
use Rattle.sql_tool_document.specs.Trees.{request_tree}
use Rattle.sql_tool_session.specs.Within.{fits}
use Rattle.sql_tool_session.proofs.TooDeep.{take_while-map}
use Rattle.sql_tool_session.proofs.within.before_too_deep.Goals as goal

pub returns : goal.returns
returns c =
    let all = c.args.requests.now in
    let counted =
    count_from_yields_List c.take_while.result c.count-count.result c.count-count.ensures.ran
    (YieldsList-from_take_while _ (λ r. fits (request_tree r)) (YieldsList-from_slice all cc) c.take_while.ensures.closure
    c.take_while.ensures.done (λ x b q k. search (rules, tests)))
    ∙ length-prefix_len (λ r. fits (request_tree r)) all in
    ap (λ n. map request_tree (take n all)) counted ∙ take_while-map request_tree fits all

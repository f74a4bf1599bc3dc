use Rattle.sql_tool_ids.specs.declared.seen.TheConstants.{MAX_SHAPES}
use Rattle.sql_tool_session.proofs.Answered.{lines_one_id, lines_output}
use Rattle.sql_tool_talk.proofs.Talks.{conversed-so, cut, one-list, one-text, told-nothing}
use Rattle.sql_tool_talk.proofs.conversation.talk.Goals as goal

pub converse-requires : goal.converse-requires
converse-requires g c = told-nothing c.new.result.responder c.new.ensures

pub returns-clause-conversed : goal.returns-clause-conversed
returns-clause-conversed g c =
    let (es, adds, went) = c.converse.ensures.conversed in (
      es,
      adds,
      conversed-so _ _ es _ (λ lines text told. (told.1.0, told.1.1)) (λ lines text told. (told.0, told.1)) went,
    )

pub returns-clause-one_text : goal.returns-clause-one_text
returns-clause-one_text g c = one-text

pub returns-clause-one_list : goal.returns-clause-one_list
returns-clause-one_list g c = one-list

pub returns-clause-cut : goal.returns-clause-cut
returns-clause-cut g c = cut

pub returns-clause-one_id : goal.returns-clause-one_id
returns-clause-one_id g c = lines_one_id MAX_SHAPES

pub returns-clause-one_document : goal.returns-clause-one_document
returns-clause-one_document g c = lines_output MAX_SHAPES

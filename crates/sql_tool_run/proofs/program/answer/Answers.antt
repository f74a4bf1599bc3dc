use Rattle.sql_tool_run.proofs.program.answer.Goals as goal

pub returns-in-Generate-clause-response : goal.returns-in-Generate-clause-response
returns-in-Generate-clause-response g c = rw c.in-Generate.is (c.write_summary.ensures.response c.args.bytes.now)

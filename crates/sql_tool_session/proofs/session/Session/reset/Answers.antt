use Rattle.std.proofs.Common.{refl, arith}
use Rattle.sql_tool_session.proofs.Answered.{first_written}
use Rattle.sql_tool_session.specs.Session.{capacity_of}
use Rattle.sql_tool_session.proofs.session.Session.reset.Goals as goal

pub returns-clause-anew : goal.returns-clause-anew
returns-clause-anew c = λ schema asked text has.
    record {
      schema = has.schema;
      count = refl;
      written = first_written (capacity_of c.args.self.now) schema c.keep_within.new.seen
          (c.keep_within.ensures.full (omega arith)) c.keep_within.ensures.sorted;
    }

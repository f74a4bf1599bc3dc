use Rattle.std.proofs.Common.{ap, refl}
use Rattle.sql_rows.specs.Entries.{Entries}
use Rattle.sql_tool_session.proofs.Answered.{first_written}
use Rattle.sql_tool_session.proofs.session.Session.new.Goals as goal

pub returns : goal.returns
returns c = (
  record {
    schema = ap (λ (e : Entries). e.schema) c.in_ok-new.ensures;
    count = refl;
    written = first_written c.args.terms.capacity.shapes c.args.schema c.new-3.result c.new-3.ensures.empty c.new-3.ensures.ordered;
  },
  refl,
)

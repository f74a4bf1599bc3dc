use Rattle.sql_select.proofs.ClauseLaws.{or-filter}
use Rattle.sql_select.proofs.laws.or_filter_is_filter_with_or.Goals as goal

pub returns : goal.returns
returns c = or-filter

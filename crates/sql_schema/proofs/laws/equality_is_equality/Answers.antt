use Rattle.sql_schema.proofs.EqualityLaws.{equal-bases, equal-types, equal-columns, equal-tables}
use Rattle.sql_schema.proofs.laws.equality_is_equality.Goals as goal

pub returns : goal.returns
returns c = record { bases = equal-bases; types = equal-types; columns = equal-columns; tables = equal-tables }

use Rattle.sql_dialect.proofs.Injective.{quoted-injective}
use Rattle.sql_dialect.proofs.laws.quoted_names_differ.Goals as goal

pub returns : goal.returns
returns c = quoted-injective

use Rattle.sql_source.proofs.FieldLaws.{own-field, other-column, other-field}
use Rattle.sql_source.proofs.laws.fields_of_the_table_alone.Goals as goal

pub returns : goal.returns
returns c = record { own = own-field; others = other-column; fields = other-field }

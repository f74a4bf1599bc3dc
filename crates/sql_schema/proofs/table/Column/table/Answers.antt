use Rattle.std.proofs.Common.{subst}
use Rattle.std.specs.Prelude.{Contains}
use Rattle.std.proofs.lemmas.List.Elements.{Contains-get_or}
use Rattle.sql_schema.specs.inside.ColumnAt.{no_column}
use Rattle.sql_schema.proofs.table.Column.table.Goals as goal

pub returns-clause-own : goal.returns-clause-own
returns-clause-own c =
    subst (λ v. Contains v.table.columns v.decl) c.self.view_is
    (Contains-get_or c.self.inside.table.columns c.self.inside.index no_column c.self.invariant)

use Rattle.std.proofs.Common.{is_some, ap, ◌∙◌}
use Rattle.std.specs.Str.{bytes_eq}
use Rattle.sql_schema.specs.Refusals.{has_table}
use Rattle.sql_schema.proofs.Indices.{some-found, some-mapped}
use Rattle.sql_schema.proofs.refusal.has_table.Goals as goal

pub returns : goal.returns
returns c =
    let ts = c.args.tables.now in
    c.is_some.ensures ∙ some-mapped (λ t. t.now) c.find.result ∙ ap is_some c.find.ensures
    ∙ some-found (λ t. bytes_eq t.name c.as_str.result.now) ts ∙ ap (λ q. has_table ts q) c.as_str.ensures

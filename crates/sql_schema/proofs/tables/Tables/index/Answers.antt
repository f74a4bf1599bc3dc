use Rattle.std.proofs.Common.{ap, ◌∙◌}
use Rattle.std.specs.BTreeMap.{get_by_text}
use Rattle.sql_schema.specs.inside.Pairs.{table_index}
use Rattle.sql_schema.proofs.Indices.{table-index}
use Rattle.sql_schema.proofs.tables.Tables.index.Goals as goal

pub returns : goal.returns
returns c =
    let q = c.args.name.now in
    c.index_of.ensures
    ∙ table-index c.self.inside.items.items (get_by_text c.self.inside.names) c.self.invariant.0 c.self.invariant.1 q
    ∙ ap (λ ts. table_index ts q) c.self.view_is

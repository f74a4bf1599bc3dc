use Rattle.std.proofs.Common.{ap, ◌∙◌}
use Rattle.sql_read_tree.specs.View.{query_tree}
use Rattle.sql_audit_resolution.specs.inside.After.{Known}
use Rattle.sql_audit_resolution.proofs.Joined.{first_tables, first_meanings}
use Rattle.sql_audit_resolution.proofs.resolving.resolve.Goals as goal

pub returns-clause-tables : goal.returns-clause-tables
returns-clause-tables c =
    c.into_parts-tables.ensures.0 ∙ ap (λ (k : Known). k.tables) c.in_ok-walk_query.ensures
    ∙ first_tables c.args.schema.now.tables c.new-known.result (query_tree c.args.query.now) c.new-known.ensures

pub returns-clause-meanings : goal.returns-clause-meanings
returns-clause-meanings c =
    c.into_parts-tables.ensures.1 ∙ ap (λ (k : Known). k.meanings) c.in_ok-walk_query.ensures
    ∙ first_meanings c.args.schema.now.tables c.new-known.result (query_tree c.args.query.now) c.new-known.ensures

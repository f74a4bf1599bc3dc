use Rattle.std.proofs.Common.{option_map, sym, ap, ◌∙◌}
use Rattle.hardieflax.specs.Dialect.TheVariants.{Pg}
use Rattle.hardieflax.specs.SyntaxViews.{query_tree}
use Rattle.hardieflax.specs.View.{statement_tree}
use Rattle.hardieflax_tests.proofs.compiled.compiled_query.Goals as goal

-- the statement is the query's, so its names are the schema's
pub compile_by-requires : goal.compile_by-requires
compile_by-requires c = λ known.
    let q = query_tree c.args.query.now in
    let is = ap (option_map statement_tree) (sym c.in-Some.is) ∙ c.in_ok-statement.ensures in
    c.built_statements_know_their_names.ensures c.args.schema.now Pg Pg q (statement_tree c.in-Some.statement) (sym is)

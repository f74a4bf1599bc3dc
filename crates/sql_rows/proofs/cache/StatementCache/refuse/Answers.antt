use Rattle.sql_node.specs.View.{statement_tree}
use Rattle.sql_rows.proofs.Next.{unknown-next}
use Rattle.sql_rows.proofs.cache.StatementCache.refuse.Goals as goal

pub returns-clause-compiled : goal.returns-clause-compiled
returns-clause-compiled g c = c.compile_alone.ensures (statement_tree c.args.asked.statement.now) c.requires.flat

pub returns-clause-entries : goal.returns-clause-entries
returns-clause-entries g c =
    let s = statement_tree c.args.asked.statement.now in
    unknown-next g.DB.Backend.speaks s c.args.self.now c.compile_alone.result c.keeps_known_names.ensures
    c.requires.unknown (c.compile_alone.ensures s c.requires.flat).compiles.built

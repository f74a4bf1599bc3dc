use Rattle.std.proofs.Common.{◌∙◌, subst, sym}
use Rattle.sql_node.specs.View.{statement_tree}
use Rattle.sql_flat.proofs.Unflattening.{one-statement}
use Rattle.sql_rules.specs.Rules.{Broken}
use Rattle.sql_rules.specs.declared.rule.Rule.TheVariants.{UnknownName}
use Rattle.sql_check.proofs.built.compile_by.Goals as goal

pub compile_flat_by-requires : goal.compile_flat_by-requires
compile_flat_by-requires g c = λ known s is.
    subst (λ q. ¬ Broken UnknownName c.args.schema.now g.DB.Backend.speaks q)
    (one-statement (statement_tree c.args.statement.now) s (sym c.in_ok-flat.ensures ∙ is)) (c.requires known)

pub returns : goal.returns
returns g c = c.compile_flat_by.ensures (statement_tree c.args.statement.now) c.in_ok-flat.ensures

use Rattle.std.proofs.Common.{ap, ◌∙◌}
use Rattle.std.specs.List.{list_any}
use Rattle.sql_schema.specs.Declarations.{Declarations}
use Rattle.sql_schema.specs.Relations.{are_named}
use Rattle.sql_schema.proofs.PairLaws.{pair-found}
use Rattle.sql_schema.proofs.schema.SchemaTableNotEqual.allowed_together.Goals as goal

pub returns : goal.returns
returns c =
    let s : Declarations = record {
      tables = c.self.inside.tables;
      joinables = c.self.inside.joinables.items;
      together = c.self.inside.together.items;
    } in
    let a = c.name.result.now in
    let b = c.name-2.result.now in
    let t = c.args.self.now.together in
    c.is_some.ensures
    ∙ pair-found s c.self.invariant.0 c.self.inside.allowed a b c.index_of_pair.result c.index_of_pair.ensures
    c.self.invariant.2
    ∙ ap (λ v. list_any (λ p. are_named p.0 p.1 a b) v.together) c.self.view_is
    ∙ ap (λ q. list_any (λ p. are_named p.0 p.1 q b) t) c.name.ensures
    ∙ ap (λ q. list_any (λ p. are_named p.0 p.1 c.args.a.now.name q) t) c.name-2.ensures

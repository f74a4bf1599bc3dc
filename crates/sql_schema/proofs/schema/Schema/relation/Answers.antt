use Rattle.std.proofs.Common.{◌≡◌, ◌<◌, Some, option_map, get_or, ap, sym, subst, ◌∙◌}
use Rattle.sql_schema.specs.Declarations.{Declarations}
use Rattle.sql_schema.specs.Relations.{relation_of}
use Rattle.sql_schema.proofs.PairLaws.{relation-found, relation-within, no_relation}
use Rattle.sql_schema.proofs.schema.Schema.relation.Goals as goal

pub returns-in-None : goal.returns-in-None
returns-in-None c =
    let s : Declarations = record {
      tables = c.self.inside.tables;
      joinables = c.self.inside.joinables.items;
      together = c.self.inside.together.items;
    } in
    let a = c.args.one.now in
    let b = c.args.other.now in
    ap (option_map (λ i. get_or s.joinables i no_relation)) (sym c.in-None.is)
    ∙ relation-found s c.self.invariant.0 c.self.inside.relations a b c.index_of_pair.result c.index_of_pair.ensures
    c.self.invariant.1 no_relation
    ∙ ap (λ v. relation_of v.joinables a b) c.self.view_is

pub index-requires : goal.index-requires
index-requires c =
    let s : Declarations = record {
      tables = c.self.inside.tables;
      joinables = c.self.inside.joinables.items;
      together = c.self.inside.together.items;
    } in
    let i = c.in-Some.index in
    subst (λ n. i < n) (sym c.self.inside.joinables.ok.0)
    (relation-within s c.self.invariant.0 c.self.inside.relations c.args.one.now c.args.other.now
    c.index_of_pair.result c.index_of_pair.ensures c.self.invariant.1 i c.in-Some.is)

pub returns-in-Some : goal.returns-in-Some
returns-in-Some c =
    let s : Declarations = record {
      tables = c.self.inside.tables;
      joinables = c.self.inside.joinables.items;
      together = c.self.inside.together.items;
    } in
    let a = c.args.one.now in
    let b = c.args.other.now in
    let r = c.index.result.now in
    let i = c.in-Some.index in
    let read : r ≡ get_or s.joinables i r = c.index.ensures in
    ap Some read ∙ ap (option_map (λ j. get_or s.joinables j r)) (sym c.in-Some.is)
    ∙ relation-found s c.self.invariant.0 c.self.inside.relations a b c.index_of_pair.result c.index_of_pair.ensures
    c.self.invariant.1 r
    ∙ ap (λ v. relation_of v.joinables a b) c.self.view_is

use Rattle.std.proofs.Common.{◌≡◌, ◌∙◌, Option, None, Some, sym, ap, subst, option_map}
use Rattle.std.specs.declared.alloc.Global.{Global}
use Rattle.std.specs.declared.boxed.Box.{Box}
use Rattle.sql_node.specs.Tree.{Statement}
use Rattle.sql_node.specs.View.{statement_tree}
use Rattle.sql_node.specs.declared.statement.Statement as declared
use Rattle.sql_flat.specs.Flat.{flat_of}
use Rattle.sql_flat.proofs.Unflattening.{root-read}
use Rattle.sql_flat_back.proofs.unflatten.unflattened.Goals as goal

abbrev in_box : Box declared.Statement Global → Statement
in_box b = statement_tree b.value

abbrev is_some : Option Statement → Type 0
is_some None = ⊥
is_some (Some s) = Unit {0}

abbrev got : Statement → Option Statement → Statement
got s None = s
got s (Some r) = r

pub unreachable-requires : goal.unreachable-requires
unreachable-requires c =
    let (s, is) = c.nodes.ensures.statement in
    subst is_some
    (sym
    (sym (ap (option_map in_box) c.in-None.is) ∙ c.in_ok-statement.ensures
    ∙ root-read s c.nodes.result.now (c.nodes.ensures.nodes ∙ is)))
    tt

pub returns : goal.returns
returns c =
    let (s, is) = c.nodes.ensures.statement in
    let same : Some (statement_tree c.in-Some.statement.value) ≡ Some s =
    sym (ap (option_map in_box) c.in-Some.is) ∙ c.in_ok-statement.ensures
    ∙ root-read s c.nodes.result.now (c.nodes.ensures.nodes ∙ is) in
    ap flat_of (ap statement_tree c.into_inner.ensures ∙ ap (got s) same) ∙ sym is

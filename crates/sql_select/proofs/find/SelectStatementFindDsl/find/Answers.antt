use Rattle.std.proofs.Common.{rules, ◌≡◌, IfOk, Some, true, nat_eq, length, map, option_map, sym, ap, ◌∙◌, subst}
use Rattle.std.proofs.lemmas.Bool.{eq-eqb}
use Rattle.std.proofs.lemmas.List.{length-map}
use Rattle.sql_node.proofs.Trees.{select_statement-out}
use Rattle.sql_node.specs.Tree.{an_expr, no_expr}
use Rattle.sql_node.specs.View.{expr_tree, from_clause_tree, maybe_of, select_statement_tree}
use Rattle.sql_leaf.specs.declared.operator.Logic.TheVariants.{And}
use Rattle.sql_origin.specs.Borrowed.{origin_of}
use Rattle.sql_select.specs.Changes.{filtered}
use Rattle.sql_select.specs.Finding.{all_before, equal_each, found, has_key, key_columns, only_leaf}
use Rattle.sql_select.proofs.FindLaws.{filtered-found}
use Rattle.sql_select.proofs.find.SelectStatementFindDsl.find.Goals as goal

pub returns-in-Some-condition : goal.returns-in-Some-condition
returns-in-Some-condition c =
    let v = c.args.self in
    let vs = map expr_tree c.args.key.items in
    let o = origin_of c.in-Some.leaf in
    let e = expr_tree c.in-Some-condition.condition in
    let leaf : only_leaf (from_clause_tree v.from) ≡ Some o =
    sym c.only_leaf_of.ensures ∙ ap (option_map origin_of) c.in-Some.is in
    let columns : map expr_tree c.in_ok-statement.columns.items ≡ key_columns o =
    subst (λ r. IfOk r (λ made. map expr_tree made.items ≡ key_columns o)) c.in_ok-statement.ensures.made
    c.key_columns-columns.ensures in
    let lengths : length c.in_ok-statement.columns.items ≡ length c.args.key.items = search rules in
    let same : nat_eq (length (key_columns o)) (length vs) ≡ true =
    eq-eqb (length (key_columns o)) (length vs)
    (ap length (sym columns) ∙ length-map c.in_ok-statement.columns.items expr_tree ∙ lengths
    ∙ sym (length-map c.args.key.items expr_tree))
    in
    let equal : maybe_of (option_map expr_tree c.in_ok-statement-2.condition)
    ≡ all_before (equal_each (map expr_tree c.in_ok-statement.columns.items) vs) no_expr =
    subst
    (λ r. IfOk r (λ made. maybe_of (option_map expr_tree made)
    ≡ all_before (equal_each (map expr_tree c.in_ok-statement.columns.items) vs) no_expr))
    c.in_ok-statement-2.ensures.made c.equal_to.ensures in
    let key : has_key o vs ≡ an_expr e =
    ap (λ es. all_before (equal_each es vs) no_expr) (sym columns) ∙ sym equal
    ∙ ap (λ q. maybe_of (option_map expr_tree q)) c.in-Some-condition.is in
    let step : filtered And e (select_statement_tree v) ≡ found vs (select_statement_tree v) =
    subst (λ t. filtered And e t ≡ found vs t) (sym (select_statement-out v))
    (filtered-found vs o e _ _ _ _ _ _ _ _ _ _ _ leaf same key) in
    let statement : c.in_ok-statement-2.statement ≡ v =
    c.in_ok-statement-2.ensures.statement ∙ c.in_ok-statement.ensures.statement in
    let of_it : IfOk c.filter.result (λ s. select_statement_tree s ≡ filtered And e (select_statement_tree v)) =
    subst (λ w. IfOk c.filter.result (λ s. select_statement_tree s ≡ filtered And e (select_statement_tree w)))
    statement c.filter.ensures.whole in
    subst (λ t. IfOk c.filter.result (λ s. select_statement_tree s ≡ t)) step of_it

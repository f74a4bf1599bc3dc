use Rattle.std.proofs.Common.{◌≡◌, ◌++◌, ◌∷◌, [], option_map, sym, subst, ap, ◌∙◌}
use Rattle.std.specs.Prelude.{IfOk, string_bytes}
use Rattle.std.proofs.lemmas.Result.{IfOk-weaker}
use Rattle.serde_json.specs.Written.{compact_text}
use Rattle.sql_schema.specs.Declarations.{Declarations}
use Rattle.sql_node.specs.View.{statement_tree}
use Rattle.sql_build.specs.Built.{statement_in}
use Rattle.sql_build_syntax.specs.View.{query_tree}
use Rattle.sql_rules.specs.Texts.{rule_text}
use Rattle.sql_rules.specs.declared.rule.Rule.TheVariants.{UnknownName}
use Rattle.sql_tool_document.specs.Trees.{request_tree}
use Rattle.sql_tool_build.proofs.Judging.{unmade-line}
use Rattle.sql_tool_build.specs.Judgement.{made, made_of, unmade}
use Rattle.sql_tool_build.specs.Objects.{refused}
use Rattle.sql_tool_build.specs.Output.{line_text, statement_request}
use Rattle.sql_tool_build.specs.inside.Keys.{HasLine, seen_at}
use Rattle.sql_tool_build.proofs.line.request_line.Goals as goal

pub returns-in-None-clause-line : goal.returns-in-None-clause-line
unfolding line_text
returns-in-None-clause-line c =
    let schema = c.args.cache.now.schema in
    let r = statement_request schema (request_tree c.args.request.now) in
    let none : unmade (rule_text UnknownName) ≡ r.statement =
    ap (λ o. made_of (option_map statement_tree o)) (sym c.in-None.is) ∙ ap made_of c.in_ok-statement.ensures
    ∙ ap (λ (w : Declarations). (statement_request w (request_tree c.args.request.now)).statement) c.schema.ensures in
    IfOk-weaker c.refusal_line.result _ _
    (λ text is. unmade-line schema c.schema_stands.ensures r c.args.number (seen_at c.args.seen.now) (λ l. string_bytes text ≡ line_text l) _ none
    (is ∙ ap (λ q. compact_text (refused q) ++ 10 ∷ []) c.name.ensures)) c.refusal_line.ensures

pub returns-in-Some-clause-line : goal.returns-in-Some-clause-line
returns-in-Some-clause-line c =
    let schema = c.args.cache.now.schema in
    let r = statement_request schema (request_tree c.args.request.now) in
    let s = statement_tree c.in-Some.statement in
    let some : made s ≡ r.statement =
    ap (λ o. made_of (option_map statement_tree o)) (sym c.in-Some.is) ∙ ap made_of c.in_ok-statement.ensures
    ∙ ap (λ (w : Declarations). (statement_request w (request_tree c.args.request.now)).statement) c.schema.ensures in
    subst
    (λ o. IfOk c.statement_line.result (λ text. HasLine schema (record { dialect = r.dialect; statement = o }) c.args.number
    (seen_at c.args.seen.now) (seen_at c.statement_line.new.seen) (λ l. string_bytes text ≡ line_text l)))
    some c.statement_line.ensures.line

-- the statement is the query's, so its names are the schema's
pub statement_line-requires : goal.statement_line-requires
statement_line-requires c = λ known.
    let d = c.args.request.now.dialect in
    let q = query_tree c.args.request.now.query in
    let is =
    ap (option_map statement_tree) (sym c.in-Some.is) ∙ c.in_ok-statement.ensures
    ∙ ap (λ (w : Declarations). statement_in w d q) c.schema.ensures in
    c.built_statements_know_their_names.ensures c.args.cache.now.schema d d q (statement_tree c.in-Some.statement) (sym is)

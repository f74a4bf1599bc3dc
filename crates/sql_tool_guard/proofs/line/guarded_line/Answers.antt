use Rattle.std.proofs.Common.{◌≡◌, ◌++◌, ◌∷◌, [], None, Some, option_map, sym, subst, ap, refl, ◌∙◌}
use Rattle.std.specs.Prelude.{string_bytes}
use Rattle.std.proofs.lemmas.Result.{IfOk-weaker}
use Rattle.serde_json.specs.Written.{compact_text}
use Rattle.sql_schema.specs.Declarations.{Declarations}
use Rattle.sql_node.specs.View.{statement_tree}
use Rattle.sql_build.specs.Built.{statement_in}
use Rattle.sql_rules.specs.Texts.{rule_text}
use Rattle.sql_rules.specs.declared.rule.Rule.TheVariants.{UnknownName}
use Rattle.sql_tool_document.specs.Trees.{request_tree}
use Rattle.sql_tool_build.proofs.Judging.{unmade-line}
use Rattle.sql_tool_build.specs.Judgement.{unmade}
use Rattle.sql_tool_build.specs.Objects.{refused}
use Rattle.sql_tool_build.specs.Output.{StatementRequest, line_text}
use Rattle.sql_tool_build.specs.inside.Keys.{seen_at}
use Rattle.sql_tool_guard.specs.Output.{IsRestricted}
use Rattle.sql_tool_guard.specs.Trees.{tenant_tree}
use Rattle.sql_tool_guard.proofs.line.guarded_line.Goals as goal

pub returns-in-None-clause-line : goal.returns-in-None-clause-line
unfolding line_text
returns-in-None-clause-line c =
    let schema = c.args.cache.now.schema in
    let q = request_tree c.args.request.now in
    let name = rule_text UnknownName in
    let r : StatementRequest = record { dialect = q.dialect; statement = unmade name } in
    let none : None ≡ statement_in schema q.dialect q.query =
    ap (option_map statement_tree) (sym c.in-None.is) ∙ c.in_ok-statement_to_limit.ensures
    ∙ ap (λ (w : Declarations). statement_in w q.dialect q.query) c.schema.ensures in
    IfOk-weaker c.refusal_line.result _ _ (λ text is. (
      r,
      record { dialect = refl; statement = subst (λ o. IsRestricted (tenant_tree c.args.tenant.now) o (unmade name)) none refl },
      unmade-line schema c.schema_stands.ensures r c.args.number (seen_at c.args.seen.now) (λ l. string_bytes text ≡ line_text l) name refl
          (is ∙ ap (λ q. compact_text (refused q) ++ 10 ∷ []) c.name.ensures),
    )) c.refusal_line.ensures

pub returns-in-Some-clause-line : goal.returns-in-Some-clause-line
returns-in-Some-clause-line c =
    let schema = c.args.cache.now.schema in
    let q = request_tree c.args.request.now in
    let some : Some (statement_tree c.in-Some.statement) ≡ statement_in schema q.dialect q.query =
    ap (option_map statement_tree) (sym c.in-Some.is) ∙ c.in_ok-statement_to_limit.ensures
    ∙ ap (λ (w : Declarations). statement_in w q.dialect q.query) c.schema.ensures in
    IfOk-weaker c.limited_line.result _ _ (λ text told.
    let (m, is, has) = told in (
      record { dialect = q.dialect; statement = m },
      record { dialect = refl; statement = subst (λ o. IsRestricted (tenant_tree c.args.tenant.now) o m) some is },
      has,
    )) c.limited_line.ensures.line

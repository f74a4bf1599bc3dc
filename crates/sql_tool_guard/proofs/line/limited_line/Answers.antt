use Rattle.std.proofs.Common.{rules, ◌≡◌, ◌++◌, ◌∷◌, [], ap, refl, ◌∙◌, inl, inr}
use Rattle.std.specs.Prelude.{string_bytes}
use Rattle.std.proofs.lemmas.Result.{IfOk-weaker}
use Rattle.serde_json.specs.Written.{compact_text}
use Rattle.sql_node.specs.View.{statement_tree}
use Rattle.sql_guard.specs.declared.error.RestrictError.TheVariants.{NoMemory}
use Rattle.sql_tool_build.proofs.Judging.{unmade-line}
use Rattle.sql_tool_build.specs.Judgement.{made, unmade}
use Rattle.sql_tool_build.specs.Objects.{refused}
use Rattle.sql_tool_build.specs.Output.{StatementRequest, line_text}
use Rattle.sql_tool_build.specs.inside.Keys.{seen_at}
use Rattle.sql_tool_guard.specs.Output.{refusal_text}
use Rattle.sql_tool_guard.proofs.line.limited_line.Goals as goal

pub returns-in-Ok-clause-line : goal.returns-in-Ok-clause-line
returns-in-Ok-clause-line c =
    IfOk-weaker c.statement_line.result _ _ (λ text has. (
      made (statement_tree c.in-Ok.limited),
      inr (c.in-Ok.ensures.kind, ap made c.in-Ok.ensures.limited),
      has,
    )) c.statement_line.ensures.line

pub returns-in-Err-clause-line : goal.returns-in-Err-clause-line
unfolding line_text
returns-in-Err-clause-line c =
    let e = c.in-Err.error in
    let name = refusal_text e in
    let r : StatementRequest = record { dialect = c.args.dialect; statement = unmade name } in
    let known : e ≡ NoMemory → ⊥ = search rules in
    IfOk-weaker c.refusal_line.result _ _ (λ text is. (
      unmade name,
      inl (e, known, c.in-Err.ensures.refused, refl),
      unmade-line c.args.cache.now.schema c.schema_stands.ensures r c.args.number (seen_at c.args.seen.now) (λ l. string_bytes text ≡ line_text l)
          name refl (is ∙ ap (λ q. compact_text (refused q) ++ 10 ∷ []) c.refusal_name.ensures),
    )) c.refusal_line.ensures

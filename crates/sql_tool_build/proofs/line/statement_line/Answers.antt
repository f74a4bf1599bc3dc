use Rattle.std.proofs.Common.{◌++◌, ◌∷◌, [], ap, option_map, refl, ◌∙◌}
use Rattle.std.specs.Prelude.{IfOk, OnOk, Result, Ok, Err}
use Rattle.std.proofs.lemmas.Result.{IfOk-weaker}
use Rattle.serde_json.specs.Written.{compact_text}
use Rattle.sql_node.specs.View.{statement_tree}
use Rattle.sql_rules.specs.Texts.{rule_text}
use Rattle.sql_tool_build.proofs.Judging.{accepted-line, refused-line}
use Rattle.sql_tool_build.specs.Judgement.{made}
use Rattle.sql_tool_build.specs.Objects.{refused, statement_data}
use Rattle.sql_tool_build.specs.Output.{StatementRequest, line_text}
use Rattle.sql_tool_build.specs.inside.Keys.{id_found, keyed, seen_at}
use Rattle.sql_tool_build.proofs.line.statement_line.Goals as goal

both_ok : {T E : Type 0} {P R : T → Type 0} {Q : Type 0} (r : Result T E) → ((t : T) → P t → Q → R t) → IfOk r P
    → OnOk r Q → IfOk r R
both_ok (Ok t) f p q = f t p q
both_ok (Err e) f p q = p

pub returns-in-Ok-clause-line : goal.returns-in-Ok-clause-line
unfolding line_text
returns-in-Ok-clause-line c =
    let schema = c.args.cache.now.schema in
    let s = statement_tree c.args.statement.now in
    let r : StatementRequest = record { dialect = c.args.dialect; statement = made s } in
    let f = seen_at c.args.seen.now in
    let b = c.in-Ok.built in
    let id = id_found f c.args.number (option_map (keyed c.args.dialect) b.id) in
    let object = statement_data b.binds b.sql_types id b.safe b.sql in
    both_ok c.accept.result (λ text told kept.
    let (j, judges, is, keeps, stands) =
    accepted-line schema c.schema_stands.ensures r c.args.number f s b (seen_at c.accept.new.seen) object refl c.in-Ok.ensures.compiled.built
    c.in-Ok.ensures.compiled.read refl kept in
    (j, judges, told ∙ ap (λ d. compact_text d ++ 10 ∷ []) is, keeps, stands))
    c.accept.ensures.line c.accept.ensures.kept

pub returns-in-Err-clause-line : goal.returns-in-Err-clause-line
unfolding line_text
returns-in-Err-clause-line c =
    let schema = c.args.cache.now.schema in
    let s = statement_tree c.args.statement.now in
    let r : StatementRequest = record { dialect = c.args.dialect; statement = made s } in
    IfOk-weaker c.refuse.result _ _ (λ text h.
    let (rule, named, told) = h in
    let (j, judges, is, keeps, stands) =
    refused-line schema c.schema_stands.ensures r c.args.number (seen_at c.args.seen.now) s rule (refused (rule_text rule)) refl
    (c.in-Err.ensures.compiled.refused rule named) refl in
    (j, judges, told ∙ ap (λ d. compact_text d ++ 10 ∷ []) is, keeps, stands))
    c.refuse.ensures

use Rattle.std.proofs.Common.{◌≡◌, ◌∙◌, ◌+◌, ℕ, refl, subst}
use Rattle.std.specs.Prelude.{Result, Ok, Err, OnOk}
use Rattle.std.proofs.lemmas.Result.{on_ok_weaker}
use Rattle.sql_dialect.specs.declared.backend.Dialect.{Dialect}
use Rattle.sql_node.specs.Tree.{Statement}
use Rattle.sql_node.specs.View.{statement_tree}
use Rattle.sql_tool_build.specs.Judgement.{made}
use Rattle.sql_tool_build.specs.Output.{StatementRequest}
use Rattle.sql_tool_build.specs.inside.Keys.{HasLine, seen_at}
use Rattle.sql_tool_generate.proofs.Counting.{accepted-counted, refused-counted}
use Rattle.sql_tool_series.specs.Generated.{dialect_of, form_of, statement_with}
use Rattle.sql_tool_generate.specs.Generated.{request}
use Rattle.sql_tool_series.specs.Schema.{declarations}
use Rattle.sql_tool_generate.specs.inside.Counting.{TellMore}
use Rattle.sql_tool_series.specs.declared.form.Form.{Form}
use Rattle.sql_tool_generate.proofs.requests.count.Goals as goal

-- a request of these parts
abbrev of : Dialect → Statement → StatementRequest
of d s = record { dialect = d; statement = made s }

is-request : (i : ℕ) (d : Dialect) (form : Form) (s : Statement) → d ≡ dialect_of i → form ≡ form_of i
    → s ≡ statement_with form d i → of d s ≡ request i
is-request i d form s dialects forms is =
    let statements : s ≡ statement_with (form_of i) (dialect_of i) i =
    is ∙ (λ k. statement_with (forms k) (dialects k) i) in
    λ k. of (dialects k) (statements k)

both_ok : {T E : Type 0} {P Q R : Type 0} (r : Result T E) → (P → Q → R) → OnOk r P → OnOk r Q → OnOk r R
both_ok (Ok t) f p q = f p q
both_ok (Err e) f p q = p

pub returns-in-Ok-clause-line : goal.returns-in-Ok-clause-line
returns-in-Ok-clause-line c =
    let i = c.args.number in
    let at : c.from.result ≡ i = c.from.ensures in
    let n = c.from.result + 1 in
    let d = c.dialect_of-dialect.result in
    let s = statement_tree c.in_ok-statement.statement in
    let f = seen_at c.args.seen.now in
    let g = seen_at c.accept.new.seen in
    let schema = c.args.cache.now.schema in
    let same = is-request i d c.form_of.result s c.dialect_of-dialect.ensures c.form_of.ensures c.in_ok-statement.ensures in
    both_ok c.accept.result (λ counted kept.
    subst (λ m. HasLine declarations (request i) (m + 1) f g (TellMore (m + 1) c.args.counts.now c.accept.new.counts)) at
    (subst (λ r. HasLine declarations r n f g (TellMore n c.args.counts.now c.accept.new.counts)) same
    (subst (λ x. HasLine x (of d s) n f g (TellMore n c.args.counts.now c.accept.new.counts)) c.requires.schema
    (accepted-counted schema c.schema_stands.ensures (of d s) n f c.args.counts.now c.accept.new.counts s c.in-Ok.built g refl
    c.in-Ok.ensures.compiled.built c.in-Ok.ensures.compiled.read counted kept))))
    c.accept.ensures.counted c.accept.ensures.kept

pub returns-clause-line : goal.returns-clause-line
returns-clause-line c =
    let i = c.args.number in
    let n = i + 1 in
    let d = c.dialect_of-dialect.result in
    let s = statement_tree c.in_ok-statement.statement in
    let f = seen_at c.args.seen.now in
    let schema = c.args.cache.now.schema in
    let same = is-request i d c.form_of.result s c.dialect_of-dialect.ensures c.form_of.ensures c.in_ok-statement.ensures in
    on_ok_weaker c.refuse.result (λ h. let (rule, is, told) = h in
    subst (λ r. HasLine declarations r n f f (TellMore n c.args.counts.now c.refuse.new.counts)) same
    (subst (λ x. HasLine x (of d s) n f f (TellMore n c.args.counts.now c.refuse.new.counts)) c.requires.schema
    (refused-counted schema c.schema_stands.ensures (of d s) n f c.args.counts.now c.refuse.new.counts s rule refl
    (c.in-Err.ensures.compiled.refused rule is) told)))
    c.refuse.ensures

-- How a command ends that writes a line for each of its items.
use Rattle.std.proofs.Common.{◌≡◌, ◌⊎◌, ◌∙◌, ◌+◌, inl, inr, ℕ, List, [], ◌∷◌, ◌++◌, length, map, Option, Some, ap, subst, sym, arith}
use Rattle.std.proofs.lemmas.List.{length-map, map-append}
use Rattle.sql_schema.specs.Declarations.{Declarations}
use Rattle.sql_dialect.specs.declared.backend.Dialect.{Dialect}
use Rattle.sql_tool_document.specs.Documents as t
use Rattle.sql_tool_document.specs.Documents.{Document, document}
use Rattle.sql_tool_document.specs.Texts.{Texts, texts_in}
use Rattle.sql_tool_document.specs.Trees.{request_tree}
use Rattle.sql_tool_document.specs.declared.document.Request.{Request}
use Rattle.sql_tool_audit.proofs.Lines as audits
use Rattle.sql_tool_audit.specs.Line.{IsAuditLine}
use Rattle.sql_tool_audit.specs.Output.{IsAuditOutput}
use Rattle.sql_tool_guard.proofs.Lines.{guarded-length, guarded-more}
use Rattle.sql_tool_guard.specs.Output.{AreGuarded, IsGuarded, IsGuardedOutput, IsGuardedOutputPrefix}
use Rattle.sql_tool_guard.specs.Tenants.{Tenant, TenantDocument, policed_document, tenant_document}
use Rattle.sql_tool_build.proofs.Lines.{written-more}
use Rattle.sql_tool_build.specs.Output.{IsOutput, StatementRequest, line_text, statement_request}
use Rattle.sql_tool_build.specs.inside.Keys.{AreWritten, HasLine}
use Rattle.sql_rows.specs.declared.cache.RequestKey.{RequestKey}
use Rattle.sql_tool_run.specs.Command.{IsOutputOf, IsOutputPrefixOf}
use Rattle.sql_tool_run.specs.inside.Responses.{Response, WroteLines, WroteSome, WroteTenant}
use Rattle.sql_tool_run.specs.declared.command.Command.{Command}
use Rattle.sql_tool_run.specs.declared.command.Command.TheVariants.{Audit, Build, Guard}
use Rattle.sql_tool_run.specs.declared.command.Command.TheVariants as command
use Rattle.sql_tool_run.specs.declared.status.Status.{Status}
use Rattle.sql_tool_run.specs.declared.status.Status.TheVariants.{Done, Usage, BadDocument, ReadFault, WriteFault, NoMemory, TooLarge}

answered : {S T : Type 0} (status : Status) (c : Command) (given written : List ℕ) (Has : S → List T → List ℕ → Type 0)
    (items : List T)
    → ((state : S) → Has state items written → IsOutputOf c given written)
    → (WroteSome Has items written → IsOutputPrefixOf c given written) → WroteLines status Has items written
    → Response status c given written
answered Done c given written Has items all some (state, has) = all state has
answered Usage c given written Has items all some wrote = absurd wrote
answered BadDocument c given written Has items all some wrote = absurd wrote
answered ReadFault c given written Has items all some wrote = absurd wrote
answered WriteFault c given written Has items all some wrote = some wrote
answered NoMemory c given written Has items all some wrote = inr (some wrote)
answered TooLarge c given written Has items all some wrote = absurd wrote

-- a document of these requests
abbrev pub with_requests : Declarations → List Request → Document
with_requests schema qs = record { schema = schema; requests = map request_tree qs }

abbrev asked : Declarations → List Request → List StatementRequest
asked schema qs = map (statement_request schema) (map request_tree qs)

asked-append : (schema : Declarations) (qs later : List Request)
    → asked schema (qs ++ later) ≡ asked schema qs ++ asked schema later
asked-append schema qs later =
    ap (map (statement_request schema)) (map-append request_tree qs later)
    ∙ map-append (statement_request schema) (map request_tree qs) (map request_tree later)

-- ---- the lines so far, and one more

module _ (schema here : Declarations) (f g : RequestKey → Option ℕ) (items : List Request) (item : Request) (n : ℕ)
    (text line : List ℕ) (number : n ≡ 1 + length items) (same : here ≡ schema) where
  pub build-more : HasLine here (statement_request here (request_tree item)) n f g (λ l. line ≡ line_text l)
      → AreWritten schema f (asked schema items) text
      → AreWritten schema g (asked schema (items ++ item ∷ [])) (text ++ line)
  build-more has written =
      let rs = asked schema items in
      let r = statement_request schema (request_tree item) in
      let count : length rs ≡ length items =
      length-map (map request_tree items) (statement_request schema) ∙ length-map items request_tree in
      let counted : n ≡ 1 + length rs = omega (arith, number, count) in
      let one =
      subst (λ (w : Declarations). HasLine w (statement_request w (request_tree item)) n f g (λ l. line ≡ line_text l))
      same has in
      subst (λ x. AreWritten schema g x (text ++ line)) (sym (asked-append schema items (item ∷ [])))
      (written-more schema f g rs n text line r counted written one)

  pub guard-more : (t : Tenant)
      → ((r : StatementRequest) × IsGuarded here t (request_tree item) r × HasLine here r n f g (λ l. line ≡ line_text l))
      → ((rs : List StatementRequest) × AreGuarded schema t (map request_tree items) rs × AreWritten schema f rs text)
      → (rs : List StatementRequest) × AreGuarded schema t (map request_tree (items ++ item ∷ [])) rs
      × AreWritten schema g rs (text ++ line)
  guard-more t told (rs, guarded, written) =
      let (r, is, has) =
      subst
      (λ (w : Declarations). (r : StatementRequest) × IsGuarded w t (request_tree item) r
      × HasLine w r n f g (λ l. line ≡ line_text l))
      same told in
      let count : length rs ≡ length items =
      guarded-length schema t (map request_tree items) rs guarded ∙ length-map items request_tree in
      let counted : n ≡ 1 + length rs = omega (arith, number, count) in (
        rs ++ r ∷ [],
        subst (λ qs. AreGuarded schema t qs (rs ++ r ∷ [])) (sym (map-append request_tree items (item ∷ [])))
            (guarded-more schema t (map request_tree items) rs (request_tree item) r guarded is),
        written-more schema f g rs n text line r counted written has,
      )

pub audit-more : (d : Dialect) (schema : Declarations) (items : List (List ℕ)) (item text line : List ℕ)
    → IsAuditOutput d (record { schema = schema; texts = items }) text → IsAuditLine d schema.tables item line
    → IsAuditOutput d (record { schema = schema; texts = items ++ item ∷ [] }) (text ++ line)
audit-more d schema items item text line (ls, lines, is) one = (
  ls ++ line ∷ [],
  audits.lines-more d schema.tables items ls item line lines one,
  ap (λ u. u ++ line) is ∙ sym (audits.joined-more ls line),
)

-- ---- how the command ends

pub wrote-build : {S : Type 0} (status : Status) (given written : List ℕ) (schema : Declarations) (requests : List Request)
    (Has : S → List Request → List ℕ → Type 0)
    → ((state : S) (qs : List Request) (text : List ℕ) → Has state qs text → IsOutput (with_requests schema qs) text)
    → document given ≡ Some (with_requests schema requests) → WroteLines status Has requests written
    → Response status Build given written
wrote-build status given written schema requests Has told read =
    answered status Build given written Has requests
    (λ state has. (with_requests schema requests, read, told state requests written has))
    (λ wrote. let (state, some, later, cut, (text, has, (rest, is))) = wrote in
    let (ls, lines, it) = told state some text has in (
      with_requests schema requests,
      read,
      (
        asked schema some,
        asked schema later,
        ap (asked schema) cut ∙ asked-append schema some later,
        (ls, lines, (rest, sym it ∙ is)),
      ),
    ))

-- the lines of a tenant's requests, some or all
wrote-some : {S : Type 0} (written : List ℕ) (schema : Declarations) (tenant : Tenant) (requests : List Request)
    (Has : S → List Request → List ℕ → Type 0)
    → ((state : S) (qs : List Request) (text : List ℕ) → Has state qs text → IsGuardedOutput (with_requests schema qs) tenant text)
    → WroteSome Has requests written → IsGuardedOutputPrefix (with_requests schema requests) tenant written
wrote-some written schema tenant requests Has told (state, some, later, cut, (text, has, (rest, is))) =
    let (rs, guarded, (ls, lines, it)) = told state some text has in (
      map request_tree some,
      map request_tree later,
      ap (map request_tree) cut ∙ map-append request_tree some later,
      (rs, guarded, (ls, lines, (rest, sym it ∙ is))),
    )

pub wrote-tenant : {S : Type 0} (status : Status) (written : List ℕ) (schema : Declarations) (tenant : Tenant)
    (requests : List Request) (Has : S → List Request → List ℕ → Type 0)
    → ((state : S) (qs : List Request) (text : List ℕ) → Has state qs text → IsGuardedOutput (with_requests schema qs) tenant text)
    → WroteLines status Has requests written
    → WroteTenant status (record { document = with_requests schema requests; tenant = tenant }) written
wrote-tenant Done written schema tenant requests Has told (state, has) = told state requests written has
wrote-tenant Usage written schema tenant requests Has told wrote = absurd wrote
wrote-tenant BadDocument written schema tenant requests Has told wrote = absurd wrote
wrote-tenant ReadFault written schema tenant requests Has told wrote = absurd wrote
wrote-tenant WriteFault written schema tenant requests Has told wrote =
    wrote-some written schema tenant requests Has told wrote
wrote-tenant NoMemory written schema tenant requests Has told wrote =
    inr (wrote-some written schema tenant requests Has told wrote)
wrote-tenant TooLarge written schema tenant requests Has told wrote = absurd wrote

pub guard-response : (status : Status) (given written : List ℕ) (x : TenantDocument) → tenant_document given ≡ Some x
    → WroteTenant status x written → Response status Guard given written
guard-response Done given written x is wrote = (x, is, wrote)
guard-response Usage given written x is wrote = wrote
guard-response BadDocument given written x is wrote = absurd wrote
guard-response ReadFault given written x is wrote = wrote
guard-response WriteFault given written x is wrote = (x, is, wrote)
guard-response NoMemory given written x is (inl none) = inl none
guard-response NoMemory given written x is (inr some) = inr (x, is, some)
guard-response TooLarge given written x is wrote = wrote

pub tenant-response : (status : Status) (given written : List ℕ) (x : TenantDocument) → policed_document given ≡ Some x
    → WroteTenant status x written → Response status command.Tenant given written
tenant-response Done given written x is wrote = (x, is, wrote)
tenant-response Usage given written x is wrote = wrote
tenant-response BadDocument given written x is wrote = absurd wrote
tenant-response ReadFault given written x is wrote = wrote
tenant-response WriteFault given written x is wrote = (x, is, wrote)
tenant-response NoMemory given written x is (inl none) = inl none
tenant-response NoMemory given written x is (inr some) = inr (x, is, some)
tenant-response TooLarge given written x is wrote = wrote

pub wrote-audit : {S : Type 0} (status : Status) (d : Dialect) (given written : List ℕ) (schema : Declarations)
    (texts : List (List ℕ)) (Has : S → List (List ℕ) → List ℕ → Type 0)
    → ((state : S) (ts : List (List ℕ)) (text : List ℕ) → Has state ts text
    → IsAuditOutput d (record { schema = schema; texts = ts }) text)
    → texts_in given ≡ Some (record { schema = schema; texts = texts }) → WroteLines status Has texts written
    → Response status (Audit d) given written
wrote-audit status d given written schema texts Has told read =
    answered status (Audit d) given written Has texts
    (λ state has. (record { schema = schema; texts = texts }, read, told state texts written has))
    (λ wrote. let (state, some, later, cut, (text, has, (rest, is))) = wrote in
    let (ls, lines, it) = told state some text has in (
      record { schema = schema; texts = texts },
      read,
      (some, later, cut, (ls, lines, (rest, sym it ∙ is))),
    ))

-- What a command writes for bytes is one text.
use Rattle.std.proofs.Common.{◌≡◌, ◌∙◌, ℕ, List, Option, Some, subst, sym}
use Rattle.sql_tool_audit.proofs.Once as audits
use Rattle.sql_tool_audit.specs.Output.{IsAuditOutput}
use Rattle.sql_tool_generate.proofs.Summaries.{one-summary}
use Rattle.sql_tool_guard.proofs.Once as guarded
use Rattle.sql_tool_guard.specs.Output.{IsGuardedOutput}
use Rattle.sql_tool_guard.specs.Tenants.{TenantDocument}
use Rattle.sql_tool_build.proofs.Once as outputs
use Rattle.sql_tool_build.specs.Output.{IsOutput}
use Rattle.sql_tool_read.proofs.Once.{one-line}
use Rattle.sql_tool_read.specs.Line.{IsReadingLine}
use Rattle.sql_tool_run.specs.Command.{IsOutputOf}
use Rattle.sql_tool_run.specs.declared.command.Command.{Command}
use Rattle.sql_tool_run.specs.declared.command.Command.TheVariants.{Audit, Build, Generate, Guard, Read, Tenant}

-- what both are is one
same : {X : Type 0} (o : Option X) (x y : X) → o ≡ Some x → o ≡ Some y → x ≡ y
same o x y is it = let both : Some x ≡ Some y = sym is ∙ it in cc

pub one-answer : (c : Command) (given a b : List ℕ) → IsOutputOf c given a → IsOutputOf c given b → a ≡ b
one-answer Build given a b (d, is, first) (e, it, second) =
    outputs.one-output e a b (subst (λ x. IsOutput x a) (same _ d e is it) first) second
one-answer (Generate n) given a b first second = one-summary n a b first second
one-answer (Read d) given a b (t, is, first) (u, it, second) =
    one-line d u a b (subst (λ x. IsReadingLine d x a) (same _ t u is it) first) second
one-answer (Audit d) given a b (x, is, first) (y, it, second) =
    audits.one-output d y a b (subst (λ z. IsAuditOutput d z a) (same _ x y is it) first) second
one-answer Guard given a b (x, is, first) (y, it, second) =
    guarded.one-output y.document y.tenant a b
    (subst (λ z. IsGuardedOutput z.document z.tenant a) (same _ x y is it) first) second
one-answer Tenant given a b (x, is, first) (y, it, second) =
    guarded.one-output y.document y.tenant a b
    (subst (λ z. IsGuardedOutput z.document z.tenant a) (same _ x y is it) first) second

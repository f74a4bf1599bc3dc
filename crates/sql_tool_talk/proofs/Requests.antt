-- A request of a tenant makes one statement.
use Rattle.std.proofs.Common.{◌≡◌, ◌≢◌, ◌∙◌, List, Option, None, Some, ap, inl, inr, refl, sym}
use Rattle.sql_schema.specs.Declarations.{Declarations}
use Rattle.sql_schema.specs.declared.declaration.TableDecl.{TableDecl}
use Rattle.sql_node.specs.Tree.{Expr, Statement}
use Rattle.sql_tool_document.specs.Documents.{Request}
use Rattle.sql_guard_law.specs.Policies.{Policy}
use Rattle.sql_guard.specs.Closed.{IsGuardRefusal, MayGuard}
use Rattle.sql_guard.specs.Refused.{IsRefusal, MayRestrict}
use Rattle.sql_guard.specs.declared.error.RestrictError.{RestrictError}
use Rattle.sql_guard.specs.declared.error.RestrictError.TheVariants.{BadPredicate, OutOfKind, NoRelation, LacksPolicy, NoMemory}
use Rattle.sql_tool_build.specs.Judgement.{Made, unmade}
use Rattle.sql_tool_build.specs.Output.{StatementRequest}
use Rattle.sql_tool_guard.specs.Output.{IsFirstRefusal, IsGuarded, IsRestricted, MayLimit, refusal_text}
use Rattle.sql_tool_guard.specs.Tenants.{Tenant, of_table, by_policies}

module _ (t : TableDecl) (p : Expr) (s : Statement) where
  one-restriction : (e f : RestrictError) → e ≢ NoMemory → f ≢ NoMemory → IsRefusal e t p s → IsRefusal f t p s → e ≡ f
  one-restriction BadPredicate BadPredicate some known is it = refl
  one-restriction BadPredicate OutOfKind some known is it = absurd (is it.0)
  one-restriction BadPredicate NoRelation some known is it = absurd (is it.0)
  one-restriction OutOfKind BadPredicate some known is it = absurd (it is.0)
  one-restriction OutOfKind OutOfKind some known is it = refl
  one-restriction OutOfKind NoRelation some known is it = absurd (it.1 is.1)
  one-restriction NoRelation BadPredicate some known is it = absurd (it is.0)
  one-restriction NoRelation OutOfKind some known is it = absurd (is.1 it.1)
  one-restriction NoRelation NoRelation some known is it = refl
  one-restriction LacksPolicy f some known is it = absurd is
  one-restriction e LacksPolicy some known is it = absurd it
  one-restriction NoMemory f some known is it = absurd (some refl)
  one-restriction e NoMemory some known is it = absurd (known refl)

  not-restricted : (e : RestrictError) → e ≢ NoMemory → IsRefusal e t p s → MayRestrict t p s → ⊥
  not-restricted BadPredicate known is may = is may.predicate
  not-restricted OutOfKind known is may = may.kind is.1
  not-restricted NoRelation known is may = may.related is.2
  not-restricted LacksPolicy known is may = is
  not-restricted NoMemory known is may = known refl

module _ (qs : List Policy) (s : Statement) where
  one-guard : (e f : RestrictError) → e ≢ NoMemory → f ≢ NoMemory → IsGuardRefusal e qs s → IsGuardRefusal f qs s → e ≡ f
  one-guard BadPredicate BadPredicate some known is it = refl
  one-guard BadPredicate NoRelation some known is it = absurd (is it.0)
  one-guard BadPredicate LacksPolicy some known is it = absurd (is it.0)
  one-guard NoRelation BadPredicate some known is it = absurd (it is.0)
  one-guard NoRelation NoRelation some known is it = refl
  one-guard NoRelation LacksPolicy some known is it = absurd (it.1 is.1)
  one-guard LacksPolicy BadPredicate some known is it = absurd (it is.0)
  one-guard LacksPolicy NoRelation some known is it = absurd (is.1 it.1)
  one-guard LacksPolicy LacksPolicy some known is it = refl
  one-guard OutOfKind f some known is it = absurd is
  one-guard e OutOfKind some known is it = absurd it
  one-guard NoMemory f some known is it = absurd (some refl)
  one-guard e NoMemory some known is it = absurd (known refl)

  not-guarded : (e : RestrictError) → e ≢ NoMemory → IsGuardRefusal e qs s → MayGuard qs s → ⊥
  not-guarded BadPredicate known is may = is may.predicates
  not-guarded OutOfKind known is may = is
  not-guarded NoRelation known is may = may.related is.1
  not-guarded LacksPolicy known is may = may.covered is.2
  not-guarded NoMemory known is may = known refl

one-refusal : (t : Tenant) (s : Statement) (e f : RestrictError) → e ≢ NoMemory → f ≢ NoMemory → IsFirstRefusal e t s
    → IsFirstRefusal f t s → e ≡ f
one-refusal (of_table t p) s = one-restriction t p s
one-refusal (by_policies qs) s = one-guard qs s

not-both : (t : Tenant) (s : Statement) (e : RestrictError) → e ≢ NoMemory → IsFirstRefusal e t s → MayLimit t s → ⊥
not-both (of_table t p) s = not-restricted t p s
not-both (by_policies qs) s = not-guarded qs s

one-made : (t : Tenant) (o : Option Statement) (a b : Made) → IsRestricted t o a → IsRestricted t o b → a ≡ b
one-made t None a b first second = first ∙ sym second
one-made t (Some s) a b (inl (e, some, is, made)) (inl (f, known, it, also)) =
    made ∙ ap (λ x. unmade (refusal_text x)) (one-refusal t s e f some known is it) ∙ sym also
one-made t (Some s) a b (inl (e, some, is, made)) (inr (may, also)) = absurd (not-both t s e some is may)
one-made t (Some s) a b (inr (may, made)) (inl (f, known, it, also)) = absurd (not-both t s f known it may)
one-made t (Some s) a b (inr (may, made)) (inr (too, also)) = made ∙ sym also

pub one-request : (schema : Declarations) (t : Tenant) (q : Request) (a b : StatementRequest) → IsGuarded schema t q a
    → IsGuarded schema t q b → a ≡ b
one-request schema t q a b first second =
    let dialects = first.dialect ∙ sym second.dialect in
    let statements = one-made t _ a.statement b.statement first.statement second.statement in
    λ i. record { dialect = dialects i; statement = statements i }

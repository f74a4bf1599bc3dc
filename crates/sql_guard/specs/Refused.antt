-- Why a statement is not restricted.
use Rattle.std.specs.Prelude.{⊤, []}
use Rattle.sql_schema.specs.declared.declaration.TableDecl.{TableDecl}
use Rattle.sql_node.specs.Tree.{Expr, Statement}
use Rattle.sql_rules.specs.Lists.{AnyOf}
use Rattle.sql_rules.specs.Scope.{parts}
use Rattle.sql_guard_law.specs.Tenant.{IsOutOfKind, IsPredicate, LacksRelation}
use Rattle.sql_guard.specs.declared.error.RestrictError.{RestrictError}
use Rattle.sql_guard.specs.declared.error.RestrictError.TheVariants as error

-- no refusal holds
pub record MayRestrict (t : TableDecl) (p : Expr) (s : Statement) : Type 0 where
  pub predicate : IsPredicate t p
  pub kind : ¬ AnyOf IsOutOfKind (parts [] s)
  pub related : ¬ AnyOf LacksRelation (parts [] s)

-- The refusal holds, and none before it does. Of one table nothing lacks a policy. Out of memory has no cause in the arguments.
abbrev pub IsRefusal : RestrictError → TableDecl → Expr → Statement → Type 0
IsRefusal error.BadPredicate t p s = ¬ IsPredicate t p
IsRefusal error.OutOfKind t p s = IsPredicate t p × AnyOf IsOutOfKind (parts [] s)
IsRefusal error.NoRelation t p s =
    IsPredicate t p × (¬ AnyOf IsOutOfKind (parts [] s)) × AnyOf LacksRelation (parts [] s)
IsRefusal error.LacksPolicy t p s = ⊥
IsRefusal error.NoMemory t p s = ⊤

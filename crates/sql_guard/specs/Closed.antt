-- Which statements policies guard. What no policy names is closed: a statement that reads such a table is refused.
use Rattle.std.specs.Prelude.{◌≡◌, ⊤, ℕ, Bool, true, false, not, ◌&&◌, List, [], Option, Some, None}
use Rattle.std.specs.Str.{str_eq_ignore_ascii_case}
use Rattle.sql_schema.specs.Equality.{same_table}
use Rattle.sql_schema.specs.declared.declaration.TableDecl.{TableDecl}
use Rattle.sql_node.specs.Tree.{Expr, MaybeExpr, no_expr, an_expr, Statement}
use Rattle.sql_rules.specs.Lists.{AnyOf, Each}
use Rattle.sql_rules.specs.Scope.{Part, a_select, a_combination, own, parts}
use Rattle.sql_guard_law.specs.Policies.{HasPolicy, IsPolicy, Policy}
use Rattle.sql_guard_law.specs.Tenant.{LacksRelation}
use Rattle.sql_guard.specs.Misread.{is_misread}
use Rattle.sql_guard.specs.declared.error.RestrictError.{RestrictError}
use Rattle.sql_guard.specs.declared.error.RestrictError.TheVariants as error

-- ---- policies

abbrev pub IsReadAsMeant : MaybeExpr → Type 0
IsReadAsMeant no_expr = Unit {0}
IsReadAsMeant (an_expr p) = is_misread p ≡ false

abbrev pub policy_on : TableDecl → Expr → Policy
policy_on t p = record { table = t; predicate = an_expr p }

-- its predicate is a condition on the rows of its table alone, and servers read it as it is meant
abbrev pub IsSound : Policy → Type 0
IsSound q = IsPolicy q × IsReadAsMeant q.predicate

-- ---- tables

-- a table without a schema may be of any
abbrev pub may_be_one : Option (List ℕ) → Option (List ℕ) → Bool
may_be_one (Some a) (Some b) = str_eq_ignore_ascii_case a b
may_be_one _ _ = true

-- Both may be one table of the server: names are compared without case, as some servers do.
abbrev pub is_one_sql_table : TableDecl → TableDecl → Bool
is_one_sql_table t u = str_eq_ignore_ascii_case t.sql_name u.sql_name && may_be_one t.schema u.schema

-- two declarations of what may be one table
abbrev pub is_redeclared : TableDecl → TableDecl → Bool
is_redeclared t u = is_one_sql_table t u && not (same_table t u)

-- The policies say which of its rows are seen: one names it, and none names another declaration of it. Such declarations count as one
-- table, all predicates on which have to hold, and those on the columns of one can't be said of the other.
abbrev pub IsCovered : List Policy → TableDecl → Type 0
IsCovered qs t = HasPolicy qs t × ¬ AnyOf (λ q. is_redeclared q.table t ≡ true) qs

-- the statement reads a table that the policies don't cover
abbrev pub ReadsUncovered : List Policy → Part → Type 0
ReadsUncovered qs (a_select outer s) = AnyOf (λ o. ¬ IsCovered qs o.table) (own s)
ReadsUncovered qs (a_combination c) = ⊥

-- ---- statements

-- no refusal holds
pub record MayGuard (qs : List Policy) (s : Statement) : Type 0 where
  pub predicates : Each IsSound qs
  pub related : ¬ AnyOf LacksRelation (parts [] s)
  pub covered : ¬ AnyOf (ReadsUncovered qs) (parts [] s)

-- The refusal holds, and none before it does. Out of memory has no cause in the arguments.
abbrev pub IsGuardRefusal : RestrictError → List Policy → Statement → Type 0
IsGuardRefusal error.BadPredicate qs s = ¬ Each IsSound qs
IsGuardRefusal error.OutOfKind qs s = ⊥
IsGuardRefusal error.NoRelation qs s = Each IsSound qs × AnyOf LacksRelation (parts [] s)
IsGuardRefusal error.LacksPolicy qs s =
    Each IsSound qs × (¬ AnyOf LacksRelation (parts [] s)) × AnyOf (ReadsUncovered qs) (parts [] s)
IsGuardRefusal error.NoMemory qs s = ⊤

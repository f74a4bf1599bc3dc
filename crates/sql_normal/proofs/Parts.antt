-- Parts that have a text whatever stands in them: what a select statement of a table's columns and of conditions on them asks.
use Rattle.std.proofs.Common.{◌≡◌, ◌≤◌, ◌<◌, ℕ, true, ⊎_elim, List, [], ◌∷◌, map, Bool, false, None, inl}
use Rattle.std.proofs.lemmas.Bool.{cases_lt}
use Rattle.sql_dialect.specs.Written.{numbers, MAX_BINDS}
use Rattle.sql_dialect.specs.declared.backend.Dialect.{Dialect}
use Rattle.sql_schema.specs.Columns.{DeclaredColumn}
use Rattle.sql_schema.specs.declared.declaration.TableDecl.{TableDecl}
use Rattle.sql_leaf.specs.declared.limit_offset.LimitOffsetClause.{LimitOffsetClause}
use Rattle.sql_leaf.specs.declared.locking.LockingClause.TheVariants.{NoLockingClause}
use Rattle.sql_leaf.specs.declared.marks.Marks.{Marks}
use Rattle.sql_node.specs.Tree.{Expr, list, nullable, compared, joined, MaybeExpr, no_expr, of_table, from, every, no_order, unboxed, select}
use Rattle.sql_node.specs.View.{column_of, exprs_of}
use Rattle.sql_leaf.specs.declared.operator.Comparison.{Comparison}
use Rattle.sql_leaf.specs.declared.operator.Logic.{Logic}
use Rattle.sql_normal.specs.inside.HasText.{IsSingle, HasElement, ExprHasText, ExprsHaveText, MaybeHasText, PageHasText, HasText, HasNumbers}

-- an operand
abbrev pub Operand : Dialect → Expr → Type 0
Operand d e = IsSingle e × ExprHasText d e

pub compared-operand : (d : Dialect) (by : Comparison) (a b : Expr) → Operand d a → Operand d b
    → Operand d (compared by a b)
compared-operand d by a b h k = (tt, (h, k))

pub joined-operand : (d : Dialect) (by : Logic) (a b : Expr) → Operand d a → Operand d b → Operand d (joined by a b)
joined-operand d by a b h k = (tt, (h, k))

pub columns-have-text : (d : Dialect) (cs : List DeclaredColumn) → ExprsHaveText d (exprs_of (map column_of cs))
columns-have-text d [] = tt
columns-have-text d (c ∷ cs) = (tt, columns-have-text d cs)

pub list-has-element : (c : DeclaredColumn) (cs : List DeclaredColumn)
    → HasElement (list (exprs_of (map column_of (c ∷ cs))))
list-has-element c cs = inl tt

-- a selection from one table, with a condition, a limit and an offset
pub table-select : (d : Dialect) (default : Bool) (e : Expr) (t : TableDecl) (w : MaybeExpr) (rows : LimitOffsetClause)
    (marks : Marks)
    → HasElement e → ExprHasText d e → MaybeHasText d w → PageHasText d false rows.limit_clause rows.offset_clause
    → HasText d
    (select default e (from (of_table t false None)) every w no_order rows no_expr no_expr (unboxed NoLockingClause)
    marks)
table-select d default e t w rows marks some h k page = (tt, (some, h), (tt, tt), k, tt, tt, tt, page, tt)

-- what is no list has an element
pub single-has-element : (e : Expr) → IsSingle e → HasElement e
single-has-element (list es) h = absurd h
single-has-element (nullable e) h = single-has-element e h
single-has-element _ h = tt

-- ## Numbers for placeholders

pub few-have-numbers : (d : Dialect) (n : ℕ) → n ≤ MAX_BINDS → HasNumbers d n
few-have-numbers d n h t = h

-- as where a walk runs out of placeholders
pub not-too-many : (d : Dialect) (n : ℕ) → ((numbers d ≡ true) × (MAX_BINDS < n) → ⊥) → HasNumbers d n
not-too-many d n h t = ⊎_elim (λ l. absurd (h (t, l))) (λ l. l) (cases_lt MAX_BINDS n)

-- Fields of an alias.
use Rattle.std.proofs.Common.{◌≡◌, ◌≢◌, ℕ, List, [], ◌∷◌, map, Bool, true, false, if◌then◌else◌, refl, ap}
use Rattle.sql_schema.specs.declared.declaration.ColumnDecl.{ColumnDecl}
use Rattle.sql_schema.specs.declared.declaration.TableDecl.{TableDecl}
use Rattle.sql_node.specs.Tree.{Origin, Expr, column, value, list, count_star, nullable, unary, count, compared, joined, exists, single, among_values, among_rows, Exprs, no_exprs, more_exprs}
use Rattle.sql_node.specs.View.{exprs_of}
use Rattle.sql_source.specs.Fields.{aliased, fields_in, fields_in_each}
use Rattle.sql_origin.specs.Origins.{a_table, an_alias, same_origin}
use Rattle.sql_origin.proofs.OriginLaws.{same-origin_itself, other-origin}

-- an alias is no table
aliased-twice : (a : List ℕ) (t : TableDecl) (o : Origin) → aliased a t (aliased a t o) ≡ aliased a t o
aliased-twice a t o = by_test (same_origin (a_table t) o) refl
  where
    by_test : (b : Bool) → same_origin (a_table t) o ≡ b
        → aliased a t (if b then an_alias a o.table else o) ≡ (if b then an_alias a o.table else o)
    by_test true e = refl
    by_test false e = ap (λ b. if b then an_alias a o.table else o) e

mutual
  pub twice-once : (a : List ℕ) (t : TableDecl) (e : Expr) → fields_in a t (fields_in a t e) ≡ fields_in a t e
  twice-once a t (column o c) = ap (λ p. column p c) (aliased-twice a t o)
  twice-once a t (value ty x) = refl
  twice-once a t (list es) = ap list (twice-once_each a t es)
  twice-once a t count_star = refl
  twice-once a t (nullable e) = ap nullable (twice-once a t e)
  twice-once a t (unary n e) = ap (unary n) (twice-once a t e)
  twice-once a t (count e) = ap count (twice-once a t e)
  twice-once a t (compared by l r) =
      let p = twice-once a t l in let q = twice-once a t r in λ i. compared by (p i) (q i)
  twice-once a t (joined by l r) = let p = twice-once a t l in let q = twice-once a t r in λ i. joined by (p i) (q i)
  twice-once a t (exists q) = refl
  twice-once a t (single q) = refl
  twice-once a t (among_values n e ty xs) = ap (λ x. among_values n x ty xs) (twice-once a t e)
  twice-once a t (among_rows n e q) = ap (λ x. among_rows n x q) (twice-once a t e)

  twice-once_each : (a : List ℕ) (t : TableDecl) (es : Exprs)
      → fields_in_each a t (fields_in_each a t es) ≡ fields_in_each a t es
  twice-once_each a t no_exprs = refl
  twice-once_each a t (more_exprs e es) =
      let p = twice-once a t e in let q = twice-once_each a t es in λ i. more_exprs (p i) (q i)

pub own-field : (a : List ℕ) (t : TableDecl) (c : ColumnDecl)
    → fields_in a t (column (a_table t) c) ≡ column (an_alias a t) c
own-field a t c = ap (λ b. column (if b then an_alias a t else a_table t) c) (same-origin_itself (a_table t))

pub other-column : (a : List ℕ) (t other : TableDecl) (c : ColumnDecl) → t ≢ other
    → fields_in a t (column (a_table other) c) ≡ column (a_table other) c
other-column a t other c n =
    ap (λ b. column (if b then an_alias a other else a_table other) c)
    (other-origin (a_table t) (a_table other) (λ e. n (ap (λ o. o.table) e)))

pub other-field : (a b : List ℕ) (t other : TableDecl) (c : ColumnDecl)
    → fields_in a t (column (an_alias b other) c) ≡ column (an_alias b other) c
other-field a b t other c = refl

-- ---- lists

pub fields-map : (a : List ℕ) (t : TableDecl) (es : List Expr)
    → exprs_of (map (fields_in a t) es) ≡ fields_in_each a t (exprs_of es)
fields-map a t [] = refl
fields-map a t (e ∷ es) = ap (λ x. more_exprs (fields_in a t e) x) (fields-map a t es)

pub ruleset fields = (fields-map)

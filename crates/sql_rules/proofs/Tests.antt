-- Tests for equality of tables, origins and columns, as answers of functions and over lists.
use Rattle.std.proofs.Common.{◌≡◌, Bool, ◌&&◌, List, [], ◌∷◌, inl, inr}
use Rattle.std.specs.Bool.{Decides}
use Rattle.std.specs.List.{list_any}
use Rattle.std.proofs.lemmas.Bool.Decides.{Decides-at, Decides-and, Decides-like}
use Rattle.sql_schema.specs.Equality.{same_table, same_column}
use Rattle.sql_schema.specs.declared.declaration.ColumnDecl.{ColumnDecl}
use Rattle.sql_schema.specs.declared.declaration.TableDecl.{TableDecl}
use Rattle.sql_node.specs.Tree.{Origin}
use Rattle.sql_origin.proofs.OriginLaws.{table-decides, origin-decides, column-decides}
use Rattle.sql_origin.specs.Origins.{same_origin}
use Rattle.sql_rules.specs.Lists.{AnyOf}
use Rattle.sql_rules.proofs.Loops.{any-decides}

pub table-any : (t : TableDecl) (ts : List TableDecl)
    → Decides (list_any (λ u. same_table u t) ts) (AnyOf (λ u. u ≡ t) ts)
table-any t = any-decides (λ u. u ≡ t) (λ u. same_table u t) (λ u. table-decides u t)

pub column-any : (c : ColumnDecl) (cs : List ColumnDecl)
    → Decides (list_any (λ d. same_column d c) cs) (AnyOf (λ d. d ≡ c) cs)
column-any c = any-decides (λ d. d ≡ c) (λ d. same_column d c) (λ d. column-decides d c)

-- ---- the same, of an answer that a test gave

pub origin-test : (r : Bool) (a b : Origin) → r ≡ same_origin a b → Decides r (a ≡ b)
origin-test r a b e = Decides-at r (same_origin a b) e (origin-decides a b)

pub leaf-test : (r : Bool) (a o : Origin) → r ≡ same_origin a o → Decides r (AnyOf (λ l. l ≡ o) (a ∷ []))
leaf-test r a o e = Decides-like r inl (λ h. elim h [ inl p ↦ p | inr n ↦ absurd n ]) (origin-test r a o e)

pub both-test : (r : Bool) (a b o : Origin) → r ≡ (same_origin a o && same_origin b o) → Decides r ((a ≡ o) × (b ≡ o))
both-test r a b o e =
    Decides-at r (same_origin a o && same_origin b o) e
    (Decides-and (same_origin a o) (same_origin b o) (origin-decides a o) (origin-decides b o))

pub table-test : (r : Bool) (a b : TableDecl) → r ≡ same_table a b → Decides r (a ≡ b)
table-test r a b e = Decides-at r (same_table a b) e (table-decides a b)

pub table-any-test : (r : Bool) (t : TableDecl) (ts : List TableDecl) → r ≡ list_any (λ u. same_table u t) ts
    → Decides r (AnyOf (λ u. u ≡ t) ts)
table-any-test r t ts e = Decides-at r (list_any (λ u. same_table u t) ts) e (table-any t ts)

pub column-any-test : (r : Bool) (c : ColumnDecl) (cs : List ColumnDecl) → r ≡ list_any (λ d. same_column d c) cs
    → Decides r (AnyOf (λ d. d ≡ c) cs)
column-any-test r c cs e = Decides-at r (list_any (λ d. same_column d c) cs) e (column-any c cs)

pub ruleset tests = (origin-test, table-test, table-any-test, column-any-test)

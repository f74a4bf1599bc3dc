-- Paths that stand for columns of their own sources, and trees one after the other.
use Rattle.std.proofs.Common.{◌≡◌, ℕ, zero, suc, ◌+◌, List, [], ◌∷◌, ◌++◌, map, length, Bool, Option, None, Some, refl, sym, ap, ◌∙◌, subst, append_assoc, length-append, arith}
use Rattle.std.proofs.lemmas.List.{append-nil, map-append}
use Rattle.std.specs.Prelude.{slice_get}
use Rattle.sql_dialect.specs.declared.backend.Dialect.{Dialect}
use Rattle.sql_dialect.specs.declared.syntax.ArrayComparison.{ArrayComparison}
use Rattle.sql_dialect.specs.declared.syntax.ArrayComparison.TheVariants.{AnsiSqlArrayComparison, PgStyleArrayComparison}
use Rattle.sql_schema.specs.declared.declaration.TableDecl.{TableDecl}
use Rattle.sql_schema.specs.declared.types.SqlType.{SqlType}
use Rattle.sql_grammar.specs.Tree as g
use Rattle.sql_pass.specs.declared.value.Bound.{Bound}
use Rattle.sql_pass.specs.declared.value.Bound.TheVariants.{Value as OneValue}
use Rattle.sql_pass.specs.declared.value.Value.{Value}
use Rattle.sql_node.specs.Tree.{Origin, Expr}
use Rattle.sql_origin.specs.Origins.{exposed_path}
use Rattle.sql_normal.specs.Filled.{first_name, more_names, column_path, lead, expressions_from, expressions_of, Item, items_from, items_of, among_as, trees}
use Rattle.sql_normal.specs.inside.HasText.{IsSingle}
use Rattle.sql_audit_resolution.specs.Leaves as l
use Rattle.sql_audit_resolution.specs.Leaves.{Backwards, backwards, Level}
use Rattle.sql_audit_resolution.specs.Meant.{meaning}
use Rattle.sql_audit_resolution.specs.Uses as u
use Rattle.sql_audit_resolution.specs.Uses.{Use}
use Rattle.sql_audit_resolution.specs.declared.column_use.ColumnUse.{ColumnUse}
use Rattle.sql_audit_resolution.specs.declared.column_use.Meaning.TheVariants.{Column}
use Rattle.sql_audit_law.specs.Own.{AllPairs, IsOwn, Owned, kept}
use Rattle.sql_audit_law.proofs.Pairs.{both, pairs_append, get_front, get_back}
use Rattle.sql_audit_law.proofs.Places.{in_trees, alone}
use Rattle.sql_audit_law.proofs.Sought.{exposed, path_of}

-- ## Leaves by their numbers

-- these sources are those of the text's leaves from number n on
abbrev pub AreAt : List Origin → ℕ → List Origin → Type 0
AreAt os n xs = (k : ℕ) (o : Origin) → slice_get xs k ≡ Some o → slice_get os (n + k) ≡ Some o

pub at-front : (os : List Origin) (n : ℕ) (xs ys : List Origin) → AreAt os n (xs ++ ys) → AreAt os n xs
at-front os n xs ys h = λ k o e. h k o (get_front xs ys k o e)

pub at-back : (os : List Origin) (n : ℕ) (xs ys : List Origin) (m : ℕ) → m ≡ length xs → AreAt os n (xs ++ ys)
    → AreAt os (n + m) ys
at-back os n xs ys m is h =
    λ k o e.
    let z : n + m + k ≡ n + (length xs + k) = omega arith in
    ap (slice_get os) z ∙ h (length xs + k) o (get_back xs ys k o e)

-- ## Uses

-- the paths stand for columns, each of its own source
abbrev pub Stand : List TableDecl → List Origin → List Use → List Owned → Type 0
Stand ts os uses cs =
    (us : List ColumnUse) × (map (meaning ts) uses ≡ map Column us) × AllPairs (IsOwn os) us cs

pub stand-none : (ts : List TableDecl) (os : List Origin) → Stand ts os [] []
stand-none ts os = ([], refl, tt)

pub stand-append : (ts : List TableDecl) (os : List Origin) (xs ys : List Use) (cs ds : List Owned)
    → Stand ts os xs cs → Stand ts os ys ds → Stand ts os (xs ++ ys) (cs ++ ds)
stand-append ts os xs ys cs ds p q = (
  p.0 ++ q.0,
  map-append (meaning ts) xs ys ∙ both p.1 q.1 ∙ sym (map-append Column p.0 q.0),
  pairs_append (IsOwn os) p.0 cs q.0 ds p.2 q.2,
)

pub stand-same : (ts : List TableDecl) (os : List Origin) (xs ys : List Use) (cs : List Owned) → xs ≡ ys
    → Stand ts os ys cs → Stand ts os xs cs
stand-same ts os xs ys cs e p = subst (λ zs. Stand ts os zs cs) (sym e) p

-- ## Trees one after the other

abbrev pub uses_trees : List Level → ℕ → List (g.Expression Bound) → List Use
uses_trees ls n [] = []
uses_trees ls n (t ∷ ts) = u.uses_expression ls n t ++ uses_trees ls (n + length (l.tables_expression t)) ts

abbrev pub uses_item_trees : List Level → ℕ → List Item → List Use
uses_item_trees ls n [] = []
uses_item_trees ls n (i ∷ is) = u.uses_expression ls n i.0 ++ uses_item_trees ls (n + length (l.tables_expression i.0)) is

pub trees-append : (ls : List Level) (n : ℕ) (xs ys : List (g.Expression Bound))
    → uses_trees ls n (xs ++ ys) ≡ uses_trees ls n xs ++ uses_trees ls (n + length (in_trees xs)) ys
trees-append ls n [] ys =
    let z : n ≡ n + zero = omega arith in
    ap (λ m. uses_trees ls m ys) z
trees-append ls n (x ∷ xs) ys =
    let m = n + length (l.tables_expression x) in
    let z : m + length (in_trees xs) ≡ n + length (l.tables_expression x ++ in_trees xs) =
    let e = length-append (l.tables_expression x) (in_trees xs) in omega arith in
    ap (λ us. u.uses_expression ls n x ++ us) (trees-append ls m xs ys)
    ∙ sym (append_assoc (u.uses_expression ls n x) (uses_trees ls m xs) (uses_trees ls (m + length (in_trees xs)) ys))
    ∙ ap (λ k. (u.uses_expression ls n x ++ uses_trees ls m xs) ++ uses_trees ls k ys) z

from-trees : (ls : List Level) (n : ℕ) (t : g.Expression Bound) (ts : List (g.Expression Bound))
    → u.uses_expressions ls n (expressions_from t ts) ≡ uses_trees ls n (t ∷ ts)
from-trees ls n t [] = sym (append-nil (u.uses_expression ls n t))
from-trees ls n t (s ∷ ss) =
    ap (λ us. u.uses_expression ls n t ++ us) (from-trees ls (n + length (l.tables_expression t)) s ss)

pub expressions-trees : (ls : List Level) (n : ℕ) (ts : List (g.Expression Bound))
    → u.uses_expressions ls n (expressions_of ts) ≡ uses_trees ls n ts
expressions-trees ls n [] = refl
expressions-trees ls n (t ∷ ts) = from-trees ls n t ts

from-items : (ls : List Level) (n : ℕ) (i : Item) (is : List Item)
    → u.uses_items ls n (items_from i is) ≡ uses_item_trees ls n (i ∷ is)
from-items ls n i [] = sym (append-nil (u.uses_expression ls n i.0))
from-items ls n i (j ∷ js) =
    ap (λ us. u.uses_expression ls n i.0 ++ us) (from-items ls (n + length (l.tables_expression i.0)) j js)

pub items-trees : (ls : List Level) (n : ℕ) (is : List Item)
    → u.uses_items ls n (items_of is) ≡ uses_item_trees ls n is
items-trees ls n [] = refl
items-trees ls n (i ∷ is) = from-items ls n i is

-- the one tree of an operand
pub lone : (d : Dialect) (ls : List Level) (n : ℕ) (e : Expr) → IsSingle e
    → u.uses_expression ls n (lead (trees d e)) ≡ uses_trees ls n (trees d e)
lone d ls n e h =
    sym (append-nil (u.uses_expression ls n (lead (trees d e)))) ∙ sym (ap (uses_trees ls n) (alone d e h))

-- a tree alone
pub one-tree : (ls : List Level) (n : ℕ) (t : g.Expression Bound)
    → uses_trees ls n (t ∷ []) ≡ u.uses_expression ls n t
one-tree ls n t = append-nil (u.uses_expression ls n t)

-- ## A column's path

path-back : (alias : Option (List ℕ)) (t : TableDecl) (schema : Option (List ℕ)) → t.schema ≡ schema → (c : List ℕ)
    → (ls : List Level) (n : ℕ)
    → u.uses_expression ls n (column_path alias t c)
    ≡ record { path = c ∷ exposed (record { alias = alias; table = t }); levels = ls } ∷ []
path-back None t None e c ls n =
    ap (λ (s : Option (List ℕ)).
    u.uses_expression ls n (column_path None (record t { schema = s }) c)) e
    ∙ ap (λ (s : Option (List ℕ)).
    record { path = c ∷ exposed (record { alias = None; table = record t { schema = s } }); levels = ls } ∷ []) (sym e)
path-back None t (Some s) e c ls n =
    ap (λ (s : Option (List ℕ)).
    u.uses_expression ls n (column_path None (record t { schema = s }) c)) e
    ∙ ap (λ (s : Option (List ℕ)).
    record { path = c ∷ exposed (record { alias = None; table = record t { schema = s } }); levels = ls } ∷ []) (sym e)
path-back (Some a) t schema e c ls n = refl

pub column-use : (o : Origin) (c : List ℕ) (ls : List Level) (n : ℕ)
    → u.uses_expression ls n (column_path o.alias o.table c) ≡ record { path = c ∷ exposed o; levels = ls } ∷ []
column-use o c ls n = path-back o.alias o.table o.table.schema refl c ls n

-- what stands before IN
pub among-stands : (ts : List TableDecl) (os : List Origin) (ls : List Level) (n : ℕ) (form : ArrayComparison)
    (negated : Bool) (x : g.Expression Bound) (all : Bound) (t : SqlType) (vs : List Value) (xs : List Origin)
    (cs : List Owned)
    → AreAt os n (kept form vs xs) → (AreAt os n xs → Stand ts os (u.uses_expression ls n x) cs)
    → Stand ts os (u.uses_expression ls n (among_as form negated x all (map (OneValue t) vs))) (kept form vs cs)
among-stands ts os ls n PgStyleArrayComparison negated x all t vs xs cs at h = h at
among-stands ts os ls n AnsiSqlArrayComparison negated x all t [] xs cs at h = stand-none ts os
among-stands ts os ls n AnsiSqlArrayComparison negated x all t (v ∷ vs) xs cs at h = h at

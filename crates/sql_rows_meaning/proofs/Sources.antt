-- The rows of a source: each leaf's row fits the columns of its table, or is NULL throughout where the leaf may be
-- missing.
use Rattle.std.proofs.Common.{◌≡◌, suc, Bool, true, false, List, [], ◌∷◌, map, refl, sym, subst, ◌∙◌, inl, inr, ◌⊎◌, arith, if◌then◌else◌, IsTrue}
use Rattle.std.specs.List.{AllZip}
use Rattle.std.proofs.lemmas.Bool.{true≢false}
use Rattle.std.proofs.lemmas.Bool.Decides.{Decides-ltb}
use Rattle.sql_schema.specs.Equality.{same_column}
use Rattle.sql_schema.specs.Declarations.{Declarations}
use Rattle.sql_schema.specs.declared.declaration.ColumnDecl.{ColumnDecl}
use Rattle.sql_schema.specs.declared.declaration.TableDecl.{TableDecl}
use Rattle.sql_schema.specs.declared.types.SqlType.{SqlType}
use Rattle.sql_pass.specs.declared.value.Value.TheVariants as V
use Rattle.sql_leaf.specs.declared.table_source.JoinKind.{JoinKind}
use Rattle.sql_leaf.specs.declared.table_source.JoinKind.TheVariants.{Inner, LeftOuter}
use Rattle.sql_node.specs.Tree.{Origin, Source, of_table, of_alias, join, From, no_source, from}
use Rattle.sql_origin.specs.Leaves.{Leaf, leaves, in_right_side, is_padded}
use Rattle.sql_origin.specs.Origins.{a_table, an_alias, same_origin}
use Rattle.sql_rules.specs.Lists.{AnyOf, Each}
use Rattle.sql_rules.specs.Rules.{IsTable, IsColumn, IsSeen}
use Rattle.sql_rules.specs.Scope.{leaves_of}
use Rattle.sql_origin.proofs.OriginLaws.{origin-decides, column-decides}
use Rattle.sql_rows_meaning.specs.Answers.{SourceRows, FromRows, rows_as, is_partial}
use Rattle.sql_rows_meaning.specs.Fitting.{RowFits, Conforms}
use Rattle.sql_rows_meaning.specs.Frames.{Database, Frame, row_of, value_in, value_of, nulls}
use Rattle.sql_rows_meaning.specs.Rows.{Row, NullPlaces}
use Rattle.sql_rows_meaning.proofs.Facts.{Fits, Fit}
use Rattle.sql_rows_meaning.proofs.Lists.{Each-front, Each-end, Each-map, Each-unmap, IsPart-each, AllZip-append, AllZip-map, Joined-each}

abbrev pub types_in : TableDecl → List SqlType
types_in t = map (λ c. c.ty) t.columns

-- what the row of one leaf is
pub record LeafFits (l : Leaf) (entry : Origin × Row) : Type 0 where
  pub same : entry.0 ≡ l.origin
  pub row : RowFits (types_in l.origin.table) entry.1 ⊎ IsTrue (is_padded l) × Each (λ v. v ≡ V.Null) entry.1

abbrev pub FrameFits : List Leaf → Frame → Type 0
FrameFits ls f = AllZip LeafFits ls f

abbrev pub AreDeclared : Declarations → List Leaf → Type 0
AreDeclared schema ls = Each (λ l. IsTable schema l.origin.table) ls

nulls_null : (cs : List ColumnDecl) → Each (λ v. v ≡ V.Null) (map (λ c. V.Null) cs)
nulls_null [] = tt
nulls_null (c ∷ cs) = (refl, nulls_null cs)

right_padded : (l : Leaf) → IsTrue (is_padded (in_right_side LeftOuter l))
right_padded l = (Decides-ltb 0 (suc l.paddings)).1 (omega arith)

-- the same of a leaf in a right side
in_right : (kind : JoinKind) (l : Leaf) (entry : Origin × Row) → LeafFits l entry
    → LeafFits (in_right_side kind l) entry
in_right Inner l entry h = h
in_right LeftOuter l entry h = record { same = h.same; row = go h.row }
  where
    go : RowFits (types_in l.origin.table) entry.1 ⊎ IsTrue (is_padded l) × Each (λ v. v ≡ V.Null) entry.1
        → RowFits (types_in l.origin.table) entry.1
        ⊎ IsTrue (is_padded (in_right_side LeftOuter l)) × Each (λ v. v ≡ V.Null) entry.1
    go (inl r) = inl r
    go (inr r) = inr (right_padded l, r.1)

right-fits : (kind : JoinKind) (ls : List Leaf) (f : Frame) → FrameFits ls f → FrameFits (map (in_right_side kind) ls) f
right-fits kind ls f h = AllZip-map LeafFits LeafFits (in_right_side kind) (in_right kind) ls f h

nulls-fit : (ls : List Leaf) → FrameFits (map (in_right_side LeftOuter) ls) (nulls ls)
nulls-fit [] = tt
nulls-fit (l ∷ ls) =
    (record { same = refl; row = inr (right_padded l, nulls_null l.origin.table.columns) }, nulls-fit ls)

padding-fits : (kind : JoinKind) (ls : List Leaf) → kind ≡ LeftOuter
    → FrameFits (map (in_right_side kind) ls) (nulls ls)
padding-fits Inner ls e = absurd cc
padding-fits LeftOuter ls e = nulls-fit ls

declared_right : (schema : Declarations) (kind : JoinKind) (l : Leaf)
    → IsTable schema (in_right_side kind l).origin.table
    → IsTable schema l.origin.table
declared_right schema Inner l h = h
declared_right schema LeftOuter l h = h

-- the rows of a table that the schema declares
table-rows : (Q : TableDecl → Type 0) (t : TableDecl) (ts : List TableDecl) → AnyOf (λ u. u ≡ t) ts → Each Q ts → Q t
table-rows Q t [] h k = absurd h
table-rows Q t (u ∷ ts) (inl e) k = subst Q e k.0
table-rows Q t (u ∷ ts) (inr h) k = table-rows Q t ts h k.1

leaf-rows : (db : Database) (o : Origin) (may_lack : Bool) (l : Leaf) → l.origin ≡ o → (rows : List Frame)
    → Each (RowFits (types_in o.table)) (db o.table)
    → Each (FrameFits (l ∷ [])) (rows_as o (db o.table))
leaf-rows db o may_lack l e rows h =
    Each-map (RowFits (types_in o.table)) (FrameFits (l ∷ [])) (λ row. (o, row) ∷ [])
    (λ row fits. (record { same = sym e; row = inl (subst (λ p. RowFits (types_in p.table) row) (sym e) fits) }, tt))
    (db o.table) h

pub source-fits : (places : NullPlaces) (schema : Declarations) (db : Database) → Conforms schema db
    → (s : Source) (rows : List Frame)
    → AreDeclared schema (leaves s) → SourceRows places s db rows → Each (FrameFits (leaves s)) rows
source-fits places schema db ok (of_table t only sample) rows h g =
    IsPart-each _ (is_partial only sample) _ rows g
    (leaf-rows db (a_table t) false (record { origin = a_table t; paddings = 0 }) refl rows
    (table-rows (λ u. Each (RowFits (types_in u)) (db u)) t schema.tables h.0 ok))
source-fits places schema db ok (of_alias a t) rows h g =
    IsPart-each _ false _ rows g
    (leaf-rows db (an_alias a t) false (record { origin = an_alias a t; paddings = 0 }) refl rows
    (table-rows (λ u. Each (RowFits (types_in u)) (db u)) t schema.tables h.0 ok))
source-fits places schema db ok (join kind l r on) rows h g =
    let right = Each-unmap (λ x. IsTable schema x.origin.table) (λ x. IsTable schema x.origin.table)
    (in_right_side kind) (declared_right schema kind) (leaves r)
    (Each-end (λ x. IsTable schema x.origin.table) (leaves l) (map (in_right_side kind) (leaves r)) h) in
    let left = Each-front (λ x. IsTable schema x.origin.table) (leaves l) (map (in_right_side kind) (leaves r)) h in
    Joined-each (FrameFits (leaves l)) (FrameFits (leaves r)) (FrameFits (leaves (join kind l r on))) kind
    (nulls (leaves r)) g.1
    (λ x y p q. AllZip-append LeafFits (leaves l) (map (in_right_side kind) (leaves r)) x y p
    (right-fits kind (leaves r) y q))
    (λ x outer p. AllZip-append LeafFits (leaves l) (map (in_right_side kind) (leaves r)) x (nulls (leaves r)) p
    (padding-fits kind (leaves r) outer))
    (source-fits places schema db ok r g.1 right g.3)
    g.4
    (source-fits places schema db ok l g.0 left g.2)

pub from-fits : (places : NullPlaces) (schema : Declarations) (db : Database) → Conforms schema db
    → (s : From) (rows : List Frame)
    → AreDeclared schema (leaves_of s) → FromRows places s db rows → Each (FrameFits (leaves_of s)) rows
from-fits places schema db ok no_source rows h g = rw g (tt, tt)
from-fits places schema db ok (from s) rows h g = source-fits places schema db ok s rows h g

-- ---- the value of a column

value_in-fits : (c : ColumnDecl) (cs : List ColumnDecl) (row : Row) → RowFits (map (λ d. d.ty) cs) row
    → AnyOf (λ d. d ≡ c) cs
    → Fits c.ty (value_in c cs row)
value_in-fits c [] row h e = absurd e
value_in-fits c (d ∷ ds) [] h e = absurd h
value_in-fits c (d ∷ ds) (v ∷ vs) h e = go (same_column d c) refl e (value_in-fits c ds vs h.1)
  where
    go : (b : Bool) → same_column d c ≡ b → (d ≡ c) ⊎ AnyOf (λ x. x ≡ c) ds
        → (AnyOf (λ x. x ≡ c) ds → Fits c.ty (value_in c ds vs)) → Fits c.ty (if b then v else value_in c ds vs)
    go true t e rest = subst (λ x. Fits x.ty v) ((column-decides d c).0 t) h.0
    go false t (inl p) rest = absurd (true≢false (sym ((column-decides d c).1 p) ∙ t))
    go false t (inr p) rest = rest p

pub value_in-null : (c : ColumnDecl) (cs : List ColumnDecl) (row : Row) → Each (λ v. v ≡ V.Null) row → value_in c cs row
    ≡ V.Null
value_in-null c [] row h = refl
value_in-null c (d ∷ ds) [] h = refl
value_in-null c (d ∷ ds) (v ∷ vs) h = go (same_column d c) (value_in-null c ds vs h.1)
  where
    go : (b : Bool) → value_in c ds vs ≡ V.Null → (if b then v else value_in c ds vs) ≡ V.Null
    go true rest = h.0
    go false rest = rest

-- the rows of the table or alias may be missing
abbrev pub IsMissing : List Leaf → Origin → Type 0
IsMissing ls o = AnyOf (λ l. (l.origin ≡ o) × IsTrue (is_padded l)) ls

pub column-fits : (o : Origin) (c : ColumnDecl) → IsColumn o.table c → (ls : List Leaf) (f : Frame) → FrameFits ls f
    → IsSeen (map (λ l. l.origin) ls) o → Fit (IsMissing ls o) c.ty (value_of o c f)
column-fits o c e [] f h seen = absurd seen
column-fits o c e (l ∷ ls) [] h seen = absurd h
column-fits o c e (l ∷ ls) (entry ∷ f) h seen = go (same_origin o entry.0) refl seen (column-fits o c e ls f h.1)
  where
    here : o ≡ l.origin
        → RowFits (types_in l.origin.table) entry.1 ⊎ IsTrue (is_padded l) × Each (λ v. v ≡ V.Null) entry.1
        → Fit (IsMissing (l ∷ ls) o) c.ty (value_in c o.table.columns entry.1)
    here p (inl r) =
        inl (value_in-fits c o.table.columns entry.1 (subst (λ x. RowFits (types_in x.table) entry.1) (sym p) r) e)
    here p (inr r) = inr (value_in-null c o.table.columns entry.1 r.1, inl (sym p, r.0))

    there : Fit (IsMissing ls o) c.ty (value_of o c f) → Fit (IsMissing (l ∷ ls) o) c.ty (value_of o c f)
    there (inl x) = inl x
    there (inr x) = inr (x.0, inr x.1)

    go : (b : Bool) → same_origin o entry.0 ≡ b → (l.origin ≡ o) ⊎ AnyOf (λ x. x ≡ o) (map (λ x. x.origin) ls)
        → (IsSeen (map (λ x. x.origin) ls) o → Fit (IsMissing ls o) c.ty (value_of o c f))
        → Fit (IsMissing (l ∷ ls) o) c.ty (value_in c o.table.columns (if b then entry.1 else row_of o f))
    go true t found rest = here ((origin-decides o entry.0).0 t ∙ h.0.same) h.0.row
    go false t (inl p) rest = absurd (true≢false (sym ((origin-decides o entry.0).1 (sym p ∙ sym h.0.same)) ∙ t))
    go false t (inr p) rest = there (rest p)

-- Rows of a source and what passes WHERE, over the whole database and over the cut one.
use Rattle.std.proofs.Common.{◌≡◌, Bool, true, false, ◌&&◌, List, [], ◌∷◌, ◌++◌, refl, sym, ap, ap₂, subst, ◌∙◌, if◌then◌else◌, filter, inl, inr}
use Rattle.std.proofs.lemmas.Bool.{true≢false}
use Rattle.sql_schema.specs.Equality.{same_table}
use Rattle.sql_schema.specs.Declarations.{Declarations}
use Rattle.sql_schema.specs.declared.declaration.TableDecl.{TableDecl}
use Rattle.sql_schema.proofs.EqualityLaws.{exact-table}
use Rattle.sql_dialect.specs.declared.backend.Dialect.{Dialect}
use Rattle.sql_leaf.specs.declared.table_source.JoinKind.TheVariants.{Inner}
use Rattle.sql_leaf.specs.declared.limit_offset.LimitOffsetClause.{LimitOffsetClause}
use Rattle.sql_leaf.specs.declared.marks.Marks.{Marks}
use Rattle.sql_node.specs.Tree.{Origin, Form, unboxed, boxed, Expr, MaybeExpr, an_expr, Source, join, From, no_source, from, Distinct, Order, select}
use Rattle.sql_origin.specs.Origins.{a_table}
use Rattle.sql_origin.proofs.OriginLaws.{same-origin_itself, table-decides}
use Rattle.sql_rules.specs.Lists.{Each}
use Rattle.sql_rules.specs.Scope.{View, parts, origins_of, ons_of, distinct_clause}
use Rattle.sql_rules.specs.Rules.{IsIllTypedClause}
use Rattle.sql_rules.specs.declared.rule.Rule.TheVariants as R
use Rattle.sql_rows_meaning.specs.Answers.{Holds, SourceRows, FromRows, rows_as, first_value}
use Rattle.sql_rows_meaning.specs.Frames.{Database, Frame, row_of, where_sees}
use Rattle.sql_rows_meaning.specs.Groups.{Group, alone, one_row}
use Rattle.sql_rows_meaning.specs.Rows.{Row, NullPlaces, Filtered}
use Rattle.sql_rows_meaning.specs.Values.{is_true}
use Rattle.sql_rows_meaning.proofs.Functional.{Filtered-is}
use Rattle.sql_rows_meaning.proofs.Kept.{Clean, in_widest}
use Rattle.sql_rows_meaning.proofs.Lists.{Each-weaken}
use Rattle.sql_guard_law.specs.Guarded.{guarded_maybe, guarded_source, guarded_from}
use Rattle.sql_guard_law.specs.Restricted.{predicates_from, with_all, open_leaves, if_same}
use Rattle.sql_guard_law.specs.Tenant.{IsCut}
use Rattle.sql_guard_law.proofs.Cuts.{narrowed, widened}
use Rattle.sql_guard_law.proofs.Evaluate.{eval, true_at, holds-true, aimed, aimed-eval, aimed-own}
use Rattle.sql_guard_law.proofs.Filters.{filter-map, filter-same, filter-all, Each-always}
use Rattle.sql_guard_law.proofs.GuardedShapes.{source_leaves-same, sees-same}
use Rattle.sql_guard_law.proofs.Leaves.{IsFit, Named, names, source_leaves, is_among, rows-named, Each-open, open-among, pass, pass-append, pass-left, pass-right, added-of, added-to, and_yes}
use Rattle.sql_guard_law.proofs.Plain.{IsPlainFrom, from-plain, free_left, free_right}

abbrev pub open_from : TableDecl → From → List Origin
open_from t no_source = []
open_from t (from s) = open_leaves t s

abbrev pub from_leaves : From → List Origin
from_leaves no_source = []
from_leaves (from s) = source_leaves s

-- the test of the predicates that a source leaves for WHERE
abbrev pub passes_open : TableDecl → Expr → Source → Frame → Bool
passes_open t p s f = pass p (open_leaves t s) f

pass-sees : (t : TableDecl) (p : Expr) (form : Form) (f : From) (row outer : Frame) → names row ≡ from_leaves f
    → pass p (open_from t f) (where_sees form f row outer) ≡ pass p (open_from t f) row
pass-sees t p (unboxed l) no_source row outer n = refl
pass-sees t p (unboxed l) (from s) row outer n =
    pass-left p (open_leaves t s) row outer (source_leaves s) n (open-among t s)
pass-sees t p (boxed d b) f row outer n = refl

pub and_met : (a b : Bool) → b ≡ true → (a && b) ≡ a
and_met a b e = ap (λ x. a && x) e ∙ and_yes a

pub and_unmet : (a b : Bool) → b ≡ false → (a && b) ≡ false
and_unmet true b e = e
and_unmet false b e = refl

module _ (places : NullPlaces) (t : TableDecl) (p : Expr) (fit : IsFit t p) (db cut : Database)
    (is_cut : IsCut places t p db cut) (schema : Declarations) (d : Dialect) where
  -- the rows of one leaf over the cut database
  pub leaf_rows : (o : Origin) → rows_as o (cut o.table)
      ≡ filter (λ f. pass p (if_same t o.table o) f) (rows_as o (db o.table))
  leaf_rows o = go (same_table t o.table) refl
    where
      own_row : (k : Origin) (row : Row) → row_of k ((k, row) ∷ []) ≡ row
      own_row k row = rw (same-origin_itself k) refl

      same_test : same_table t o.table ≡ true → (row : Row) → pass p (o ∷ []) ((o, row) ∷ [])
          ≡ true_at (an_expr p) ((a_table t, row) ∷ [])
      same_test e row =
          and_yes (true_at (an_expr (aimed p o)) ((o, row) ∷ []))
          ∙ ap (λ vs. is_true (first_value vs))
          (aimed-eval p o (a_table t) ((o, row) ∷ []) ((a_table t, row) ∷ []) (sym (exact-table t o.table e))
          (own_row o row ∙ sym (own_row (a_table t) row))
          ∙ ap (λ e'. eval e' ((a_table t, row) ∷ [])) (aimed-own t p fit.own))

      kept_are : cut t ≡ filter (λ row. true_at (an_expr p) ((a_table t, row) ∷ [])) (db t)
      kept_are =
          Filtered-is (λ row b. Holds places (an_expr p) db (alone ((a_table t, row) ∷ [])) b)
          (λ row. true_at (an_expr p) ((a_table t, row) ∷ []))
          (λ row b h. holds-true places (an_expr p) db (alone ((a_table t, row) ∷ [])) b fit.test h) is_cut.kept

      go : (b : Bool) → same_table t o.table ≡ b → rows_as o (cut o.table)
          ≡ filter (λ f. pass p (if b then o ∷ [] else []) f) (rows_as o (db o.table))
      go true e =
          ap (rows_as o)
          (subst (λ u. cut u ≡ filter (λ row. true_at (an_expr p) ((a_table t, row) ∷ [])) (db u))
          (exact-table t o.table e) kept_are
          ∙ filter-same (λ row. true_at (an_expr p) ((a_table t, row) ∷ [])) (λ row. pass p (o ∷ []) ((o, row) ∷ []))
          (db o.table)
          (Each-always _ (λ row. sym (same_test e row)) (db o.table)))
          ∙ sym (filter-map (λ f. pass p (o ∷ []) f) (λ row. (o, row) ∷ []) (db o.table))
      go false e =
          ap (rows_as o) (is_cut.others o.table (λ q. true≢false (sym ((table-decides t o.table).1 q) ∙ e)))
          ∙ sym (filter-all (λ f. true) (rows_as o (db o.table)) (Each-always _ (λ f. refl) (rows_as o (db o.table))))

  pub source-named : (s : Source) (rows : List Frame) → SourceRows places (guarded_source t p s) db rows
      → Each (Named s) rows
  source-named s rows g =
      Each-weaken (Named (guarded_source t p s)) (Named s) (λ f h. h ∙ source_leaves-same t p s) rows
      (rows-named places db (guarded_source t p s) rows g)

  pub from-named : (f : From) (rows : List Frame) → FromRows places (guarded_from t p f) db rows
      → Each (λ row. names row ≡ from_leaves f) rows
  from-named no_source rows g = rw g (refl, tt)
  from-named (from s) rows g = source-named s rows g

  pub left_pass : (a : Source) (x y : Frame) → Named a x → passes_open t p a (x ++ y) ≡ passes_open t p a x
  left_pass a x y h = pass-left p (open_leaves t a) x y (source_leaves a) h (open-among t a)

  pub right_pass : (a b : Source) (x y : Frame) → Each (λ o. is_among o (source_leaves a) ≡ false) (source_leaves b)
      → Named a x → passes_open t p b (x ++ y) ≡ passes_open t p b y
  right_pass a b x y apart h =
      pass-right p (open_leaves t b) x y (source_leaves a) h
      (Each-open (λ o. is_among o (source_leaves a) ≡ false) t b apart)

  pub both_pass : (a b : Source) → Each (λ o. is_among o (source_leaves a) ≡ false) (source_leaves b) → (on : MaybeExpr)
      → (x y : Frame) → Named a x → Named b y
      → passes_open t p (join Inner a b on) (x ++ y) ≡ (passes_open t p a x && passes_open t p b y)
  both_pass a b apart on x y h k =
      pass-append p (open_leaves t a) (open_leaves t b) (x ++ y)
      ∙ ap₂ ◌&&◌ (left_pass a x y h) (right_pass a b x y apart h)

  -- a condition with the predicates of a source
  from-of : (f : From) (c : MaybeExpr) (rows : Group) (b : Bool)
      → Holds places (with_all (predicates_from t p f) c) db rows b
      → (a : Bool) × Holds places c db rows a × (b ≡ (a && pass p (open_from t f) (one_row rows)))
  from-of no_source c rows b h = (b, h, sym (and_yes b))
  from-of (from s) c rows b h = added-of places p fit.test db rows t fit.own s c b h

  from-to : (f : From) (c : MaybeExpr) (rows : Group) (a : Bool) → Holds places c db rows a
      → Holds places (with_all (predicates_from t p f) c) db rows (a && pass p (open_from t f) (one_row rows))
  from-to no_source c rows a h = subst (λ b. Holds places c db rows b) (sym (and_yes a)) h
  from-to (from s) c rows a h = added-to places p fit.test db rows t fit.own s c a h

  sees-pass : (form : Form) (f : From) (outer : Frame) (rows : List Frame) → Each (λ row. names row ≡ from_leaves f) rows
      → filter (λ row. pass p (open_from t f) (where_sees form f row outer)) rows ≡ filter (pass p (open_from t f)) rows
  sees-pass form f outer rows h =
      filter-same _ (pass p (open_from t f)) rows (Each-weaken _ _ (λ row n. pass-sees t p form f row outer n) rows h)

  -- what passes WHERE
  pub where-to : (form : Form) (f : From) (w : MaybeExpr) (outer : Frame)
      → ((rows : Group) (b : Bool) → Holds places (guarded_maybe t p w) db rows b → Holds places w cut rows b)
      → (all passing : List Frame) → Each (λ row. names row ≡ from_leaves f) all
      → Filtered (λ row b. Holds places (with_all (predicates_from t p f) (guarded_maybe t p w)) db
      (alone (where_sees form (guarded_from t p f) row outer)) b) all passing
      → Filtered (λ row b. Holds places w cut (alone (where_sees form f row outer)) b)
      (filter (pass p (open_from t f)) all) passing
  where-to form f w outer move all passing named g =
      subst (λ rows. Filtered (λ row b. Holds places w cut (alone (where_sees form f row outer)) b) rows passing)
      (sees-pass form f outer all named)
      (narrowed
      (λ row b. Holds places (with_all (predicates_from t p f) (guarded_maybe t p w)) db
      (alone (where_sees form (guarded_from t p f) row outer)) b)
      (λ row b. Holds places w cut (alone (where_sees form f row outer)) b)
      (λ row. pass p (open_from t f) (where_sees form f row outer))
      (λ row b m e.
      let (i, held, is) = from-of f (guarded_maybe t p w) (alone (where_sees form f row outer)) b
      (subst (λ x. Holds places (with_all (predicates_from t p f) (guarded_maybe t p w)) db (alone x) b)
      (sees-same t p form f row outer) m) in
      move (alone (where_sees form f row outer)) b
      (subst (λ x. Holds places (guarded_maybe t p w) db (alone (where_sees form f row outer)) x)
      (sym (is ∙ and_met i (pass p (open_from t f) (where_sees form f row outer)) e)) held))
      (λ row b m e.
      let (i, held, is) = from-of f (guarded_maybe t p w) (alone (where_sees form f row outer)) b
      (subst (λ x. Holds places (with_all (predicates_from t p f) (guarded_maybe t p w)) db (alone x) b)
      (sees-same t p form f row outer) m) in
      is ∙ and_unmet i (pass p (open_from t f) (where_sees form f row outer)) e)
      g)

  pub where-back : (form : Form) (f : From) (w : MaybeExpr) (outer : Frame)
      → ((rows : Group) (b : Bool) → Holds places w cut rows b → Holds places (guarded_maybe t p w) db rows b)
      → ((rows : Group) → (b : Bool) × Holds places w cut rows b) → (all passing : List Frame)
      → Each (λ row. names row ≡ from_leaves f) all
      → Filtered (λ row b. Holds places w cut (alone (where_sees form f row outer)) b)
      (filter (pass p (open_from t f)) all) passing
      → Filtered (λ row b. Holds places (with_all (predicates_from t p f) (guarded_maybe t p w)) db
      (alone (where_sees form (guarded_from t p f) row outer)) b) all passing
  where-back form f w outer move some all passing named g =
      widened
      (λ row b. Holds places (with_all (predicates_from t p f) (guarded_maybe t p w)) db
      (alone (where_sees form (guarded_from t p f) row outer)) b)
      (λ row b. Holds places w cut (alone (where_sees form f row outer)) b)
      (λ row. pass p (open_from t f) (where_sees form f row outer))
      (λ row b m e.
      subst (λ x. Holds places (with_all (predicates_from t p f) (guarded_maybe t p w)) db (alone x) b)
      (sym (sees-same t p form f row outer))
      (subst (λ x. Holds places (with_all (predicates_from t p f) (guarded_maybe t p w)) db
      (alone (where_sees form f row outer)) x)
      (and_met b (pass p (open_from t f) (where_sees form f row outer)) e)
      (from-to f (guarded_maybe t p w) (alone (where_sees form f row outer)) b
      (move (alone (where_sees form f row outer)) b m))))
      (λ row e.
      let (b, m) = some (alone (where_sees form f row outer)) in
      subst (λ x. Holds places (with_all (predicates_from t p f) (guarded_maybe t p w)) db (alone x) false)
      (sym (sees-same t p form f row outer))
      (subst (λ x. Holds places (with_all (predicates_from t p f) (guarded_maybe t p w)) db
      (alone (where_sees form f row outer)) x)
      (and_unmet b (pass p (open_from t f) (where_sees form f row outer)) e)
      (from-to f (guarded_maybe t p w) (alone (where_sees form f row outer)) b
      (move (alone (where_sees form f row outer)) b m))))
      all passing
      (subst (λ rows. Filtered (λ row b. Holds places w cut (alone (where_sees form f row outer)) b) rows passing)
      (sym (sees-pass form f outer all named)) g)

  -- the source of a select statement that breaks no rule
  pub plain-of : (v : View) (default : Bool) (e : Expr) (f : From) (u : Distinct) (w : MaybeExpr) (o : Order)
      (rows : LimitOffsetClause) (g h : MaybeExpr) (form : Form) (marks : Marks)
      → Clean schema d (parts v (select default e f u w o rows g h form marks)) → IsPlainFrom f
  plain-of v default e f u w o rows g h form marks k =
      from-plain f
      (free_left IsIllTypedClause (ons_of f) _
      (λ i. free_right IsIllTypedClause (distinct_clause (origins_of f) u) _ (λ j. k R.TypeMismatch (inl (inl j)))
      (inr i)))
      (λ i. k R.Ambiguous (inl (in_widest (λ a b. a ≡ b) form f v i)))

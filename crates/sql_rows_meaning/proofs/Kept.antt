-- What a select statement keeps that breaks no rule.
use Rattle.std.proofs.Common.{◌≡◌, Bool, true, false, List, [], ◌∷◌, ◌++◌, map, refl, sym, ◌∙◌, inl, inr}
use Rattle.std.specs.Bool.{Decides}
use Rattle.std.proofs.lemmas.Bool.{false≢true}
use Rattle.sql_schema.specs.Declarations.{Declarations}
use Rattle.sql_schema.specs.declared.declaration.TableDecl.{TableDecl}
use Rattle.sql_dialect.specs.declared.backend.Dialect.{Dialect}
use Rattle.sql_node.specs.Tree.{Origin, Form, unboxed, boxed, Expr, column, value, list, count_star, nullable, unary, count, compared, joined, exists, single, among_values, among_rows, Exprs, no_exprs, more_exprs, From, no_source, from, Statement}
use Rattle.sql_origin.specs.Leaves.{Leaf}
use Rattle.sql_origin.specs.Origins.{same_origin}
use Rattle.sql_rules.specs.Lists.{AnyOf, AnyPair, Each}
use Rattle.sql_rules.specs.Rules.{Accepted, PartBreaks, SelectBreaks, IsTable, IsColumn, IsSeen, IsUnknownColumn, IsOutOfScope, IsIllTyped, IsIllTypedClause, IsPadded, LacksNullable, bare}
use Rattle.sql_rules.specs.Scope.{View, Part, a_select, a_combination, parts, Select, Clause, in_selection, clauses, own, origins, origins_of, leaves_of, widest, nodes, nodes_of, flat, flat_of, distinct_clause}
use Rattle.sql_rules.specs.Types.{fits}
use Rattle.sql_rules.specs.declared.rule.Rule.{Rule}
use Rattle.sql_rules.specs.declared.rule.Rule.TheVariants as R
use Rattle.sql_rules.proofs.Lists.{any_left, any_right}
use Rattle.sql_rules.proofs.Loops.{any_split, any_each, map_any, any-decides}
use Rattle.sql_origin.proofs.OriginLaws.{origin-decides}
use Rattle.sql_rules.proofs.Tests.{table-any, column-any}
use Rattle.sql_rows_meaning.proofs.Sources.{AreDeclared, IsMissing}

-- no rule is broken by a statement among these
abbrev pub Clean : Declarations → Dialect → List Part → Type 0
Clean schema d ps = (r : Rule) → ¬ AnyOf (PartBreaks r schema d) ps

pub Clean-left : (schema : Declarations) (d : Dialect) (ps qs : List Part) → Clean schema d (ps ++ qs)
    → Clean schema d ps
Clean-left schema d ps qs h r i = h r (any_left (PartBreaks r schema d) ps qs i)

pub Clean-right : (schema : Declarations) (d : Dialect) (ps qs : List Part) → Clean schema d (ps ++ qs)
    → Clean schema d qs
Clean-right schema d ps qs h r i = h r (any_right (PartBreaks r schema d) ps qs i)

-- TooManyBinds is of the whole
pub not_counted : (schema : Declarations) (d : Dialect) (ps : List Part) → ¬ AnyOf (PartBreaks R.TooManyBinds schema d) ps
not_counted schema d [] h = h
not_counted schema d (a_select outer s ∷ ps) (inl h) = h
not_counted schema d (a_combination c ∷ ps) (inl h) = h
not_counted schema d (p ∷ ps) (inr h) = not_counted schema d ps h

pub accepted-clean : (schema : Declarations) (d : Dialect) (s : Statement) → Accepted schema d s
    → Clean schema d (parts [] s)
accepted-clean schema d s h R.UnknownName = h R.UnknownName
accepted-clean schema d s h R.Incompatible = h R.Incompatible
accepted-clean schema d s h R.EmptyList = h R.EmptyList
accepted-clean schema d s h R.NoRelation = h R.NoRelation
accepted-clean schema d s h R.Ambiguous = h R.Ambiguous
accepted-clean schema d s h R.NotTogether = h R.NotTogether
accepted-clean schema d s h R.NameClash = h R.NameClash
accepted-clean schema d s h R.NotInScope = h R.NotInScope
accepted-clean schema d s h R.TypeMismatch = h R.TypeMismatch
accepted-clean schema d s h R.NeedsNullable = h R.NeedsNullable
accepted-clean schema d s h R.Grouping = h R.Grouping
accepted-clean schema d s h R.InvalidDistinctOrder = h R.InvalidDistinctOrder
accepted-clean schema d s h R.Unsupported = h R.Unsupported
accepted-clean schema d s h R.TooManyBinds = not_counted schema d (parts [] s)

-- ---- what is tested and does not fail holds

stable : {P : Type 0} (b : Bool) → Decides b P → ¬ ¬ P → P
stable true d n = d.0 refl
stable false d n = absurd (n (λ p. false≢true (d.1 p)))

not_false : (b : Bool) → ¬ (b ≡ false) → b ≡ true
not_false true h = refl
not_false false h = absurd (h refl)

known_table : (schema : Declarations) (t : TableDecl) → ¬ ¬ IsTable schema t → IsTable schema t
known_table schema t n = stable _ (table-any t schema.tables) n

pub known_tables : (schema : Declarations) (ls : List Leaf)
    → ¬ AnyOf (λ o. ¬ IsTable schema o.table) (map (λ l. l.origin) ls)
    → AreDeclared schema ls
known_tables schema [] h = tt
known_tables schema (l ∷ ls) h =
    (known_table schema l.origin.table (λ n. h (inl n)), known_tables schema ls (λ i. h (inr i)))

-- ---- values that do not fit

abbrev pub IsMisfit : Expr → Type 0
IsMisfit (value t x) = fits t x ≡ false
IsMisfit _ = ⊥

misfit_ill : (e : Expr) → IsMisfit e → IsIllTyped e
misfit_ill (value t x) h = h
misfit_ill (column o c) h = absurd h
misfit_ill (list es) h = absurd h
misfit_ill count_star h = absurd h
misfit_ill (nullable e) h = absurd h
misfit_ill (unary n e) h = absurd h
misfit_ill (count e) h = absurd h
misfit_ill (compared by a b) h = absurd h
misfit_ill (joined by a b) h = absurd h
misfit_ill (exists q) h = absurd h
misfit_ill (single q) h = absurd h
misfit_ill (among_values n e t xs) h = absurd h
misfit_ill (among_rows n e q) h = absurd h

abbrev pub IllInside : Expr → Type 0
IllInside e = AnyOf IsIllTyped (nodes e)

pub inside : (e : Expr) → AnyOf IsMisfit (nodes e) → IllInside e
inside e h = any_each IsMisfit IsIllTyped misfit_ill (nodes e) h

under_nullable : (e : Expr) → IllInside e → IllInside (nullable e)
under_nullable e h = inr h

mutual
  misfit_flat : (e : Expr) → AnyOf IsMisfit (nodes e) → AnyOf IllInside (flat e)
  misfit_flat (list es) (inl h) = absurd h
  misfit_flat (list es) (inr h) = misfit_flat_of es h
  misfit_flat (nullable e) (inl h) = absurd h
  misfit_flat (nullable e) (inr h) =
      map_any IllInside nullable (flat e)
      (any_each IllInside (λ x. IllInside (nullable x)) under_nullable (flat e) (misfit_flat e h))
  misfit_flat (column o c) h = inl (inside (column o c) h)
  misfit_flat (value t x) h = inl (inside (value t x) h)
  misfit_flat count_star h = inl (inside count_star h)
  misfit_flat (unary n e) h = inl (inside (unary n e) h)
  misfit_flat (count e) h = inl (inside (count e) h)
  misfit_flat (compared by a b) h = inl (inside (compared by a b) h)
  misfit_flat (joined by a b) h = inl (inside (joined by a b) h)
  misfit_flat (exists q) h = inl (inside (exists q) h)
  misfit_flat (single q) h = inl (inside (single q) h)
  misfit_flat (among_values n e t xs) h = inl (inside (among_values n e t xs) h)
  misfit_flat (among_rows n e q) h = inl (inside (among_rows n e q) h)

  misfit_flat_of : (es : Exprs) → AnyOf IsMisfit (nodes_of es) → AnyOf IllInside (flat_of es)
  misfit_flat_of no_exprs h = absurd h
  misfit_flat_of (more_exprs e es) h =
      elim (any_split IsMisfit (nodes e) (nodes_of es) h) [
        | inl l ↦ any_left IllInside (flat e) (flat_of es) (misfit_flat e l)
        | inr r ↦ any_right IllInside (flat e) (flat_of es) (misfit_flat_of es r)
      ]

-- ---- each node

-- what soundness needs of one expression, apart from those in it
abbrev pub NodeFits : View → Expr → Type 0
NodeFits v (column o c) = IsColumn o.table c × IsSeen v o
NodeFits v (value t x) = fits t x ≡ true
NodeFits v _ = Unit {0}

node-fits : (schema : Declarations) (v : View) (e : Expr) → ¬ IsUnknownColumn schema e → ¬ IsOutOfScope v e
    → ¬ IsMisfit e
    → NodeFits v e
node-fits schema v (column o c) known seen fit = (
  stable _ (column-any c o.table.columns) (λ n. known (λ p. n p.1)),
  stable _ (any-decides (λ l. l ≡ o) (λ l. same_origin l o) (λ l. origin-decides l o) v) seen,
)
node-fits schema v (value t x) known seen fit = not_false (fits t x) fit
node-fits schema v (list es) known seen fit = tt
node-fits schema v count_star known seen fit = tt
node-fits schema v (nullable e) known seen fit = tt
node-fits schema v (unary n e) known seen fit = tt
node-fits schema v (count e) known seen fit = tt
node-fits schema v (compared by a b) known seen fit = tt
node-fits schema v (joined by a b) known seen fit = tt
node-fits schema v (exists q) known seen fit = tt
node-fits schema v (single q) known seen fit = tt
node-fits schema v (among_values n e t xs) known seen fit = tt
node-fits schema v (among_rows n e q) known seen fit = tt

pub nodes-fit : (schema : Declarations) (v : View) (es : List Expr) → ¬ AnyOf (IsUnknownColumn schema) es
    → ¬ AnyOf (IsOutOfScope v) es → ¬ AnyOf IsMisfit es → Each (NodeFits v) es
nodes-fit schema v [] known seen fit = tt
nodes-fit schema v (e ∷ es) known seen fit = (
  node-fits schema v e (λ i. known (inl i)) (λ i. seen (inl i)) (λ i. fit (inl i)),
  nodes-fit schema v es (λ i. known (inr i)) (λ i. seen (inr i)) (λ i. fit (inr i)),
)

-- ---- two leaves of one source

pair_each : {X : Type 0} (R S : X → X → Type 0) → ((x y : X) → R x y → S x y) → (xs : List X) → AnyPair R xs
    → AnyPair S xs
pair_each R S f [] h = h
pair_each R S f (x ∷ xs) (inl h) = inl (any_each (R x) (S x) (f x) xs h)
pair_each R S f (x ∷ xs) (inr h) = inr (pair_each R S f xs h)

pub pair_left : {X : Type 0} (R : X → X → Type 0) (xs ys : List X) → AnyPair R xs → AnyPair R (xs ++ ys)
pair_left R [] ys h = absurd h
pair_left R (x ∷ xs) ys (inl h) = inl (any_left (R x) xs ys h)
pair_left R (x ∷ xs) ys (inr h) = inr (pair_left R xs ys h)

pub in_widest : (R : Origin → Origin → Type 0) (form : Form) (f : From) (outer : View) → AnyPair R (origins_of f)
    → AnyPair R (widest form f outer)
in_widest R (unboxed l) no_source outer h = h
in_widest R (unboxed l) (from f) outer h = pair_left R (origins f) outer h
in_widest R (boxed d n) f outer h = h

-- ---- the statement

-- what soundness needs of a select statement
pub record IsKept (schema : Declarations) (s : Select) : Type 0 where
  pub declared : AreDeclared schema (leaves_of s.source)
  pub nodes : Each (NodeFits (own s)) (nodes s.selection)
  pub no_bare : ¬ AnyOf (IsMissing (leaves_of s.source)) (bare s.selection)

selection-free : (P : Clause → Type 0) (outer : View) (s : Select) → ¬ AnyOf P (clauses outer s)
    → ¬ P (record { place = in_selection; view = own s; expr = s.selection })
selection-free P outer s h p = h (any_right P (distinct_clause (own s) s.distinctness) _ (inl p))

pub is-kept : (schema : Declarations) (d : Dialect) (outer : View) (s : Select)
    → ((r : Rule) → ¬ SelectBreaks r schema d outer s)
    → IsKept schema s
is-kept schema d outer s h = record {
  declared = known_tables schema (leaves_of s.source) (λ i. h R.UnknownName (inl i));
  nodes =
      nodes-fit schema (own s) (nodes s.selection)
      (selection-free (λ c. AnyOf (IsUnknownColumn schema) (nodes c.expr)) outer s (λ i. h R.UnknownName (inr i)))
      (selection-free (λ c. AnyOf (IsOutOfScope c.view) (nodes c.expr)) outer s (h R.NotInScope))
      (λ i. selection-free IsIllTypedClause outer s (λ j. h R.TypeMismatch (inl j)) (inl (misfit_flat s.selection i)));
  no_bare = λ i. selection-free (LacksNullable s) outer s (h R.NeedsNullable)
      (tt, any_each (IsMissing (leaves_of s.source)) (IsPadded s) (λ o m. (m, once o)) (bare s.selection) i);
}
  where
    once : (o : Origin) → ¬ AnyPair (λ a b. (a ≡ o) × (b ≡ o)) (own s)
    once o p =
        h R.Ambiguous (in_widest (λ a b. a ≡ b) s.form s.source outer
        (pair_each (λ a b. (a ≡ o) × (b ≡ o)) (λ a b. a ≡ b) (λ a b e. e.0 ∙ sym e.1) (own s) p))

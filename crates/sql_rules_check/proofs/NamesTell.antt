-- Where no name is unknown, comparing names tells which columns are out of scope.
use Rattle.std.proofs.Common.{◌≡◌, List, [], ◌∷◌, ◌++◌, Bool, true, false, not, ◌||◌, ◌&&◌, if◌then◌else◌, refl, sym, ap, ◌∙◌}
use Rattle.std.specs.Bool.{Decides, one_answer}
use Rattle.std.specs.List.{list_any}
use Rattle.std.proofs.lemmas.Bool.{false≢true, false_from_ne_true}
use Rattle.std.proofs.lemmas.List.Folds.{list_any-append}
use Rattle.sql_schema.specs.Equality.{same_column}
use Rattle.sql_schema.specs.Declarations.{Declarations}
use Rattle.sql_schema.specs.Refusals.{any_two, tables_clash}
use Rattle.sql_schema.specs.declared.declaration.TableDecl.{TableDecl}
use Rattle.sql_dialect.specs.declared.backend.Dialect.{Dialect}
use Rattle.sql_flat_law.specs.Rose.{Rose, node, Roses, none, more}
use Rattle.sql_flat_law.specs.Folds.{gathered, sites, sites_of}
use Rattle.sql_node.specs.Tree.{Origin, Statement}
use Rattle.sql_origin.proofs.OriginLaws.{origin-decides}
use Rattle.sql_origin.specs.Origins.{same_origin}
use Rattle.sql_rules.specs.Lists.{Each}
use Rattle.sql_rules.specs.Rules.{Broken, IsTable}
use Rattle.sql_rules.specs.Scope.{View}
use Rattle.sql_rules.specs.declared.rule.Rule.TheVariants as rule
use Rattle.sql_rules.proofs.Tests.{table-any}
use Rattle.sql_flat.specs.Flat.{flat_node, flat_of, rose}
use Rattle.sql_flat.specs.declared.kind.FlatKind.{FlatKind}
use Rattle.sql_flat.specs.declared.kind.FlatKind.TheVariants as K
use Rattle.sql_flat.specs.declared.kind.FlatNode.{FlatNode}
use Rattle.sql_flat.specs.declared.kind.Form.{Form}
use Rattle.sql_flat.specs.declared.kind.Form.TheVariants as form
use Rattle.sql_rules_check.specs.inside.Lists.{kind_of, end_of}
use Rattle.sql_rules_check.specs.inside.Sites.{is_declared, is_out, is_unknown, site_out}
use Rattle.sql_rules_check.specs.inside.Tables.{named_alike}
use Rattle.sql_rules_check.specs.inside.Tested.{any_node, any_node_of}
use Rattle.sql_rules_check.specs.inside.Typing.{typing}
use Rattle.sql_rules_check.specs.inside.Views.{Views, below, is_passed, leaf_at, leaves_in, nothing, widened, within}
use Rattle.sql_rules_check.specs.inside.Walks.{walked}
use Rattle.sql_rules_check.proofs.Around.{walks-statement}
use Rattle.sql_rules_check.proofs.ByNames.{names-of-one, one-of-names}
use Rattle.sql_rules_check.proofs.Decided.{each-alone}
use Rattle.sql_rules_check.proofs.OutOfScope.{out-of-scope}
use Rattle.sql_rules_check.proofs.Tested.{any-flat}
use Rattle.sql_rules_check.proofs.UnknownNames.{unknown}

neither : (a b : Bool) → (a || b) ≡ false → (a ≡ false) × (b ≡ false)
neither true b h = absurd (false≢true (sym h))
neither false b h = (refl, h)

not-false : (b : Bool) → not b ≡ false → b ≡ true
not-false true h = refl
not-false false h = absurd (false≢true (sym h))

first-true : (a b : Bool) → (a && b) ≡ true → a ≡ true
first-true true b h = refl
first-true false b h = absurd (false≢true h)

each-append : {X : Type 0} (P : X → Type 0) (xs ys : List X) → Each P xs → Each P ys → Each P (xs ++ ys)
each-append P [] ys h k = k
each-append P (x ∷ xs) ys h k = (h.0, each-append P xs ys h.1 k)

module _ (schema : Declarations) (apart : any_two tables_clash schema.tables ≡ false) where
  abbrev IsKnown : Origin → Type 0
  IsKnown o = IsTable schema o.table

  abbrev unknown_at : FlatKind → Bool
  unknown_at = is_unknown schema

  declared : (t : TableDecl) → is_declared schema t ≡ true → IsTable schema t
  declared t h = (table-any t schema.tables).0 h

  leaf-known : (k : FlatKind) → unknown_at k ≡ false → Each IsKnown (leaf_at k)
  leaf-known (K.Table s) h = (declared s.table (not-false (is_declared schema s.table) h), tt)
  leaf-known (K.Alias a) h = (declared a.table (not-false (is_declared schema a.table) h), tt)
  leaf-known _ h = tt

  mutual
    gathered-known : (t : Rose FlatKind) → any_node typing (λ k gs. unknown_at k) t ≡ false
        → Each IsKnown (gathered leaf_at is_passed t)
    gathered-known (node k ts) h =
        let both = neither (unknown_at k) (any_node_of typing (λ k gs. unknown_at k) ts) h in
        each-append IsKnown (leaf_at k) _ (leaf-known k both.0) (by_test (is_passed k) (each-known ts both.1))
      where
        by_test : (b : Bool) → Each IsKnown (leaves_in ts) → Each IsKnown (if b then [] else leaves_in ts)
        by_test true h = tt
        by_test false h = h

    each-known : (ts : Roses FlatKind) → any_node_of typing (λ k gs. unknown_at k) ts ≡ false
        → Each IsKnown (leaves_in ts)
    each-known none h = tt
    each-known (more t ts) h =
        let both = neither (any_node typing (λ k gs. unknown_at k) t) (any_node_of typing (λ k gs. unknown_at k) ts)
        h in
        each-append IsKnown (gathered leaf_at is_passed t) (leaves_in ts) (gathered-known t both.0)
        (each-known ts both.1)

  abbrev AreKnown : Views → Type 0
  AreKnown v = Each IsKnown v.clause × Each IsKnown v.condition

  widened-known : (f : Form) (own outer : View) → Each IsKnown own → Each IsKnown outer
      → Each IsKnown (widened f own outer)
  widened-known (form.Boxed d n) own outer h k = h
  widened-known (form.Unboxed l) [] outer h k = tt
  widened-known (form.Unboxed l) (o ∷ own) outer h k = each-append IsKnown (o ∷ own) outer h k

  within-known : (v : Views) (k : FlatKind) (own : View) → AreKnown v → Each IsKnown own → AreKnown (within v k own)
  within-known v (K.Select s) own h g = (g, widened-known s.form own v.clause g h.0)
  within-known v (K.Join k on) own h g = (g, g)
  within-known v K.Where own h g = (h.1, h.1)
  within-known v _ own h g = h

  alike : (l o : Origin) → IsKnown l → IsKnown o → named_alike l o ≡ same_origin l o
  alike l o h g =
      one_answer (named_alike l o) (same_origin l o)
      (λ e. one-of-names schema apart l o e h g, λ e. names-of-one l o e)
      (origin-decides l o)

  any-alike : (v : View) (o : Origin) → Each IsKnown v → IsKnown o
      → list_any (λ l. named_alike l o) v ≡ list_any (λ l. same_origin l o) v
  any-alike [] o h g = refl
  any-alike (l ∷ v) o h g = λ i. alike l o h.0 g i || any-alike v o h.1 g i

  same-out : (v : View) (k : FlatKind) → Each IsKnown v → unknown_at k ≡ false → is_out false v k ≡ is_out true v k
  same-out v (K.Column a c) h g =
      let own = list_any (λ d. same_column d c.decl) c.table.columns in
      let is = first-true (is_declared schema c.table) own (not-false (is_declared schema c.table && own) g) in
      ap not (any-alike v (record { alias = a; table = c.table }) h (declared c.table is))
  same-out v _ h g = refl

  mutual
    same-sites : (v : Views) (t : Rose FlatKind) → AreKnown v → any_node typing (λ k gs. unknown_at k) t ≡ false
        → list_any (site_out false) (sites below v t) ≡ list_any (site_out true) (sites below v t)
    same-sites v (node k ts) h g =
        let both = neither (unknown_at k) (any_node_of typing (λ k gs. unknown_at k) ts) g in
        let one = same-out v.clause k h.0 both.0 in
        let others = same-sites-of (below v k ts) ts (within-known v k (leaves_in ts) h
        (each-known ts both.1)) both.1 in
        λ i. one i || others i

    same-sites-of : (v : Views) (ts : Roses FlatKind) → AreKnown v
        → any_node_of typing (λ k gs. unknown_at k) ts ≡ false
        → list_any (site_out false) (sites_of below v ts) ≡ list_any (site_out true) (sites_of below v ts)
    same-sites-of v none h g = refl
    same-sites-of v (more t ts) h g =
        let both = neither (any_node typing (λ k gs. unknown_at k) t) (any_node_of typing (λ k gs. unknown_at k) ts)
        g in
        let one = same-sites v t h both.0 in
        let others = same-sites-of v ts h both.1 in
        list_any-append (site_out false) (sites below v t) (sites_of below v ts)
        ∙ (λ i. one i || others i)
        ∙ sym (list_any-append (site_out true) (sites below v t) (sites_of below v ts))

  names-tell : (s : Statement) → list_any (λ x. unknown_at x.kind) (flat_of s) ≡ false
      → list_any (site_out false) (walked [] 0 (flat_of s)) ≡ list_any (site_out true) (walked [] 0 (flat_of s))
  names-tell s h =
      let known : any_node typing (λ k gs. unknown_at k) (rose s) ≡ false =
      sym (any-flat typing (λ k gs. unknown_at k) kind_of end_of flat_node (λ _ _. refl) (λ _ _. refl) (rose s))
      ∙ each-alone unknown_at 0 (flat_of s) ∙ h in
      ap (list_any (site_out false)) (walks-statement s) ∙ same-sites nothing (rose s) (tt, tt) known
      ∙ sym (ap (list_any (site_out true)) (walks-statement s))

  -- whole declarations are compared where a name is unknown
  pub in-scope : (s : Statement) (nodes : List FlatNode) (whole b : Bool) → nodes ≡ flat_of s
      → (whole ≡ false → list_any (λ x. unknown_at x.kind) nodes ≡ false)
      → b ≡ list_any (site_out whole) (walked [] 0 nodes) → (d : Dialect)
      → Decides b (Broken rule.NotInScope schema d s)
  in-scope s nodes true b is known h d = out-of-scope s nodes b is h schema d
  in-scope s nodes false b is known h d =
      let all : list_any (λ x. unknown_at x.kind) (flat_of s) ≡ false =
      sym (ap (list_any (λ x. unknown_at x.kind)) is) ∙ known refl in
      out-of-scope s nodes b is
      (h ∙ ap (λ xs. list_any (site_out false) (walked [] 0 xs)) is ∙ names-tell s all
      ∙ sym (ap (λ xs. list_any (site_out true) (walked [] 0 xs)) is))
      schema d

-- where it is known that no name is unknown
pub all-known : (s : Statement) (nodes : List FlatNode) (schema : Declarations) (d : Dialect) → nodes ≡ flat_of s
    → ¬ Broken rule.UnknownName schema d s → list_any (λ x. is_unknown schema x.kind) nodes ≡ false
all-known s nodes schema d is h =
    false_from_ne_true (list_any (λ x. is_unknown schema x.kind) nodes)
    (λ e. h ((unknown s nodes (list_any (λ x. is_unknown schema x.kind) nodes) schema is refl d).0 e))

-- Unsupported, by a test of nodes.
use Rattle.std.proofs.Common.{◌≡◌, ◌≢◌, ◌⊎◌, List, [], Bool, true, false, not, ◌&&◌, ◌||◌, Option, None, Some, inl, inr, refl, sym, subst}
use Rattle.std.specs.Prelude.{IsTrue}
use Rattle.std.specs.Bool.{Decides}
use Rattle.std.specs.List.{list_any}
use Rattle.std.specs.Option.{is_none, is_some}
use Rattle.std.proofs.lemmas.Bool.{false≢true, true≢false}
use Rattle.std.proofs.lemmas.Bool.Decides.{Decides-and, Decides-not, Decides-or}
use denote.Enum.Bare.{same_true}
use Rattle.sql_schema.specs.Declarations.{Declarations}
use Rattle.sql_dialect.specs.Supports.{combines}
use Rattle.sql_dialect.specs.contracts.backend.Dialect.{the_type}
use Rattle.sql_dialect.specs.contracts.backend.DialectEq.TheImpl.Laws as dialect_laws
use Rattle.sql_dialect.specs.declared.backend.Dialect.{Dialect}
use Rattle.sql_dialect.specs.declared.backend.Dialect.TheVariants.{Pg, Mysql, Sqlite, Bracket}
use Rattle.sql_leaf.specs.declared.limit_offset.LimitOffsetClause.{LimitOffsetClause}
use Rattle.sql_leaf.specs.declared.locking.LockMode.TheVariants.{ForUpdate, ForNoKeyUpdate, ForShare, ForKeyShare}
use Rattle.sql_leaf.specs.declared.locking.LockingClause.{LockingClause}
use Rattle.sql_leaf.specs.declared.locking.LockingClause.TheVariants.{NoLockingClause, LockingClause as Locked}
use Rattle.sql_flat_law.specs.Rose.{Roses}
use Rattle.sql_node.specs.Tree as t
use Rattle.sql_node.specs.Tree.{Distinct, every, distinct, distinct_on, Expr, column, Source, of_table, of_alias, join, From, no_source, from, Statement, unboxed, boxed}
use Rattle.sql_rules.specs.Rules.{Broken, FromHasMarks, HasTableMarks, IsDistinctOn, IsMysql, IsNotPg, IsOffsetAlone, IsUnboxed, LacksForm, LacksLock, PartBreaks}
use Rattle.sql_rules.specs.Scope.{View, Part, a_select, a_combination, parts}
use Rattle.sql_rules.specs.declared.rule.Rule.TheVariants as rule
use Rattle.sql_flat.specs.Flat.{flat_of, form_of, uniqueness}
use Rattle.sql_flat.specs.declared.kind.Combining.{Combining}
use Rattle.sql_flat.specs.declared.kind.FlatKind.{FlatKind}
use Rattle.sql_flat.specs.declared.kind.FlatKind.TheVariants as K
use Rattle.sql_flat.specs.declared.kind.FlatNode.{FlatNode}
use Rattle.sql_flat.specs.declared.kind.Form.{Form}
use Rattle.sql_flat.specs.declared.kind.Form.TheVariants as form
use Rattle.sql_flat.specs.declared.kind.Selecting.{Selecting}
use Rattle.sql_flat.specs.declared.kind.Uniqueness.{Uniqueness}
use Rattle.sql_flat.specs.declared.kind.Uniqueness.TheVariants as unique
use Rattle.sql_rules_check.specs.inside.Dialects.{is_distinct_on, is_mysql, is_offset_alone, is_other, is_unboxed, is_unsupported, lacks_form, lacks_lock, same_dialect}
use Rattle.sql_rules_check.specs.inside.Known.{Known}
use Rattle.sql_rules_check.specs.inside.Views.{Views}
use Rattle.sql_rules_check.proofs.Absent.{Never, NoClause, NoExpr, no-any-expr, no-order, no-positions}
use Rattle.sql_rules_check.proofs.Decided.{decides-nodes, decides-rule}
use Rattle.sql_rules_check.proofs.Seen as seen

never : Decides false ⊥
never = (λ e. absurd (false≢true e), λ h. absurd h)

always : Decides true (Unit {0})
always = (λ e. tt, λ h. refl)

truth : (b : Bool) → Decides b (IsTrue b)
truth b = (λ e. e, λ h. h)

refused : (b : Bool) → Decides (not b) (b ≡ false)
refused true = (λ e. absurd (false≢true e), λ h. absurd (true≢false h))
refused false = (λ e. refl, λ h. refl)

missing : {X : Type 0} (o : Option X) → Decides (is_none o) (o ≡ None)
missing None = (λ e. refl, λ h. refl)
missing (Some x) = (λ e. absurd (false≢true e), λ h. cc)

present : {X : Type 0} (o : Option X) → Decides (is_some o) (o ≢ None)
present None = (λ e. absurd (false≢true e), λ h. absurd (h refl))
present (Some x) = (λ e h. cc, λ h. refl)

-- ---- of the dialect and a select statement

other-decides : (d : Dialect) → Decides (is_other d) (IsNotPg d)
other-decides Pg = never
other-decides Mysql = always
other-decides Sqlite = always
other-decides Bracket = always

mysql-decides : (d : Dialect) → Decides (is_mysql d) (IsMysql d)
mysql-decides Pg = never
mysql-decides Mysql = always
mysql-decides Sqlite = never
mysql-decides Bracket = never

one-dialect : (d e : Dialect) → Decides (same_dialect d e) (d ≡ e)
one-dialect d e = (
  λ h. same_true the_type tt d e h,
  λ is. subst (λ x. same_dialect d x ≡ true) is (dialect_laws.laws-law.refl d),
)

lock-decides : (d : Dialect) (l : LockingClause) → Decides (lacks_lock d l) (LacksLock d l)
lock-decides d NoLockingClause = never
lock-decides Pg (Locked m w) = never
lock-decides Mysql (Locked ForUpdate w) = never
lock-decides Mysql (Locked ForNoKeyUpdate w) = always
lock-decides Mysql (Locked ForShare w) = never
lock-decides Mysql (Locked ForKeyShare w) = always
lock-decides Sqlite (Locked m w) = always
lock-decides Bracket (Locked m w) = always

offset-decides : (c : LimitOffsetClause) → Decides (is_offset_alone c) (IsOffsetAlone c)
offset-decides c =
    Decides-and (is_none c.limit_clause) (is_some c.offset_clause) (missing c.limit_clause) (present c.offset_clause)

-- a form as the statement's tree has it
abbrev tree_form : Form → t.Form
tree_form (form.Unboxed l) = unboxed l
tree_form (form.Boxed d n) = boxed d n

abbrev IsOn : Uniqueness → Type 0
IsOn unique.Every = ⊥
IsOn unique.Distinct = ⊥
IsOn unique.DistinctOn = Unit {0}

on-decides : (u : Uniqueness) → Decides (is_distinct_on u) (IsOn u)
on-decides unique.Every = never
on-decides unique.Distinct = never
on-decides unique.DistinctOn = always

form-decides : (d : Dialect) (f : Form) → Decides (lacks_form d f) (LacksForm d (tree_form f))
form-decides d (form.Unboxed l) = lock-decides d l
form-decides d (form.Boxed e n) = Decides-not (same_dialect d e) (one-dialect d e)

unboxed-decides : (f : Form) → Decides (is_unboxed f) (IsUnboxed (tree_form f))
unboxed-decides (form.Unboxed l) = always
unboxed-decides (form.Boxed d n) = never

same-form : (f : t.Form) → tree_form (form_of f) ≡ f
same-form (unboxed l) = refl
same-form (boxed d n) = refl

module _ (d : Dialect) where
  abbrev Marked : FlatKind → Type 0
  Marked (K.Table s) = IsNotPg d × (IsTrue s.only ⊎ (s.sample ≢ None))
  Marked _ = ⊥

  abbrev LacksSelect : View → Views → Selecting → Roses FlatKind → Type 0
  LacksSelect v w s ts =
      (IsNotPg d × IsOn s.unique)
      ⊎ (LacksForm d (tree_form s.form) ⊎ (IsMysql d × (IsUnboxed (tree_form s.form) × IsOffsetAlone s.rows)))

  abbrev LacksCombination : Combining → Roses FlatKind → Type 0
  LacksCombination c ts =
      (combines d c.combinator c.duplicates ≡ false) ⊎ (IsMysql d × IsOffsetAlone c.rows)

  node-decides : (v : View) (k : FlatKind) (w : Known)
      → Decides (is_unsupported d k)
      (seen.of_kind NoExpr NoClause Never Never LacksSelect LacksCombination Marked v k w)
  node-decides v (K.Table s) w =
      Decides-and (is_other d) (s.only || is_some s.sample) (other-decides d)
      (Decides-or s.only (is_some s.sample) (truth s.only) (present s.sample))
  node-decides v (K.Select s) w =
      let alone = is_unboxed s.form && is_offset_alone s.rows in
      Decides-or (is_other d && is_distinct_on s.unique) (lacks_form d s.form || (is_mysql d && alone))
      (Decides-and (is_other d) (is_distinct_on s.unique) (other-decides d) (on-decides s.unique))
      (Decides-or (lacks_form d s.form) (is_mysql d && alone) (form-decides d s.form)
      (Decides-and (is_mysql d) alone (mysql-decides d)
      (Decides-and (is_unboxed s.form) (is_offset_alone s.rows) (unboxed-decides s.form) (offset-decides s.rows))))
  node-decides v (K.Combination c) w =
      Decides-or (not (combines d c.combinator c.duplicates)) (is_mysql d && is_offset_alone c.rows)
      (refused (combines d c.combinator c.duplicates))
      (Decides-and (is_mysql d) (is_offset_alone c.rows) (mysql-decides d) (offset-decides c.rows))
  node-decides v _ w = never

  no-node : (v : View) (e : Expr) → seen.OfExpr NoExpr NoClause Never Never LacksSelect LacksCombination Marked v e → ⊥
  no-node v (column o c) h = h
  no-node v _ h = h

  -- ---- sources

  to-source : (f : Source) → seen.OfSource NoExpr NoClause Never Never LacksSelect LacksCombination Marked f
      → IsNotPg d × HasTableMarks f
  to-source (of_table t only sample) h = h
  to-source (of_alias a t) h = absurd h
  to-source (join k l r on) (inl h) = absurd h
  to-source (join k l r on) (inr (inl h)) = let p = to-source l h in (p.0, inl p.1)
  to-source (join k l r on) (inr (inr h)) = let p = to-source r h in (p.0, inr p.1)

  of-source : (f : Source) → IsNotPg d → HasTableMarks f
      → seen.OfSource NoExpr NoClause Never Never LacksSelect LacksCombination Marked f
  of-source (of_table t only sample) p h = (p, h)
  of-source (of_alias a t) p h = absurd h
  of-source (join k l r on) p (inl h) = inr (inl (of-source l p h))
  of-source (join k l r on) p (inr h) = inr (inr (of-source r p h))

  to-from : (f : From) → seen.OfFrom NoExpr NoClause Never Never LacksSelect LacksCombination Marked f
      → IsNotPg d × FromHasMarks f
  to-from no_source h = absurd h
  to-from (from f) h = to-source f h

  of-from : (f : From) → IsNotPg d → FromHasMarks f
      → seen.OfFrom NoExpr NoClause Never Never LacksSelect LacksCombination Marked f
  of-from no_source p h = absurd h
  of-from (from f) p h = of-source f p h

  to-on : (u : Distinct) → IsOn (uniqueness u) → IsDistinctOn u
  to-on every h = h
  to-on distinct h = h
  to-on (distinct_on e) h = h

  of-on : (u : Distinct) → IsDistinctOn u → IsOn (uniqueness u)
  of-on every h = h
  of-on distinct h = h
  of-on (distinct_on e) h = h

  module _ (schema : Declarations) where
    to-rule : (p : Part) → seen.PartOut NoExpr NoClause Never Never LacksSelect LacksCombination Marked p
        → PartBreaks rule.Unsupported schema d p
    to-rule (a_select outer s) (inl (inl h)) =
        absurd (no-any-expr NoExpr LacksSelect LacksCombination Marked no-node outer s h)
    to-rule (a_select outer s) (inl (inr (inl h))) = inl (h.0, inl (to-on s.distinctness h.1))
    to-rule (a_select outer s) (inl (inr (inr (inl h)))) = inr (inl (subst (LacksForm d) (same-form s.form) h))
    to-rule (a_select outer s) (inl (inr (inr (inr h)))) =
        inr (inr (h.0, (subst IsUnboxed (same-form s.form) h.1.0, h.1.1)))
    to-rule (a_select outer s) (inr (inl h)) = let p = to-from s.source h in inl (p.0, inr p.1)
    to-rule (a_select outer s) (inr (inr h)) =
        absurd (no-order NoExpr LacksSelect LacksCombination Marked s.order h)
    to-rule (a_combination c) (inl h) = h
    to-rule (a_combination c) (inr h) =
        absurd (no-positions NoExpr LacksSelect LacksCombination Marked c.order h)

    of-rule : (p : Part) → PartBreaks rule.Unsupported schema d p
        → seen.PartOut NoExpr NoClause Never Never LacksSelect LacksCombination Marked p
    of-rule (a_select outer s) (inl (p, inl h)) = inl (inr (inl (p, of-on s.distinctness h)))
    of-rule (a_select outer s) (inl (p, inr h)) = inr (inl (of-from s.source p h))
    of-rule (a_select outer s) (inr (inl h)) = inl (inr (inr (inl (subst (LacksForm d) (sym (same-form s.form)) h))))
    of-rule (a_select outer s) (inr (inr h)) =
        inl (inr (inr (inr (h.0, (subst IsUnboxed (sym (same-form s.form)) h.1.0, h.1.1)))))
    of-rule (a_combination c) h = inl h

pub unsupported : (s : Statement) (nodes : List FlatNode) (b : Bool) (d : Dialect) → nodes ≡ flat_of s
    → b ≡ list_any (λ x. is_unsupported d x.kind) nodes → (schema : Declarations)
    → Decides b (Broken rule.Unsupported schema d s)
unsupported s nodes b d is h schema =
    decides-rule NoExpr NoClause Never Never (LacksSelect d) (LacksCombination d) (Marked d)
    (PartBreaks rule.Unsupported schema d) (to-rule d schema) (of-rule d schema) (parts [] s) b
    (decides-nodes NoExpr NoClause Never Never (LacksSelect d) (LacksCombination d) (Marked d)
    (is_unsupported d) (node-decides d) s nodes b is h)

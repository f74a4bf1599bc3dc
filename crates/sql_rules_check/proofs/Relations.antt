-- NoRelation, by a test of nodes.
use Rattle.std.proofs.Common.{◌≡◌, List, [], Bool, true, false, not, inl, inr, refl}
use Rattle.std.specs.Bool.{Decides}
use Rattle.std.specs.List.{list_any}
use Rattle.std.proofs.lemmas.Bool.{false≢true, true≢false}
use Rattle.sql_schema.specs.Declarations.{Declarations}
use Rattle.sql_dialect.specs.declared.backend.Dialect.{Dialect}
use Rattle.sql_node.specs.Tree.{Expr, column, MaybeExpr, no_expr, an_expr, Source, of_table, of_alias, join, From, no_source, from, Statement}
use Rattle.sql_rules.specs.Rules.{Broken, FromLacksOn, LacksOn, PartBreaks, Present}
use Rattle.sql_rules.specs.Scope.{View, Part, a_select, a_combination, parts}
use Rattle.sql_rules.specs.declared.rule.Rule.TheVariants as rule
use Rattle.sql_flat.specs.Flat.{flat_of, has_on}
use Rattle.sql_flat.specs.declared.kind.FlatKind.{FlatKind}
use Rattle.sql_flat.specs.declared.kind.FlatKind.TheVariants as K
use Rattle.sql_flat.specs.declared.kind.FlatNode.{FlatNode}
use Rattle.sql_rules_check.specs.inside.Known.{Known}
use Rattle.sql_rules_check.specs.inside.Sites.{lacks_on}
use Rattle.sql_rules_check.proofs.Absent.{Never, NoClause, NoCombination, NoExpr, NoSelect, no-any-expr, no-order, no-positions}
use Rattle.sql_rules_check.proofs.Decided.{decides-nodes, decides-rule}
use Rattle.sql_rules_check.proofs.Seen as seen

abbrev Bare : FlatKind → Type 0
Bare (K.Join k on) = on ≡ false
Bare _ = ⊥

never : Decides false ⊥
never = (λ e. absurd (false≢true e), λ h. absurd h)

not-decides : (b : Bool) → Decides (not b) (b ≡ false)
not-decides true = (λ e. absurd (false≢true e), λ h. absurd (true≢false h))
not-decides false = (λ e. refl, λ h. refl)

bare-decides : (v : View) (k : FlatKind) (w : Known)
    → Decides (lacks_on k) (seen.of_kind NoExpr NoClause Never Never NoSelect NoCombination Bare v k w)
bare-decides v (K.Join k on) w = not-decides on
bare-decides v _ w = never

no-node : (v : View) (e : Expr) → seen.OfExpr NoExpr NoClause Never Never NoSelect NoCombination Bare v e → ⊥
no-node v (column o c) h = h
no-node v _ h = h

lacks : (on : MaybeExpr) → has_on on ≡ false → ¬ Present on
lacks no_expr h = λ p. p
lacks (an_expr e) h = λ p. true≢false h

lacked : (on : MaybeExpr) → ¬ Present on → has_on on ≡ false
lacked no_expr h = refl
lacked (an_expr e) h = absurd (h tt)

to-source : (f : Source) → seen.OfSource NoExpr NoClause Never Never NoSelect NoCombination Bare f → LacksOn f
to-source (of_table t only sample) h = h
to-source (of_alias a t) h = h
to-source (join k l r on) (inl h) = inl (lacks on h)
to-source (join k l r on) (inr (inl h)) = inr (inl (to-source l h))
to-source (join k l r on) (inr (inr h)) = inr (inr (to-source r h))

of-source : (f : Source) → LacksOn f → seen.OfSource NoExpr NoClause Never Never NoSelect NoCombination Bare f
of-source (of_table t only sample) h = h
of-source (of_alias a t) h = h
of-source (join k l r on) (inl h) = inl (lacked on h)
of-source (join k l r on) (inr (inl h)) = inr (inl (of-source l h))
of-source (join k l r on) (inr (inr h)) = inr (inr (of-source r h))

to-from : (f : From) → seen.OfFrom NoExpr NoClause Never Never NoSelect NoCombination Bare f → FromLacksOn f
to-from no_source h = h
to-from (from f) h = to-source f h

of-from : (f : From) → FromLacksOn f → seen.OfFrom NoExpr NoClause Never Never NoSelect NoCombination Bare f
of-from no_source h = h
of-from (from f) h = of-source f h

module _ (schema : Declarations) (d : Dialect) where
  to-rule : (p : Part) → seen.PartOut NoExpr NoClause Never Never NoSelect NoCombination Bare p
      → PartBreaks rule.NoRelation schema d p
  to-rule (a_select outer s) (inl (inl h)) =
      absurd (no-any-expr NoExpr NoSelect NoCombination Bare no-node outer s h)
  to-rule (a_select outer s) (inl (inr h)) = absurd h
  to-rule (a_select outer s) (inr (inl h)) = to-from s.source h
  to-rule (a_select outer s) (inr (inr h)) = absurd (no-order NoExpr NoSelect NoCombination Bare s.order h)
  to-rule (a_combination c) (inl h) = h
  to-rule (a_combination c) (inr h) = no-positions NoExpr NoSelect NoCombination Bare c.order h

  of-rule : (p : Part) → PartBreaks rule.NoRelation schema d p
      → seen.PartOut NoExpr NoClause Never Never NoSelect NoCombination Bare p
  of-rule (a_select outer s) h = inr (inl (of-from s.source h))
  of-rule (a_combination c) h = absurd h

pub unrelated : (s : Statement) (nodes : List FlatNode) (b : Bool) → nodes ≡ flat_of s
    → b ≡ list_any (λ x. lacks_on x.kind) nodes → (schema : Declarations) (d : Dialect)
    → Decides b (Broken rule.NoRelation schema d s)
unrelated s nodes b is h schema d =
    decides-rule NoExpr NoClause Never Never NoSelect NoCombination Bare (PartBreaks rule.NoRelation schema d)
    (to-rule schema d) (of-rule schema d) (parts [] s) b
    (decides-nodes NoExpr NoClause Never Never NoSelect NoCombination Bare lacks_on bare-decides s nodes b is h)

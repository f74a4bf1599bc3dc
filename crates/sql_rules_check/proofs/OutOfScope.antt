-- NotInScope, by a test of columns and what their clauses see.
use Rattle.std.proofs.Common.{◌≡◌, List, [], Bool, true, false, inl, inr}
use Rattle.std.specs.Bool.{Decides}
use Rattle.std.specs.List.{list_any}
use Rattle.std.proofs.lemmas.Bool.{false≢true}
use Rattle.std.proofs.lemmas.Bool.Decides.{Decides-not}
use Rattle.sql_schema.specs.Declarations.{Declarations}
use Rattle.sql_dialect.specs.declared.backend.Dialect.{Dialect}
use Rattle.sql_flat_law.specs.Rose.{Roses}
use Rattle.sql_node.specs.Tree.{Origin, Expr, column, Statement}
use Rattle.sql_origin.proofs.OriginLaws.{origin-decides}
use Rattle.sql_origin.specs.Origins.{same_origin}
use Rattle.sql_rules.specs.Rules.{Broken, IsOutOfScope, IsSeen, PartBreaks}
use Rattle.sql_rules.specs.Scope.{View, Part, a_select, a_combination, parts}
use Rattle.sql_rules.specs.declared.rule.Rule.TheVariants as rule
use Rattle.sql_rules.proofs.Loops.{any-decides}
use Rattle.sql_flat.specs.Flat.{flat_of}
use Rattle.sql_flat.specs.declared.kind.FlatKind.{FlatKind}
use Rattle.sql_flat.specs.declared.kind.FlatKind.TheVariants as K
use Rattle.sql_flat.specs.declared.kind.FlatNode.{FlatNode}
use Rattle.sql_rules_check.specs.inside.Known.{Known}
use Rattle.sql_rules_check.specs.inside.Sites.{is_out, site_out}
use Rattle.sql_rules_check.specs.inside.Walks.{walked}
use Rattle.sql_rules_check.proofs.Absent.{Never, NoClause, NoCombination, NoSelect, NoSource, no-from, no-order, no-positions, of-any-expr, to-any-expr}
use Rattle.sql_rules_check.proofs.Decided.{decides-forward, decides-rule}
use Rattle.sql_rules_check.proofs.Seen as seen

never : Decides false ⊥
never = (λ e. absurd (false≢true e), λ h. absurd h)

abbrev NotSeen : View → FlatKind → Roses FlatKind → Type 0
NotSeen v (K.Column a c) ts = ¬ IsSeen v (record { alias = a; table = c.table })
NotSeen v _ ts = ⊥

out-decides : (v : View) (k : FlatKind) (w : Known)
    → Decides (is_out true v k) (seen.of_kind NotSeen NoClause Never Never NoSelect NoCombination NoSource v k w)
out-decides v (K.Column a c) w =
    let o : Origin = record { alias = a; table = c.table } in
    Decides-not (list_any (λ l. same_origin l o) v)
    (any-decides (λ l. l ≡ o) (λ l. same_origin l o) (λ l. origin-decides l o) v)
out-decides v _ w = never

to-node : (v : View) (e : Expr) → seen.OfExpr NotSeen NoClause Never Never NoSelect NoCombination NoSource v e
    → IsOutOfScope v e
to-node v (column o c) h = h
to-node v _ h = absurd h

of-node : (v : View) (e : Expr) → IsOutOfScope v e
    → seen.OfExpr NotSeen NoClause Never Never NoSelect NoCombination NoSource v e
of-node v (column o c) h = h
of-node v _ h = absurd h

module _ (schema : Declarations) (d : Dialect) where
  to-rule : (p : Part) → seen.PartOut NotSeen NoClause Never Never NoSelect NoCombination NoSource p
      → PartBreaks rule.NotInScope schema d p
  to-rule (a_select outer s) (inl (inl h)) =
      to-any-expr NotSeen NoSelect NoCombination NoSource IsOutOfScope to-node outer s h
  to-rule (a_select outer s) (inl (inr h)) = absurd h
  to-rule (a_select outer s) (inr (inl h)) = absurd (no-from NotSeen NoSelect NoCombination s.source h)
  to-rule (a_select outer s) (inr (inr h)) = absurd (no-order NotSeen NoSelect NoCombination NoSource s.order h)
  to-rule (a_combination c) (inl h) = h
  to-rule (a_combination c) (inr h) = no-positions NotSeen NoSelect NoCombination NoSource c.order h

  of-rule : (p : Part) → PartBreaks rule.NotInScope schema d p
      → seen.PartOut NotSeen NoClause Never Never NoSelect NoCombination NoSource p
  of-rule (a_select outer s) h =
      inl (inl (of-any-expr NotSeen NoSelect NoCombination NoSource IsOutOfScope of-node outer s h))
  of-rule (a_combination c) h = absurd h

pub out-of-scope : (s : Statement) (nodes : List FlatNode) (b : Bool) → nodes ≡ flat_of s
    → b ≡ list_any (site_out true) (walked [] 0 nodes) → (schema : Declarations) (d : Dialect)
    → Decides b (Broken rule.NotInScope schema d s)
out-of-scope s nodes b is h schema d =
    decides-rule NotSeen NoClause Never Never NoSelect NoCombination NoSource (PartBreaks rule.NotInScope schema d)
    (to-rule schema d) (of-rule schema d) (parts [] s) b
    (decides-forward NotSeen NoClause Never Never NoSelect NoCombination NoSource (site_out true)
    (λ x. out-decides x.around.clause x.kind x.within)
    s nodes b is h)

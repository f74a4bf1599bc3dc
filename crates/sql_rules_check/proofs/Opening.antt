-- Turns of the loops from the first node on.
use Rattle.std.proofs.Common.{◌-◌, Bool, Some, slice_get, take, ◌≡◌, ℕ, ◌<◌, ◌≤◌, ◌+◌, ◌⊎◌, List, [], ◌∷◌, ◌++◌, map, drop, get_or, length, refl, sym, ap, ◌∙◌, arith, append_assoc}
use Rattle.std.specs.List.{flat_map}
use Rattle.sql_flat_law.specs.declared.opened.Opened.{Opened}
use Rattle.sql_flat_law.specs.Opened as stack
use Rattle.sql_flat_law.specs.Opened.{still_open}
use Rattle.sql_flat_law.specs.Seen.{seen}
use Rattle.sql_flat_law.proofs.Opening.{last-opens, opens-push, seen-open}
use Rattle.sql_flat.specs.Flat.{flat_node}
use Rattle.sql_rules.specs.Scope.{View}
use Rattle.sql_rules_check.specs.inside.Kids.{nodes_from}
use Rattle.sql_rules_check.specs.inside.Sites.{of_select}
use Rattle.sql_rules_check.specs.inside.Lists.{kind_of, end_of}
use Rattle.sql_rules_check.specs.inside.Views.{Views, leaf_at, is_passed, keeps}
use Rattle.sql_flat.specs.declared.kind.FlatKind.{FlatKind}
use Rattle.sql_flat.specs.declared.kind.FlatKind.TheVariants as K
use Rattle.sql_rules_check.specs.inside.Walks.{entered_at, around, leaves_from, opens, views_of}
use Rattle.sql_rules_check.proofs.Ahead.{gathered-over}
use Rattle.sql_rules_check.specs.declared.scope.Known.{Known}
use Rattle.sql_flat.specs.declared.kind.FlatNode.{FlatNode}

abbrev leaves_of : List (ℕ × FlatNode) → View
leaves_of = flat_map (λ c. leaf_at c.1.kind)

pub leaves-over : (e p : ℕ) (nodes : List FlatNode)
    → leaves_of (nodes_from is_passed e p nodes) ≡ leaves_from e p nodes
leaves-over = gathered-over leaf_at is_passed

pub leaves-more : (own new all : View) (cs ds : List (ℕ × FlatNode)) (c : ℕ × FlatNode) → cs ≡ c ∷ ds
    → new ≡ own ++ leaf_at c.1.kind → own ++ leaves_of cs ≡ all → new ++ leaves_of ds ≡ all
leaves-more own new all cs ds c is more held =
    ap (λ v. v ++ leaves_of ds) more ∙ append_assoc own (leaf_at c.1.kind) (leaves_of ds)
    ∙ ap (λ l. own ++ leaves_of l) (sym is) ∙ held

-- ---- the stack of open nodes

pub closes : (i : ℕ) (old new : List (Opened Known)) → stack.opens new ≡ still_open i (stack.opens old)
    → opens new ≡ still_open i (opens old)
closes i old new h = ap (seen views_of) h ∙ seen-open views_of i (stack.opens old)

pub open-around : (all os : List (Opened Known)) (o : Opened Known) → all ≡ os ++ o ∷ []
    → around (opens all) ≡ views_of o.known
open-around all os o is = ap (λ σ. around (seen views_of σ)) (ap stack.opens is ∙ opens-push os o)

pub last-around : (os : List (Opened Known)) (o : Opened Known) → slice_get os (length os - 1) ≡ Some o
    → around (opens os) ≡ views_of o.known
last-around os o h = ap (λ σ. around (seen views_of σ)) (last-opens os o h)

-- what is known within a node is what is known where it was opened; where it keeps what is around it, no test asks
pub entered-within : (t : View → Bool) (k : FlatKind) (e : ℕ) (w : Views) (σ : List (ℕ × Views))
    → of_select t k (around (entered_at (keeps k) e w σ)) ≡ of_select t k w
entered-within t (K.Select s) e w σ = refl
entered-within t _ e w σ = refl

pub ruleset opening = (entered-within, leaves-over, leaves-more, opens-push, closes, open-around)

use Rattle.std.proofs.Common.{rules, ℕ, List, ◌≡◌, ◌<◌, ◌||◌, ◌&&◌, not, length, get_or, sym, ap, ◌∙◌}
use Rattle.std.specs.Str.{bytes_eq}
use Rattle.sql_schema.specs.Refusals.{relate_alike}
use Rattle.sql_schema.specs.inside.NameSets.{has_pair}
use Rattle.sql_schema.proofs.NameSets.{no-pair, pair-added, known-either, known-neither}
use Rattle.sql_schema.proofs.Repeats.{repeats-none, turn, found, crossed, or-swapped}
use Rattle.sql_schema.proofs.refusal.has_repeated_relation.Goals as goal

pub loop-joinable-init : goal.loop-joinable-init
loop-joinable-init c =
    let s = c.new-related.result in
    let none = no-pair s c.new-related.ensures.empty in
    repeats-none relate_alike _ c.args.joinables.now
    (λ y. ap (λ b. b || has_pair s y.child y.parent) (none y.parent y.child) ∙ none y.child y.parent)

pub returns-then-not-is_new : goal.returns-then-not-is_new
returns-then-not-is_new c =
    let x = c.joinable-item.result in
    let xs = c.args.joinables.now in
    let i = c.loop-joinable.joinable-index in
    let s = c.loop-joinable.related in
    let child = c.as_str-child in
    let parent = c.as_str-parent in
    let within : i < length xs = search rules in
    let is : x ≡ get_or xs i x = search rules in
    let back : c.contains-is_new_reversed.result ≡ has_pair s x.parent x.child =
    c.contains-is_new_reversed.ensures ∙ ap (λ p. has_pair s p child.result.now) parent.ensures
    ∙ ap (λ q. has_pair s x.parent q) child.ensures in
    let forth : c.in_ok-is_new.is_new ≡ not (has_pair s x.child x.parent) =
    c.in_ok-is_new.ensures.added
    ∙ ap not
    (ap (λ p. has_pair s p parent.result.now) child.ensures ∙ ap (λ q. has_pair s x.child q) parent.ensures) in
    let known =
    known-either c.contains-is_new_reversed.result c.in_ok-is_new.is_new (has_pair s x.parent x.child)
    (has_pair s x.child x.parent) back forth c.if-not-is_new.either in
    sym (found relate_alike _ xs i x within is known) ∙ c.loop-joinable.invariant

pub loop-joinable-preserved : goal.loop-joinable-preserved
loop-joinable-preserved c =
    let x = c.joinable-item.result in
    let xs = c.args.joinables.now in
    let i = c.loop-joinable.joinable-index in
    let s = c.loop-joinable.related in
    let n = c.insert.new.self in
    let child = c.as_str-child in
    let parent = c.as_str-parent in
    let within : i < length xs = search rules in
    let is : x ≡ get_or xs i x = search rules in
    let back : c.contains-is_new_reversed.result ≡ has_pair s x.parent x.child =
    c.contains-is_new_reversed.ensures ∙ ap (λ p. has_pair s p child.result.now) parent.ensures
    ∙ ap (λ q. has_pair s x.parent q) child.ensures in
    let forth : c.in_ok-is_new.is_new ≡ not (has_pair s x.child x.parent) =
    c.in_ok-is_new.ensures.added
    ∙ ap not
    (ap (λ p. has_pair s p parent.result.now) child.ensures ∙ ap (λ q. has_pair s x.child q) parent.ensures) in
    let new =
    known-neither c.contains-is_new_reversed.result c.in_ok-is_new.is_new (has_pair s x.parent x.child)
    (has_pair s x.child x.parent) back forth c.if-not-is_new.false in
    let added : (a b : List ℕ) → has_pair n a b ≡ ((bytes_eq x.child a && bytes_eq x.parent b) || has_pair s a b) =
    λ a b. pair-added s n (child.result, parent.result) c.in_ok-is_new.ensures.updates a b
    ∙ ap (λ p. (bytes_eq p a && bytes_eq parent.result.now b) || has_pair s a b) child.ensures
    ∙ ap (λ q. (bytes_eq x.child a && bytes_eq q b) || has_pair s a b) parent.ensures in
    turn relate_alike _ xs i x within is (λ y. has_pair n y.parent y.child || has_pair n y.child y.parent) new
    (λ y. ap (λ b. b || has_pair n y.child y.parent) (added y.parent y.child)
    ∙ ap (λ b. ((bytes_eq x.child y.parent && bytes_eq x.parent y.child) || has_pair s y.parent y.child) || b)
    (added y.child y.parent)
    ∙ crossed (bytes_eq x.child y.parent && bytes_eq x.parent y.child) (has_pair s y.parent y.child)
    (bytes_eq x.child y.child && bytes_eq x.parent y.parent) (has_pair s y.child y.parent)
    ∙ ap (λ b. b || (has_pair s y.parent y.child || has_pair s y.child y.parent))
    (or-swapped (bytes_eq x.child y.parent && bytes_eq x.parent y.child)
    (bytes_eq x.child y.child && bytes_eq x.parent y.parent)))
    ∙ c.loop-joinable.invariant

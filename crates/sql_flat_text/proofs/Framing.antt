-- The stack of open nodes.
use Rattle.std.proofs.Common.{◌≡◌, ◌<◌, ◌≤◌, ◌-◌, ◌+◌, ℕ, suc, List, [], ◌∷◌, ◌++◌, map, length, take, set, get_or, Ok, refl, sym, ap, ◌∙◌, subst, arith}
use Rattle.std.proofs.lemmas.List.{reverse-append, set_split, drop_all, take_more, take_all}
use Rattle.sql_dialect.specs.declared.backend.Dialect.{Dialect}
use Rattle.sql_flat_text.proofs.Pouring.{pours-none}
use Rattle.sql_flat_text.specs.declared.place.Open.{Open}
use Rattle.sql_flat_text.specs.inside.Sinks.{Sunk, Pours}
use Rattle.sql_flat_text.specs.inside.Turns.{frame_of, frames, leading, with_child}

pub frames-push : (os : List Open) (o : Open) → frames (os ++ o ∷ []) ≡ frame_of o ∷ frames os
frames-push os o = ap (map frame_of) (reverse-append os (o ∷ []))

-- one more child of the last is counted
pub frames-count : (os : List Open) (n : ℕ) (top : Open) → n ≡ length os → 0 < n → top ≡ get_or os (n - 1) top
    → frames (set os (n - 1) (record { node = top.node; begun = top.begun + 1 })) ≡ with_child (frames os)
frames-count os n top len some at =
    let more : Open = record { node = top.node; begun = top.begun + 1 } in
    let i = n - 1 in
    let within : i < length os = omega arith in
    let up : length os ≤ suc i = omega arith in
    let up_one : length os ≤ i + 1 = omega arith in
    let whole : os ≡ take i os ++ top ∷ [] =
    sym (take_all (i + 1) os up_one) ∙ take_more os i top within ∙ ap (λ x. take i os ++ x ∷ []) (sym at) in
    ap frames (set_split os i more within ∙ ap (λ l. take i os ++ more ∷ l) (drop_all (suc i) os up))
    ∙ frames-push (take i os) more
    ∙ sym (ap with_child (ap frames whole ∙ frames-push (take i os) top))

no-frame : (os : List Open) → length os ≡ 0 → os ≡ []
no-frame [] none = refl
no-frame (o ∷ os) none = absurd (omega arith)

pub leads-none : {d : Dialect} {s : Sunk} (os : List Open) → length os ≡ 0 → Pours d s (leading d (frames os)) (Ok tt) s
leads-none {d} {s} os none = subst (λ l. Pours d s (leading d (frames l)) (Ok tt) s) (sym (no-frame os none)) pours-none

pub ruleset framing = (frames-push, leads-none)

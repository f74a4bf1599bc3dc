-- Walks one after the other.
use Rattle.std.proofs.lemmas.List.{append-nil}
use Rattle.std.proofs.lemmas.Grind.{common_steps}
use Rattle.std.proofs.Common.{◌≡◌, arith, Bool, true, false, ◌&&◌, List, [], ◌∷◌, ◌++◌, Result, Ok, Err, refl, sym, ap, ◌∙◌, subst, inl, inr, ⊎_elim}
use Rattle.sql_dialect.specs.declared.backend.Dialect.{Dialect}
use Rattle.sql_pass.proofs.Laws.{after-append}
use Rattle.sql_pass.specs.Held.{Held, text_so_far, collected, safe, shown, noop, after, refuses}
use Rattle.sql_pass.specs.Pieces.{Piece}
use Rattle.sql_pass.specs.Walks.{Stops, Passes, Walked, walked, Walks, walks}
use Rattle.sql_pass.specs.declared.pass.PassError.{PassError}
use Rattle.sql_pass.specs.declared.pass.PassError.TheVariants.{NoMemory, TooManyBinds, TooLong}

and_true : (b : Bool) → (b && true) ≡ b
and_true true = refl
and_true false = refl

pub after-none : {D : Type 0} (d : Dialect) (h : Held D) → after d h [] ≡ h
unfolding after
after-none d (text_so_far x t n) = ap (λ l. text_so_far x l n) (append-nil t)
after-none d (collected x c) = grind (arith, common_steps)
after-none d (safe x b) = ap (safe x) (and_true b)
after-none d (shown x vs) = ap (shown x) (append-nil vs)
after-none d (noop x b) = ap (noop x) (and_true b)

pub Stops-left : {D : Type 0} (d : Dialect) (h : Held D) (ps qs : List Piece) (e : PassError) (g : Held D) → Stops d h ps e g
    → Stops d h (ps ++ qs) e g
unfolding Stops
Stops-left d h [] qs e g s = absurd s
Stops-left d h (p ∷ ps) qs e g s = ⊎_elim inl (λ r. inr (Stops-left d (after d h (p ∷ [])) ps qs e g r)) s

pub Stops-right : {D : Type 0} (d : Dialect) (h : Held D) (ps qs : List Piece) (e : PassError) (g : Held D)
    → Stops d (after d h ps) qs e g → Stops d h (ps ++ qs) e g
unfolding Stops
Stops-right d h [] qs e g s = subst (λ k. Stops d k qs e g) (after-none d h) s
Stops-right d h (p ∷ ps) qs e g s =
    inr (Stops-right d (after d h (p ∷ [])) ps qs e g
    (subst (λ k. Stops d k qs e g) (sym (after-append d h (p ∷ []) ps)) s))

pub passes-then : {D : Type 0} (d : Dialect) (h : Held D) (ps qs : List Piece) → Passes d h ps → Passes d (after d h ps) qs
    → Passes d h (ps ++ qs)
unfolding Passes
passes-then d h [] qs p q = subst (λ k. Passes d k qs) (after-none d h) q
passes-then d h (x ∷ ps) qs p q = (
  p.0,
  passes-then d (after d h (x ∷ [])) ps qs p.1 (subst (λ k. Passes d k qs) (sym (after-append d h (x ∷ []) ps)) q),
)

walked-then : {D : Type 0} (d : Dialect) (h k g : Held D) (ps qs : List Piece) (r : Result (Unit {0}) PassError) → k ≡ after d h ps
    → Passes d h ps → Walked d k qs r g → Walked d h (ps ++ qs) r g
unfolding Walked
walked-then d h k g ps qs (Ok u) a p b = (
  b.0 ∙ ap (λ x. after d x qs) a ∙ after-append d h ps qs,
  passes-then d h ps qs p (subst (λ x. Passes d x qs) a b.1),
)
walked-then d h k g ps qs (Err e) a p b = Stops-right d h ps qs e g (subst (λ x. Stops d x qs e g) a b)

module _ {D : Type 0} {d : Dialect} {h : Held D} where
  -- no piece
  pub walks-none : Walks d h [] (Ok tt) h
  unfolding Walked Passes
  walks-none = walks (sym (after-none d h), tt)

  -- one walk, and then the other
  pub walks-then : {k g : Held D} {ps qs : List Piece} {r : Result (Unit {0}) PassError} → Walks d h ps (Ok tt) k
      → Walks d k qs r g → Walks d h (ps ++ qs) r g
  unfolding Walked
  walks-then {k} {g} {ps} {qs} {r} a b = walks (walked-then d h k g ps qs r (walked a).0 (walked a).1 (walked b))

  -- a walk that stops does so in a longer one
  pub walks-stop : {ps : List Piece} (qs : List Piece) {e : PassError} {g : Held D} → Walks d h ps (Err e) g
      → Walks d h (ps ++ qs) (Err e) g
  unfolding Walked
  walks-stop {ps} qs {e} {g} w = walks (Stops-left d h ps qs e g (walked w))

  -- the same where r is another name of the error, as after a `?`
  pub walks-fail : {ps : List Piece} (qs : List Piece) {e : PassError} {g : Held D} {r : Result (Unit {0}) PassError}
      → Walks d h ps (Err e) g → r ≡ Err e → Walks d h (ps ++ qs) r g
  walks-fail {ps} qs {e} {g} {r} w is = subst (λ x. Walks d h (ps ++ qs) x g) (sym is) (walks-stop qs w)

-- these two kinds of pass refuse nothing
abbrev pub is_firm : {D : Type 0} → Held D → Bool
is_firm (text_so_far x t n) = false
is_firm (collected x c) = false
is_firm (safe x b) = true
is_firm (shown x vs) = false
is_firm (noop x b) = true

after-firm : {D : Type 0} (d : Dialect) (h : Held D) (ps : List Piece) → is_firm h ≡ true → is_firm (after d h ps) ≡ true
unfolding after
after-firm d (text_so_far x t n) ps f = f
after-firm d (collected x c) ps f = f
after-firm d (safe x b) ps f = f
after-firm d (shown x vs) ps f = f
after-firm d (noop x b) ps f = f

refuses-firm : {D : Type 0} (d : Dialect) (h : Held D) (p : Piece) (e : PassError) → is_firm h ≡ true → refuses d h p e ≡ true → ⊥
unfolding refuses
refuses-firm d (text_so_far x t n) p e f r = cc
refuses-firm d (collected x c) p e f r = cc
refuses-firm d (safe x b) p NoMemory f r = cc
refuses-firm d (safe x b) p TooManyBinds f r = cc
refuses-firm d (safe x b) p TooLong f r = cc
refuses-firm d (shown x vs) p e f r = cc
refuses-firm d (noop x b) p NoMemory f r = cc
refuses-firm d (noop x b) p TooManyBinds f r = cc
refuses-firm d (noop x b) p TooLong f r = cc

pub Stops-firm : {D : Type 0} (d : Dialect) (h : Held D) (ps : List Piece) (e : PassError) (g : Held D) → is_firm h ≡ true
    → Stops d h ps e g → ⊥
unfolding Stops
Stops-firm d h [] e g f s = s
Stops-firm d h (p ∷ ps) e g f s =
    ⊎_elim (λ r. refuses-firm d h p e f r.0)
    (λ r. Stops-firm d (after d h (p ∷ [])) ps e g (after-firm d h (p ∷ []) f) r) s

pub walks-firm : {D : Type 0} {d : Dialect} {h g : Held D} {ps : List Piece} {e : PassError} → is_firm h ≡ true
    → Walks d h ps (Err e) g → ⊥
unfolding Walked
walks-firm {D} {d} {h} {g} {ps} {e} f w = Stops-firm d h ps e g f (walked w)

pub ruleset walking = (walks-none, walks-fail, walks-then)

pub ruleset firm = (walks-firm, Stops-firm)

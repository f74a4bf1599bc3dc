-- Pieces written one after the other.
use Rattle.std.proofs.Common.{◌≡◌, ◌≤◌, ◌<◌, ◌+◌, ℕ, zero, suc, Bool, true, false, ◌&&◌, List, [], ◌∷◌, ◌++◌, length, Result, Ok, Err, refl, sym, ap, ◌∙◌, subst, append-nil, append_assoc, arith, IsTrue}
use Rattle.std.proofs.lemmas.Grind.{common_steps}
use Rattle.sql_dialect.specs.declared.backend.Dialect.{Dialect}
use Rattle.sql_dialect.specs.declared.backend.Dialect.TheVariants.{Pg, Mysql, Sqlite, Bracket}
use Rattle.sql_dialect.specs.declared.builder.BindError.{BindError}
use Rattle.sql_dialect.specs.declared.builder.BindError.TheVariants.{TooManyBinds}
use Rattle.sql_dialect.specs.Written.{numbers, raised, placeholder, MAX_BINDS}
use Rattle.sql_pass.proofs.Laws.{text_of-append, count_of-append, values_of-append, is_safe-append}
use Rattle.sql_pass.specs.declared.value.Bound.{Bound}
use Rattle.sql_pass.specs.Pieces.{Piece, one, Text, Ident, Bind, ValueOnly, Unsafe, count_at, text_of, count_of, values_of, is_safe}
use Rattle.sql_flat_text.specs.inside.Kept.{IsPlain}
use Rattle.sql_flat_text.specs.inside.Writing.{at_second, behind_first}
use Rattle.sql_flat_text.specs.inside.Sinks.{Sunk, poured, texted, keeping, Texted, Writes, writes, texted_by, Overflows, Fits, Poured, Pours, pours, poured_by}

and-true : (b : Bool) → (b && true) ≡ b
and-true true = refl
and-true false = refl

and-assoc : (a b c : Bool) → ((a && b) && c) ≡ (a && (b && c))
and-assoc true b c = refl
and-assoc false b c = refl

pub poured-none : (d : Dialect) (s : Sunk) → poured d s [] ≡ s
unfolding poured
poured-none d s = λ i. record {
  text = append-nil s.text i;
  count = s.count;
  values = append-nil s.values i;
  safe = and-true s.safe i;
}

pub poured-append : (d : Dialect) (s : Sunk) (ps qs : List Piece) → poured d (poured d s ps) qs ≡ poured d s (ps ++ qs)
unfolding poured
poured-append d s ps qs =
    grind (
      arith,
      common_steps,
      text_of-append d s.count ps qs,
      count_of-append d s.count ps qs,
      values_of-append ps
          qs,
      is_safe-append ps qs,
      and-assoc s.safe (is_safe ps) (is_safe qs),
    )

count-at-up : (d : Dialect) (n : ℕ) (p : Piece) → n ≤ count_at d n p
count-at-up d n (Text t) = omega arith
count-at-up d n (Ident t) = omega arith
count-at-up Pg n (Bind b) = omega arith
count-at-up Mysql n (Bind b) = omega arith
count-at-up Sqlite n (Bind b) = omega arith
count-at-up Bracket n (Bind b) = omega arith
count-at-up Pg n (ValueOnly b) = omega arith
count-at-up Mysql n (ValueOnly b) = omega arith
count-at-up Sqlite n (ValueOnly b) = omega arith
count-at-up Bracket n (ValueOnly b) = omega arith
count-at-up d n Unsafe = omega arith

pub count-up : (d : Dialect) (n : ℕ) (ps : List Piece) → n ≤ count_of d n ps
count-up d n [] = omega arith
count-up d n (p ∷ ps) =
    let a : n ≤ count_at d n p = count-at-up d n p in
    let b : count_at d n p ≤ count_of d (count_at d n p) ps = count-up d (count_at d n p) ps in
    omega arith

-- a dialect that numbers placeholders counts the values
count-one : (d : Dialect) (n : ℕ) (p : Piece) (ps : List Piece) → numbers d ≡ true
    → count_at d n p + length (values_of ps) ≡ n + length (values_of (p ∷ ps))
count-one d n (Text t) ps h = refl
count-one d n (Ident t) ps h = refl
count-one Pg n (Bind b) ps h = omega arith
count-one Mysql n (Bind b) ps h = cc
count-one Sqlite n (Bind b) ps h = cc
count-one Bracket n (Bind b) ps h = omega arith
count-one Pg n (ValueOnly b) ps h = omega arith
count-one Mysql n (ValueOnly b) ps h = cc
count-one Sqlite n (ValueOnly b) ps h = cc
count-one Bracket n (ValueOnly b) ps h = omega arith
count-one d n Unsafe ps h = refl

pub count-values : (d : Dialect) (n : ℕ) (ps : List Piece) → numbers d ≡ true
    → count_of d n ps ≡ n + length (values_of ps)
count-values d n [] h = omega arith
count-values d n (p ∷ ps) h = count-values d (count_at d n p) ps h ∙ count-one d n p ps h

pub overflows-left : (d : Dialect) (n : ℕ) (ps qs : List Piece) → Overflows d n ps → Overflows d n (ps ++ qs)
unfolding Overflows
overflows-left d n ps qs h =
    let a = count-up d (count_of d n ps) qs in
    let b = count_of-append d n ps qs in
    (h.0, omega arith)

pub overflows-right : (d : Dialect) (n : ℕ) (ps qs : List Piece) → Overflows d (count_of d n ps) qs
    → Overflows d n (ps ++ qs)
unfolding Overflows
overflows-right d n ps qs h = let b = count_of-append d n ps qs in (h.0, omega arith)

poured-count : (d : Dialect) (s : Sunk) (ps : List Piece) → (poured d s ps).count ≡ count_of d s.count ps
unfolding poured
poured-count d s ps = refl

poured-then : (d : Dialect) (s t u : Sunk) (ps qs : List Piece) (r : Result (Unit {0}) BindError) → t ≡ poured d s ps
    → (Fits d s.count → Fits d t.count) → Poured d t qs r u → Poured d s (ps ++ qs) r u
unfolding Poured
poured-then d s t u ps qs (Ok x) a f b = (
  b.0 ∙ ap (λ y. poured d y qs) a ∙ poured-append d s ps qs,
  λ h. b.1 (f h),
)
poured-then d s t u ps qs (Err e) a f b = λ is.
    overflows-right d s.count ps qs
    (subst (λ n. Overflows d n qs) (ap (λ y. y.count) a ∙ poured-count d s ps) (b is))

module _ {d : Dialect} {s : Sunk} where
  -- no piece
  pub pours-none : Pours d s [] (Ok tt) s
  unfolding Poured
  pours-none = pours (sym (poured-none d s), λ h. h)

  -- some pieces, and then others
  pub pours-then : {t u : Sunk} {ps qs : List Piece} {r : Result (Unit {0}) BindError} → Pours d s ps (Ok tt) t
      → Pours d t qs r u → Pours d s (ps ++ qs) r u
  unfolding Poured
  pours-then {t} {u} {ps} {qs} {r} a b =
      pours (poured-then d s t u ps qs r (poured_by a).0 (poured_by a).1 (poured_by b))

  -- where the first are refused, all are
  pub pours-fail : {ps : List Piece} (qs : List Piece) {e : BindError} {t : Sunk} {r : Result (Unit {0}) BindError}
      → Pours d s ps (Err e) t → r ≡ Err e → Pours d s (ps ++ qs) r t
  unfolding Poured
  pours-fail {ps} qs {e} {t} {r} w is =
      subst (λ x. Pours d s (ps ++ qs) x t) (sym is) (pours (λ h. overflows-left d s.count ps qs (poured_by w h)))

-- ---- placeholders

-- one that has no number fits
pub fits-bind : (d : Dialect) (n : ℕ) → ¬ (IsTrue (numbers d) × (n ≡ MAX_BINDS)) → Fits d n → Fits d (raised d n)
unfolding Fits
fits-bind Pg n free h = λ is. let below = h is in by_test (λ e. free (refl, e)) below
  where
    by_test : ¬ (n ≡ MAX_BINDS) → n ≤ MAX_BINDS → n + 1 ≤ MAX_BINDS
    by_test f b = grind (arith, f, b)
fits-bind Mysql n free h = λ is. cc
fits-bind Sqlite n free h = λ is. cc
fits-bind Bracket n free h = λ is. let below = h is in by_test (λ e. free (refl, e)) below
  where
    by_test : ¬ (n ≡ MAX_BINDS) → n ≤ MAX_BINDS → n + 1 ≤ MAX_BINDS
    by_test f b = grind (arith, f, b)

pub overflows-bind : (d : Dialect) (n : ℕ) (b : Bound) → IsTrue (numbers d) → n ≡ MAX_BINDS
    → Overflows d n (one (Bind b))
unfolding Overflows one
overflows-bind Pg n b is full = (is, omega arith)
overflows-bind Mysql n b is full = cc
overflows-bind Sqlite n b is full = cc
overflows-bind Bracket n b is full = (is, omega arith)

pub bind-written : (d : Dialect) (s t : Sunk) (b : Bound) → t.text ≡ s.text ++ placeholder d (s.count + 1)
    → t.count ≡ raised d s.count → t.values ≡ s.values → t.safe ≡ s.safe
    → ¬ (IsTrue (numbers d) × (s.count ≡ MAX_BINDS))
    → Writes d s (one (Bind b)) (Ok tt) t
unfolding Texted texted one
bind-written d s t b text count values safe free =
    writes (
      (λ i. record {
        text = (text ∙ ap (λ x. s.text ++ x) (sym (append-nil (placeholder d (s.count + 1))))) i;
        count = count i;
        values = values i;
        safe = safe i;
      }),
      λ h. subst (λ n. Fits d n) (sym count) (fits-bind d s.count free h),
    )

-- more values than there are numbers
pub overflows-values : (d : Dialect) (n : ℕ) (ps : List Piece) → IsTrue (numbers d)
    → MAX_BINDS < n + length (values_of ps)
    → Overflows d n ps
unfolding Overflows
overflows-values d n ps is more = let c = count-values d n ps is in (is, omega arith)

pub fits-values : (d : Dialect) (n : ℕ) (ps : List Piece)
    → (IsTrue (numbers d) → n ≤ MAX_BINDS → MAX_BINDS < n + length (values_of ps) → ⊥) → Fits d n
    → Fits d (count_of d n ps)
unfolding Fits
fits-values d n ps room h = λ is.
    let c = count-values d n ps is in
    let r = room is (h is) in
    by_test r (h is) c
  where
    by_test : (MAX_BINDS < n + length (values_of ps) → ⊥) → n ≤ MAX_BINDS → count_of d n ps ≡ n + length (values_of ps)
        → count_of d n ps ≤ MAX_BINDS
    by_test r b c = grind (arith, r, b, c)

-- the text, and then the values
pub texted-poured : (d : Dialect) (s : Sunk) (ps : List Piece) (vs : List Bound) → values_of ps ≡ vs → is_safe ps ≡ true
    → keeping (texted d s ps) vs ≡ poured d s ps
unfolding poured texted keeping
texted-poured d s ps vs v a = λ i. record {
  text = s.text ++ text_of d s.count ps;
  count = count_of d s.count ps;
  values = s.values ++ sym v i;
  safe = (sym (and-true s.safe) ∙ ap (λ b. s.safe && b) (sym a)) i;
}

pub texted-alone : (d : Dialect) (s : Sunk) (ps : List Piece) → values_of ps ≡ [] → is_safe ps ≡ true
    → texted d s ps ≡ poured d s ps
unfolding poured texted
texted-alone d s ps v a = λ i. record {
  text = s.text ++ text_of d s.count ps;
  count = count_of d s.count ps;
  values = (sym (append-nil s.values) ∙ ap (λ vs. s.values ++ vs) (sym v)) i;
  safe = (sym (and-true s.safe) ∙ ap (λ b. s.safe && b) (sym a)) i;
}

alone : (d : Dialect) (s : Sunk) (ps : List Piece) (r : Result (Unit {0}) BindError) (t : Sunk) → Texted d s ps r t
    → IsPlain ps
    → Poured d s ps r t
unfolding Poured Texted
alone d s ps (Ok u) t w p = (w.0 ∙ texted-alone d s ps p.0 p.1, w.1)
alone d s ps (Err e) t w p = w

module _ {d : Dialect} {s : Sunk} {ps : List Piece} where
  -- pieces that bind nothing are their text
  pub writes-alone : {r : Result (Unit {0}) BindError} {t : Sunk} → Writes d s ps r t → IsPlain ps → Pours d s ps r t
  writes-alone {r} {t} w p = pours (alone d s ps r t (texted_by w) p)

  -- the text was written, and then the values were kept
  pub writes-keep : {t u : Sunk} {vs : List Bound} → Writes d s ps (Ok tt) t → u ≡ keeping t vs → values_of ps ≡ vs
      → is_safe ps ≡ true → Pours d s ps (Ok tt) u
  unfolding Poured Texted keeping
  writes-keep {t} {u} {vs} w k v a =
      pours (
        k ∙ ap (λ x. keeping x vs) (texted_by w).0 ∙ texted-poured d s ps vs v a,
        λ h. subst (λ x. Fits d x.count) (sym k) ((texted_by w).1 h),
      )

  pub writes-fail : {t u : Sunk} {e : BindError} {r : Result (Unit {0}) BindError} → Writes d s ps (Err e) t → r ≡ Err e
      → Pours d s ps r u
  unfolding Poured Texted
  writes-fail {t} {u} {e} {r} w is = subst (λ x. Pours d s ps x u) (sym is) (pours (texted_by w))

  -- out of memory
  pub pours-memory : {u : Sunk} {e : BindError} {r : Result (Unit {0}) BindError} → ¬ (e ≡ TooManyBinds) → r ≡ Err e
      → Pours d s ps r u
  unfolding Poured
  pours-memory {u} {e} {r} other is = subst (λ x. Pours d s ps x u) (sym is) (pours (λ h. absurd (other h)))

pub bind-values : (b : Bound) → values_of (one (Bind b)) ≡ b ∷ []
unfolding one
bind-values b = refl

pub bind-safe : (b : Bound) → is_safe (one (Bind b)) ≡ true
unfolding one
bind-safe b = refl

pub keeping-none : (s : Sunk) → keeping s [] ≡ s
unfolding keeping
keeping-none s = ap (λ vs. record s { values = vs }) (append-nil s.values)

pub keeping-append : (s : Sunk) (vs ws : List Bound) → keeping (keeping s vs) ws ≡ keeping s (vs ++ ws)
unfolding keeping
keeping-append s vs ws = ap (λ xs. record s { values = xs }) (append_assoc s.values vs ws)

pub ruleset pouring = (pours-none, pours-fail, pours-then)

pub ruleset placing = (fits-bind, bind-written, overflows-bind, fits-values, overflows-values)

pub ruleset keeps = (writes-alone, writes-keep, writes-fail, pours-memory, bind-values, bind-safe)

pub ruleset keeping_on = (keeping-none, keeping-append)

-- ---- what stands before some children alone

module _ {d : Dialect} {s t : Sunk} {ps : List Piece} {r : Result (Unit {0}) BindError} where
  pub pours-second : (n : ℕ) → n ≡ 1 → Pours d s ps r t → Pours d s (at_second ps n) r t
  pours-second n is w = subst (λ m. Pours d s (at_second ps m) r t) (sym is) w

  pub pours-behind : (n : ℕ) → ¬ (n ≡ 0) → Pours d s ps r t → Pours d s (behind_first ps n) r t
  pours-behind zero other w = absurd (other refl)
  pours-behind (suc n) other w = w

module _ {d : Dialect} {s : Sunk} where
  pub pours-other : (ps : List Piece) (n : ℕ) → ¬ (n ≡ 1) → Pours d s (at_second ps n) (Ok tt) s
  pours-other ps zero other = pours-none
  pours-other ps (suc zero) other = absurd (other refl)
  pours-other ps (suc (suc n)) other = pours-none

  pub pours-first : (ps : List Piece) (n : ℕ) → n ≡ 0 → Pours d s (behind_first ps n) (Ok tt) s
  pours-first ps n is = subst (λ m. Pours d s (behind_first ps m) (Ok tt) s) (sym is) pours-none

pub ruleset parting = (pours-second, pours-behind, pours-other, pours-first)

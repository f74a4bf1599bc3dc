-- Why a walk is refused: which pass it is in, and what is among the pieces.
use Rattle.std.proofs.Common.{◌≡◌, ℕ, ◌+◌, ◌≤◌, Bool, true, false, ◌||◌, List, [], ◌∷◌, ◌++◌, length, ⊎_elim, Ok, Err, refl, sym, ap, ◌∙◌, arith}
use Rattle.std.specs.Cmp.{first_so, second_so}
use Rattle.std.specs.List.{list_any}
use Rattle.std.proofs.lemmas.Bool.Decides.{nat_tests}
use Rattle.sql_dialect.specs.declared.backend.Dialect.{Dialect}
use Rattle.sql_dialect.specs.declared.backend.Dialect.TheVariants.{Pg, Mysql, Sqlite, Bracket}
use Rattle.sql_dialect.specs.Written.{numbers, MAX_BINDS}
use Rattle.sql_pass.specs.Bytes.{is_too_long}
use Rattle.sql_pass.specs.Collected.{Collected, with_values}
use Rattle.sql_pass.specs.Held.{Held, text_so_far, collected, safe, shown, noop, after, refuses, is_refused, is_full, is_bind, gathers_bytes, is_long_bind}
use Rattle.sql_pass.specs.Pieces.{Piece, Text, Ident, Bind, ValueOnly, Unsafe, count_at, values_of, text_of}
use Rattle.sql_pass.specs.Walks.{Stops, Passes, Walked, walked, Walks}
use Rattle.sql_pass.specs.declared.pass.PassError.TheVariants.{TooManyBinds, TooLong}
use Rattle.sql_pass.specs.declared.value.Bound.{Bound}

-- only a pass that writes text numbers placeholders
abbrev pub writes_text : {D : Type 0} → Held D → Bool
writes_text (text_so_far x t n) = true
writes_text (collected x c) = false
writes_text (safe x b) = false
writes_text (shown x vs) = false
writes_text (noop x b) = false

writes-after : {D : Type 0} (d : Dialect) (h : Held D) (ps : List Piece) → writes_text (after d h ps) ≡ writes_text h
unfolding after
writes-after d (text_so_far x t n) ps = refl
writes-after d (collected x c) ps = refl
writes-after d (safe x b) ps = refl
writes-after d (shown x vs) ps = refl
writes-after d (noop x b) ps = refl

gathers-after : {D : Type 0} (d : Dialect) (h : Held D) (ps : List Piece) → gathers_bytes (after d h ps) ≡ gathers_bytes h
unfolding after
gathers-after d (text_so_far x t n) ps = refl
gathers-after d (collected x c) ps = refl
gathers-after d (safe x b) ps = refl
gathers-after d (shown x vs) ps = refl
gathers-after d (noop x b) ps = refl

full-writes : {D : Type 0} (d : Dialect) (h : Held D) → is_full d h ≡ true → writes_text h ≡ true
full-writes d (text_so_far x t n) f = refl
full-writes d (collected x c) f = f
full-writes d (safe x b) f = f
full-writes d (shown x vs) f = f
full-writes d (noop x b) f = f

stops-many : {D : Type 0} (d : Dialect) (h : Held D) (ps : List Piece) (g : Held D) → Stops d h ps TooManyBinds g → writes_text h ≡ true
unfolding Stops refuses
stops-many d h [] g s = absurd s
stops-many d h (p ∷ ps) g s =
    ⊎_elim (λ r. full-writes d h (first_so (is_full d h) (is_bind p) r.0))
    (λ r. sym (writes-after d h (p ∷ [])) ∙ stops-many d (after d h (p ∷ [])) ps g r) s

stops-bytes : {D : Type 0} (d : Dialect) (h : Held D) (ps : List Piece) (g : Held D) → Stops d h ps TooLong g → gathers_bytes h ≡ true
unfolding Stops refuses
stops-bytes d h [] g s = absurd s
stops-bytes d h (p ∷ ps) g s =
    ⊎_elim (λ r. first_so (gathers_bytes h) (is_long_bind p) r.0)
    (λ r. sym (gathers-after d h (p ∷ [])) ∙ stops-bytes d (after d h (p ∷ [])) ps g r) s

-- a value that is too long, among those of the pieces
abbrev pub some_too_long : List Piece → Bool
some_too_long ps = list_any is_too_long (values_of ps)

or-true : (a : Bool) → (a || true) ≡ true
or-true true = refl
or-true false = refl

here : (p : Piece) (ps : List Piece) → is_long_bind p ≡ true → some_too_long (p ∷ ps) ≡ true
here (Text t) ps l = cc
here (Ident t) ps l = cc
here (Bind b) ps l = ap (λ x. x || some_too_long ps) l
here (ValueOnly b) ps l = ap (λ x. x || some_too_long ps) l
here Unsafe ps l = cc

later : (p : Piece) (ps : List Piece) → some_too_long ps ≡ true → some_too_long (p ∷ ps) ≡ true
later (Text t) ps l = l
later (Ident t) ps l = l
later (Bind b) ps l = ap (λ x. is_too_long b || x) l ∙ or-true (is_too_long b)
later (ValueOnly b) ps l = ap (λ x. is_too_long b || x) l ∙ or-true (is_too_long b)
later Unsafe ps l = l

stops-long : {D : Type 0} (d : Dialect) (h : Held D) (ps : List Piece) (g : Held D) → Stops d h ps TooLong g → some_too_long ps ≡ true
unfolding Stops refuses
stops-long d h [] g s = absurd s
stops-long d h (p ∷ ps) g s =
    ⊎_elim (λ r. here p ps (second_so (gathers_bytes h) (is_long_bind p) r.0))
    (λ r. later p ps (stops-long d (after d h (p ∷ [])) ps g r)) s

none-long : {D : Type 0} (d : Dialect) (x : D) (c : Collected) (p : Piece) (ps : List Piece) → is_refused d (collected x c) p ≡ false
    → some_too_long ps ≡ false → some_too_long (p ∷ ps) ≡ false
unfolding is_refused refuses
none-long d x c (Text t) ps r l = l
none-long d x c (Ident t) ps r l = l
none-long d x c (Bind b) ps r l = ap (λ x. x || some_too_long ps) r ∙ l
none-long d x c (ValueOnly b) ps r l = ap (λ x. x || some_too_long ps) r ∙ l
none-long d x c Unsafe ps r l = l

passes-long : {D : Type 0} (d : Dialect) (x : D) (c : Collected) (ps : List Piece) → Passes d (collected x c) ps → some_too_long ps ≡ false
unfolding Passes after
passes-long d x c [] p = refl
passes-long d x c (p ∷ ps) h =
    none-long d x c p ps h.0 (passes-long d x (with_values d c (values_of (p ∷ []))) ps h.1)

-- the placeholders of the pieces find room
abbrev pub Room : Dialect → ℕ → List Piece → Type 0
Room d n ps = numbers d ≡ true → n ≤ MAX_BINDS → n + length (values_of ps) ≤ MAX_BINDS

room-bind : {D : Type 0} (d : Dialect) (x : D) (t : List ℕ) (n : ℕ) (b : Bound) (ps : List Piece)
    → is_refused d (text_so_far x t n) (Bind b) ≡ false → Room d (count_at d n (Bind b)) ps → Room d n (Bind b ∷ ps)
unfolding is_refused refuses
room-bind Pg x t n b ps r h =
    λ numbered below. let k : n + 1 ≤ MAX_BINDS → n + 1 + length (values_of ps) ≤ MAX_BINDS = h refl in
    grind (arith, nat_tests, r, k)
room-bind Mysql x t n b ps r h = λ numbered below. cc
room-bind Sqlite x t n b ps r h = λ numbered below. cc
room-bind Bracket x t n b ps r h =
    λ numbered below. let k : n + 1 ≤ MAX_BINDS → n + 1 + length (values_of ps) ≤ MAX_BINDS = h refl in
    grind (arith, nat_tests, r, k)

passes-room : {D : Type 0} (d : Dialect) (x : D) (t : List ℕ) (n : ℕ) (ps : List Piece) → Passes d (text_so_far x t n) ps → Room d n ps
unfolding Passes after is_refused refuses
passes-room d x t n [] p = λ numbered below. omega arith
passes-room d x t n (Text s ∷ ps) p = passes-room d x (t ++ text_of d n (Text s ∷ [])) n ps p.1
passes-room d x t n (Ident s ∷ ps) p = passes-room d x (t ++ text_of d n (Ident s ∷ [])) n ps p.1
passes-room d x t n (Bind b ∷ ps) p =
    room-bind d x t n b ps p.0 (passes-room d x (t ++ text_of d n (Bind b ∷ [])) (count_at d n (Bind b)) ps p.1)
passes-room d x t n (ValueOnly b ∷ ps) p =
    room-bind d x t n b ps p.0 (passes-room d x (t ++ text_of d n (ValueOnly b ∷ [])) (count_at d n (ValueOnly b)) ps p.1)
passes-room d x t n (Unsafe ∷ ps) p = passes-room d x (t ++ text_of d n (Unsafe ∷ [])) n ps p.1

-- what follows from a walk that ends
module _ {D : Type 0} {d : Dialect} {h g : Held D} {ps : List Piece} where
  -- placeholders run out only where text is written
  pub walks-many : Walks d h ps (Err TooManyBinds) g → writes_text h ≡ true
  unfolding Walked
  walks-many w = stops-many d h ps g (walked w)

  -- a list is too long only where bytes are gathered
  pub walks-bytes : Walks d h ps (Err TooLong) g → gathers_bytes h ≡ true
  unfolding Walked
  walks-bytes w = stops-bytes d h ps g (walked w)

  -- and then there is such a list
  pub walks-long : Walks d h ps (Err TooLong) g → some_too_long ps ≡ true
  unfolding Walked
  walks-long w = stops-long d h ps g (walked w)

-- bytes were gathered of lists that are not too long
pub walks-short : {D : Type 0} {d : Dialect} {x : D} {c : Collected} {ps : List Piece} {u : Unit {0}} {g : Held D}
    → Walks d (collected x c) ps (Ok u) g → some_too_long ps ≡ false
unfolding Walked
walks-short {D} {d} {x} {c} {ps} w = passes-long d x c ps (walked w).1

-- text was written whose placeholders have numbers
pub walks-room : {D : Type 0} {d : Dialect} {x : D} {t : List ℕ} {n : ℕ} {ps : List Piece} {u : Unit {0}} {g : Held D}
    → Walks d (text_so_far x t n) ps (Ok u) g → Room d n ps
unfolding Walked
walks-room {D} {d} {x} {t} {n} {ps} w = passes-room d x t n ps (walked w).1

pub ruleset causes = (walks-many, walks-bytes, walks-long, walks-short, walks-room)

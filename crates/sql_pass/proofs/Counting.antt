-- Where a walk over the text runs out of placeholders, there are more than a dialect has numbers left.
use Rattle.std.proofs.Common.{◌≡◌, ℕ, ◌+◌, ◌<◌, eqb, true, false, List, [], ◌∷◌, ◌++◌, length, ⊎_elim, Err, arith}
use Rattle.std.specs.Cmp.{first_so, second_so}
use Rattle.std.proofs.lemmas.Bool.{eqb-true}
use Rattle.sql_dialect.specs.declared.backend.Dialect.{Dialect}
use Rattle.sql_dialect.specs.declared.backend.Dialect.TheVariants.{Pg, Mysql, Sqlite, Bracket}
use Rattle.sql_dialect.specs.Written.{numbers, MAX_BINDS}
use Rattle.sql_pass.specs.Held.{Held, text_so_far, shown, after, refuses, is_full, is_bind}
use Rattle.sql_pass.specs.Pieces.{Piece, Text, Ident, Bind, ValueOnly, Unsafe, count_at, values_of, text_of}
use Rattle.sql_pass.specs.Walks.{Stops, Walked, walked, Walks}
use Rattle.sql_pass.specs.declared.value.Bound.{Bound}
use Rattle.sql_pass.specs.declared.pass.PassError.TheVariants.{TooManyBinds}

abbrev pub TooMany : Dialect → ℕ → List Piece → Type 0
TooMany d n ps = (numbers d ≡ true) × (MAX_BINDS < n + length (values_of ps))

-- the piece at which it stops takes a number
here : (d : Dialect) (n : ℕ) (p : Piece) (ps : List Piece) → numbers d ≡ true → n ≡ MAX_BINDS → is_bind p ≡ true
    → TooMany d n (p ∷ ps)
here d n (Text t) ps numbered full bound = cc
here d n (Ident t) ps numbered full bound = cc
here d n (Bind b) ps numbered full bound = (numbered, omega arith)
here d n (ValueOnly b) ps numbered full bound = (numbered, omega arith)
here d n Unsafe ps numbered full bound = cc

later : (d : Dialect) (n : ℕ) (p : Piece) (ps : List Piece) → TooMany d (count_at d n p) ps → TooMany d n (p ∷ ps)
later Pg n (Text t) ps h = h
later Pg n (Ident t) ps h = h
later Pg n (Bind b) ps h = (h.0, let m : MAX_BINDS < n + 1 + length (values_of ps) = h.1 in omega arith)
later Pg n (ValueOnly b) ps h = (h.0, let m : MAX_BINDS < n + 1 + length (values_of ps) = h.1 in omega arith)
later Pg n Unsafe ps h = h
later Mysql n p ps h = let f : false ≡ true = h.0 in cc
later Sqlite n p ps h = let f : false ≡ true = h.0 in cc
later Bracket n (Text t) ps h = h
later Bracket n (Ident t) ps h = h
later Bracket n (Bind b) ps h = (h.0, let m : MAX_BINDS < n + 1 + length (values_of ps) = h.1 in omega arith)
later Bracket n (ValueOnly b) ps h = (h.0, let m : MAX_BINDS < n + 1 + length (values_of ps) = h.1 in omega arith)
later Bracket n Unsafe ps h = h

pub stops-too_many : {D : Type 0} (d : Dialect) (x : D) (t : List ℕ) (n : ℕ) (ps : List Piece) (g : Held D)
    → Stops d (text_so_far x t n) ps TooManyBinds g → TooMany d n ps
unfolding Stops after refuses
stops-too_many d x t n [] g s = absurd s
stops-too_many d x t n (p ∷ ps) g s =
    ⊎_elim
    (λ r.
    let both = first_so (is_full d (text_so_far x t n)) (is_bind p) r.0 in
    here d n p ps (first_so (numbers d) (eqb n MAX_BINDS) both)
    (eqb-true n MAX_BINDS (second_so (numbers d) (eqb n MAX_BINDS) both))
    (second_so (is_full d (text_so_far x t n)) (is_bind p) r.0))
    (λ r. later d n p ps (stops-too_many d x (t ++ text_of d n (p ∷ [])) (count_at d n p) ps g r))
    s

pub walks-too_many : {D : Type 0} {d : Dialect} {x : D} {t : List ℕ} {n : ℕ} {ps : List Piece} {g : Held D}
    → Walks d (text_so_far x t n) ps (Err TooManyBinds) g → TooMany d n ps
unfolding Walked
walks-too_many {D} {d} {x} {t} {n} {ps} {g} w = stops-too_many d x t n ps g (walked w)

-- a walk that gathers values numbers nothing
pub stops-shown : {D : Type 0} (d : Dialect) (x : D) (vs : List Bound) (ps : List Piece) (g : Held D) → Stops d (shown x vs) ps TooManyBinds g
    → ⊥
unfolding Stops after refuses
stops-shown d x vs [] g s = s
stops-shown d x vs (p ∷ ps) g s = ⊎_elim (λ r. cc r.0) (λ r. stops-shown d x (vs ++ values_of (p ∷ [])) ps g r) s

pub walks-shown : {D : Type 0} {d : Dialect} {x : D} {vs : List Bound} {ps : List Piece} {g : Held D}
    → Walks d (shown x vs) ps (Err TooManyBinds) g → ⊥
unfolding Walked
walks-shown {D} {d} {x} {vs} {ps} {g} w = stops-shown d x vs ps g (walked w)

pub ruleset shows = (walks-shown, stops-shown)

-- The ids of a session. It remembers the shapes of its requests until so many have an id that it forgets them all. An id is the number of a
-- request, and numbers go on, so no id is given to two shapes; a shape that was forgotten gets another one.
use Rattle.std.specs.Prelude.{ℕ, ◌+◌, List, [], ◌∷◌, ◌++◌, map, length, Bool, false, nat_eq, nat_le, Option, None, Some, if◌then◌else◌}
use Rattle.sql_schema.specs.Declarations.{Declarations}
use Rattle.sql_tool_build.specs.Ids.{RequestShape}
use Rattle.sql_tool_build.specs.Output.{IsLine, Line, StatementRequest, line_shape}

-- a place for each request so far, with its shape where it has one that is remembered; and how many shapes have an id
pub record Memory : Type 0 where
  pub shapes : List (Option RequestShape)
  pub count : ℕ

abbrev pub no_memory : Memory
no_memory = record { shapes = []; count = 0 }

-- whether a request with this number is the first of its shape, among those that are remembered: then its id is its own number
abbrev pub is_own : ℕ → Option ℕ → Bool
is_own number None = false
is_own number (Some id) = nat_eq id number

-- the request of a line is remembered too
abbrev pub learnt : Memory → Line → Memory
learnt m l = record {
  shapes = m.shapes ++ line_shape l ∷ [];
  count = if is_own (length m.shapes + 1) l.id then m.count + 1 else m.count;
}

-- all is forgotten but how many requests there were
abbrev pub forgotten : Memory → Memory
forgotten m = record { shapes = map (λ o. None) m.shapes; count = 0 }

-- all is forgotten once so many shapes have an id
abbrev pub within : ℕ → Memory → Memory
within most m = if nat_le most m.count then forgotten m else m

abbrev pub after_line : ℕ → Memory → Line → Memory
after_line most m l = within most (learnt m l)

abbrev pub after_lines : ℕ → Memory → List Line → Memory
after_lines most m [] = m
after_lines most m (l ∷ ls) = after_lines most (after_line most m l) ls

-- a line for each request, in order, where this is remembered of those before
abbrev pub AreLinesAfter : ℕ → Declarations → Memory → List StatementRequest → List Line → Type 0
AreLinesAfter most schema m [] [] = Unit {0}
AreLinesAfter most schema m [] (l ∷ ls) = ⊥
AreLinesAfter most schema m (r ∷ rs) [] = ⊥
AreLinesAfter most schema m (r ∷ rs) (l ∷ ls) =
    IsLine schema m.shapes r l × AreLinesAfter most schema (after_line most m l) rs ls

-- how many of the lines, the first of which has this number, have an id that is their own
abbrev pub own_ids : ℕ → List Line → ℕ
own_ids number [] = 0
own_ids number (l ∷ ls) = if is_own number l.id then 1 + own_ids (number + 1) ls else own_ids (number + 1) ls

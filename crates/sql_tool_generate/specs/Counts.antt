-- The counts of lines.
use Rattle.std.specs.Prelude.{ℕ, ◌+◌, List, [], ◌∷◌, length, Bool, true, false, Option, None, Some, nat_eq}
use Rattle.std.specs.Str.{bytes_eq}
use Rattle.sql_check.specs.Compiled.{sql_of, binds_of}
use Rattle.sql_dialect.specs.declared.backend.Dialect.{Dialect}
use Rattle.sql_tool_build.specs.Judgement.{Judgement, refuses, accepts}
use Rattle.sql_tool_build.specs.Output.{Line}

-- the sum of what each line counts
abbrev pub total : (Line → ℕ) → List Line → ℕ
total f [] = 0
total f (l ∷ ls) = f l + total f ls

-- ---- what a line counts

abbrev pub one_if : Bool → ℕ
one_if true = 1
one_if false = 0

abbrev pub is_accepted : Judgement → Bool
is_accepted (refuses name) = false
is_accepted (accepts s ts) = true

abbrev pub is_refused_as : List ℕ → Judgement → Bool
is_refused_as name (refuses other) = bytes_eq other name
is_refused_as name (accepts s ts) = false

-- how many values the statement has, where it is accepted
abbrev pub binds_in : Dialect → Judgement → ℕ
binds_in d (refuses name) = 0
binds_in d (accepts s ts) = length (binds_of d s)

-- how many bytes its text has
abbrev pub bytes_in : Dialect → Judgement → ℕ
bytes_in d (refuses name) = 0
bytes_in d (accepts s ts) = length (sql_of d s)

-- the id is the line's own number
abbrev pub is_own : ℕ → Option ℕ → Bool
is_own n None = false
is_own n (Some first) = nat_eq first n

-- ---- counts of lines

-- how many are of accepted requests
abbrev pub accepted : List Line → ℕ
accepted = total (λ l. one_if (is_accepted l.judgement))

-- how many values all accepted statements have
abbrev pub binds : List Line → ℕ
binds = total (λ l. binds_in l.dialect l.judgement)

-- how many bytes the texts of all accepted statements have
abbrev pub bytes : List Line → ℕ
bytes = total (λ l. bytes_in l.dialect l.judgement)

-- how many are refused by this name
abbrev pub refused_as : List ℕ → List Line → ℕ
refused_as name = total (λ l. one_if (is_refused_as name l.judgement))

-- of lines whose first has the number n, how many have their own number as their id
abbrev pub own_ids : ℕ → List Line → ℕ
own_ids n [] = 0
own_ids n (l ∷ ls) = one_if (is_own n l.id) + own_ids (n + 1) ls

-- How many different pairs of dialect and shape have an id: a pair counts at its first line, whose own number, from 1, is the id.
abbrev pub ids : List Line → ℕ
ids ls = own_ids 1 ls

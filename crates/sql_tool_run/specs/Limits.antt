-- The numbers that the program keeps to, whatever its constants say.
use Rattle.std.specs.Prelude.{ℕ}

-- how many bytes an input may have
abbrev pub greatest_input : ℕ
greatest_input = 16777216

-- how many requests `generate` makes at most
abbrev pub most_requests : ℕ
most_requests = 100000

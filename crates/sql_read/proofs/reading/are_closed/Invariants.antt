use Rattle.std.proofs.Common.{◌≡◌, ◌≤◌, drop, map}
use Rattle.sql_read_lexer.specs.View.{token_of}
use Rattle.sql_read.specs.inside.Closed.{closed}
use Rattle.sql_read.proofs.reading.are_closed.Given as goal

abbrev pub invariant-loop-token : goal.invariant-loop-token
invariant-loop-token l =
    (closed (map token_of (drop l.token-index l.tokens)) l.depth ≡ closed (map token_of l.tokens) 0)
    × (l.depth ≤ l.token-index)

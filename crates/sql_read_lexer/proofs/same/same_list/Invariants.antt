use Rattle.std.proofs.Common.{◌↔◌, ◌≡◌, drop, map}
use Rattle.sql_read_lexer.specs.View.{token_of}
use Rattle.sql_read_lexer.proofs.same.same_list.Given as goal

-- the lists are the same where what is left of them is
abbrev pub invariant-loop-i : goal.invariant-loop-i
invariant-loop-i l = (map token_of (drop l.i l.a) ≡ map token_of (drop l.i l.b)) ↔ (map token_of l.a ≡ map token_of l.b)

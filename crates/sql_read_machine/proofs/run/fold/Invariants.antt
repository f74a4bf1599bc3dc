use Rattle.std.proofs.Common.{◌≡◌, map, vec_len}
use Rattle.sql_grammar.proofs.Machine as m
use Rattle.sql_read_lexer.specs.View.{token_of}
use Rattle.sql_read_machine.specs.View.{stack_of, fold_on}
use Rattle.sql_read_machine.proofs.run.fold.Given as goal

abbrev pub invariant-loop-token : goal.invariant-loop-token
invariant-loop-token l =
    fold_on (stack_of l.stack) (map token_of l.tokens.items) ≡ m.fold (map token_of l.initial.tokens.items)

abbrev pub decreases-loop-token : goal.decreases-loop-token
decreases-loop-token l = vec_len l.tokens

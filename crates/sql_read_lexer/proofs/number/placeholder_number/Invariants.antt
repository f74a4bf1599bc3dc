use Rattle.std.proofs.Common.{◌≡◌, ◌≤◌, drop}
use Rattle.sql_grammar.specs.Spelling.{value_after, value_of}
use Rattle.sql_read_lexer.proofs.number.placeholder_number.Given as goal

-- the digits so far and those that are left make the number
abbrev pub invariant-loop-digit : goal.invariant-loop-digit
invariant-loop-digit l = record {
  whole : value_after l.value (drop l.digit-index l.digits) ≡ value_of l.digits;
  small : l.value ≤ 4294967295;
}

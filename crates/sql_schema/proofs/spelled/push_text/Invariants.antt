use Rattle.std.proofs.Common.{◌≡◌, ◌++◌, drop, string_bytes}
use Rattle.sql_schema.specs.inside.Spelled.{spelled}
use Rattle.sql_schema.proofs.spelled.push_text.Given as goal

abbrev pub invariant-loop-byte : goal.invariant-loop-byte
invariant-loop-byte l =
    string_bytes l.all ++ spelled (drop l.byte-index l.byte-items) ≡ string_bytes l.initial.all ++ spelled l.byte-items

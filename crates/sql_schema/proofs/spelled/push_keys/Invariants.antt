use Rattle.std.proofs.Common.{◌≡◌, ◌++◌, drop, string_bytes}
use Rattle.sql_schema.specs.inside.Spelled.{keys_text}
use Rattle.sql_schema.proofs.spelled.push_keys.Given as goal

abbrev pub invariant-loop-key : goal.invariant-loop-key
invariant-loop-key l =
    string_bytes l.all ++ keys_text (drop l.key-index l.keys) ≡ string_bytes l.initial.all ++ keys_text l.keys

use Rattle.sql_pass.proofs.Causes.{walks-bytes}
use Rattle.sql_pass.proofs.Counting.{walks-shown}
use Rattle.sql_pass.proofs.fragment.debug_binds.Goals as goal

pub unreachable-requires : goal.unreachable-requires
unreachable-requires g c =
    let stopped =
    rw (c.in-Err-TooManyBinds.is, c.in-Err-TooManyBinds.field-0-is, c.debug_binds-pass.ensures.holds) at
    c.walk_ast.ensures in
    walks-shown stopped

pub unreachable-requires-in-Err-TooLong : goal.unreachable-requires-in-Err-TooLong
unreachable-requires-in-Err-TooLong g c =
    let stopped =
    rw (c.in-Err-TooLong.is, c.in-Err-TooLong.field-0-is, c.debug_binds-pass.ensures.holds) at c.walk_ast.ensures in
    let none = walks-bytes stopped in
    cc

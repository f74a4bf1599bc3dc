use Rattle.std.proofs.Common.{◌≡◌, arith}
use Rattle.std.proofs.lemmas.Result.{err_from_is_err_and}
use Rattle.sql_pass.specs.declared.pass.PassError.TheVariants.{TooManyBinds, TooLong}
use Rattle.sql_pass.proofs.Causes.{walks-bytes, walks-room}
use Rattle.sql_pass.proofs.Counting.{walks-too_many}
use Rattle.sql_pass.proofs.fragment.QueryFragment.to_sql.Goals as goal

pub returns-in_err-walk_ast-clause-too_many : goal.returns-in_err-walk_ast-clause-too_many
returns-in_err-walk_ast-clause-too_many g c = λ is.
    let (e, made, same) = err_from_is_err_and c.from_residual.result c.from_residual.ensures.1 in
    let known : c.in_err-walk_ast.field-0.0 ≡ TooManyBinds = cc in
    let start = rw c.to_sql-pass.ensures.holds at c.in_err-walk_ast.ensures in
    walks-too_many (rw known at start)

pub returns-in_err-walk_ast-clause-long : goal.returns-in_err-walk_ast-clause-long
returns-in_err-walk_ast-clause-long g c = λ is.
    let (e, made, same) = err_from_is_err_and c.from_residual.result c.from_residual.ensures.1 in
    let known : c.in_err-walk_ast.field-0.0 ≡ TooLong = cc in
    let start = rw c.to_sql-pass.ensures.holds at c.in_err-walk_ast.ensures in
    let none = walks-bytes (rw known at start) in
    cc

pub returns-clause-room : goal.returns-clause-room
returns-clause-room g c = λ numbered below above.
    let start = rw c.to_sql-pass.ensures.holds at (c.in_ok-walk_ast.ensures {u = tt}) in
    let room = walks-room start numbered below in
    absurd (omega arith)

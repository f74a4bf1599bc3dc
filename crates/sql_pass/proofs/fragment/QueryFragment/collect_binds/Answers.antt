use Rattle.std.proofs.Common.{◌≡◌}
use Rattle.std.proofs.lemmas.Result.{err_from_is_err_and}
use Rattle.sql_pass.specs.declared.pass.PassError.TheVariants.{TooManyBinds, TooLong}
use Rattle.sql_pass.proofs.Causes.{walks-many, walks-long, walks-short}
use Rattle.sql_pass.proofs.fragment.QueryFragment.collect_binds.Goals as goal

pub returns-in_err-walk_ast-clause-many : goal.returns-in_err-walk_ast-clause-many
returns-in_err-walk_ast-clause-many g c = λ is.
    let (e, made, same) = err_from_is_err_and c.from_residual.result c.from_residual.ensures.1 in
    let known : c.in_err-walk_ast.field-0.0 ≡ TooManyBinds = cc in
    let start = rw c.collect_binds-pass.ensures.holds at c.in_err-walk_ast.ensures in
    let none = walks-many (rw known at start) in
    cc

pub returns-in_err-walk_ast-clause-long : goal.returns-in_err-walk_ast-clause-long
returns-in_err-walk_ast-clause-long g c = λ is.
    let (e, made, same) = err_from_is_err_and c.from_residual.result c.from_residual.ensures.1 in
    let known : c.in_err-walk_ast.field-0.0 ≡ TooLong = cc in
    let start = rw c.collect_binds-pass.ensures.holds at c.in_err-walk_ast.ensures in
    walks-long (rw known at start)

pub returns-clause-refused : goal.returns-clause-refused
returns-clause-refused g c = λ long.
    let start = rw c.collect_binds-pass.ensures.holds at (c.in_ok-walk_ast.ensures {u = tt}) in
    let short = walks-short start in
    cc

-- The answer of `compile_sound`: that of `compile`, with column types that are right for NULL.
use Rattle.std.specs.Prelude.{Result, IfOk}
use Rattle.sql_schema.specs.Declarations.{Declarations}
use Rattle.sql_dialect.specs.declared.backend.Dialect.{Dialect}
use Rattle.sql_node.specs.Tree.{Statement}
use Rattle.sql_check.specs.Compiled.{Compiles}
use Rattle.sql_check.specs.declared.built.Built.{Built}
use Rattle.sql_check.specs.declared.error.CompileError.{CompileError}
use Rattle.sql_rows_meaning.specs.Fitting.{AnswersFit}

pub record CompilesSoundly (schema : Declarations) (d : Dialect) (s : Statement) (answer : Result Built CompileError) : Type 0 where
  pub compiles : Compiles schema d s answer
  pub sound : IfOk answer (λ b. AnswersFit schema s b.sql_types)

-- Calls of a statement cache, one after another.
use Rattle.std.specs.Prelude.{◌≡◌, IfErr, IfOk, List, [], ◌∷◌, Result, Some}
use Rattle.sql_schema.specs.Declarations.{Declarations}
use Rattle.sql_dialect.specs.declared.backend.Dialect.{Dialect}
use Rattle.sql_node.specs.Tree.{Statement}
use Rattle.sql_rules.specs.declared.rule.Rule.{Rule}
use Rattle.sql_check.specs.Compiled.{IsBuilt, IsLeast, IsRead}
use Rattle.sql_check.specs.Errors.{rule_of}
use Rattle.sql_check.specs.declared.built.Built.{Built}
use Rattle.sql_check.specs.declared.error.CompileError.{CompileError}
use Rattle.sql_rows_meaning.specs.Fitting.{AnswersFit}
use Rattle.sql_rows.specs.Entries.{Entries, IsNext}

-- The answer is of the statement alone: what `compile_sound` says of its own.
pub record IsAnswer (schema : Declarations) (d : Dialect) (s : Statement) (answer : Result Built CompileError) : Type 0 where
  pub built : IfOk answer (λ b. IsBuilt schema d s b)
  pub read : IfOk answer (λ b. IsRead d s b.sql b.binds)
  pub sound : IfOk answer (λ b. AnswersFit schema s b.sql_types)
  pub refused : IfErr answer (λ e. (r : Rule) → rule_of e ≡ Some r → IsLeast r schema d s)

-- a call: what it is asked, and what it answers
pub record Call : Type 0 where
  pub dialect : Dialect
  pub statement : Statement
  pub answer : Result Built CompileError

-- what `compile_cached` says of a call, from the entries before it to those after it
pub record IsCall (before : Entries) (call : Call) (after : Entries) : Type 0 where
  pub answer : IsAnswer before.schema call.dialect call.statement call.answer
  pub schema : after.schema ≡ before.schema
  pub entries : IsNext call.dialect call.statement before call.answer after

-- each call finds the entries that the one before it left
abbrev pub AreCalls : Entries → List Call → Entries → Type 0
AreCalls before [] after = after ≡ before
AreCalls before (call ∷ calls) after = (next : Entries) × IsCall before call next × AreCalls next calls after

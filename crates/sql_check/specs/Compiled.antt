-- The answer for a statement that breaks no rule, and how it is read.
use Rattle.std.specs.Prelude.{◌≡◌, ◌++◌, ℕ, List, ◌∷◌, map, length, Some, Result, IfOk, IfErr}
use Rattle.sql_schema.specs.Declarations.{Declarations}
use Rattle.sql_dialect.specs.declared.backend.Dialect.{Dialect}
use Rattle.sql_grammar.specs.Numbering.{Fills}
use Rattle.sql_grammar.specs.Reading.{OnlyReading}
use Rattle.sql_grammar.specs.Values.{values_query}
use Rattle.sql_pass.specs.Pieces.{text_of, values_of}
use Rattle.sql_pass.specs.declared.value.Bound.{Bound}
use Rattle.sql_key.specs.Keys.{id_of}
use Rattle.sql_node.specs.Pieces.{pieces}
use Rattle.sql_node.specs.Tree.{Statement}
use Rattle.sql_normal.specs.Filled.{filled, normal}
use Rattle.sql_rules.specs.Lists.{Each}
use Rattle.sql_rules.specs.Names.{IsNamed}
use Rattle.sql_rules.specs.Rules.{Accepted, Broken, all_rules}
use Rattle.sql_rules.specs.Scope.{EachNode}
use Rattle.sql_rules.specs.Types.{columns}
-- whether it serves for other values, once it is prepared
pub use Rattle.sql_rules.specs.Safety.{is_safe_in}
use Rattle.sql_rules.specs.declared.rule.Rule.{Rule}
use Rattle.sql_check.specs.declared.built.Built.{Built}
use Rattle.sql_check.specs.declared.error.CompileError.{CompileError}
use Rattle.sql_check.specs.Errors.{rule_of}

-- the text, where places are numbered from the first
abbrev pub sql_of : Dialect → Statement → List ℕ
sql_of d s = text_of d 0 (pieces d s)

-- the values, in the order of their placeholders
abbrev pub binds_of : Dialect → Statement → List Bound
binds_of d s = values_of (pieces d s)

-- The statement breaks no rule, and the answer says this of it: each column has a type.
pub record IsBuilt (schema : Declarations) (d : Dialect) (s : Statement) (built : Built) : Type 0 where
  pub accepted : Accepted schema d s
  pub sql : built.sql ≡ sql_of d s
  pub binds : built.binds ≡ binds_of d s
  pub sql_types : map Some built.sql_types ≡ columns s
  pub safe : built.safe ≡ is_safe_in d s
  pub id : built.id ≡ id_of s

-- The normal tree is the text's only reading; the k-th placeholder stands for the k-th value, and there are as many; and each
-- column path names exactly one source of its clause's view, its own.
pub record IsRead (d : Dialect) (s : Statement) (sql : List ℕ) (binds : List Bound) : Type 0 where
  pub reading : OnlyReading d sql (normal d s)
  pub as_many : length (values_query (normal d s)) ≡ length binds
  pub fills : Fills (normal d s) binds (filled d s)
  pub named : EachNode IsNamed s

-- The rule is broken, and none before it is.
pub record IsLeast (r : Rule) (schema : Declarations) (d : Dialect) (s : Statement) : Type 0 where
  pub broken : Broken r schema d s
  pub before : (front rest : List Rule) × (all_rules ≡ front ++ r ∷ rest) × Each (λ q. ¬ Broken q schema d s) front

-- The answer of `compile` for the statement: it is built, and read as itself; or the rule that an error names is the first that is broken.
pub record Compiles (schema : Declarations) (d : Dialect) (s : Statement) (answer : Result Built CompileError) : Type 0 where
  pub built : IfOk answer (λ b. IsBuilt schema d s b)
  pub read : IfOk answer (λ b. IsRead d s b.sql b.binds)
  pub refused : IfErr answer (λ e. (r : Rule) → rule_of e ≡ Some r → IsLeast r schema d s)

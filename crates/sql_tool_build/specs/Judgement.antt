-- The results of requests.
use Rattle.std.specs.Prelude.{◌≡◌, ℕ, List, map, Option, Some, None}
use Rattle.sql_schema.specs.Declarations.{Declarations}
use Rattle.sql_schema.specs.declared.types.SqlType.{SqlType}
use Rattle.sql_dialect.specs.declared.backend.Dialect.{Dialect}
use Rattle.sql_node.specs.Tree.{Statement}
use Rattle.sql_rules.specs.Rules.{Accepted}
use Rattle.sql_rules.specs.Texts.{rule_text}
use Rattle.sql_rules.specs.Types.{columns}
use Rattle.sql_rules.specs.declared.rule.Rule.{Rule}
use Rattle.sql_rules.specs.declared.rule.Rule.TheVariants.{UnknownName}
use Rattle.sql_check.specs.Compiled.{IsLeast, IsRead, sql_of, binds_of}

-- The result of a request: a statement, or none, and the name of the refusal.
pub data Made : Type 0 where
  unmade : List ℕ → Made
  made : Statement → Made

-- without a statement UnknownName, since the request names what the schema lacks
abbrev pub made_of : Option Statement → Made
made_of None = unmade (rule_text UnknownName)
made_of (Some s) = made s

-- The request is refused, by the refusal's name, or its statement is accepted, with columns of these types.
pub data Judgement : Type 0 where
  refuses : List ℕ → Judgement
  accepts : Statement → List SqlType → Judgement

-- A statement is accepted where it breaks no rule. Each of its columns has a type then, and its text and values are read as the
-- statement: `read` follows from `accepted`.
pub record IsAccepted (schema : Declarations) (d : Dialect) (s : Statement) (ts : List SqlType) : Type 0 where
  pub accepted : Accepted schema d s
  pub types : map Some ts ≡ columns s
  pub read : IsRead d s (sql_of d s) (binds_of d s)

-- Without a statement the refusal that says why; else the first rule that the statement breaks; else the statement is accepted.
abbrev pub Judges : Declarations → Dialect → Made → Judgement → Type 0
Judges schema d (unmade why) (refuses name) = name ≡ why
Judges schema d (unmade why) (accepts t ts) = ⊥
Judges schema d (made s) (refuses name) = (rule : Rule) × IsLeast rule schema d s × (name ≡ rule_text rule)
Judges schema d (made s) (accepts t ts) = (s ≡ t) × IsAccepted schema d t ts

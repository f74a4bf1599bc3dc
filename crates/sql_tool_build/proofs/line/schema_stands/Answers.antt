use Rattle.std.proofs.Common.{◌≡◌, None, subst}
use Rattle.sql_schema.specs.Declarations.{Declarations}
use Rattle.sql_schema.specs.Refusals.{least_refusal}
use Rattle.sql_tool_build.proofs.line.schema_stands.Goals as goal

pub returns : goal.returns
returns c = subst (λ (w : Declarations). least_refusal w ≡ None) c.schema.ensures c.tables-tables.ensures.sound

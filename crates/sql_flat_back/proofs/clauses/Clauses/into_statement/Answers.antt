use Rattle.std.proofs.Common.{refl}
use Rattle.sql_node.proofs.Trees.{statement-of_Select, statement-of_Boxed, select_statement-out, boxed_select_statement-out}
use Rattle.sql_flat_back.proofs.clauses.Clauses.into_statement.Goals as goal

pub returns-in-Unboxed : goal.returns-in-Unboxed
returns-in-Unboxed c = rw (statement-of_Select, select_statement-out, c.in-Unboxed.is) refl

pub returns-in-Boxed : goal.returns-in-Boxed
returns-in-Boxed c = rw (statement-of_Boxed, boxed_select_statement-out, c.in-Boxed.is) refl

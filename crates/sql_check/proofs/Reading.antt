-- How the text of a statement is read that breaks no rule.
use Rattle.std.proofs.Common.{◌≡◌, ◌∙◌, ℕ, List, ap, sym, subst}
use Rattle.std.specs.Prelude.{length}
use Rattle.sql_dialect.specs.declared.backend.Dialect.{Dialect}
use Rattle.sql_grammar.specs.Numbering.{Fills}
use Rattle.sql_grammar.specs.Reading.{OnlyReading}
use Rattle.sql_grammar.specs.Values.{values_query}
use Rattle.sql_node.specs.Tree.{Statement}
use Rattle.sql_pass.specs.declared.value.Bound.{Bound}
use Rattle.sql_normal.specs.Filled.{filled, normal}
use Rattle.sql_rules.specs.Names.{IsNamed}
use Rattle.sql_rules.specs.Scope.{EachNode}
use Rattle.sql_check.specs.Compiled.{IsRead, binds_of, sql_of}

-- text and values by what they are equal to
pub is_read : (d : Dialect) (s : Statement) (sql : List ℕ) (binds : List Bound) → sql ≡ sql_of d s
    → binds ≡ binds_of d s
    → OnlyReading d (sql_of d s) (normal d s) → length (values_query (normal d s)) ≡ length (binds_of d s)
    → Fills (normal d s) (binds_of d s) (filled d s) → EachNode IsNamed s
    → IsRead d s sql binds
is_read d s sql binds t b reading as_many fills named = record {
  reading = subst (λ x. OnlyReading d x (normal d s)) (sym t) reading;
  as_many = as_many ∙ sym (ap length b);
  fills = subst (λ x. Fills (normal d s) x (filled d s)) (sym b) fills;
  named = named;
}

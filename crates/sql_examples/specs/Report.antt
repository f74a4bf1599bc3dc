-- The statement of the report: the first ten users of a name. None where the schema has no table `users`, or that no column `name`.
use Rattle.std.specs.Prelude.{ℕ, List, Option, None, false, codes, option_map, option_and_then, pos}
use Rattle.hardieflax.specs.Columns.{DeclaredColumn, column_in, table_named}
use Rattle.hardieflax.specs.Declarations.{Declarations}
use Rattle.hardieflax.specs.TableDecl.{TableDecl}
use Rattle.hardieflax.specs.Base.TheVariants.{Text}
use Rattle.hardieflax.specs.Value.TheVariants as V
use Rattle.hardieflax.specs.Tree.{Expr, Statement, compared, of_table, value}
use Rattle.hardieflax.specs.Comparison.TheVariants.{Eq}
use Rattle.hardieflax.specs.Logic.TheVariants.{And}
use Rattle.hardieflax.specs.Origins.{column_under}
use Rattle.hardieflax.specs.Changes.{filtered, limited}
use Rattle.hardieflax.specs.Simple.{simple}
use Rattle.hardieflax.specs.Rule.{Rule}
use Rattle.hardieflax.specs.Errors.{rule_of}
use Rattle.sql_examples.specs.declared.report.ReportError.{ReportError}
use Rattle.sql_examples.specs.declared.report.ReportError.TheVariants as E

-- the column is that text
abbrev pub is_text : List ℕ → DeclaredColumn → Expr
is_text name c = compared Eq (column_under None c) (value (record { base = Text; nullable = false }) (V.Text name))

abbrev pub first_ten : TableDecl → List ℕ → DeclaredColumn → Statement
first_ten users name c = limited (pos 10) (filtered And (is_text name c) (simple (of_table users false None)))

abbrev pub report : Declarations → List ℕ → Option Statement
report schema name =
    option_and_then (λ users. option_map (first_ten users name) (column_in users (codes "name")))
    (table_named schema.tables (codes "users"))

-- the rule that an error names
abbrev pub refusal : ReportError → Option Rule
refusal E.NoUsers = None
refusal (E.Refused e) = rule_of e

-- Columns of a table as fields of its alias (diesel, `Alias::fields`).
use Rattle.std.specs.Prelude.{ℕ, List, if◌then◌else◌}
use Rattle.sql_schema.specs.declared.declaration.TableDecl.{TableDecl}
use Rattle.sql_node.specs.Tree.{Origin, Expr, column, value, list, count_star, nullable, unary, count, compared, joined, exists, single, among_values, among_rows, Exprs, no_exprs, more_exprs}
use Rattle.sql_origin.specs.Origins.{a_table, an_alias, same_origin}

-- the table itself becomes the alias, all else stays
abbrev pub aliased : List ℕ → TableDecl → Origin → Origin
aliased a t o = if same_origin (a_table t) o then an_alias a o.table else o

-- the same expression with the alias in place of its table; what stands in a subselect stays
abbrev mutual
  pub fields_in : List ℕ → TableDecl → Expr → Expr
  fields_in a t (column o c) = column (aliased a t o) c
  fields_in a t (value ty x) = value ty x
  fields_in a t (list es) = list (fields_in_each a t es)
  fields_in a t count_star = count_star
  fields_in a t (nullable e) = nullable (fields_in a t e)
  fields_in a t (unary n e) = unary n (fields_in a t e)
  fields_in a t (count e) = count (fields_in a t e)
  fields_in a t (compared by l r) = compared by (fields_in a t l) (fields_in a t r)
  fields_in a t (joined by l r) = joined by (fields_in a t l) (fields_in a t r)
  fields_in a t (exists q) = exists q
  fields_in a t (single q) = single q
  fields_in a t (among_values n e ty xs) = among_values n (fields_in a t e) ty xs
  fields_in a t (among_rows n e q) = among_rows n (fields_in a t e) q

  pub fields_in_each : List ℕ → TableDecl → Exprs → Exprs
  fields_in_each a t no_exprs = no_exprs
  fields_in_each a t (more_exprs e es) = more_exprs (fields_in a t e) (fields_in_each a t es)

-- Tests of one node: whether it is an aggregate, a subselect or a GROUP BY, whether it may not stand in a predicate, and whether it is
-- a table that policies don't cover.
use Rattle.std.specs.Prelude.{ℕ, Bool, true, false, not, ◌&&◌, List, Option}
use Rattle.std.specs.List.{list_any}
use Rattle.sql_schema.specs.Columns.{DeclaredColumn}
use Rattle.sql_schema.specs.declared.declaration.TableDecl.{TableDecl}
use Rattle.sql_schema.specs.Equality.{same_column, same_table}
use Rattle.sql_origin.specs.Origins.{a_table, same_origin}
use Rattle.sql_rules.specs.Types.{fits}
use Rattle.sql_flat.specs.declared.kind.FlatKind.{FlatKind}
use Rattle.sql_flat.specs.declared.kind.FlatKind.TheVariants as K
use Rattle.sql_guard.specs.Closed.{is_redeclared}
use Rattle.sql_guard.specs.declared.policy.Policy.{Policy}

-- an aggregate or a subselect
abbrev pub is_beyond : FlatKind → Bool
is_beyond K.CountStar = true
is_beyond K.Count = true
is_beyond K.Exists = true
is_beyond K.Single = true
is_beyond (K.Among n values) = not values
is_beyond k = false

-- or a GROUP BY
abbrev pub is_out : FlatKind → Bool
is_out K.GroupBy = true
is_out k = is_beyond k

-- the column is the table's own
abbrev pub is_own_column : TableDecl → Option (List ℕ) → DeclaredColumn → Bool
is_own_column t a c =
    same_origin (record { alias = a; table = c.table }) (a_table t) && list_any (λ d. same_column d c.decl) t.columns

-- it may not stand in a predicate on the rows of the table
abbrev pub is_foreign : TableDecl → FlatKind → Bool
is_foreign t (K.Column a c) = not (is_own_column t a c)
is_foreign t (K.Value ty x) = not (fits ty x)
is_foreign t k = is_beyond k

-- the policies cover the table
abbrev pub is_covered : List Policy → TableDecl → Bool
is_covered qs t = list_any (λ q. same_table q.table t) qs && not (list_any (λ q. is_redeclared q.table t) qs)

-- it is a table, or an alias of one, that they don't cover
abbrev pub is_uncovered : List Policy → FlatKind → Bool
is_uncovered qs (K.Table s) = not (is_covered qs s.table)
is_uncovered qs (K.Alias a) = not (is_covered qs a.table)
is_uncovered qs k = false

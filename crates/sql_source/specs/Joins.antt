-- Joins, and the ON that a declared relation gives them (PostgreSQL, SELECT, FROM Clause; diesel, `joinable!`, `JoinTo`).
use Rattle.std.specs.Prelude.{ℕ, List, Bool, false, ◌&&◌, Option, None, Some, option_map, if◌then◌else◌}
use Rattle.std.specs.Str.{bytes_eq}
use Rattle.sql_schema.specs.Equality.{same_table}
use Rattle.sql_schema.specs.Columns.{DeclaredColumn, column_in, column_of, table_named}
use Rattle.sql_schema.specs.Declarations.{Declarations}
use Rattle.sql_schema.specs.Refusals.{single_column}
use Rattle.sql_schema.specs.Relations.{relation_of}
use Rattle.sql_schema.specs.declared.declaration.JoinableDecl.{JoinableDecl}
use Rattle.sql_schema.specs.declared.declaration.TableDecl.{TableDecl}
use Rattle.sql_leaf.specs.declared.table_source.JoinKind.{JoinKind}
use Rattle.sql_leaf.specs.declared.table_source.JoinKind.TheVariants.{Inner}
use Rattle.sql_leaf.specs.declared.operator.Comparison.TheVariants.{Eq}
use Rattle.sql_node.specs.Tree.{Origin, Expr, nullable, compared, Source, of_table, of_alias, join}
use Rattle.sql_node.specs.View.{Sides, maybe_of}
use Rattle.sql_expr.specs.Joining.{Side}
use Rattle.sql_origin.specs.Leaves.{leaves, leftmost}
use Rattle.sql_origin.specs.Origins.{column_under}

-- the same source with each join an inner one
abbrev pub all_inner : Source → Source
all_inner (of_table t only sample) = of_table t only sample
all_inner (of_alias a t) = of_alias a t
all_inner (join k l r on) = join Inner (all_inner l) (all_inner r) on

abbrev pub inner_sides : Sides → Sides
inner_sides s = (all_inner s.0, all_inner s.1, Inner)

abbrev pub is_the : TableDecl → Option TableDecl → Bool
is_the t None = false
is_the t (Some declared) = same_table t declared

-- the schema's table of that name is that very declaration
abbrev pub is_declared : Declarations → TableDecl → Bool
is_declared s t = is_the t (table_named s.tables t.name)

-- the relation goes from the one to the other
abbrev pub refers_from : TableDecl → TableDecl → JoinableDecl → Bool
refers_from child parent j = bytes_eq j.child child.name && bytes_eq j.parent parent.name

-- the relation of two tables, in either direction
abbrev pub relation : Declarations → TableDecl → TableDecl → Option JoinableDecl
relation s a b = relation_of s.joinables a.name b.name

-- the column of a key that has one alone
abbrev pub key_column : TableDecl → Option DeclaredColumn
key_column t = option_map (λ c. column_of t c) (single_column t.primary_key t.columns)

-- `child.key = parent.key`, each under its alias where it has one, and both under nullable
abbrev pub equal_keys : Option (List ℕ) → Option DeclaredColumn → Option (List ℕ) → Option DeclaredColumn → Option Expr
equal_keys child (Some key) parent (Some id) =
    Some (compared Eq (nullable (column_under child key)) (nullable (column_under parent id)))
equal_keys child (Some key) parent None = None
equal_keys child None parent id = None

-- the child's column of that name, and the parent's key
abbrev pub equal_by : List ℕ → Origin → Origin → Option Expr
equal_by key child parent = equal_keys child.alias (column_in child.table key) parent.alias (key_column parent.table)

abbrev pub on_relation : Origin → Origin → Option JoinableDecl → Option Expr
on_relation a b None = None
on_relation a b (Some j) = if refers_from a.table b.table j then equal_by j.key a b else equal_by j.key b a

-- the condition on which two tables of the schema, or aliases of them, are joined
abbrev pub related_on : Declarations → Origin → Origin → Option Expr
related_on s a b =
    if is_declared s a.table && is_declared s b.table then on_relation a b (relation s a.table b.table) else None

abbrev pub on_between : Declarations → Option Origin → Option Origin → Option Expr
on_between s (Some a) (Some b) = related_on s a b
on_between s (Some a) None = None
on_between s None b = None

-- the leftmost leaves of both sides decide
abbrev pub implicit_on : Declarations → Source → Source → Option Expr
implicit_on s left right = on_between s (leftmost (leaves left)) (leftmost (leaves right))

abbrev pub given_or : Option Expr → Option Expr → Option Expr
given_or (Some on) other = Some on
given_or None other = other

-- the side's own condition, or that of the relation
abbrev pub on_for : Declarations → Source → Side → Option Expr
on_for s left right = given_or right.on (implicit_on s left right.source)

abbrev pub joined_with : JoinKind → Source → Side → Source
joined_with k left right = join k left right.source (maybe_of right.on)

-- a source, and its condition, joined with a side; its own condition stays
abbrev pub joined_by : Declarations → JoinKind → Side → Side → Side
joined_by s k left right =
    record {
      source = joined_with k left.source (record { source = right.source; on = on_for s left.source right });
      on = left.on;
    }

abbrev pub alone : Source → Side
alone s = record { source = s; on = None }

-- The order of keys by the names of tables and columns, and what a key is but for the rest of their declarations.
use Rattle.std.specs.Prelude.{ℕ, false, List, [], None}
use Rattle.std.specs.declared.cmp.Ordering.{Ordering}
use Rattle.std.specs.Ordering.{on, then_cmp, bool_cmp, nat_cmp}
use Rattle.std.specs.Option.{option_cmp}
use Rattle.std.specs.Cmp.{IsTotalOrder, then_total, on_total, nat_cmp_total}
use Rattle.std.specs.Cmp.Lexicographic.{slice_cmp, on_texts, lists_total}
use Rattle.std.specs.Hash.{HashWrites}
use Rattle.sql_schema.specs.declared.declaration.TableDecl.{TableDecl}
use Rattle.sql_schema.specs.declared.types.Base.TheVariants.{SmallInt}
use Rattle.sql_schema.specs.Columns.{DeclaredColumn}
use Rattle.sql_leaf.specs.declared.alias.Alias.{Alias}
use Rattle.sql_leaf.specs.declared.table_source.TableSource.{TableSource}
use Rattle.sql_leaf.specs.contracts.table_source.TablesampleOrd.TheImpl as sample_ord
use Rattle.sql_flat.specs.declared.kind.FlatKind.{FlatKind}
use Rattle.sql_flat.specs.declared.kind.FlatKind.TheVariants as K
use Rattle.sql_flat.specs.declared.kind.FlatNode.{FlatNode}
use Rattle.sql_flat.specs.contracts.kind.FlatKindOrd.TheImpl as kind_ord
use Rattle.sql_flat.specs.contracts.kind.FlatKindOrd.TheImpl.Laws.{total-law}
use Rattle.sql_key.specs.contracts.key.QueryKeyHash.TheImpl as query_hash

-- a declaration of which nothing but the name is said
abbrev pub table_by : List ℕ → TableDecl
table_by name = record { name = name; sql_name = []; schema = None; columns = []; primary_key = [] }

abbrev pub column_by : List ℕ → List ℕ → DeclaredColumn
column_by table name =
    record {
      table = table_by table;
      decl = record { name = name; sql_name = []; ty = record { base = SmallInt; nullable = false }; max_length = None };
    }

abbrev pub table_name : FlatKind → List ℕ
table_name (K.Column a c) = c.table.name
table_name (K.Table s) = s.table.name
table_name (K.Alias a) = a.table.name
table_name k = []

abbrev pub column_name : FlatKind → List ℕ
column_name (K.Column a c) = c.decl.name
column_name k = []

-- the kind with declarations of these names
abbrev pub renamed : List ℕ → List ℕ → FlatKind → FlatKind
renamed table name (K.Column a c) = K.Column a (column_by table name)
renamed table name (K.Table s) = K.Table (record { table = table_by table; only = s.only; sample = s.sample })
renamed table name (K.Alias a) = K.Alias (record { name = a.name; table = table_by table })
renamed table name k = k

-- without names
abbrev pub blanked : FlatKind → FlatKind
blanked k = renamed [] [] k

-- of its declarations the names alone
abbrev pub named : FlatKind → FlatKind
named k = renamed (table_name k) (column_name k) k

abbrev pub named_node : FlatNode → FlatNode
named_node n = record { kind = named n.kind; end = n.end }

abbrev pub text_cmp : List ℕ → List ℕ → Ordering
text_cmp = slice_cmp nat_cmp

abbrev pub column_cmp : DeclaredColumn → DeclaredColumn → Ordering
column_cmp = then_cmp (on (λ c. c.table.name) text_cmp) (on (λ c. c.decl.name) text_cmp)

abbrev pub source_cmp : TableSource → TableSource → Ordering
source_cmp =
    then_cmp (then_cmp (on (λ s. s.only) bool_cmp) (on (λ s. s.sample) (option_cmp (sample_ord.ghosts).cmp)))
    (on (λ s. s.table.name) text_cmp)

abbrev pub alias_cmp : Alias → Alias → Ordering
alias_cmp = then_cmp (on (λ a. a.name) text_cmp) (on (λ a. a.table.name) text_cmp)

abbrev pub kind_cmp : FlatKind → FlatKind → Ordering
kind_cmp = then_cmp (on blanked (kind_ord.ghosts).cmp) (then_cmp (on table_name text_cmp) (on column_name text_cmp))

abbrev pub node_cmp : FlatNode → FlatNode → Ordering
node_cmp = then_cmp (on (λ n. n.kind) kind_cmp) (on (λ n. n.end) nat_cmp)

abbrev pub key_cmp : List FlatNode → List FlatNode → Ordering
key_cmp = slice_cmp node_cmp

abbrev pub key_hash : List FlatNode → HashWrites
key_hash k = (query_hash.ghosts).hash_input k

kinds_total : IsTotalOrder kind_cmp
kinds_total = then_total (on_total blanked total-law) (then_total (on_texts table_name) (on_texts column_name))

nodes_total : IsTotalOrder node_cmp
nodes_total = then_total (on_total (λ n. n.kind) kinds_total) (on_total (λ n. n.end) nat_cmp_total)

pub keys_total : IsTotalOrder key_cmp
keys_total = lists_total nodes_total

-- Names looked up in a schema, and what is made of a source's leaves, name what the schema declares.
use Rattle.std.proofs.Common.{ℕ, zero, suc, List, [], ◌∷◌, map, ◌&&◌, Option, Some, None, option_map, IfSome}
use Rattle.std.specs.Str.{bytes_eq}
use Rattle.sql_schema.specs.Columns.{DeclaredColumn, column_of, table_named, column_named, column_in, columns_in}
use Rattle.sql_schema.specs.Declarations.{Declarations}
use Rattle.sql_schema.specs.Refusals.{single_column}
use Rattle.sql_schema.specs.declared.declaration.JoinableDecl.{JoinableDecl}
use Rattle.sql_schema.specs.declared.declaration.TableDecl.{TableDecl}
use Rattle.sql_leaf.specs.declared.table_source.JoinKind.{JoinKind}
use Rattle.sql_leaf.specs.declared.table_source.JoinKind.TheVariants.{Inner, LeftOuter}
use Rattle.sql_node.specs.Tree.{Origin, Expr, under, Source, of_table, of_alias, join}
use Rattle.sql_node.specs.View.{Item, exprs_of, items_of, maybe_of}
use Rattle.sql_expr.specs.Joining.{Side}
use Rattle.sql_source.specs.Joins.{is_declared, refers_from, relation, key_column, equal_keys, equal_by, on_relation, on_between, implicit_on, given_or, on_for, joined_by}
use Rattle.sql_origin.specs.Leaves.{Leaf, leaves, leftmost, in_right_side}
use Rattle.sql_origin.specs.Origins.{column_under}
use Rattle.sql_source.specs.Selections.{origin_columns, leaf_columns, selected, default_list}
use Rattle.sql_rules.specs.Lists.{Each}
use Rattle.sql_rules.specs.Rules.{IsTable, IsColumn}
use Rattle.sql_build_syntax.specs.declared.name.AliasName.{AliasName}
use Rattle.sql_build_syntax.specs.declared.name.ColumnName.{ColumnName}
use Rattle.sql_build_syntax.specs.declared.name.FieldName.{FieldName}
use Rattle.sql_build_syntax.specs.declared.name.TableName.{TableName}
use Rattle.sql_build.specs.Named.{column_called, named_column, named_field, named_table, named_alias}
use Rattle.sql_build_law.proofs.Known.{KnownExpr, KnownExprs, KnownItems, KnownMaybe, KnownSource, KnownOrigin, KnownLeaf, KnownColumn, KnownOption, KnownSide}
use Rattle.sql_build_law.proofs.Lists.{each_append, each_map, each_flat, each_own, if_map, if_then, if_cond, if_found}

module _ (schema : Declarations) where
  -- ## Names

  table-known : (name : List ℕ) → IfSome (table_named schema.tables name) (IsTable schema)
  table-known name = if_found (λ t. bytes_eq t.name name) schema.tables

  -- of a table of the schema
  pub column-known : (t : TableDecl) → IsTable schema t → (name : List ℕ)
      → IfSome (column_in t name) (KnownColumn schema)
  column-known t h name =
      if_map (IsColumn t) (KnownColumn schema) (λ c. column_of t c) (λ c k. (h, k)) (column_named t.columns name)
      (if_found (λ c. bytes_eq c.name name) t.columns)

  called-known : (table column : List ℕ) → IfSome (column_called schema.tables table column) (KnownColumn schema)
  unfolding column_called
  called-known table column =
      if_then (IsTable schema) (KnownColumn schema) (λ t. column_in t column) (λ t h. column-known t h column)
      (table_named schema.tables table) (table-known table)

  -- a column under an alias, or none, of its table
  under-known : (alias : Option (List ℕ)) (o : Option DeclaredColumn) → IfSome o (KnownColumn schema)
      → KnownOption schema (option_map (column_under alias) o)
  under-known alias o h = if_map (KnownColumn schema) (KnownExpr schema) (column_under alias) (λ c k. k) o h

  pub named_column-known : (n : ColumnName) → KnownOption schema (named_column schema.tables n)
  named_column-known n = under-known None (column_called schema.tables n.table n.column) (called-known n.table n.column)

  pub named_field-known : (n : FieldName) → KnownOption schema (named_field schema.tables n)
  named_field-known n =
      under-known (Some n.alias) (column_called schema.tables n.table n.column) (called-known n.table n.column)

  pub named_table-known : (n : TableName) → IfSome (named_table schema.tables n) (KnownSource schema)
  named_table-known n =
      if_map (IsTable schema) (KnownSource schema) (λ t. of_table t n.only n.sample) (λ t h. h)
      (table_named schema.tables n.table) (table-known n.table)

  pub named_alias-known : (n : AliasName) → IfSome (named_alias schema.tables n) (KnownSource schema)
  named_alias-known n =
      if_map (IsTable schema) (KnownSource schema) (λ t. of_alias n.alias t) (λ t h. h)
      (table_named schema.tables n.of) (table-known n.of)

  -- ## Lists and what may be there, as trees

  pub exprs_of-known : (es : List Expr) → Each (KnownExpr schema) es → KnownExprs schema (exprs_of es)
  exprs_of-known [] h = tt
  exprs_of-known (e ∷ es) h = (h.0, exprs_of-known es h.1)

  pub items_of-known : (is : List Item) → Each (λ i. KnownExpr schema i.0) is → KnownItems schema (items_of is)
  items_of-known [] h = tt
  items_of-known (i ∷ is) h = (h.0, items_of-known is h.1)

  maybe_of-known : (o : Option Expr) → KnownOption schema o → KnownMaybe schema (maybe_of o)
  maybe_of-known None h = tt
  maybe_of-known (Some e) h = h

  -- ## Leaves

  right-known : (k : JoinKind) (l : Leaf) → KnownLeaf schema l → KnownLeaf schema (in_right_side k l)
  right-known Inner l h = h
  right-known LeftOuter l h = h

  pub leaves-known : (s : Source) → KnownSource schema s → Each (KnownLeaf schema) (leaves s)
  leaves-known (of_table t only sample) h = (h, tt)
  leaves-known (of_alias a t) h = (h, tt)
  leaves-known (join k l r on) h =
      each_append (KnownLeaf schema) (leaves l) (map (in_right_side k) (leaves r)) (leaves-known l h.0)
      (each_map (KnownLeaf schema) (KnownLeaf schema) (in_right_side k) (right-known k) (leaves r) (leaves-known r h.1))

  -- ## The default selection

  nullables-known : (n : ℕ) (e : Expr) → KnownExpr schema e → KnownExpr schema (under n e)
  nullables-known zero e h = h
  nullables-known (suc n) e h = nullables-known n e h

  origin-known : (o : Origin) → KnownOrigin schema o → Each (KnownExpr schema) (origin_columns o)
  origin-known o h =
      each_map (KnownColumn schema) (KnownExpr schema) (λ c. column_under o.alias c) (λ c k. k) (columns_in o.table)
      (each_map (IsColumn o.table) (KnownColumn schema) (λ c. column_of o.table c) (λ c k. (h, k)) o.table.columns
      (each_own o.table.columns))

  leaf-known : (l : Leaf) → KnownLeaf schema l → Each (KnownExpr schema) (leaf_columns l)
  leaf-known l h =
      each_map (KnownExpr schema) (KnownExpr schema) (λ e. under l.paddings e) (nullables-known l.paddings)
      (origin_columns l.origin) (origin-known l.origin h)

  pub default-known : (s : Source) → KnownSource schema s → KnownExpr schema (default_list s)
  unfolding selected
  default-known s h =
      exprs_of-known (selected s)
      (each_flat (KnownLeaf schema) (KnownExpr schema) leaf_columns leaf-known (leaves s) (leaves-known s h))

  -- ## Joins

  leftmost-known : (ls : List Leaf) → Each (KnownLeaf schema) ls → IfSome (leftmost ls) (KnownOrigin schema)
  leftmost-known [] h = tt
  leftmost-known (l ∷ ls) h = h.0

  single-known : (t : TableDecl) (key : List (List ℕ)) → IfSome (single_column key t.columns) (IsColumn t)
  single-known t [] = tt
  single-known t (k ∷ []) = if_found (λ c. bytes_eq c.name k) t.columns
  single-known t (k ∷ (l ∷ ks)) = tt

  key-known : (t : TableDecl) → IsTable schema t → IfSome (key_column t) (KnownColumn schema)
  key-known t h =
      if_map (IsColumn t) (KnownColumn schema) (λ c. column_of t c) (λ c k. (h, k))
      (single_column t.primary_key t.columns) (single-known t t.primary_key)

  equal_keys-known : (a : Option (List ℕ)) (child : Option DeclaredColumn) (b : Option (List ℕ))
      (parent : Option DeclaredColumn) → IfSome child (KnownColumn schema) → IfSome parent (KnownColumn schema)
      → KnownOption schema (equal_keys a child b parent)
  equal_keys-known a None b parent h k = tt
  equal_keys-known a (Some c) b None h k = tt
  equal_keys-known a (Some c) b (Some p) h k = (h, k)

  equal_by-known : (key : List ℕ) (child parent : Origin) → KnownOrigin schema child → KnownOrigin schema parent
      → KnownOption schema (equal_by key child parent)
  equal_by-known key child parent h k =
      equal_keys-known child.alias (column_in child.table key) parent.alias (key_column parent.table)
      (column-known child.table h key) (key-known parent.table k)

  relation-known : (a b : Origin) (j : Option JoinableDecl) → KnownOrigin schema a → KnownOrigin schema b
      → KnownOption schema (on_relation a b j)
  relation-known a b None h k = tt
  relation-known a b (Some j) h k =
      if_cond (KnownExpr schema) (refers_from a.table b.table j) (equal_by j.key a b) (equal_by j.key b a)
      (equal_by-known j.key a b h k) (equal_by-known j.key b a k h)

  between-known : (a b : Option Origin) → IfSome a (KnownOrigin schema) → IfSome b (KnownOrigin schema)
      → KnownOption schema (on_between schema a b)
  between-known None b h k = tt
  between-known (Some a) None h k = tt
  between-known (Some a) (Some b) h k =
      if_cond (KnownExpr schema) (is_declared schema a.table && is_declared schema b.table)
      (on_relation a b (relation schema a.table b.table)) None
      (relation-known a b (relation schema a.table b.table) h k) tt

  on-known : (on : Option Expr) (l r : Source) → KnownOption schema on → KnownSource schema l → KnownSource schema r
      → KnownOption schema (given_or on (implicit_on schema l r))
  on-known (Some e) l r h a b = h
  on-known None l r h a b =
      between-known (leftmost (leaves l)) (leftmost (leaves r)) (leftmost-known (leaves l) (leaves-known l a))
      (leftmost-known (leaves r) (leaves-known r b))

  pub joined-known : (k : JoinKind) (left right : Side) → KnownSide schema left → KnownSide schema right
      → KnownSource schema (joined_by schema k left right).source
  joined-known k left right h g =
      let on = on-known right.on left.source right.source g.1 h.0 g.0 in
      (h.0, g.0, maybe_of-known (on_for schema left.source right) on)

-- A node without its value: NULL in place of the value, 0 in place of a number or a sample.
use Rattle.std.specs.Prelude.{option_map}
use Rattle.sql_pass.specs.declared.value.Value.TheVariants.{Null}
use Rattle.sql_leaf.specs.declared.table_source.TableSource.{TableSource}
use Rattle.sql_flat.specs.declared.kind.Combining.{Combining}
use Rattle.sql_flat.specs.declared.kind.FlatKind.{FlatKind}
use Rattle.sql_flat.specs.declared.kind.FlatKind.TheVariants as K
use Rattle.sql_flat.specs.declared.kind.FlatNode.{FlatNode}
use Rattle.sql_flat.specs.declared.kind.Selecting.{Selecting}
use Rattle.sql_shape.specs.Shape.{blank_rows, blank_sample}

abbrev pub blank_source : TableSource → TableSource
blank_source s = record { table = s.table; only = s.only; sample = option_map blank_sample s.sample }

abbrev pub blank_selecting : Selecting → Selecting
blank_selecting s =
    record { default = s.default; unique = s.unique; rows = blank_rows s.rows; form = s.form; marks = s.marks }

abbrev pub blank_combining : Combining → Combining
blank_combining c = record { combinator = c.combinator; duplicates = c.duplicates; rows = blank_rows c.rows }

abbrev pub blank_kind : FlatKind → FlatKind
blank_kind (K.Value t v) = K.Value t Null
blank_kind (K.Element t v) = K.Element t Null
blank_kind (K.Table s) = K.Table (blank_source s)
blank_kind (K.Select s) = K.Select (blank_selecting s)
blank_kind (K.Combination c) = K.Combination (blank_combining c)
blank_kind k = k

abbrev pub blank_node : FlatNode → FlatNode
blank_node n = record { kind = blank_kind n.kind; end = n.end }

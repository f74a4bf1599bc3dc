-- Which nodes leave a statement its id.
use Rattle.std.specs.Prelude.{Bool, true, false}
use Rattle.sql_flat.specs.declared.kind.FlatKind.{FlatKind}
use Rattle.sql_flat.specs.declared.kind.FlatKind.TheVariants as K
use Rattle.sql_flat.specs.declared.kind.FlatNode.{FlatNode}
use Rattle.sql_flat.specs.declared.kind.Form.{Form}
use Rattle.sql_flat.specs.declared.kind.Form.TheVariants as form
use Rattle.sql_shape.specs.Ids.{lacks_sample}

abbrev pub is_unboxed : Form → Bool
is_unboxed (form.Unboxed l) = true
is_unboxed (form.Boxed d n) = false

abbrev pub keeps_id : FlatKind → Bool
keeps_id (K.Values t) = false
keeps_id (K.Table s) = lacks_sample s.sample
keeps_id (K.Select s) = is_unboxed s.form
keeps_id (K.Position p) = false
keeps_id k = true

abbrev pub node_keeps_id : FlatNode → Bool
node_keeps_id n = keeps_id n.kind

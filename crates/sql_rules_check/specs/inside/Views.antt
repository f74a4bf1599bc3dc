-- What is known within a node, by what is known around it: what its clauses see.
use Rattle.std.specs.Prelude.{[], ◌∷◌, ◌++◌, Bool, true, false}
use Rattle.sql_flat_law.specs.Rose.{Roses}
use Rattle.sql_flat_law.specs.Folds.{gathered_each}
use Rattle.sql_origin.specs.Origins.{a_table, an_alias}
use Rattle.sql_rules.specs.Scope.{View}
use Rattle.sql_flat.specs.declared.kind.FlatKind.{FlatKind}
use Rattle.sql_flat.specs.declared.kind.FlatKind.TheVariants as K
use Rattle.sql_flat.specs.declared.kind.Form.{Form}
use Rattle.sql_flat.specs.declared.kind.Form.TheVariants as form

pub record Views : Type 0 where
  -- what an expression sees here, and a statement around itself
  pub clause : View
  -- what the condition of the innermost select statement sees
  pub condition : View

abbrev pub nothing : Views
nothing = record { clause = []; condition = [] }

-- the leaf that a node is
abbrev pub leaf_at : FlatKind → View
leaf_at (K.Table s) = a_table s.table ∷ []
leaf_at (K.Alias a) = an_alias a.name a.table ∷ []
leaf_at _ = []

-- leaves are sought in sources alone
abbrev pub is_passed : FlatKind → Bool
is_passed (K.Join k on) = false
is_passed K.From = false
is_passed _ = true

abbrev pub leaves_in : Roses FlatKind → View
leaves_in = gathered_each leaf_at is_passed

abbrev pub widened : Form → View → View → View
widened (form.Boxed d n) own outer = own
widened (form.Unboxed l) [] outer = []
widened (form.Unboxed l) (o ∷ own) outer = (o ∷ own) ++ outer

-- by the leaves of its source, if it has one
abbrev pub within : Views → FlatKind → View → Views
within v (K.Select s) own = record { clause = own; condition = widened s.form own v.clause }
within v (K.Join k on) own = record { clause = own; condition = own }
within v K.Where own = record { clause = v.condition; condition = v.condition }
within v _ own = v

abbrev pub below : Views → FlatKind → Roses FlatKind → Views
below v k ts = within v k (leaves_in ts)

-- nodes that see what is around them
abbrev pub keeps : FlatKind → Bool
keeps (K.Select s) = false
keeps (K.Join k on) = false
keeps K.Where = false
keeps _ = true

-- Where nothing is absent, a list is of what there is.
use Rattle.std.proofs.Common.{◌≡◌, ◌∷◌, [], List, Option, Some, None, map, true, false, is_none, refl, ap}
use Rattle.std.specs.List.{list_any}
use Rattle.sql_grammar.specs.MarkTree.{Name}
use Rattle.sql_audit_resolution.specs.declared.column_use.ColumnUse.{ColumnUse}
use Rattle.sql_audit_resolution.specs.declared.column_use.Meaning.{Meaning}
use Rattle.sql_audit_resolution.specs.declared.column_use.Meaning.TheVariants.{Nothing, Several, Column}
use Rattle.sql_audit.specs.Report.{is_nothing, is_several, settled_refusal}
use Rattle.sql_audit.specs.inside.Settled.{known, columns_among}

pub all_known : (tables : List (Option Name)) → list_any is_none tables ≡ false → tables ≡ map Some (known tables)
all_known [] e = refl
all_known (None ∷ ts) e = cc
all_known (Some t ∷ ts) e = ap (λ xs. Some t ∷ xs) (all_known ts e)

pub all_columns : (ms : List Meaning) → list_any is_nothing ms ≡ false → list_any is_several ms ≡ false
    → ms ≡ map Column (columns_among ms)
all_columns [] e f = refl
all_columns (Nothing ∷ ms) e f = cc
all_columns (Several ∷ ms) e f = cc
all_columns (Column c ∷ ms) e f = ap (λ xs. Column c ∷ xs) (all_columns ms e f)

-- A path in a level and in those further out.
use Rattle.std.proofs.Common.{◌≡◌, ℕ, List, [], ◌∷◌, ◌++◌, refl, sym, ap, ◌∙◌, Option, Some, None}
use Rattle.std.specs.Option.{option_to_list}
use Rattle.sql_audit_resolution.specs.Meant.{one_of}
use Rattle.sql_audit_resolution.specs.declared.column_use.ColumnUse.{ColumnUse}
use Rattle.sql_audit_resolution.specs.declared.column_use.Meaning.{Meaning}
use Rattle.sql_audit_resolution.specs.declared.column_use.Meaning.TheVariants.{Nothing, Several, Column}

-- what is found in a level alone is what is found in it before others, unless it is nothing
pub none_further : (us : List ColumnUse) (further : Meaning) → one_of us Nothing ≡ Nothing → one_of us further ≡ further
none_further [] further e = refl
none_further (c ∷ []) further e = cc
none_further (c ∷ (d ∷ us)) further e = cc

pub several_further : (us : List ColumnUse) (further : Meaning) → one_of us Nothing ≡ Several
    → one_of us further ≡ Several
several_further [] further e = cc
several_further (c ∷ []) further e = cc
several_further (c ∷ (d ∷ us)) further e = refl

pub column_further : (us : List ColumnUse) (further : Meaning) (x : ColumnUse) → one_of us Nothing ≡ Column x
    → one_of us further ≡ Column x
column_further [] further x e = cc
column_further (c ∷ []) further x e = e
column_further (c ∷ (d ∷ us)) further x e = cc

pub two_found : (c d : ColumnUse) (more us : List ColumnUse) (further : Meaning) → us ≡ c ∷ (d ∷ more)
    → one_of us further ≡ Several
two_found c d more us further e = ap (λ xs. one_of xs further) e

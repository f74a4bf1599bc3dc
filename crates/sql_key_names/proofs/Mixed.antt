-- What the comparison of two kinds comes to where the first has no declaration.
use Rattle.std.proofs.Common.{◌≡◌, ℕ, List, [], Option, refl, sym, ◌∙◌}
use Rattle.std.specs.declared.cmp.Ordering.{Ordering}
use Rattle.std.specs.declared.cmp.Ordering.TheVariants.{Less, Equal, Greater}
use Rattle.std.specs.Ordering.{ordering_then}
use Rattle.sql_schema.specs.Columns.{DeclaredColumn}
use Rattle.sql_leaf.specs.declared.alias.Alias.{Alias}
use Rattle.sql_leaf.specs.declared.table_source.TableSource.{TableSource}
use Rattle.sql_flat.specs.declared.kind.FlatKind.{FlatKind}
use Rattle.sql_flat.specs.declared.kind.FlatKind.TheVariants as K
use Rattle.sql_flat.specs.contracts.kind.FlatKindOrd.TheImpl as kind_ord
use Rattle.sql_key_names.specs.inside.Named.{blanked, column_name, kind_cmp, table_name, text_cmp}

then-none : (o : Ordering) → o ≡ ordering_then o Equal
then-none Less = refl
then-none Equal = refl
then-none Greater = refl

-- without declarations
abbrev IsPlain : FlatKind → Type 0
IsPlain k = (blanked k ≡ k) × (table_name k ≡ []) × (column_name k ≡ [])

abbrev Lacks : FlatKind → Type 0
Lacks k =
    ((a : Option (List ℕ)) (c : DeclaredColumn) → k ≡ K.Column a c → ⊥) × ((s : TableSource) → k ≡ K.Table s → ⊥)
    × ((a : Alias) → k ≡ K.Alias a → ⊥)

is-plain : (k : FlatKind) → Lacks k → IsPlain k
is-plain (K.Column a c) h = absurd (h.0 a c refl)
is-plain (K.Table s) h = absurd (h.1 s refl)
is-plain (K.Alias a) h = absurd (h.2 a refl)
is-plain _ h = (refl, refl, refl)

both-plain : (j k : FlatKind) → IsPlain j → IsPlain k → (kind_ord.ghosts).cmp j k ≡ kind_cmp j k
both-plain j k (a, b, c) (d, e, f) =
    then-none ((kind_ord.ghosts).cmp j k)
    ∙ (λ i. ordering_then ((kind_ord.ghosts).cmp (sym a i) (sym d i)) (ordering_then (text_cmp (sym b i) (sym e i)) (text_cmp (sym c i) (sym f i))))

before-column : (j : FlatKind) → Lacks j → (a : Option (List ℕ)) (c : DeclaredColumn)
    → (kind_ord.ghosts).cmp j (K.Column a c) ≡ kind_cmp j (K.Column a c)
before-column (K.Column b d) h a c = absurd (h.0 b d refl)
before-column (K.Table s) h a c = absurd (h.1 s refl)
before-column (K.Alias b) h a c = absurd (h.2 b refl)
before-column _ h a c = refl

before-source : (j : FlatKind) → Lacks j → (s : TableSource)
    → (kind_ord.ghosts).cmp j (K.Table s) ≡ kind_cmp j (K.Table s)
before-source (K.Column b d) h s = absurd (h.0 b d refl)
before-source (K.Table t) h s = absurd (h.1 t refl)
before-source (K.Alias b) h s = absurd (h.2 b refl)
before-source _ h s = refl

before-alias : (j : FlatKind) → Lacks j → (a : Alias)
    → (kind_ord.ghosts).cmp j (K.Alias a) ≡ kind_cmp j (K.Alias a)
before-alias (K.Column b d) h a = absurd (h.0 b d refl)
before-alias (K.Table t) h a = absurd (h.1 t refl)
before-alias (K.Alias b) h a = absurd (h.2 b refl)
before-alias _ h a = refl

pub other-any : (j k : FlatKind) → Lacks j → (kind_ord.ghosts).cmp j k ≡ kind_cmp j k
other-any j (K.Column a c) h = before-column j h a c
other-any j (K.Table s) h = before-source j h s
other-any j (K.Alias a) h = before-alias j h a
other-any j k h = both-plain j k (is-plain j h) (refl, refl, refl)

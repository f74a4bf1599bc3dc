-- What it says that no refusal holds.
use Rattle.std.proofs.Common.{◌≡◌, Bool, true, false, ◌||◌, if◌then◌else◌, List, [], ◌∷◌, Option, Some, None, refl, ap, sym, ◌∙◌}
use Rattle.std.specs.List.{list_any}
use Rattle.std.specs.Option.{option_or}
use Rattle.sql_schema.specs.declared.declaration.TableDecl.{TableDecl}
use Rattle.sql_schema.specs.declared.error.SchemaError.{SchemaError}
use Rattle.sql_schema.specs.declared.error.SchemaError.TheVariants.{DuplicateTable, NoColumns, DuplicateColumn, UnknownKey, UnknownTable, BadJoinable}
use Rattle.sql_schema.specs.Declarations.{Declarations}
use Rattle.sql_schema.specs.inside.Split.{tables_refusal, relations_refusal}
use Rattle.sql_schema.specs.Refusals.{has_duplicate_table, lacks_columns, has_duplicate_column, lacks_key, names_unknown_table, has_bad_joinable, is_unsound, least_refusal}

pub record IsUnrefused (s : Declarations) : Type 0 where
  pub tables_differ : has_duplicate_table s.tables ≡ false
  pub have_columns : list_any lacks_columns s.tables ≡ false
  pub columns_differ : list_any has_duplicate_column s.tables ≡ false
  pub have_keys : list_any lacks_key s.tables ≡ false
  pub know_tables : names_unknown_table s ≡ false
  pub relate_well : has_bad_joinable s ≡ false

not-refused : {X : Type 0} (b : Bool) (e : X) (o : Option X) → (if b then Some e else o) ≡ None
    → (b ≡ false) × (o ≡ None)
not-refused true e o h = cc
not-refused false e o h = (refl, h)

pub none-refused : (s : Declarations) → least_refusal s ≡ None → IsUnrefused s
unfolding least_refusal
none-refused s h =
    let one = not-refused (has_duplicate_table s.tables) DuplicateTable _ h in
    let two = not-refused (list_any lacks_columns s.tables) NoColumns _ one.1 in
    let three = not-refused (list_any has_duplicate_column s.tables) DuplicateColumn _ two.1 in
    let four = not-refused (list_any lacks_key s.tables) UnknownKey _ three.1 in
    let five = not-refused (names_unknown_table s) UnknownTable _ four.1 in
    let six = not-refused (has_bad_joinable s) BadJoinable _ five.1 in
    record {
      tables_differ = one.0;
      have_columns = two.0;
      columns_differ = three.0;
      have_keys = four.0;
      know_tables = five.0;
      relate_well = six.0;
    }

-- a table with nothing wrong
sound : (b c d : Bool) → b ≡ false → c ≡ false → d ≡ false → (b || (c || d)) ≡ false
sound b c d p q r = cc

pub neither : (b c : Bool) → (b || c) ≡ false → (b ≡ false) × (c ≡ false)
neither true c h = cc
neither false c h = (refl, h)

all-sound : (tables : List TableDecl) → list_any lacks_columns tables ≡ false
    → list_any has_duplicate_column tables ≡ false → list_any lacks_key tables ≡ false
    → list_any is_unsound tables ≡ false
all-sound [] p q r = refl
all-sound (t ∷ ts) p q r =
    let a = neither (lacks_columns t) (list_any lacks_columns ts) p in
    let b = neither (has_duplicate_column t) (list_any has_duplicate_column ts) q in
    let c = neither (lacks_key t) (list_any lacks_key ts) r in
    ap (λ x. x || list_any is_unsound ts) (sound (lacks_columns t) (has_duplicate_column t) (lacks_key t) a.0 b.0 c.0)
    ∙ all-sound ts a.1 b.1 c.1

pub none-sound : (s : Declarations) → least_refusal s ≡ None → list_any is_unsound s.tables ≡ false
none-sound s h = let u = none-refused s h in all-sound s.tables u.have_columns u.columns_differ u.have_keys

-- ---- the least refusal in two parts

chained : {X : Type 0} (a b c d : Bool) (e f g h : X) (o : Option X)
    → (if a then Some e else if b then Some f else if c then Some g else if d then Some h else o)
    ≡ option_or (if a then Some e else if b then Some f else if c then Some g else if d then Some h else None) o
chained true b c d e f g h o = refl
chained false true c d e f g h o = refl
chained false false true d e f g h o = refl
chained false false false true e f g h o = refl
chained false false false false e f g h o = refl

pub least-split : (s : Declarations) → least_refusal s ≡ option_or (tables_refusal s.tables) (relations_refusal s)
unfolding least_refusal tables_refusal relations_refusal
least-split s =
    chained (has_duplicate_table s.tables) (list_any lacks_columns s.tables) (list_any has_duplicate_column s.tables)
    (list_any lacks_key s.tables) DuplicateTable NoColumns DuplicateColumn UnknownKey _

pub no-table-refused : (tables : List TableDecl) → tables_refusal tables ≡ None
    → (has_duplicate_table tables ≡ false) × (list_any is_unsound tables ≡ false)
unfolding tables_refusal
no-table-refused tables h =
    let one = not-refused (has_duplicate_table tables) DuplicateTable _ h in
    let two = not-refused (list_any lacks_columns tables) NoColumns _ one.1 in
    let three = not-refused (list_any has_duplicate_column tables) DuplicateColumn _ two.1 in
    let four = not-refused (list_any lacks_key tables) UnknownKey _ three.1 in
    (one.0, all-sound tables two.0 three.0 four.0)

-- where tables alone are not refused
pub least-then : (s : Declarations) (o : Option SchemaError) → tables_refusal s.tables ≡ None → o ≡ relations_refusal s
    → least_refusal s ≡ o
least-then s o none is = least-split s ∙ ap (λ x. option_or x (relations_refusal s)) none ∙ sym is

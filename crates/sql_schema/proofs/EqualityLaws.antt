-- `==` on types and declarations is equality.
use Rattle.std.proofs.Common.{◌≡◌, ◌↔◌, true, ◌&&◌, subst, nat_eq}
use Rattle.std.specs.Option.{option_eq}
use Rattle.std.specs.Cmp.Lexicographic.{pointwise}
use Rattle.std.specs.Cmp.{first_so, second_so}
use Rattle.std.specs.Str.{bytes_eq}
use Rattle.sql_schema.specs.contracts.types.BaseEq.TheImpl.Laws as base_laws
use Rattle.sql_schema.specs.contracts.types.SqlTypeEq.TheImpl.Laws as type_laws
use Rattle.sql_schema.specs.contracts.declaration.ColumnDeclEq.TheImpl.Laws as column_laws
use Rattle.sql_schema.specs.contracts.declaration.TableDeclEq.TheImpl.Laws as table_laws
use Rattle.sql_schema.specs.declared.declaration.ColumnDecl.{ColumnDecl}
use Rattle.sql_schema.specs.declared.declaration.TableDecl.{TableDecl}
use Rattle.sql_schema.specs.declared.types.Base.{Base}
use Rattle.sql_schema.specs.declared.types.SqlType.{SqlType}
use Rattle.sql_schema.specs.Refusals.{same_base}
use Rattle.sql_schema.specs.Equality.{same_type, same_column, same_table}
use Rattle.sql_schema.proofs.Exact.{IsExact, exact-list, exact-option}
use Rattle.sql_schema.proofs.ExactTypes.{exact-text, exact-base, exact-type, exact-unsigned}

-- ---- the same is equal

pub exact-column : IsExact same_column
exact-column a b h =
    let sized = λ (c d : ColumnDecl). option_eq nat_eq c.max_length d.max_length in
    let typed = λ (c d : ColumnDecl). same_type c.ty d.ty && sized c d in
    let written = λ (c d : ColumnDecl). bytes_eq c.sql_name d.sql_name && typed c d in
    let g = second_so (bytes_eq a.name b.name) (written a b) h in
    let k = second_so (bytes_eq a.sql_name b.sql_name) (typed a b) g in
    let p = exact-text a.name b.name (first_so (bytes_eq a.name b.name) (written a b) h) in
    let q = exact-text a.sql_name b.sql_name (first_so (bytes_eq a.sql_name b.sql_name) (typed a b) g) in
    let r = exact-type a.ty b.ty (first_so (same_type a.ty b.ty) (sized a b) k) in
    let s = exact-option exact-unsigned a.max_length b.max_length (second_so (same_type a.ty b.ty) (sized a b) k) in
    λ i. record { name = p i; sql_name = q i; ty = r i; max_length = s i }

pub exact-table : IsExact same_table
exact-table a b h =
    let keyed = λ (c d : TableDecl). pointwise bytes_eq c.primary_key d.primary_key in
    let shaped = λ (c d : TableDecl). pointwise same_column c.columns d.columns && keyed c d in
    let placed = λ (c d : TableDecl). option_eq bytes_eq c.schema d.schema && shaped c d in
    let written = λ (c d : TableDecl). bytes_eq c.sql_name d.sql_name && placed c d in
    let g = second_so (bytes_eq a.name b.name) (written a b) h in
    let k = second_so (bytes_eq a.sql_name b.sql_name) (placed a b) g in
    let l = second_so (option_eq bytes_eq a.schema b.schema) (shaped a b) k in
    let p = exact-text a.name b.name (first_so (bytes_eq a.name b.name) (written a b) h) in
    let q = exact-text a.sql_name b.sql_name (first_so (bytes_eq a.sql_name b.sql_name) (placed a b) g) in
    let r =
    exact-option exact-text a.schema b.schema (first_so (option_eq bytes_eq a.schema b.schema) (shaped a b) k) in
    let s =
    exact-list exact-column a.columns b.columns
    (first_so (pointwise same_column a.columns b.columns) (keyed a b) l) in
    let t =
    exact-list exact-text a.primary_key b.primary_key
    (second_so (pointwise same_column a.columns b.columns) (keyed a b) l) in
    λ i. record { name = p i; sql_name = q i; schema = r i; columns = s i; primary_key = t i }

-- ---- and what is equal is the same

pub equal-bases : (a b : Base) → (same_base a b ≡ true) ↔ (a ≡ b)
equal-bases a b = (exact-base a b, λ e. subst (λ x. same_base a x ≡ true) e (base_laws.laws-law.refl a))

pub equal-types : (a b : SqlType) → (same_type a b ≡ true) ↔ (a ≡ b)
equal-types a b = (exact-type a b, λ e. subst (λ x. same_type a x ≡ true) e (type_laws.laws-law.refl a))

pub equal-columns : (a b : ColumnDecl) → (same_column a b ≡ true) ↔ (a ≡ b)
equal-columns a b = (exact-column a b, λ e. subst (λ x. same_column a x ≡ true) e (column_laws.laws-law.refl a))

pub equal-tables : (a b : TableDecl) → (same_table a b ≡ true) ↔ (a ≡ b)
equal-tables a b = (exact-table a b, λ e. subst (λ x. same_table a x ≡ true) e (table_laws.laws-law.refl a))

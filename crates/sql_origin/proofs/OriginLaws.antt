-- The test by which origins are compared is equality. (Of types, columns and tables `sql_schema` says so, in EqualityLaws.)
use Rattle.std.proofs.Common.{◌≡◌, ◌↔◌, ℕ, true, false, ◌&&◌, subst, List, Option, Some, None, refl}
use Rattle.std.specs.Bool.{Decides}
use Rattle.std.specs.Option.{option_eq}
use Rattle.std.specs.Cmp.{first_so, second_so}
use Rattle.std.specs.Str.{bytes_eq}
use Rattle.std.proofs.lemmas.Bool.{and_from, false_from_ne_true}
use Rattle.std.proofs.lemmas.Cmp.{nat_list_eq_equiv}
use Rattle.sql_schema.specs.Equality.{same_table, same_column}
use Rattle.sql_schema.specs.contracts.declaration.TableDeclEq.TheImpl.Laws.{laws-law}
use Rattle.sql_schema.specs.declared.declaration.ColumnDecl.{ColumnDecl}
use Rattle.sql_schema.specs.declared.declaration.TableDecl.{TableDecl}
use Rattle.sql_schema.proofs.EqualityLaws.{exact-table, equal-columns, equal-tables}
use Rattle.sql_schema.proofs.Exact.{IsExact, exact-option}
use Rattle.sql_schema.proofs.ExactTypes.{exact-text}
use Rattle.sql_node.specs.Tree.{Origin}
use Rattle.sql_origin.specs.Origins.{same_origin}

-- ---- the same is equal

pub exact-origin : IsExact same_origin
exact-origin a b h =
    let p =
    exact-option exact-text a.alias b.alias
    (first_so (option_eq bytes_eq a.alias b.alias) (same_table a.table b.table) h) in
    let q =
    exact-table a.table b.table (second_so (option_eq bytes_eq a.alias b.alias) (same_table a.table b.table) h) in
    λ i. record { alias = p i; table = q i }

-- ---- what is equal is the same

same-alias : (o : Option (List ℕ)) → option_eq bytes_eq o o ≡ true
same-alias None = refl
same-alias (Some a) = nat_list_eq_equiv.refl a

pub same-origin_itself : (o : Origin) → same_origin o o ≡ true
same-origin_itself o =
    and_from (option_eq bytes_eq o.alias o.alias) (same_table o.table o.table) (same-alias o.alias)
    (laws-law.refl o.table)

pub other-origin : (a b : Origin) → ¬ (a ≡ b) → same_origin a b ≡ false
other-origin a b n = false_from_ne_true (same_origin a b) (λ e. n (exact-origin a b e))

pub same-equal : (a b : Origin) → (same_origin a b ≡ true) ↔ (a ≡ b)
same-equal a b = (exact-origin a b, λ e. subst (λ o. same_origin a o ≡ true) e (same-origin_itself a))

-- ---- so each decides it

pub table-decides : (a b : TableDecl) → Decides (same_table a b) (a ≡ b)
table-decides a b = equal-tables a b

pub column-decides : (c d : ColumnDecl) → Decides (same_column c d) (c ≡ d)
column-decides c d = equal-columns c d

pub origin-decides : (a b : Origin) → Decides (same_origin a b) (a ≡ b)
origin-decides a b = same-equal a b

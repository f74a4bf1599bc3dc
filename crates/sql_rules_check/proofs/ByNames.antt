-- Where all tables are the schema's, the names of leaves tell what the leaves do.
use Rattle.std.proofs.Common.{◌≡◌, true, false, ◌&&◌, ◌∙◌, ap, subst}
use Rattle.std.specs.Option.{option_eq}
use Rattle.std.specs.Str.{bytes_eq}
use Rattle.std.specs.Cmp.{first_so, second_so}
use Rattle.std.proofs.lemmas.Cmp.{nat_list_eq_equiv}
use Rattle.sql_schema.specs.Declarations.{Declarations}
use Rattle.sql_schema.specs.Refusals.{any_two, tables_clash}
use Rattle.sql_schema.proofs.Exact.{exact-option}
use Rattle.sql_schema.proofs.ExactTypes.{exact-text}
use Rattle.sql_node.specs.Tree.{Origin}
use Rattle.sql_rules.specs.Rules.{IsTable}
use Rattle.sql_rules_check.specs.inside.Tables.{named_alike}
use Rattle.sql_rules_check.proofs.Alike.{same-alias}
use Rattle.sql_rules_check.proofs.Declared.{one-of-name}

pub names-of-one : (l o : Origin) → l ≡ o → named_alike l o ≡ true
names-of-one l o e =
    subst (λ p. named_alike l p ≡ true) e
    (both (same-alias l.alias) (nat_list_eq_equiv.refl l.table.name))
  where
    both : option_eq bytes_eq l.alias l.alias ≡ true → bytes_eq l.table.name l.table.name ≡ true
        → named_alike l l ≡ true
    both a b = ap (λ x. x && bytes_eq l.table.name l.table.name) a ∙ b

module _ (s : Declarations) (apart : any_two tables_clash s.tables ≡ false) where
  pub one-of-names : (l o : Origin) → named_alike l o ≡ true → IsTable s l.table → IsTable s o.table → l ≡ o
  one-of-names l o h p q =
      let a = exact-option exact-text l.alias o.alias
      (first_so (option_eq bytes_eq l.alias o.alias) (bytes_eq l.table.name o.table.name) h) in
      let n = exact-text l.table.name o.table.name
      (second_so (option_eq bytes_eq l.alias o.alias) (bytes_eq l.table.name o.table.name) h) in
      let t = one-of-name s.tables apart l.table o.table p q n in
      λ i. record { alias = a i; table = t i }

-- Lists of leaves with the same tables, and maps of tables by their names.
use Rattle.std.specs.Prelude.{◌≡◌, List, Bool, ◌&&◌, Some}
use Rattle.std.specs.BTreeMap.{BTreeMap, get}
use Rattle.std.specs.Option.{option_eq}
use Rattle.std.specs.Str.{bytes_eq}
use Rattle.sql_schema.specs.declared.declaration.TableDecl.{TableDecl}
use Rattle.sql_schema.specs.inside.NameSets.{Name, name_cmp}
use Rattle.sql_node.specs.Tree.{Origin}
use Rattle.sql_rules.specs.Lists.{AnyOf, Each}
use Rattle.sql_rules_check.specs.inside.Ends.{last_under}
use denote.Ref.{Bor}

-- one alias, or none, and tables of one name
abbrev pub named_alike : Origin → Origin → Bool
named_alike a b = option_eq bytes_eq a.alias b.alias && bytes_eq a.table.name b.table.name

-- the last names that two leaves expose are one
abbrev pub last_alike : Origin → Origin → Bool
last_alike a b = bytes_eq (last_under a.alias a.table) (last_under b.alias b.table)

-- a leaf has the table of this one
abbrev pub HasTable : List Origin → Origin → Type 0
HasTable ks o = AnyOf (λ k. k.table ≡ o.table) ks

-- each leaf's table is that of one of these
abbrev pub Cover : List Origin → List Origin → Type 0
Cover ks os = Each (HasTable ks) os

-- the map has the table under some name
abbrev pub Holds : BTreeMap Name (Bor TableDecl) → TableDecl → Type 0
Holds m t = (k : Name) × (u : Bor TableDecl) × (get name_cmp m k ≡ Some u) × (u.now ≡ t)

-- Tests of nodes, by what is known around them and within them.
use Rattle.std.specs.Prelude.{Bool, true, false, not, ◌||◌, ◌&&◌, [], ◌∷◌}
use Rattle.std.specs.List.{list_any}
use Rattle.sql_schema.specs.Equality.{same_column, same_table}
use Rattle.sql_schema.specs.Declarations.{Declarations}
use Rattle.sql_schema.specs.declared.declaration.TableDecl.{TableDecl}
use Rattle.sql_flat_law.specs.Folds.{Site}
use Rattle.sql_node.specs.Tree.{Origin}
use Rattle.sql_origin.specs.Origins.{same_origin}
use Rattle.sql_rules.specs.Scope.{View}
use Rattle.sql_flat.specs.declared.kind.FlatKind.{FlatKind}
use Rattle.sql_flat.specs.declared.kind.FlatKind.TheVariants as K
use Rattle.sql_rules_check.specs.inside.Ends.{leaves_clash, tables_part}
use Rattle.sql_rules_check.specs.inside.Tables.{named_alike}
use Rattle.sql_rules_check.specs.inside.Views.{Views}

-- ---- of a node alone

abbrev pub is_declared : Declarations → TableDecl → Bool
is_declared schema t = list_any (λ u. same_table u t) schema.tables

-- a column or a table is not one that the schema declares
abbrev pub is_unknown : Declarations → FlatKind → Bool
is_unknown schema (K.Column a c) =
    not (is_declared schema c.table && list_any (λ d. same_column d c.decl) c.table.columns)
is_unknown schema (K.Table s) = not (is_declared schema s.table)
is_unknown schema (K.Alias a) = not (is_declared schema a.table)
is_unknown schema _ = false

-- a join has no condition
abbrev pub lacks_on : FlatKind → Bool
lacks_on (K.Join k on) = not on
lacks_on _ = false

-- ---- of a column by what its clause sees

-- whole declarations are compared, or names alone
abbrev pub is_alike : Bool → Origin → Origin → Bool
is_alike true l o = same_origin l o
is_alike false l o = named_alike l o

abbrev pub is_out : Bool → View → FlatKind → Bool
is_out whole v (K.Column a c) = not (list_any (λ l. is_alike whole l (record { alias = a; table = c.table })) v)
is_out whole v _ = false

abbrev pub site_out : Bool → Site Views FlatKind → Bool
site_out whole s = is_out whole s.around.clause s.kind

-- ---- of a select statement by what its condition sees

abbrev pub any_pair : (Origin → Origin → Bool) → View → Bool
any_pair t [] = false
any_pair t (o ∷ os) = list_any (t o) os || any_pair t os

abbrev pub is_ambiguous : View → Bool
is_ambiguous v = any_pair same_origin v

abbrev pub is_apart : Declarations → View → Bool
is_apart schema v = any_pair (λ a b. tables_part schema a.table b.table) v

abbrev pub is_clashing : View → Bool
is_clashing v = any_pair leaves_clash v

abbrev pub of_select : (View → Bool) → FlatKind → Views → Bool
of_select t (K.Select s) w = t w.condition
of_select t _ w = false

abbrev pub site_select : (View → Bool) → Site Views FlatKind → Bool
site_select t s = of_select t s.kind s.within

-- Tests of two leaves: whether the one can be named as the other, and whether their tables may stand in one statement.
use Rattle.std.specs.Prelude.{ℕ, List, Bool, false, not, ◌&&◌, ◌||◌, Option, None, Some}
use Rattle.std.specs.Str.{bytes_eq}
use Rattle.sql_schema.specs.Equality.{same_table}
use Rattle.sql_schema.specs.Declarations.{Declarations}
use Rattle.sql_schema.specs.Together.{may_stand_together}
use Rattle.sql_schema.specs.declared.declaration.TableDecl.{TableDecl}
use Rattle.sql_node.specs.Tree.{Origin}
use Rattle.sql_origin.specs.Origins.{same_origin}

-- whether a path of one name or two is the end of another
abbrev pub path_ends : Option (List ℕ) → List ℕ → Option (List ℕ) → List ℕ → Bool
path_ends None x g y = bytes_eq x y
path_ends (Some s) x None y = false
path_ends (Some s) x (Some t) y = bytes_eq s t && bytes_eq x y

-- what stands before the last name that a leaf exposes, and that name
abbrev pub front_under : Option (List ℕ) → TableDecl → Option (List ℕ)
front_under None t = t.schema
front_under (Some a) t = None

abbrev pub last_under : Option (List ℕ) → TableDecl → List ℕ
last_under None t = t.sql_name
last_under (Some a) t = a

abbrev pub leaf_ends : Origin → Origin → Bool
leaf_ends a b =
    path_ends (front_under a.alias a.table) (last_under a.alias a.table) (front_under b.alias b.table)
    (last_under b.alias b.table)

abbrev pub leaves_clash : Origin → Origin → Bool
leaves_clash a b = not (same_origin a b) && (leaf_ends a b || leaf_ends b a)

abbrev pub tables_part : Declarations → TableDecl → TableDecl → Bool
tables_part s a b = not (same_table a b) && not (may_stand_together s.together a b)

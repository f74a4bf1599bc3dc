-- The path that a column has in the statement's tree is the one by which it is named.
use Rattle.std.proofs.Common.{◌≡◌, ℕ, List, [], ◌∷◌, ◌++◌, Option, Some, None, refl}
use Rattle.sql_schema.specs.declared.declaration.ColumnDecl.{ColumnDecl}
use Rattle.sql_schema.specs.declared.declaration.TableDecl.{TableDecl}
use Rattle.sql_grammar.specs.Tree as g
use Rattle.sql_node.specs.Tree.{Origin}
use Rattle.sql_origin.specs.Origins.{table_path, path_under}
use Rattle.sql_normal.specs.Filled.{column_path, first_name, more_names}
use Rattle.sql_rules.specs.Names.{path}
use Rattle.sql_rules_law.specs.Paths.{names_in}

by-schema : (schema : Option (List ℕ)) (name c : List ℕ)
    → names_in (g.Path (first_name schema name) (more_names schema name (c ∷ []))) ≡ table_path schema name ++ c ∷ []
by-schema None name c = refl
by-schema (Some s) name c = refl

by-alias : (alias : Option (List ℕ)) (t : TableDecl) (c : List ℕ)
    → names_in (column_path alias t c) ≡ path_under alias t ++ c ∷ []
by-alias None t c = by-schema t.schema t.sql_name c
by-alias (Some a) t c = refl

pub path-in-tree : (o : Origin) (c : ColumnDecl) → names_in (column_path o.alias o.table c.sql_name) ≡ path o c
path-in-tree o c = by-alias o.alias o.table c.sql_name

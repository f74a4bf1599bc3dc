-- What a node's view has beside the trees of nodes, guarded at every depth.
use Rattle.sql_schema.specs.declared.declaration.TableDecl.{TableDecl}
use Rattle.sql_node.specs.Tree.{Expr}
use Rattle.sql_node.specs.View.{Among, among_list, among_query, Item, Selected}
use Rattle.sql_guard_law.specs.Guarded.{guarded, guarded_expr}

abbrev pub guarded_among : TableDecl → Expr → Among → Among
guarded_among t p (among_list ty xs) = among_list ty xs
guarded_among t p (among_query q) = among_query (guarded t p q)

abbrev pub guarded_selected : TableDecl → Expr → Selected → Selected
guarded_selected t p s = (s.0, guarded_expr t p s.1)

abbrev pub guarded_item : TableDecl → Expr → Item → Item
guarded_item t p i = (guarded_expr t p i.0, i.1)

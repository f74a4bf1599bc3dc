-- Lists and memberships, guarded element by element.
use Rattle.std.proofs.Common.{◌≡◌, Bool, List, [], ◌∷◌, map, refl, ap}
use Rattle.sql_schema.specs.declared.declaration.TableDecl.{TableDecl}
use Rattle.sql_node.specs.Tree.{Expr, more_exprs, more_items}
use Rattle.sql_node.specs.View.{Among, among_list, among_query, Item, among_of, exprs_of, items_of}
use Rattle.sql_guard_law.specs.Guarded.{guarded_expr, guarded_exprs, guarded_items}
use Rattle.sql_guard.specs.inside.Guarding.{guarded_among, guarded_item}

pub guarded-map : (t : TableDecl) (p : Expr) (es : List Expr)
    → exprs_of (map (guarded_expr t p) es) ≡ guarded_exprs t p (exprs_of es)
guarded-map t p [] = refl
guarded-map t p (e ∷ es) = ap (λ x. more_exprs (guarded_expr t p e) x) (guarded-map t p es)

pub guarded-items : (t : TableDecl) (p : Expr) (is : List Item)
    → items_of (map (guarded_item t p) is) ≡ guarded_items t p (items_of is)
guarded-items t p [] = refl
guarded-items t p (i ∷ is) = ap (λ x. more_items (guarded_expr t p i.0) i.1 x) (guarded-items t p is)

pub guarded-among : (t : TableDecl) (p : Expr) (n : Bool) (e : Expr) (a : Among)
    → among_of n (guarded_expr t p e) (guarded_among t p a) ≡ guarded_expr t p (among_of n e a)
guarded-among t p n e (among_list ty xs) = refl
guarded-among t p n e (among_query q) = refl

pub ruleset guarding = (guarded-map, guarded-items, guarded-among)

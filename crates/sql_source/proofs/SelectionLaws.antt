-- The columns of a join are those of its left side, and those of its right one.
use Rattle.std.proofs.Common.{◌≡◌, ℕ, suc, Bool, Option, List, [], ◌∷◌, ◌++◌, map, refl, ap, sym, ◌∙◌}
use Rattle.std.specs.List.{flat_map}
use Rattle.std.proofs.lemmas.Grind.{flat_map-append}
use Rattle.std.proofs.lemmas.List.{map-append}
use Rattle.sql_leaf.specs.declared.table_source.JoinKind.{JoinKind}
use Rattle.sql_leaf.specs.declared.table_source.JoinKind.TheVariants.{Inner, LeftOuter}
use Rattle.sql_leaf.specs.declared.table_source.Tablesample.{Tablesample}
use Rattle.sql_schema.specs.declared.declaration.TableDecl.{TableDecl}
use Rattle.sql_node.specs.Tree.{Expr, nullable, under, Source, of_table, of_alias, join, MaybeExpr}
use Rattle.sql_node.specs.View.{expr_tree}
use Rattle.sql_node.specs.declared.expr.Expr.{Expr as Rust}
use Rattle.sql_origin.specs.Leaves.{Leaf, leaves, in_right_side}
use Rattle.sql_origin.specs.Origins.{a_table, an_alias}
use Rattle.sql_source.specs.Selections.{leaf_columns, origin_columns, padded, selected}

once_more : (l : Leaf) (es : List Expr)
    → map (λ e. under (suc l.paddings) e) es ≡ map nullable (map (λ e. under l.paddings e) es)
once_more l [] = refl
once_more l (e ∷ es) = ap (λ x. nullable (under l.paddings e) ∷ x) (once_more l es)

right-columns : (k : JoinKind) (ls : List Leaf)
    → flat_map leaf_columns (map (in_right_side k) ls) ≡ padded k (flat_map leaf_columns ls)
right-columns Inner [] = refl
right-columns LeftOuter [] = refl
right-columns Inner (l ∷ ls) = ap (λ x. leaf_columns l ++ x) (right-columns Inner ls)
right-columns LeftOuter (l ∷ ls) =
    ap (λ x. x ++ flat_map leaf_columns (map (in_right_side LeftOuter) ls)) (once_more l (origin_columns l.origin))
    ∙ ap (λ x. map nullable (leaf_columns l) ++ x) (right-columns LeftOuter ls)
    ∙ sym (map-append nullable (leaf_columns l) (flat_map leaf_columns ls))

pub selected-join : (k : JoinKind) (l r : Source) (on : MaybeExpr)
    → selected (join k l r on) ≡ selected l ++ padded k (selected r)
unfolding selected
selected-join k l r on =
    flat_map-append leaf_columns (leaves l) (map (in_right_side k) (leaves r))
    ∙ ap (λ x. flat_map leaf_columns (leaves l) ++ x) (right-columns k (leaves r))

-- the columns of a leaf alone stand under no nullable
bare : (es : List Expr) → map (λ e. under 0 e) es ++ [] ≡ es
bare [] = refl
bare (e ∷ es) = ap (λ x. e ∷ x) (bare es)

pub selected-table : (t : TableDecl) (only : Bool) (sample : Option Tablesample)
    → selected (of_table t only sample) ≡ origin_columns (a_table t)
unfolding selected
selected-table t only sample = bare (origin_columns (a_table t))

pub selected-alias : (a : List ℕ) (t : TableDecl) → selected (of_alias a t) ≡ origin_columns (an_alias a t)
unfolding selected
selected-alias a t = bare (origin_columns (an_alias a t))

pub columns-append : (xs ys : List Rust) → map expr_tree (xs ++ ys) ≡ map expr_tree xs ++ map expr_tree ys
columns-append = map-append expr_tree

pub ruleset selections = (selected-join, selected-table, selected-alias, columns-append)

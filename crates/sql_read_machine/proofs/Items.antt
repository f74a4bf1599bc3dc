-- Lists as they are read from their end.
use Rattle.std.proofs.Common.{◌≡◌, List, [], ◌∷◌, ◌++◌, map, reverse, refl, sym, ap, ◌∙◌}
use Rattle.std.proofs.lemmas.List.{reverse-append}
use Rattle.sql_grammar.specs.MarkTree as t
use Rattle.sql_grammar.proofs.Machine as m
use Rattle.sql_read_tree.specs.declared.tree.Item.{Item}
use Rattle.sql_read_tree.specs.declared.tree.Place.{Place}
use Rattle.sql_read_tree.specs.View.{Ordered, Placed, item_tree, items_of, expressions_of, place_of, places_of}

pub items_more : (i : Ordered) (f : Item) (xs : List Item)
    → items_of i (map item_tree (reverse (xs ++ f ∷ [])))
    ≡ t.MoreItem i.0 i.1 (items_of (item_tree f) (map item_tree (reverse xs)))
items_more i f xs = ap (λ ys. items_of i (map item_tree ys)) (reverse-append xs (f ∷ []))

pub first_of : (i : Ordered) (is : List Ordered) → m.first (items_of i is) ≡ i.0
unfolding m.first
first_of i [] = refl
first_of i (j ∷ is) = refl

expressions_other : (i : Ordered) (is : List Ordered)
    → m.expressions_of (items_of i is) ≡ expressions_of i.0 (map (λ (j : Ordered). j.0) is)
unfolding m.expressions_of
expressions_other i [] = refl
expressions_other i (j ∷ is) = ap (t.MoreExpression i.0) (expressions_other j is)

pub expressions_seen : (i : Ordered) (is : List Ordered) (es : List t.Expression) → es ≡ map (λ (j : Ordered). j.0) is
    → expressions_of i.0 es ≡ m.expressions_of (items_of i is)
expressions_seen i is es h = ap (expressions_of i.0) h ∙ sym (expressions_other i is)

marks_other : (i : Ordered) (is : List Ordered) → m.marks_of (items_of i is)
    ≡ m.mark_in i.0 ∷ map (λ (j : Ordered). m.mark_in j.0) is
unfolding m.marks_of
marks_other i [] = refl
marks_other i (j ∷ is) = ap (λ xs. m.mark_in i.0 ∷ xs) (marks_other j is)

pub more_marks_of : (i : Ordered) (is : List Ordered) → m.more_marks (items_of i is)
    ≡ map (λ (j : Ordered). m.mark_in j.0) is
unfolding m.more_marks
more_marks_of i [] = refl
more_marks_of i (j ∷ is) = marks_other j is

pub places_more : (i : Placed) (f : Place) (xs : List Place)
    → places_of i (map place_of (reverse (xs ++ f ∷ [])))
    ≡ t.MorePlace i.0 i.1 (places_of (place_of f) (map place_of (reverse xs)))
places_more i f xs = ap (λ ys. places_of i (map place_of ys)) (reverse-append xs (f ∷ []))

pub ruleset lists = (places_more, items_more, first_of, expressions_seen, more_marks_of)

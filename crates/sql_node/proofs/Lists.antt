-- The pieces of a list of nodes, one element at a time.
use Rattle.std.proofs.Common.{◌≡◌, ℕ, ◌+◌, ◌<◌, ◌≤◌, Bool, true, false, List, [], ◌∷◌, ◌++◌, map, length, drop, get_or, Result, Ok, Err, refl, sym, ap, ◌∙◌, subst, append_assoc}
use Rattle.std.proofs.lemmas.List.{drop_more, drop_all}
use Rattle.sql_dialect.specs.declared.backend.Dialect.{Dialect}
use Rattle.sql_pass.specs.Commas.{next_of, commas}
use Rattle.sql_pass.specs.Pieces.{Piece}
use Rattle.sql_pass.specs.Held.{Held}
use Rattle.sql_pass.specs.Walks.{Walks}
use Rattle.sql_pass.specs.declared.pass.PassError.{PassError}
use Rattle.sql_pass.proofs.Walking.{walks-none, walks-then, walks-fail}
use Rattle.sql_node.specs.View.{expr_tree, exprs_of, order_item_tree, items_of}
use Rattle.sql_node.specs.Pieces.{expr_parts, exprs_parts, items_pieces, item_pieces, stays, Written, alone, many, each, spread, still}
use Rattle.sql_node.specs.declared.expr.Expr.{Expr}
use Rattle.sql_node.specs.declared.order.OrderItem.{OrderItem}

-- the elements of all
abbrev pub all_of : {X : Type 0} → (X → Written) → List X → List (List Piece)
all_of f [] = []
all_of f (x ∷ xs) = each (f x) ++ all_of f xs

pub exprs_parts-map : (d : Dialect) (es : List Expr)
    → exprs_parts d (exprs_of (map expr_tree es)) ≡ all_of (λ e. expr_parts d (expr_tree e)) es
exprs_parts-map d [] = refl
exprs_parts-map d (e ∷ es) = ap (λ x. each (expr_parts d (expr_tree e)) ++ x) (exprs_parts-map d es)

pub items_pieces-map : (d : Dialect) (es : List OrderItem)
    → items_pieces d (items_of (map order_item_tree es)) ≡ map (λ e. item_pieces d (order_item_tree e)) es
items_pieces-map d [] = refl
items_pieces-map d (e ∷ es) = ap (λ x. item_pieces d (order_item_tree e) ∷ x) (items_pieces-map d es)

pub commas-append : (first : Bool) (xs ys : List (List Piece))
    → commas first (xs ++ ys) ≡ commas first xs ++ commas (stays first xs) ys
commas-append first [] ys = refl
commas-append first (x ∷ xs) ys =
    ap (λ l. next_of first x ++ l)
    (commas-append false xs ys ∙ ap (λ b. commas false xs ++ commas b ys) (stays-false xs))
    ∙ sym (append_assoc (next_of first x) (commas false xs) (commas false ys))
  where
    stays-false : (xs : List (List Piece)) → stays false xs ≡ false
    stays-false [] = refl
    stays-false (x ∷ xs) = refl

pub commas-each : (first : Bool) (w : Written) (ys : List (List Piece))
    → commas first (each w ++ ys) ≡ spread first w ++ commas (still first w) ys
commas-each first (alone x) ys = refl
commas-each first (many xs) ys = commas-append first xs ys

pub stays-each : (first : Bool) (w : Written) (ys : List (List Piece))
    → stays first (each w ++ ys) ≡ stays (still first w) ys
stays-each first (alone x) [] = refl
stays-each first (alone x) (y ∷ ys) = refl
stays-each first (many []) ys = refl
stays-each first (many (x ∷ xs)) [] = refl
stays-each first (many (x ∷ xs)) (y ∷ ys) = refl

all-drop : {X : Type 0} (f : X → Written) (xs : List X) (i : ℕ) (x : X) → i < length xs → x ≡ get_or xs i x
    → all_of f (drop i xs) ≡ each (f x) ++ all_of f (drop (i + 1) xs)
all-drop f xs i x h e =
    ap (λ l. all_of f l) (drop_more xs i x h) ∙ ap (λ y. each (f y) ++ all_of f (drop (i + 1) xs)) (sym e)

-- A loop over a list, at its element x at i, which may be a list itself, of none or of many.
module _ {X : Type 0} (f : X → Written) {D : Type 0} {d : Dialect} {h : Held D} (first : Bool) (xs : List X) (i : ℕ) where
  pub all-next : (x : X) → i < length xs → x ≡ get_or xs i x → {later : Bool} → later ≡ still first (f x)
      → {k g : Held D} {r : Result (Unit {0}) PassError} → Walks d h (spread first (f x)) (Ok tt) k
      → Walks d k (commas later (all_of f (drop (i + 1) xs))) r g → Walks d h (commas first (all_of f (drop i xs))) r g
  all-next x b e {later} s {k} {g} {r} v w =
      subst (λ p. Walks d h p r g)
      (sym (ap (λ l. commas first l) (all-drop f xs i x b e)
      ∙ commas-each first (f x) (all_of f (drop (i + 1) xs))))
      (walks-then v (subst (λ z. Walks d k (commas z (all_of f (drop (i + 1) xs))) r g) s w))

  pub all-fail : (x : X) → i < length xs → x ≡ get_or xs i x
      → {g : Held D} {r : Result (Unit {0}) PassError} {e : PassError} → Walks d h (spread first (f x)) (Err e) g
      → r ≡ Err e → Walks d h (commas first (all_of f (drop i xs))) r g
  all-fail x b e {g} {r} v a =
      subst (λ p. Walks d h p r g)
      (sym (ap (λ l. commas first l) (all-drop f xs i x b e)
      ∙ commas-each first (f x) (all_of f (drop (i + 1) xs))))
      (walks-fail _ v a)

  pub all-end : length xs ≤ i → Walks d h (commas first (all_of f (drop i xs))) (Ok tt) h
  all-end b =
      subst (λ p. Walks d h p (Ok tt) h) (sym (ap (λ l. commas first (all_of f l)) (drop_all i xs b))) walks-none

module _ {X : Type 0} (f : X → Written) (first : Bool) (xs : List X) (i : ℕ) where
  pub stays-next : (x : X) → i < length xs → x ≡ get_or xs i x → {later : Bool} → later ≡ still first (f x)
      → stays later (all_of f (drop (i + 1) xs)) ≡ stays first (all_of f (drop i xs))
  stays-next x b e {later} s =
      ap (λ z. stays z (all_of f (drop (i + 1) xs))) s
      ∙ sym (ap (λ l. stays first l) (all-drop f xs i x b e) ∙ stays-each first (f x) (all_of f (drop (i + 1) xs)))

  pub stays-end : length xs ≤ i → stays first (all_of f (drop i xs)) ≡ first
  stays-end b = ap (λ l. stays first (all_of f l)) (drop_all i xs b)

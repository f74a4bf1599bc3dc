-- What guarding leaves as it is: leaves, what clauses see, and where something is counted.
use Rattle.std.proofs.Common.{◌≡◌, Bool, ◌||◌, List, [], ◌∷◌, ◌++◌, map, refl, sym, ap, ap₂, ◌∙◌}
use Rattle.std.specs.List.{list_any}
use Rattle.std.proofs.lemmas.List.{map-append}
use Rattle.sql_schema.specs.declared.declaration.TableDecl.{TableDecl}
use Rattle.sql_node.specs.Tree.{Form, unboxed, boxed, Expr, column, value, list, count_star, nullable, unary, count, compared, joined, exists, single, among_values, among_rows, Exprs, no_exprs, more_exprs, Items, no_items, more_items, Source, of_table, of_alias, join, From, no_source, from, Distinct, every, distinct, distinct_on, Order, no_order, order_by}
use Rattle.sql_origin.specs.Leaves.{leaves, in_right_side}
use Rattle.sql_rules.specs.Scope.{View, origins, origins_of, leaves_of, widest, nodes, nodes_of}
use Rattle.sql_rules.specs.Verdicts.{is_aggregate, holds_aggregate}
use Rattle.sql_rows_meaning.specs.Answers.{Line, left_by, ordered_by, directions, item_directions}
use Rattle.sql_rows_meaning.specs.Frames.{Frame, where_sees}
use Rattle.sql_rows_meaning.specs.Groups.{items_count, order_counts, distinct_counts, counts}
use Rattle.sql_guard_law.specs.Guarded.{guarded_expr, guarded_exprs, guarded_items, guarded_source, guarded_from, guarded_distinct, guarded_order}
use Rattle.sql_guard_law.proofs.Leaves.{source_leaves}

any-map : {A B : Type 0} (f : B → Bool) (g : A → B) (h : A → Bool) → ((x : A) → f (g x) ≡ h x) → (xs : List A)
    → list_any f (map g xs) ≡ list_any h xs
any-map f g h e [] = refl
any-map f g h e (x ∷ xs) = ap₂ ◌||◌ (e x) (any-map f g h e xs)

module _ (t : TableDecl) (p : Expr) where
  pub leaves-same : (s : Source) → leaves (guarded_source t p s) ≡ leaves s
  leaves-same (of_table u only sample) = refl
  leaves-same (of_alias a u) = refl
  leaves-same (join kind l r on) = ap₂ (λ xs ys. xs ++ map (in_right_side kind) ys) (leaves-same l) (leaves-same r)

  pub source_leaves-same : (s : Source) → source_leaves (guarded_source t p s) ≡ source_leaves s
  source_leaves-same (of_table u only sample) = refl
  source_leaves-same (of_alias a u) = refl
  source_leaves-same (join kind l r on) = ap₂ ◌++◌ (source_leaves-same l) (source_leaves-same r)

  pub origins-same : (s : Source) → origins (guarded_source t p s) ≡ origins s
  origins-same s = ap (map (λ l. l.origin)) (leaves-same s)

  pub leaves_of-same : (f : From) → leaves_of (guarded_from t p f) ≡ leaves_of f
  leaves_of-same no_source = refl
  leaves_of-same (from s) = leaves-same s

  pub own-same : (f : From) → origins_of (guarded_from t p f) ≡ origins_of f
  own-same f = ap (map (λ l. l.origin)) (leaves_of-same f)

  pub widest-same : (form : Form) (f : From) (outer : View) → widest form (guarded_from t p f) outer ≡ widest form f outer
  widest-same (unboxed l) no_source outer = refl
  widest-same (unboxed l) (from s) outer = ap (λ os. os ++ outer) (origins-same s)
  widest-same (boxed d n) f outer = own-same f

  pub sees-same : (form : Form) (f : From) (row outer : Frame)
      → where_sees form (guarded_from t p f) row outer ≡ where_sees form f row outer
  sees-same (unboxed l) no_source row outer = refl
  sees-same (unboxed l) (from s) row outer = refl
  sees-same (boxed d n) f row outer = refl

  -- ---- expressions

  mutual
    pub nodes-same : (e : Expr) → nodes (guarded_expr t p e) ≡ map (guarded_expr t p) (nodes e)
    nodes-same (column o c) = refl
    nodes-same (value ty x) = refl
    nodes-same (list es) = ap (λ l. list (guarded_exprs t p es) ∷ l) (nodes_of-same es)
    nodes-same count_star = refl
    nodes-same (nullable e) = ap (λ l. nullable (guarded_expr t p e) ∷ l) (nodes-same e)
    nodes-same (unary u e) = ap (λ l. unary u (guarded_expr t p e) ∷ l) (nodes-same e)
    nodes-same (count e) = ap (λ l. count (guarded_expr t p e) ∷ l) (nodes-same e)
    nodes-same (compared by a b) =
        ap (λ l. compared by (guarded_expr t p a) (guarded_expr t p b) ∷ l)
        (ap₂ ◌++◌ (nodes-same a) (nodes-same b) ∙ sym (map-append (guarded_expr t p) (nodes a) (nodes b)))
    nodes-same (joined by a b) =
        ap (λ l. joined by (guarded_expr t p a) (guarded_expr t p b) ∷ l)
        (ap₂ ◌++◌ (nodes-same a) (nodes-same b) ∙ sym (map-append (guarded_expr t p) (nodes a) (nodes b)))
    nodes-same (exists q) = refl
    nodes-same (single q) = refl
    nodes-same (among_values n e ty xs) = ap (λ l. among_values n (guarded_expr t p e) ty xs ∷ l) (nodes-same e)
    nodes-same (among_rows n e q) = ap (λ l. guarded_expr t p (among_rows n e q) ∷ l) (nodes-same e)

    pub nodes_of-same : (es : Exprs) → nodes_of (guarded_exprs t p es) ≡ map (guarded_expr t p) (nodes_of es)
    nodes_of-same no_exprs = refl
    nodes_of-same (more_exprs e es) =
        ap₂ ◌++◌ (nodes-same e) (nodes_of-same es) ∙ sym (map-append (guarded_expr t p) (nodes e) (nodes_of es))

  pub aggregate-same : (e : Expr) → is_aggregate (guarded_expr t p e) ≡ is_aggregate e
  aggregate-same (column o c) = refl
  aggregate-same (value ty x) = refl
  aggregate-same (list es) = refl
  aggregate-same count_star = refl
  aggregate-same (nullable e) = refl
  aggregate-same (unary u e) = refl
  aggregate-same (count e) = refl
  aggregate-same (compared by a b) = refl
  aggregate-same (joined by a b) = refl
  aggregate-same (exists q) = refl
  aggregate-same (single q) = refl
  aggregate-same (among_values n e ty xs) = refl
  aggregate-same (among_rows n e q) = refl

  pub holds_aggregate-same : (e : Expr) → holds_aggregate (guarded_expr t p e) ≡ holds_aggregate e
  holds_aggregate-same e =
      ap (list_any is_aggregate) (nodes-same e)
      ∙ any-map is_aggregate (guarded_expr t p) is_aggregate aggregate-same (nodes e)

  items_count-same : (is : Items) → items_count (guarded_items t p is) ≡ items_count is
  items_count-same no_items = refl
  items_count-same (more_items e by is) = ap₂ ◌||◌ (holds_aggregate-same e) (items_count-same is)

  order_counts-same : (o : Order) → order_counts (guarded_order t p o) ≡ order_counts o
  order_counts-same no_order = refl
  order_counts-same (order_by is) = items_count-same is

  distinct_counts-same : (u : Distinct) → distinct_counts (guarded_distinct t p u) ≡ distinct_counts u
  distinct_counts-same every = refl
  distinct_counts-same distinct = refl
  distinct_counts-same (distinct_on e) = holds_aggregate-same e

  pub counts-same : (e : Expr) (u : Distinct) (o : Order)
      → counts (guarded_expr t p e) (guarded_distinct t p u) (guarded_order t p o) ≡ counts e u o
  counts-same e u o =
      ap₂ ◌||◌ (holds_aggregate-same e) (ap₂ ◌||◌ (distinct_counts-same u) (order_counts-same o))

  -- ---- lines

  items-directions : (is : Items) → item_directions (guarded_items t p is) ≡ item_directions is
  items-directions no_items = refl
  items-directions (more_items e by is) = ap (λ l. by ∷ l) (items-directions is)

  pub directions-same : (o : Order) → directions (guarded_order t p o) ≡ directions o
  directions-same no_order = refl
  directions-same (order_by is) = items-directions is

  pub ordered-same : (u : Distinct) (lines : List Line) → ordered_by (guarded_distinct t p u) lines ≡ ordered_by u lines
  ordered-same every lines = refl
  ordered-same distinct lines = refl
  ordered-same (distinct_on e) lines = refl

  pub left-same : (u : Distinct) (lines : List Line) → left_by (guarded_distinct t p u) lines ≡ left_by u lines
  left-same every lines = refl
  left-same distinct lines = refl
  left-same (distinct_on e) lines = refl

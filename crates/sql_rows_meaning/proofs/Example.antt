-- The answers of the example.
use Rattle.std.proofs.Common.{◌≡◌, ◌↔◌, ℕ, pos, Bool, true, false, List, [], ◌∷◌, ◌++◌, map, refl, sym, ap, ap₂, subst, ◌∙◌, inl, inr, ◌⊎◌, arith, IsPermutation, filter, codes, None}
use Rattle.std.proofs.lemmas.List.Sorted.{IsPermutation-refl, IsPermutation-trans}
use Rattle.sql_pass.specs.declared.value.Value.{Value}
use Rattle.sql_pass.specs.declared.value.Value.TheVariants as V
use Rattle.sql_leaf.specs.declared.table_source.JoinKind.TheVariants.{LeftOuter}
use Rattle.sql_node.specs.Tree.{an_expr, of_table, join, every, no_order}
use Rattle.sql_leaf.specs.declared.operator.Comparison.TheVariants.{Eq}
use Rattle.sql_origin.specs.Origins.{a_table}
use Rattle.sql_rows_meaning.specs.Answers.{Gives, Holds, SourceRows, Answers, Joined, Line, KeyGives, OrderGives}
use Rattle.sql_rows_meaning.specs.Example as it
use Rattle.sql_rows_meaning.specs.Example.{users, posts, database, relation, selection, statement, HasTwoAnswers}
use Rattle.sql_rows_meaning.specs.Frames.{Frame, value_of}
use Rattle.sql_rows_meaning.specs.Rows.{Row, NullPlaces}
use Rattle.sql_rows_meaning.specs.Ungrouped.{RowAnswers}
use Rattle.sql_rows_meaning.specs.Values.{compared_value, is_true}
use Rattle.sql_rows_meaning.proofs.Ungrouped.{ungrouped-same}
use Rattle.sql_rows_meaning.proofs.Functional.{Filtered-is, is-Filtered, joined_rows, Joined-is, is-Joined, whole-permutation, permutation-whole, two-orders, one-order, AllZip-map_is}

abbrev user : ℕ → List ℕ → Frame
user id name = (a_table users, V.Integer (pos id) ∷ (V.Text name ∷ [])) ∷ []

abbrev post : Frame
post = (a_table posts, V.Integer (pos 5) ∷ (V.Integer (pos 1) ∷ (V.Text (codes "t") ∷ []))) ∷ []

abbrev no_post : Frame
no_post = (a_table posts, V.Null ∷ (V.Null ∷ (V.Null ∷ []))) ∷ []

abbrev pub first_frame : Frame
first_frame = user 1 (codes "a") ++ post

abbrev pub second_frame : Frame
second_frame = user 2 (codes "b") ++ no_post

shown_of : Frame → Row
shown_of f = value_of (a_table users) it.id f ∷ value_of (a_table posts) it.title f ∷ []

passes_on : Frame → Bool
passes_on f = is_true (compared_value Eq (value_of (a_table posts) it.user_id f) (value_of (a_table users) it.id f))

one_head : (a b : Value) → a ∷ [] ≡ b ∷ [] → a ≡ b
one_head a b e = cc

on_is : (places : NullPlaces) (f : Frame) (t : Bool) → Holds places (an_expr relation) database (f ∷ []) t
    → t ≡ passes_on f
unfolding passes_on
on_is places f t (v, (x, y, x_is, y_is, v_is), t_is) =
    t_is ∙ ap is_true (one_head v _ v_is ∙ ap₂ (compared_value Eq) (one_head x _ x_is) (one_head y _ y_is))

on_has : (places : NullPlaces) (f : Frame) → Holds places (an_expr relation) database (f ∷ []) (passes_on f)
unfolding passes_on
on_has places f = (
  compared_value Eq (value_of (a_table posts) it.user_id f) (value_of (a_table users) it.id f),
  (value_of (a_table posts) it.user_id f, value_of (a_table users) it.id f, refl, refl, refl),
  refl,
)

selection_is : (places : NullPlaces) (f : Frame) (vs : Row) → Gives places selection database (f ∷ []) vs
    → vs ≡ shown_of f
unfolding shown_of
selection_is places f vs (xs, ys, x_is, (us, ws, u_is, w_is, ys_is), vs_is) =
    vs_is ∙ ap₂ ◌++◌ x_is (ys_is ∙ ap₂ ◌++◌ u_is w_is)

selection_has : (places : NullPlaces) (f : Frame) → Gives places selection database (f ∷ []) (shown_of f)
unfolding shown_of
selection_has places f = (
  value_of (a_table users) it.id f ∷ [],
  value_of (a_table posts) it.title f
      ∷ [],
  refl,
  (value_of (a_table posts) it.title f ∷ [], [], refl, refl, refl),
  refl,
)

pub swap_two : {A : Type 0} (a b : A) → IsPermutation (a ∷ b ∷ []) (b ∷ a ∷ [])
swap_two a b = record { moves = (0, 1) ∷ []; below = (omega arith, omega arith, tt); is = refl }

in_users_order : joined_rows LeftOuter no_post passes_on (post ∷ []) (user 1 (codes "a") ∷ user 2 (codes "b") ∷ [])
    ≡ first_frame ∷ second_frame ∷ []
unfolding passes_on compared_value
in_users_order = refl

in_other_order : joined_rows LeftOuter no_post passes_on (post ∷ []) (user 2 (codes "b") ∷ user 1 (codes "a") ∷ [])
    ≡ second_frame ∷ first_frame ∷ []
unfolding passes_on compared_value
in_other_order = refl

source_rows : (places : NullPlaces) (rows : List Frame) → SourceRows places
    (join LeftOuter (of_table users false None) (of_table posts false None) (an_expr relation)) database rows
    → IsPermutation (first_frame ∷ second_frame ∷ []) rows
source_rows places rows (xs, ys, xs_are, ys_are, j) = go (two-orders _ _ xs (whole-permutation _ xs xs_are))
  where
    joined : (us : List Frame) → xs ≡ us → rows ≡ joined_rows LeftOuter no_post passes_on (post ∷ []) us
    joined us e =
        Joined-is LeftOuter no_post (λ row t. Holds places (an_expr relation) database (row ∷ []) t) passes_on
        (on_is places) ys j
        ∙ ap₂ (joined_rows LeftOuter no_post passes_on) (one-order post ys (whole-permutation _ ys ys_are)) e

    go : (xs ≡ user 1 (codes "a") ∷ user 2 (codes "b") ∷ []) ⊎ (xs ≡ user 2 (codes "b") ∷ user 1 (codes "a") ∷ [])
        → IsPermutation (first_frame ∷ second_frame ∷ []) rows
    go (inl e) =
        subst (λ r. IsPermutation (first_frame ∷ second_frame ∷ []) r) (sym (joined _ e ∙ in_users_order))
        (IsPermutation-refl (first_frame ∷ second_frame ∷ []))
    go (inr e) =
        subst (λ r. IsPermutation (first_frame ∷ second_frame ∷ []) r) (sym (joined _ e ∙ in_other_order))
        (swap_two first_frame second_frame)

filter_all : (xs : List Frame) → filter (λ x. true) xs ≡ xs
filter_all [] = refl
filter_all (x ∷ xs) = ap (λ ys. x ∷ ys) (filter_all xs)

shown_first : shown_of first_frame ≡ it.first
unfolding shown_of
shown_first = refl

shown_second : shown_of second_frame ≡ it.second
unfolding shown_of
shown_second = refl

only_these : (places : NullPlaces) (rows : List Row) → RowAnswers places statement database [] rows
    → (rows ≡ it.first ∷ it.second ∷ [])
    ⊎ (rows ≡ it.second ∷ it.first ∷ [])
only_these places rows g = go (two-orders _ _ g.2 taken_is)
  where
    passing_is : g.1 ≡ g.0
    passing_is = Filtered-is (λ row t. t ≡ true) (λ x. true) (λ x t e. e) g.5 ∙ filter_all g.0

    taken_is : IsPermutation (first_frame ∷ second_frame ∷ []) g.2
    taken_is =
        IsPermutation-trans _ g.1 g.2
        (subst (λ r. IsPermutation (first_frame ∷ second_frame ∷ []) r) (sym passing_is) (source_rows places g.0 g.4))
        (whole-permutation g.1 g.2 g.6)

    rows_are : rows ≡ map shown_of g.2
    rows_are =
        g.9 ∙ AllZip-map_is (λ row line. Gives places selection database (row ∷ []) line.shown
        × KeyGives places every database (row ∷ []) line.key × OrderGives places no_order database
        (row ∷ []) line.order) shown_of (λ line. line.shown)
        (λ row line h. selection_is places row line.shown h.0) g.2 g.3 g.7

    go : (g.2 ≡ first_frame ∷ second_frame ∷ []) ⊎ (g.2 ≡ second_frame ∷ first_frame ∷ [])
        → (rows ≡ it.first ∷ it.second ∷ []) ⊎ (rows ≡ it.second ∷ it.first ∷ [])
    go (inl e) = inl (rows_are ∙ (ap (map shown_of) e ∙ ap₂ (λ a b. a ∷ b ∷ []) shown_first shown_second))
    go (inr e) = inr (rows_are ∙ (ap (map shown_of) e ∙ ap₂ (λ a b. a ∷ b ∷ []) shown_second shown_first))

line_of : Frame → Line
line_of f = record { shown = shown_of f; key = []; order = [] }

line_shown : (f : Frame) → (line_of f).shown ≡ shown_of f
unfolding line_of
line_shown f = refl

pub example_rows : (places : NullPlaces) → SourceRows places
    (join LeftOuter (of_table users false None) (of_table posts false None) (an_expr relation)) database
    (first_frame ∷ second_frame ∷ [])
example_rows places = (
  user 1 (codes "a") ∷ user 2 (codes "b") ∷ [],
  post ∷ [],
  permutation-whole false _ _ (IsPermutation-refl _),
  permutation-whole false _ _ (IsPermutation-refl _),
  subst (λ rows. Joined LeftOuter no_post (λ row t. Holds places (an_expr relation) database (row ∷ []) t) (post ∷ [])
      (user 1 (codes "a") ∷ user 2 (codes "b") ∷ []) rows) in_users_order
      (is-Joined LeftOuter no_post (λ row t. Holds places (an_expr relation) database (row ∷ []) t) passes_on
      (on_has places) (post ∷ [])
      (user 1 (codes "a") ∷ user 2 (codes "b") ∷ [])),
)

these : (places : NullPlaces) (a b : Frame) → IsPermutation (first_frame ∷ second_frame ∷ []) (a ∷ b ∷ [])
    → RowAnswers places statement database [] (shown_of a ∷ shown_of b ∷ [])
unfolding line_of
these places a b p = (
  first_frame ∷ second_frame ∷ [],
  first_frame ∷ second_frame ∷ [],
  a ∷ b ∷ [],
  line_of a ∷ line_of b ∷ [],
  example_rows places,
  is-Filtered (λ row t. t ≡ true) (λ x. true) (λ x. refl) (first_frame ∷ second_frame ∷ []),
  permutation-whole false _ _ p,
  ((selection_has places a, refl, refl), ((selection_has places b, refl, refl), tt)),
  λ k d h l. refl,
  refl,
)

pub example : HasTwoAnswers
example places rows = (λ a. only_these places rows (same.0 a), λ e. same.1 (back e))
  where
    same : Answers places statement database [] rows ↔ RowAnswers places statement database [] rows
    same = ungrouped-same places statement (refl, λ g. g, λ h. h) database [] rows

    back : (rows ≡ it.first ∷ it.second ∷ []) ⊎ (rows ≡ it.second ∷ it.first ∷ [])
        → RowAnswers places statement database [] rows
    back (inl e) =
        subst (λ r. RowAnswers places statement database [] r)
        (sym (e ∙ ap₂ (λ a b. a ∷ b ∷ []) (sym shown_first) (sym shown_second)))
        (these places first_frame second_frame (IsPermutation-refl _))
    back (inr e) =
        subst (λ r. RowAnswers places statement database [] r)
        (sym (e ∙ ap₂ (λ a b. a ∷ b ∷ []) (sym shown_second) (sym shown_first)))
        (these places second_frame first_frame (swap_two first_frame second_frame))

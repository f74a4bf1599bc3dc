-- The example: in ON the predicate is exact, in WHERE it drops rows.
use Rattle.std.proofs.Common.{◌≡◌, ℕ, pos, Bool, true, false, List, [], ◌∷◌, ◌++◌, map, refl, sym, ap, subst, ◌∙◌, inl, inr, ◌⊎◌, arith, IsPermutation, swap, codes, length, ◌<◌, if◌then◌else◌}
use Rattle.std.specs.List.{AllZip}
use Rattle.std.proofs.lemmas.Bool.{true≢false, false_from_ne_true}
use Rattle.std.proofs.lemmas.List.Sorted.{IsPermutation-refl, IsPermutation-keeps}
use Rattle.sql_schema.specs.Equality.{same_table}
use Rattle.sql_dialect.specs.declared.backend.Dialect.TheVariants.{Pg}
use Rattle.sql_pass.specs.declared.value.Value.{Value}
use Rattle.sql_pass.specs.declared.value.Value.TheVariants as V
use Rattle.sql_leaf.specs.declared.table_source.JoinKind.TheVariants.{LeftOuter}
use Rattle.sql_node.specs.Tree.{an_expr}
use Rattle.sql_leaf.specs.declared.operator.Comparison.TheVariants.{Eq}
use Rattle.sql_origin.specs.Origins.{a_table}
use Rattle.sql_schema.proofs.EqualityLaws.{exact-table}
use Rattle.sql_rules.specs.Lists.{AnyOf, Each}
use Rattle.sql_rules.specs.Scope.{parts}
use Rattle.sql_rows_meaning.specs.Answers.{Gives, Holds, Line, no_rows, a_row}
use Rattle.sql_rows_meaning.specs.Example.{users, posts, user_rows, post_rows, blog, database, relation, selection, statement}
use Rattle.sql_rows_meaning.specs.Frames.{Database, Frame}
use Rattle.sql_rows_meaning.specs.Ungrouped.{RowAnswers}
use Rattle.sql_rows_meaning.proofs.Ungrouped.{ungrouped-same}
use Rattle.sql_rows_meaning.specs.Rows.{Row, NullPlaces, as_greatest, Filtered, none, kept, dropped}
use Rattle.sql_rows_meaning.specs.Values.{compared_value, is_true}
use Rattle.sql_rows_meaning.proofs.Functional.{whole-permutation, permutation-whole}
use Rattle.sql_rows_meaning.proofs.Lists.{IsPart-each, Joined-each}
use Rattle.sql_rows_meaning.proofs.Needed.{accepted_example}
use Rattle.sql_guard_law.specs.Tenant.{AnswersAsCut, IsCut, IsOutOfKind, IsPredicate}
use Rattle.sql_guard_law.specs.Worked.{owned, joined_on, IsOnNeeded}
use Rattle.sql_guard_law.proofs.Restriction.{restriction}

abbrev user : ℕ → List ℕ → Frame
user n name = (a_table users, V.Integer (pos n) ∷ (V.Text name ∷ [])) ∷ []

abbrev post : Frame
post = (a_table posts, V.Integer (pos 5) ∷ (V.Integer (pos 1) ∷ (V.Text (codes "t") ∷ []))) ∷ []

abbrev no_post : Frame
no_post = (a_table posts, V.Null ∷ (V.Null ∷ (V.Null ∷ []))) ∷ []

-- ---- the tenant's database: no posts

abbrev cut : Database
cut t = if same_table t users then user_rows else []

is_cut : (places : NullPlaces) → IsCut places posts owned database cut
unfolding compared_value
is_cut places = record {
  kept = dropped (V.Bool false, (V.Integer (pos 1), V.Integer (pos 2), refl, refl, refl), refl) none;
  others = λ u n. ap (λ b. if same_table u users then user_rows else if b then post_rows else [])
      (sym (false_from_ne_true (same_table u posts) (λ e. n (sym (exact-table u posts e)))));
}

abbrev alone : Row
alone = V.Integer (pos 1) ∷ (V.Null ∷ [])

abbrev other : Row
other = V.Integer (pos 2) ∷ (V.Null ∷ [])

abbrev line : Row → Line
line row = record { shown = row; key = []; order = [] }

-- both users, without a post
over_cut : (places : NullPlaces) → RowAnswers places statement cut [] (alone ∷ (other ∷ []))
over_cut places = (
  (user 1 (codes "a") ++ no_post) ∷ ((user 2 (codes "b") ++ no_post) ∷ []),
  (user 1 (codes "a") ++ no_post) ∷ ((user 2 (codes "b") ++ no_post) ∷ []),
  (user 1 (codes "a") ++ no_post) ∷ ((user 2 (codes "b") ++ no_post) ∷ []),
  line alone ∷ (line other ∷ []),
  (
    user 1 (codes "a") ∷ (user 2 (codes "b") ∷ []),
    [],
    permutation-whole false _ _ (IsPermutation-refl _),
    permutation-whole false _ _ (IsPermutation-refl _),
    a_row {pairs = []} {rows = (user 2 (codes "b") ++ no_post) ∷ []} none (a_row {pairs = []} {rows = []} none no_rows),
  ),
  kept refl (kept refl none),
  permutation-whole false _ _ (IsPermutation-refl _),
  ((gives 1 (codes "a"), refl, refl), ((gives 2 (codes "b"), refl, refl), tt)),
  λ k d h l. refl,
  refl,
)
  where
    gives : (n : ℕ) (name : List ℕ)
        → Gives places selection cut ((user n name ++ no_post) ∷ []) (V.Integer (pos n) ∷ (V.Null ∷ []))
    gives n name =
        (V.Integer (pos n) ∷ [], V.Null ∷ [], refl, (V.Null ∷ [], [], refl, refl, refl), refl)

-- ---- in WHERE

-- the predicate is not true of the row
abbrev Fails : NullPlaces → Frame → Type 0
Fails places f = (t : Bool) → Holds places (an_expr owned) database ((f ++ []) ∷ []) t → t ≡ false

abbrev IsUser : Frame → Type 0
IsUser f = (f ≡ user 1 (codes "a")) ⊎ (f ≡ user 2 (codes "b"))

truth_of : (x y v a b : Value) (t : Bool) → x ∷ [] ≡ a ∷ [] → y ∷ [] ≡ b ∷ [] → v ∷ [] ≡ compared_value Eq x y ∷ []
    → t ≡ is_true v → t ≡ is_true (compared_value Eq a b)
truth_of x y v a b t x_is y_is v_is t_is = cc

null_fails : (places : NullPlaces) (n : ℕ) (name : List ℕ) → Fails places (user n name ++ no_post)
unfolding compared_value
null_fails places n name t (v, (x, y, x_is, y_is, v_is), t_is) =
    truth_of x y v V.Null (V.Integer (pos 2)) t x_is y_is v_is t_is

post_fails : (places : NullPlaces) (n : ℕ) (name : List ℕ) → Fails places (user n name ++ post)
unfolding compared_value
post_fails places n name t (v, (x, y, x_is, y_is, v_is), t_is) =
    truth_of x y v (V.Integer (pos 1)) (V.Integer (pos 2)) t x_is y_is v_is t_is

both : (places : NullPlaces) (x y : Frame) (n : ℕ) (name : List ℕ) → x ≡ user n name → y ≡ post → Fails places (x ++ y)
both places x y n name e d =
    subst (λ z. Fails places (z ++ y)) (sym e)
    (subst (λ z. Fails places (user n name ++ z)) (sym d) (post_fails places n name))

pair_fails : (places : NullPlaces) (x y : Frame) → IsUser x → y ≡ post → Fails places (x ++ y)
pair_fails places x y (inl e) d = both places x y 1 (codes "a") e d
pair_fails places x y (inr e) d = both places x y 2 (codes "b") e d

padded_fails : (places : NullPlaces) (x : Frame) → LeftOuter ≡ LeftOuter → IsUser x → Fails places (x ++ no_post)
padded_fails places x k (inl e) = subst (λ z. Fails places (z ++ no_post)) (sym e) (null_fails places 1 (codes "a"))
padded_fails places x k (inr e) = subst (λ z. Fails places (z ++ no_post)) (sym e) (null_fails places 2 (codes "b"))

none_passes : {Test : Frame → Bool → Type 0} {xs ys : List Frame} → Filtered Test xs ys
    → Each (λ f. (t : Bool) → Test f t → t ≡ false) xs → ys ≡ []
none_passes none h = refl
none_passes (kept t f) h = absurd (true≢false (h.0 true t))
none_passes (dropped t f) h = none_passes f h.1

no-order : (xs ys : List Frame) → xs ≡ [] → IsPermutation xs ys → ys ≡ []
no-order xs ys e p = IsPermutation-keeps xs (λ l. l ≡ []) e step ys p
  where
    step : (l : List Frame) (i j : ℕ) → i < length l → j < length l → l ≡ [] → swap l i j ≡ []
    step l i j h k d = absurd (empty i (rw d at h))
      where
        empty : (i : ℕ) → i < 0 → ⊥
        empty i h = omega arith

no-lines : (R : Frame → Line → Type 0) (xs : List Frame) (ys : List Line) → xs ≡ [] → AllZip R xs ys → ys ≡ []
no-lines R [] [] e z = refl
no-lines R [] (y ∷ ys) e z = absurd z
no-lines R (x ∷ xs) ys e z = absurd cc

-- in WHERE the predicate leaves no row
where_drops : (places : NullPlaces) (answer : List Row)
    → RowAnswers places (joined_on relation (an_expr owned)) database [] answer → answer ≡ []
where_drops places answer g = g.9 ∙ ap (map (λ l. l.shown)) lines_are
  where
    fail : Each (Fails places) g.0
    fail =
        Joined-each IsUser (λ y. y ≡ post) (Fails places) LeftOuter no_post g.4.1 (pair_fails places)
        (padded_fails places)
        (IsPart-each (λ y. y ≡ post) false (post ∷ []) g.4.1 g.4.3 (refl, tt)) g.4.4
        (IsPart-each IsUser false (user 1 (codes "a") ∷ (user 2 (codes "b") ∷ [])) g.4.0 g.4.2
        (inl refl, (inr refl, tt)))

    taken_is : g.2 ≡ []
    taken_is = no-order g.1 g.2 (none_passes g.5 fail) (whole-permutation g.1 g.2 g.6)

    lines_are : g.3 ≡ []
    lines_are = no-lines _ g.2 g.3 taken_is g.7

not_empty : (a : Row) (rows : List Row) → a ∷ rows ≡ [] → ⊥
not_empty a rows e = absurd cc

-- PostgreSQL's places of NULL, as an example
abbrev some_places : NullPlaces
some_places = as_greatest

in_where : ¬ AnswersAsCut (joined_on relation (an_expr owned)) statement posts owned
in_where h =
    not_empty alone (other ∷ []) (where_drops some_places (alone ∷ (other ∷ []))
    ((ungrouped-same some_places (joined_on relation (an_expr owned)) (refl, λ g. g, λ k. k) database []
    (alone ∷ (other ∷ []))).0
    ((h some_places database cut (is_cut some_places) (alone ∷ (other ∷ []))).1
    ((ungrouped-same some_places statement (refl, λ g. g, λ k. k) cut [] (alone ∷ (other ∷ []))).1
    (over_cut some_places)))))

-- ---- in ON

predicate : IsPredicate posts owned
predicate = record { is_bool = refl; own = ((λ b. b), ((refl, inr (inl refl)), (refl, tt))) }

kind : ¬ AnyOf IsOutOfKind (parts [] statement)
kind h = grind arith

pub on-needed : IsOnNeeded
on-needed = record {
  predicate = predicate;
  kind = kind;
  in_on = refl;
  exact = restriction blog Pg statement posts owned (λ r n. accepted_example.accepted Pg r) kind predicate;
  in_where = in_where;
}

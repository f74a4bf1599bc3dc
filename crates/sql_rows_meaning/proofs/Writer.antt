-- The last of the users who have a post.
use Rattle.std.proofs.Common.{ℕ, pos, true, false, List, [], ◌∷◌, refl, arith, codes}
use Rattle.std.proofs.lemmas.List.Sorted.{IsPermutation-refl}
use Rattle.sql_pass.specs.declared.value.Value.TheVariants as V
use Rattle.sql_origin.specs.Origins.{a_table}
use Rattle.sql_rows_meaning.specs.Answers.{Answers, Line}
use Rattle.sql_rows_meaning.specs.Example.{users, posts, database}
use Rattle.sql_rows_meaning.specs.LastWriter.{posts_of_user, HasLastWriter}
use Rattle.sql_rows_meaning.specs.Frames.{Frame}
use Rattle.sql_rows_meaning.specs.Rows.{NullPlaces, none, kept, dropped}
use Rattle.sql_rows_meaning.specs.Values.{compared_value}
use Rattle.sql_rows_meaning.proofs.Functional.{permutation-whole}

abbrev user : ℕ → List ℕ → Frame
user n name = (a_table users, V.Integer (pos n) ∷ (V.Text name ∷ [])) ∷ []

abbrev post : Frame
post = (a_table posts, V.Integer (pos 5) ∷ (V.Integer (pos 1) ∷ (V.Text (codes "t") ∷ []))) ∷ []

abbrev five : Line
five = record { shown = V.Integer (pos 5) ∷ []; key = []; order = [] }

-- the first user has the post
has_post : (places : NullPlaces)
    → Answers places posts_of_user database (user 1 (codes "a")) ((V.Integer (pos 5) ∷ []) ∷ [])
unfolding compared_value
has_post places = (
  post ∷ [],
  post ∷ [],
  post ∷ [],
  (post ∷ []) ∷ [],
  (post ∷ []) ∷ [],
  five ∷ [],
  permutation-whole false _ _ (IsPermutation-refl _),
  kept (V.Bool true, (V.Integer (pos 1), V.Integer (pos 1), refl, refl, refl), refl) none,
  permutation-whole false _ _ (IsPermutation-refl _),
  refl,
  kept refl none,
  ((refl, refl, refl), tt),
  λ k d h l. refl,
  refl,
)

-- the second has none
has_none : (places : NullPlaces) → Answers places posts_of_user database (user 2 (codes "b")) []
unfolding compared_value
has_none places = (
  post ∷ [],
  [],
  [],
  [],
  [],
  [],
  permutation-whole false _ _ (IsPermutation-refl _),
  dropped (V.Bool false, (V.Integer (pos 1), V.Integer (pos 2), refl, refl, refl), refl) none,
  permutation-whole false _ _ (IsPermutation-refl _),
  refl,
  none,
  tt,
  λ k d h l. refl,
  refl,
)

abbrev one : Line
one = record { shown = V.Integer (pos 1) ∷ []; key = []; order = V.Integer (pos 1) ∷ [] }

pub has-writer : HasLastWriter
has-writer places = (
  user 1 (codes "a") ∷ (user 2 (codes "b") ∷ []),
  user 1 (codes "a") ∷ [],
  user 1 (codes "a") ∷ [],
  (user 1 (codes "a") ∷ []) ∷ [],
  (user 1 (codes "a") ∷ []) ∷ [],
  one ∷ [],
  permutation-whole false _ _ (IsPermutation-refl _),
  kept (V.Bool true, ((V.Integer (pos 5) ∷ []) ∷ [], has_post places, refl), refl)
      (dropped (V.Bool false, ([], has_none places, refl), refl) none),
  permutation-whole false _ _ (IsPermutation-refl _),
  refl,
  kept refl none,
  ((refl, refl, (V.Integer (pos 1), [], refl, refl, refl)), tt),
  λ k d h l. absurd (omega arith),
  refl,
)

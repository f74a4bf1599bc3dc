-- How many posts each user has, and how many rows there are.
use Rattle.std.proofs.Common.{◌≡◌, pos, true, false, List, [], ◌∷◌, refl}
use Rattle.std.proofs.lemmas.List.Sorted.{IsPermutation-refl}
use Rattle.sql_pass.specs.declared.value.Value.TheVariants as V
use Rattle.sql_rows_meaning.specs.Answers.{Line}
use Rattle.sql_rows_meaning.specs.Counted.{pair, user_pair, IsCounted}
use Rattle.sql_rows_meaning.specs.Frames.{Frame}
use Rattle.sql_rows_meaning.specs.Rows.{Row}
use Rattle.sql_rows_meaning.proofs.Example.{first_frame, second_frame, example_rows, swap_two}
use Rattle.sql_rows_meaning.proofs.Functional.{is-Filtered, permutation-whole}

abbrev line : Row → Line
line shown = record { shown = shown; key = []; order = [] }

abbrev both : List Frame
both = first_frame ∷ (second_frame ∷ [])

pub counted : IsCounted
counted = record {
  each = λ places. (
    both,
    both,
    second_frame ∷ (first_frame ∷ []),
    (first_frame ∷ []) ∷ ((second_frame ∷ []) ∷ []),
    (first_frame ∷ []) ∷ ((second_frame ∷ []) ∷ []),
    line (user_pair 1 1) ∷ (line (user_pair 2 0) ∷ []),
    example_rows places,
    is-Filtered (λ row t. t ≡ true) (λ x. true) (λ x. refl) both,
    permutation-whole false _ _ (swap_two first_frame second_frame),
    ((V.Integer (pos 2) ∷ []) ∷ ((V.Integer (pos 1) ∷ []) ∷ []), (refl, (refl, tt)), IsPermutation-refl _),
    is-Filtered (λ row t. t ≡ true) (λ x. true) (λ x. refl) _,
    (
      (
        (
          V.Integer (pos 1) ∷ [],
          V.BigInt (pos 1) ∷ [],
          refl,
          (V.BigInt (pos 1) ∷ [], [], (V.Integer (pos 5) ∷ [], (refl, tt), refl), refl, refl),
          refl,
        ),
        refl,
        refl,
      ),
      (
        (
          (
            V.Integer (pos 2) ∷ [],
            V.BigInt (pos 0) ∷ [],
            refl,
            (V.BigInt (pos 0) ∷ [], [], (V.Null ∷ [], (refl, tt), refl), refl, refl),
            refl,
          ),
          refl,
          refl,
        ),
        tt,
      ),
    ),
    λ k d h l. refl,
    refl,
  );
  all = λ places. (
    both,
    both,
    both,
    both ∷ [],
    both ∷ [],
    line (pair 2 1) ∷ [],
    example_rows places,
    is-Filtered (λ row t. t ≡ true) (λ x. true) (λ x. refl) both,
    permutation-whole false _ _ (IsPermutation-refl both),
    refl,
    is-Filtered (λ row t. t ≡ true) (λ x. true) (λ x. refl) _,
    (
      (
        (
          V.BigInt (pos 2) ∷ [],
          V.BigInt (pos 1) ∷ [],
          refl,
          (V.BigInt (pos 1) ∷ [], [], (V.Integer (pos 5) ∷ (V.Null ∷ []), (refl, (refl, tt)), refl), refl, refl),
          refl,
        ),
        refl,
        refl,
      ),
      tt,
    ),
    λ k d h l. refl,
    refl,
  );
}

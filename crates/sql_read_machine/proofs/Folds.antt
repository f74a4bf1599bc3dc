-- Tokens are taken from the last to the first.
use Rattle.std.proofs.Common.{◌≡◌, List, [], ◌∷◌, ◌++◌, map, refl, ap}
use Rattle.sql_grammar.proofs.Machine as m
use Rattle.sql_read_lexer.specs.declared.token.Token.{Token}
use Rattle.sql_read_lexer.specs.View.{token_of}
use Rattle.sql_read_machine.specs.View.{fold_on}

pub fold_last : (xs : List Token) (x : Token) (σ : m.Stack)
    → fold_on σ (map token_of (xs ++ x ∷ [])) ≡ fold_on (m.step (token_of x) σ) (map token_of xs)
fold_last [] x σ = refl
fold_last (y ∷ xs) x σ = ap (m.step (token_of y)) (fold_last xs x σ)

pub fold_all : (xs : List Token) → fold_on [] (map token_of xs) ≡ m.fold (map token_of xs)
unfolding m.fold
fold_all [] = refl
fold_all (x ∷ xs) = ap (m.step (token_of x)) (fold_all xs)

pub ruleset folds = (fold_last, fold_all)

-- A byte that ends the token at hand.
use Rattle.std.proofs.Common.{◌≡◌, ℕ, List, [], ◌∷◌, ◌++◌, map, Option, Some, None, refl, sym, ap, ◌∙◌}
use Rattle.std.proofs.lemmas.List.{append_assoc}
use Rattle.sql_dialect.specs.declared.backend.Dialect.{Dialect}
use Rattle.sql_grammar.specs.Token as g
use Rattle.sql_grammar.specs.Tokens as lex
use Rattle.sql_grammar.specs.Tokens.{State, tokens_from, in_front}
use Rattle.sql_read_lexer.specs.View.{token_of}
use Rattle.sql_read_lexer.specs.inside.States.{prepended}
use Rattle.sql_read_lexer.specs.declared.token.Token.{Token}

ended : (d : Dialect) (s t : State) (c : ℕ) (rest : List ℕ) → lex.extended d s c ≡ None → lex.begun d c ≡ Some t
    → tokens_from d s (c ∷ rest) ≡ lex.put (lex.ending s) (tokens_from d t rest)
unfolding lex.tokens_from lex.from_extended lex.from_begun
ended d s t c rest e b =
    let go = λ (s' : State). tokens_from d s' rest in
    ap (λ x. lex.from_extended x (lex.ending s) (lex.begun d c) go) e
    ∙ ap (λ x. lex.put (lex.ending s) (lex.from_begun x go)) b

-- no token was at hand
pub ended-nothing : (d : Dialect) (s t last : State) (c : ℕ) (rest : List ℕ) → lex.extended d s c ≡ None
    → lex.begun d c ≡ Some t → last ≡ s → lex.ending last ≡ lex.Nothing
    → tokens_from d s (c ∷ rest) ≡ tokens_from d t rest
unfolding lex.put
ended-nothing d s t last c rest e b same n =
    ended d s t c rest e b ∙ ap (λ x. lex.put (lex.ending x) (tokens_from d t rest)) (sym same)
    ∙ ap (λ x. lex.put x (tokens_from d t rest)) n

-- the token that was at hand
pub ended-token : (d : Dialect) (s t last : State) (c : ℕ) (rest : List ℕ) (token : g.Token)
    → lex.extended d s c ≡ None → lex.begun d c ≡ Some t → last ≡ s → lex.ending last ≡ lex.Is token
    → tokens_from d s (c ∷ rest) ≡ in_front token (tokens_from d t rest)
unfolding lex.put
ended-token d s t last c rest token e b same n =
    ended d s t c rest e b ∙ ap (λ x. lex.put (lex.ending x) (tokens_from d t rest)) (sym same)
    ∙ ap (λ x. lex.put x (tokens_from d t rest)) n

last-token : (out : List Token) (token : Token) → map token_of (out ++ token ∷ [])
    ≡ map token_of out ++ token_of token ∷ []
last-token [] token = refl
last-token (x ∷ out) token = ap (λ xs. token_of x ∷ xs) (last-token out token)

prepended-last : (xs : List g.Token) (x : g.Token) (found : Option (List g.Token))
    → prepended (xs ++ x ∷ []) found ≡ prepended xs (in_front x found)
prepended-last xs x None = refl
prepended-last xs x (Some ys) = ap Some (append_assoc xs (x ∷ []) ys)

pub prepended-token : (out : List Token) (token : Token) (found : Option (List g.Token))
    → prepended (map token_of (out ++ token ∷ [])) found
    ≡ prepended (map token_of out) (in_front (token_of token) found)
prepended-token out token found =
    ap (λ xs. prepended xs found) (last-token out token) ∙ prepended-last (map token_of out) (token_of token) found

use Rattle.std.proofs.Common.{rules, ◌≡◌, IsTrue, map, false, sym}
use Rattle.sql_grammar.specs.Fits.{FitsQuery}
use Rattle.sql_grammar.specs.Text.{text as text_of}
use Rattle.sql_grammar.specs.Tokens.{tokens}
use Rattle.sql_read_lexer.specs.View.{token_of}
use Rattle.sql_read_tree.specs.View.{query_tree}
use Rattle.sql_read.specs.inside.Closed.{closed}
use Rattle.sql_read.proofs.Closed.{not_closed}
use Rattle.sql_read.proofs.Found.{no_tokens, no_candidate, misfit}
use Rattle.sql_read.proofs.Readback.{found-reading, only_one, read_back, mistaken_text, written-reading}
use Rattle.sql_read.proofs.reading.read.Goals as goal

pub returns-in_default-clause-in_grammar : goal.returns-in_default-clause-in_grammar
returns-in_default-clause-in_grammar c =
    let none = sym (rw c.in_default.is at c.in_ok-tokens.ensures) in
    λ q h is k. no_tokens _ _ none q (written-reading _ _ q h is)

pub returns-then-not-are_closed-clause-not_in_grammar : goal.returns-then-not-are_closed-clause-not_in_grammar
returns-then-not-are_closed-clause-not_in_grammar c =
    let toks = sym (rw c.in-Some.is at c.in_ok-tokens.ensures) in
    let left : closed (map token_of c.in-Some.tokens.items) 0 ≡ false = search rules in
    λ k q r. not_closed _ _ _ toks left q r

pub returns-then-not-are_closed-clause-in_grammar : goal.returns-then-not-are_closed-clause-in_grammar
returns-then-not-are_closed-clause-in_grammar c =
    let toks = sym (rw c.in-Some.is at c.in_ok-tokens.ensures) in
    let left : closed (map token_of c.in-Some.tokens.items) 0 ≡ false = search rules in
    λ q h is k. not_closed _ _ _ toks left q (written-reading _ _ q h is)

pub returns-in_default-2-clause-not_in_grammar : goal.returns-in_default-2-clause-not_in_grammar
returns-in_default-2-clause-not_in_grammar c =
    let toks = sym (rw c.in-Some.is at c.in_ok-tokens.ensures) in
    let none = sym (rw c.in_default-2.is at c.in_ok-query.ensures) in
    λ k q r. no_candidate _ _ _ toks none q r

pub returns-in_default-2-clause-in_grammar : goal.returns-in_default-2-clause-in_grammar
returns-in_default-2-clause-in_grammar c =
    let toks = sym (rw c.in-Some.is at c.in_ok-tokens.ensures) in
    let none = sym (rw c.in_default-2.is at c.in_ok-query.ensures) in
    λ q h is k. no_candidate _ _ _ toks none q (written-reading _ _ q h is)

pub returns-then-not-fits_query-clause-not_in_grammar : goal.returns-then-not-fits_query-clause-not_in_grammar
returns-then-not-fits_query-clause-not_in_grammar c =
    let toks = sym (rw c.in-Some.is at c.in_ok-tokens.ensures) in
    let cand = sym (rw c.in-Some-2.is at c.in_ok-query.ensures) in
    let lacks : FitsQuery c.args.dialect (query_tree c.in-Some-2.query.value) → ⊥ =
    λ f. let k : IsTrue c.fits_query.result = c.fits_query.ensures.1 (rw c.deref-3.ensures f) in search rules in
    λ k q r. misfit _ _ _ _ toks cand lacks q r

pub returns-then-not-fits_query-clause-in_grammar : goal.returns-then-not-fits_query-clause-in_grammar
returns-then-not-fits_query-clause-in_grammar c =
    let toks = sym (rw c.in-Some.is at c.in_ok-tokens.ensures) in
    let cand = sym (rw c.in-Some-2.is at c.in_ok-query.ensures) in
    let lacks : FitsQuery c.args.dialect (query_tree c.in-Some-2.query.value) → ⊥ =
    λ f. let k : IsTrue c.fits_query.result = c.fits_query.ensures.1 (rw c.deref-3.ensures f) in search rules in
    λ q h is k. misfit _ _ _ _ toks cand lacks q (written-reading _ _ q h is)

pub returns-then-same-clause-reading : goal.returns-then-same-clause-reading
returns-then-same-clause-reading c =
    let toks = sym (rw c.in-Some.is at c.in_ok-tokens.ensures) in
    let fits : FitsQuery c.args.dialect (query_tree c.in-Some-2.query.value) = search rules in
    let same : tokens c.args.dialect (text_of c.args.dialect (query_tree c.in-Some-2.query.value))
    ≡ tokens c.args.dialect c.args.text.now = search rules in
    only_one _ _ _ _ toks fits same

pub returns-then-same-clause-no_reading : goal.returns-then-same-clause-no_reading
returns-then-same-clause-no_reading c =
    let toks = sym (rw c.in-Some.is at c.in_ok-tokens.ensures) in
    let fits : FitsQuery c.args.dialect (query_tree c.in-Some-2.query.value) = search rules in
    let same : tokens c.args.dialect (text_of c.args.dialect (query_tree c.in-Some-2.query.value))
    ≡ tokens c.args.dialect c.args.text.now = search rules in
    λ none. absurd (none _ (found-reading _ _ _ _ toks fits same))

pub returns-then-same-clause-written : goal.returns-then-same-clause-written
returns-then-same-clause-written c =
    let toks = sym (rw c.in-Some.is at c.in_ok-tokens.ensures) in
    let fits : FitsQuery c.args.dialect (query_tree c.in-Some-2.query.value) = search rules in
    let same : tokens c.args.dialect (text_of c.args.dialect (query_tree c.in-Some-2.query.value))
    ≡ tokens c.args.dialect c.args.text.now = search rules in
    λ q h is. read_back _ _ _ _ q toks fits same h is

pub returns-else-same-clause-not_in_grammar : goal.returns-else-same-clause-not_in_grammar
returns-else-same-clause-not_in_grammar c =
    let toks = sym (rw c.in-Some.is at c.in_ok-tokens.ensures) in
    let cand = sym (rw c.in-Some-2.is at c.in_ok-query.ensures) in
    let differ : tokens c.args.dialect (text_of c.args.dialect (query_tree c.in-Some-2.query.value))
    ≡ tokens c.args.dialect c.args.text.now → ⊥ =
    λ w. let k : IsTrue c.in_ok-same.same = c.in_ok-same.ensures.1 w in search rules in
    λ k q r. mistaken_text _ _ _ _ toks cand differ q r

pub returns-else-same-clause-in_grammar : goal.returns-else-same-clause-in_grammar
returns-else-same-clause-in_grammar c =
    let toks = sym (rw c.in-Some.is at c.in_ok-tokens.ensures) in
    let cand = sym (rw c.in-Some-2.is at c.in_ok-query.ensures) in
    let differ : tokens c.args.dialect (text_of c.args.dialect (query_tree c.in-Some-2.query.value))
    ≡ tokens c.args.dialect c.args.text.now → ⊥ =
    λ w. let k : IsTrue c.in_ok-same.same = c.in_ok-same.ensures.1 w in search rules in
    λ q h is k. mistaken_text _ _ _ _ toks cand differ q (written-reading _ _ q h is)

-- A tree whose values are numbered away and filled in again is the tree.
use Rattle.std.proofs.Common.{◌≡◌, ℕ, ◌+◌, length, sym, ap, ◌∙◌, arith}
use Rattle.std.specs.List.{slice_get}
use Rattle.sql_dialect.specs.declared.backend.Dialect.{Dialect}
use Rattle.sql_grammar.specs.Tree.{Query}
use Rattle.sql_grammar.specs.Numbering.{mark_of, numbered, Fills}
use Rattle.sql_grammar.specs.Values.{values_query}
use Rattle.sql_grammar.proofs.Numbers.{after-count, fills_query}
use Rattle.sql_grammar.proofs.Replaced.{each_query-each, query-alike}

pub fills : {V : Type 0} (d : Dialect) (t : Query V) → Fills (numbered d t) (values_query t) t
fills d t =
    each_query-each (λ k m. slice_get (values_query t) k) (λ n v. mark_of d n) 0 t
    ∙ fills_query (values_query t) 0 t (λ k m e. ap (slice_get (values_query t)) (let l : 0 + k ≡ k = omega arith in l)
    ∙ e)

pub as_many : {V : Type 0} (d : Dialect) (t : Query V) → length (values_query (numbered d t)) ≡ length (values_query t)
as_many d t =
    let whole : (n : ℕ) → 0 + n ≡ n = λ n. omega arith in
    sym (whole _) ∙ sym (after-count 0 (values_query (numbered d t))) ∙ (query-alike (λ n v. mark_of d n) 0 t).same 0
    ∙ after-count 0 (values_query t) ∙ whole _

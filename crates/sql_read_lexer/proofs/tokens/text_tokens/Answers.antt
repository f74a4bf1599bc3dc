use Rattle.std.proofs.Common.{map, drop-cons, add-one, sym, ap, ◌∙◌, rules, arith}
use Rattle.std.proofs.lemmas.Grind.{common_steps}
use Rattle.sql_grammar.specs.Tokens as lex
use Rattle.sql_read_lexer.specs.View.{token_of}
use Rattle.sql_read_lexer.specs.inside.States.{end_of, prepended}
use Rattle.sql_read_lexer.proofs.Cuts.{extended-cut, rest-cut, begun-cut}
use Rattle.sql_read_lexer.proofs.Ends.{ended-nothing, ended-token, prepended-token}
use Rattle.sql_read_lexer.proofs.tokens.text_tokens.Goals.{in-Ok, in-Err+in_ok-next-in-Err+in-Some, in-Nothing, in-Is+in_ok-push-in-Is}
use Rattle.sql_read_lexer.proofs.tokens.text_tokens.Goals as goal

pub loop-byte-preserved : goal.loop-byte-preserved
unfolding lex.tokens_from lex.from_extended lex.from_begun lex.put
loop-byte-preserved c =
    let here = c.loop-byte-test.true in
    let cut = rw (drop-cons c.as_bytes-byte-items.result.now c.loop-byte.byte-index 0) at c.loop-byte.invariant.cut in
    let whole = rw (drop-cons c.as_bytes-byte-items.result.now c.loop-byte.byte-index 0) at c.loop-byte.invariant.whole in
    elim c.match-branch-2.branch [
      | in-Ok w ↦
          let found = rw w.in-Ok.is at c.in_ok-next.ensures in
          record {
            whole = rw (add-one, w.out-is, w.state-is) first_of (search rules, grind (arith, common_steps));
            cut = rw (add-one, w.state-is) (extended-cut _ _ _ _ _ found cut);
          }
      | in-Err+in_ok-next-in-Err+in-Some w ↦
          let found = rw w.in-Err.is at c.in_ok-next.ensures in
          let begun = sym (rw w.in-Some.is at w.in_ok-next-in-Err.ensures) in
          record {
            whole = elim w.match-finish.branch [
              | in-Nothing v ↦
                  let nothing = sym w.finish.ensures ∙ ap end_of v.in-Nothing.is in
                  let step = ended-nothing _ _ _ _ _ _ found.0 begun found.1 nothing in
                  rw (add-one, w.out-is, v.out-is, w.state-is)
                  (ap (prepended (map token_of c.loop-byte.out.items)) (sym step) ∙ whole)
              | in-Is+in_ok-push-in-Is v ↦
                  let token = sym w.finish.ensures ∙ ap end_of v.in-Is.is in
                  let step = ended-token _ _ _ _ _ _ _ found.0 begun found.1 token in
                  rw (add-one, w.out-is, v.out-is, w.state-is, v.in_ok-push-in-Is.ensures.items)
                  (prepended-token _ _ _ ∙ ap (prepended (map token_of c.loop-byte.out.items)) (sym step) ∙ whole)
            ];
            cut = rw (add-one, w.state-is) (begun-cut _ _ _ _ begun (rest-cut _ _ _ _ found.0 cut));
          }
    ]

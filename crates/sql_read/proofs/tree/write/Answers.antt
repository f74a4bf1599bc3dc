use Rattle.std.proofs.Common.{◌≡◌, string_bytes, ℕ, List, [], ◌++◌, append-nil, sym, ap, ◌∙◌, subst, arith}
use Rattle.std.proofs.lemmas.Grind.{common_steps}
use Rattle.sql_grammar.specs.Reading.{OnlyReading}
use Rattle.sql_grammar.specs.Text as x
use Rattle.sql_grammar.specs.Tokens.{tokens}
use Rattle.sql_grammar.proofs.Readings.{only-reading}
use Rattle.sql_read.specs.Seen.{tree_of}
use Rattle.sql_read.proofs.Found.{same_tokens}
use Rattle.sql_read.proofs.tree.write.Goals as goal

pub returns : goal.returns
unfolding x.text
returns c =
    let d = c.args.dialect in
    let q = tree_of c.args.tree.now in
    let each : (rest : List ℕ) → string_bytes c.push_query.new.out ++ rest ≡ string_bytes c.new-out.result ++ x.query d q rest =
    λ rest. grind (arith, common_steps) in
    let text : string_bytes c.push_query.new.out ≡ x.text d q = sym (append-nil _) ∙ rw c.new-out.ensures.bytes at each [] in
    record {
      text = text;
      same_tokens = λ t h. ap (tokens d) text ∙ same_tokens d t q h;
      read_back = λ t h. subst (λ s. OnlyReading d s q) (sym text) (only-reading d q h.2.0);
    }

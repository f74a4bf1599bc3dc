use Rattle.sql_rows.proofs.Once.{built-is-one, least-is-one}
use Rattle.sql_rows.proofs.laws.one_answer.Goals as goal

pub returns : goal.returns
returns c =
    record {
      built = built-is-one;
      refused = least-is-one;
      either = λ schema d s b r built least. built.accepted r least.broken;
    }

use Rattle.std.proofs.Common.{◌≢◌, AllPairs, true≢false, sym, subst, ◌∙◌}
use Rattle.std.proofs.lemmas.Map.Keys.{apart_from_distinct}
use Rattle.std.specs.Map.{keys_of}
use Rattle.sql_rows.specs.Entries.{Entries}
use Rattle.sql_rows.proofs.Known.{same_pair, tied-pair}
use Rattle.sql_rows.proofs.cache.StatementCache.len.Goals as goal

pub returns-clause-different : goal.returns-clause-different
returns-clause-different c =
    let keys = keys_of c.self.inside.kept.entries in
    subst (λ (w : Entries). AllPairs (λ a b. a ≢ b) w.keys) c.self.view_is
    (λ i j x l m e. true≢false (sym (tied-pair _ _ e) ∙ apart_from_distinct same_pair keys i j x c.len.ensures.valid.0 l m))

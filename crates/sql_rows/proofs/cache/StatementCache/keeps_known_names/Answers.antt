use Rattle.std.proofs.Common.{Contains, subst, sym}
use Rattle.sql_rows.specs.Entries.{Entries}
use Rattle.sql_rows.specs.inside.Known.{IsKnown}
use Rattle.sql_rows.proofs.Keys.{entry-of}
use Rattle.sql_rows.proofs.cache.StatementCache.keeps_known_names.Goals as goal

pub returns : goal.returns
returns c = λ pair there.
    let at =
    entry-of c.self.inside.kept.entries pair (subst (λ (w : Entries). Contains w.keys pair) (sym c.self.view_is) there) in
    subst (λ (w : Entries). IsKnown w.schema pair) c.self.view_is (c.self.invariant.1.0 (pair, at.0) at.1)

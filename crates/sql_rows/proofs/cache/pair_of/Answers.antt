use Rattle.std.proofs.Common.{◌≡◌, ◌↔◌, Some, sym, subst, ◌∙◌}
use Rattle.sql_node.specs.View.{statement_tree}
use Rattle.sql_rows.specs.Entries.{IsLookedUp}
use Rattle.sql_rows.specs.declared.cache.RequestKey.{RequestKey}
use Rattle.sql_rows.proofs.Next.{looked-up, misfit, no-pair, own-pair, without-id}
use Rattle.sql_rows.proofs.cache.pair_of.Goals as goal

pub returns-then-not-fit : goal.returns-then-not-fit
returns-then-not-fit g c =
    let d = g.DB.Backend.speaks in
    let s = statement_tree c.args.asked.statement.now in
    no-pair d s (misfit d s (sym c.if-not-fit.true ∙ c.values_fit-fit.ensures))

pub returns-in-Some : goal.returns-in-Some
returns-in-Some g c =
    let d = g.DB.Backend.speaks in
    let s = statement_tree c.args.asked.statement.now in
    let pair : RequestKey = record { dialect = c.dialect-dialect.result; key = c.in-Some.key } in
    subst (λ p. (q : RequestKey) → (Some p ≡ Some q) ↔ IsLookedUp d s q) (sym c.from.ensures)
    (own-pair d s pair
    (looked-up d s (sym c.if-not-fit.false ∙ c.values_fit-fit.ensures) c.in-Some.key c.dialect-dialect.result
    (sym (c.in_ok-key.ensures s c.requires) ∙ c.in-Some.is) c.dialect-dialect.ensures))

pub returns-in-None : goal.returns-in-None
returns-in-None g c =
    let d = g.DB.Backend.speaks in
    let s = statement_tree c.args.asked.statement.now in
    no-pair d s (without-id d s (sym (c.in_ok-key.ensures s c.requires) ∙ c.in-None.is))

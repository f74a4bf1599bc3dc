use Rattle.std.proofs.Common.{◌≡◌, ◌||◌, not, sym, ap, ◌∙◌}
use Rattle.std.specs.Str.{bytes_eq}
use Rattle.sql_schema.specs.inside.NameSets.{has_name}
use Rattle.sql_schema.proofs.NameSets.{no-name, name-added}
use Rattle.sql_schema.proofs.Repeats.{repeats-none, turn, found}
use Rattle.sql_origin.specs.Borrowed.{origin_of}
use Rattle.sql_rules_check.specs.inside.Ends.{last_under}
use Rattle.sql_rules_check.specs.inside.Tables.{last_alike}
use Rattle.sql_rules_check.proofs.Alike.{was-known, was-new}
use Rattle.sql_rules_check.proofs.leaves.any_last_alike.Goals as goal

pub loop-leaf-init : goal.loop-leaf-init
loop-leaf-init c =
    repeats-none (λ a b. last_alike (origin_of a) (origin_of b)) _ c.args.leaves.now
    (λ y. no-name c.new-names.result c.new-names.ensures.empty (last_under (origin_of y).alias (origin_of y).table))

pub returns-then-not-is_new : goal.returns-then-not-is_new
returns-then-not-is_new c =
    let x = origin_of c.leaf-item.result in
    let s = c.loop-leaf.names in
    let is-new : c.in_ok-is_new.is_new ≡ not (has_name s (last_under x.alias x.table)) =
    c.in_ok-is_new.ensures.added ∙ ap (λ q. not (has_name s q)) c.exposed.ensures.last in
    sym (found (λ a b. last_alike (origin_of a) (origin_of b)) _ c.args.leaves.now c.loop-leaf.leaf-index
    c.leaf-item.result c.loop-leaf-test.true c.leaf-item.is (was-known _ _ is-new c.if-not-is_new.true))
    ∙ c.loop-leaf.invariant

pub loop-leaf-preserved : goal.loop-leaf-preserved
loop-leaf-preserved c =
    let x = origin_of c.leaf-item.result in
    let s = c.loop-leaf.names in
    let n = c.insert.new.self in
    let k = c.exposed.result.1 in
    let is-new : c.in_ok-is_new.is_new ≡ not (has_name s (last_under x.alias x.table)) =
    c.in_ok-is_new.ensures.added ∙ ap (λ q. not (has_name s q)) c.exposed.ensures.last in
    turn (λ a b. last_alike (origin_of a) (origin_of b)) _ c.args.leaves.now c.loop-leaf.leaf-index
    c.leaf-item.result c.loop-leaf-test.true c.leaf-item.is
    (λ y. has_name n (last_under (origin_of y).alias (origin_of y).table)) (was-new _ _ is-new c.if-not-is_new.false)
    (λ y. let q = last_under (origin_of y).alias (origin_of y).table in
    name-added s n k c.in_ok-is_new.ensures.updates q
    ∙ ap (λ l. bytes_eq l q || has_name s q) c.exposed.ensures.last)
    ∙ c.loop-leaf.invariant

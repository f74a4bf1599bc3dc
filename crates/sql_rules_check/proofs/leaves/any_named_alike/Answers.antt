use Rattle.std.proofs.Common.{◌≡◌, ◌||◌, ◌&&◌, not, sym, ap, ◌∙◌}
use Rattle.std.specs.Option.{option_eq}
use Rattle.std.specs.Str.{bytes_eq}
use Rattle.sql_schema.specs.inside.NameSets.{has_path}
use Rattle.sql_schema.proofs.NameSets.{no-path, path-added, path-read}
use Rattle.sql_schema.proofs.Repeats.{repeats-none, turn, found}
use Rattle.sql_origin.specs.Borrowed.{origin_of}
use Rattle.sql_rules_check.specs.inside.Tables.{named_alike}
use Rattle.sql_rules_check.proofs.Alike.{was-known, was-new}
use Rattle.sql_rules_check.proofs.leaves.any_named_alike.Goals as goal

pub loop-leaf-init : goal.loop-leaf-init
loop-leaf-init c =
    repeats-none (λ a b. named_alike (origin_of a) (origin_of b)) _ c.args.leaves.now
    (λ y. no-path c.new-names.result c.new-names.ensures.empty (origin_of y).alias (origin_of y).table.name)

pub returns-then-not-is_new : goal.returns-then-not-is_new
returns-then-not-is_new c =
    let x = origin_of c.leaf-item.result in
    let s = c.loop-leaf.names in
    let k = c.leaf_names.result in
    let is-new : c.in_ok-is_new.is_new ≡ not (has_path s x.alias x.table.name) =
    c.in_ok-is_new.ensures.added
    ∙ ap not
    (path-read s k ∙ ap (λ o. has_path s o k.1.now) c.leaf_names.ensures.alias
    ∙ ap (λ q. has_path s x.alias q) c.leaf_names.ensures.table) in
    sym (found (λ a b. named_alike (origin_of a) (origin_of b)) _ c.args.leaves.now c.loop-leaf.leaf-index
    c.leaf-item.result c.loop-leaf-test.true c.leaf-item.is (was-known _ _ is-new c.if-not-is_new.true))
    ∙ c.loop-leaf.invariant

pub loop-leaf-preserved : goal.loop-leaf-preserved
loop-leaf-preserved c =
    let x = origin_of c.leaf-item.result in
    let s = c.loop-leaf.names in
    let n = c.insert.new.self in
    let k = c.leaf_names.result in
    let is-new : c.in_ok-is_new.is_new ≡ not (has_path s x.alias x.table.name) =
    c.in_ok-is_new.ensures.added
    ∙ ap not
    (path-read s k ∙ ap (λ o. has_path s o k.1.now) c.leaf_names.ensures.alias
    ∙ ap (λ q. has_path s x.alias q) c.leaf_names.ensures.table) in
    turn (λ a b. named_alike (origin_of a) (origin_of b)) _ c.args.leaves.now c.loop-leaf.leaf-index
    c.leaf-item.result c.loop-leaf-test.true c.leaf-item.is
    (λ y. has_path n (origin_of y).alias (origin_of y).table.name) (was-new _ _ is-new c.if-not-is_new.false)
    (λ y. let o = origin_of y in
    path-added s n k c.in_ok-is_new.ensures.updates o.alias o.table.name
    ∙ ap (λ a. (option_eq bytes_eq a o.alias && bytes_eq k.1.now o.table.name) || has_path s o.alias o.table.name)
    c.leaf_names.ensures.alias
    ∙ ap (λ q. (option_eq bytes_eq x.alias o.alias && bytes_eq q o.table.name) || has_path s o.alias o.table.name)
    c.leaf_names.ensures.table)
    ∙ c.loop-leaf.invariant

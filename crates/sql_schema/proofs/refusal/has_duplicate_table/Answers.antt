use Rattle.std.proofs.Common.{rules, ◌≡◌, ◌<◌, ◌||◌, ◌&&◌, not, length, get_or, ap, ◌∙◌}
use Rattle.std.specs.Option.{option_eq}
use Rattle.std.specs.Str.{bytes_eq}
use Rattle.sql_schema.specs.Refusals.{tables_clash}
use Rattle.sql_schema.specs.inside.NameSets.{has_name, has_path}
use Rattle.sql_schema.proofs.NameSets.{no-name, name-added, no-path, path-added, path-read, both-new}
use Rattle.sql_schema.proofs.Repeats.{repeats-none, turn, crossed}
use Rattle.sql_schema.proofs.refusal.has_duplicate_table.Goals as goal

pub loop-table-init : goal.loop-table-init
loop-table-init c =
    repeats-none tables_clash _ c.args.tables.now
    (λ y. ap (λ b. b || has_path c.new-paths.result y.schema y.sql_name)
    (no-name c.new-names.result c.new-names.ensures.empty y.name)
    ∙ no-path c.new-paths.result c.new-paths.ensures.empty y.schema y.sql_name)

pub loop-table-preserved : goal.loop-table-preserved
loop-table-preserved c =
    let x = c.table-item.result in
    let xs = c.args.tables.now in
    let i = c.loop-table.table-index in
    let names = c.loop-table.names in
    let paths = c.loop-table.paths in
    let k = c.path.result in
    let within : i < length xs = search rules in
    let is : x ≡ get_or xs i x = search rules in
    let is-new : c.in_ok-is_new.is_new ≡ not (has_name names x.name) = search rules in
    let path-new : c.in_ok-has_new_path.has_new_path ≡ not (has_path paths x.schema x.sql_name) =
    c.in_ok-has_new_path.ensures.added
    ∙ ap not
    (path-read paths k ∙ ap (λ o. has_path paths o k.1.now) c.path.ensures.schema
    ∙ ap (λ q. has_path paths x.schema q) c.path.ensures.name) in
    let new =
    both-new c.in_ok-is_new.is_new c.in_ok-has_new_path.has_new_path (has_name names x.name)
    (has_path paths x.schema x.sql_name) is-new path-new c.if-not-has_new_path.false in
    turn tables_clash _ xs i x within is
    (λ y. has_name c.insert.new.self y.name || has_path c.insert-in-loop-table.new.self y.schema y.sql_name) new
    (λ y. ap (λ b. b || has_path c.insert-in-loop-table.new.self y.schema y.sql_name)
    (name-added names c.insert.new.self c.as_str.result c.in_ok-is_new.ensures.updates y.name
    ∙ ap (λ t. bytes_eq t y.name || has_name names y.name) c.as_str.ensures)
    ∙ ap (λ b. (bytes_eq x.name y.name || has_name names y.name) || b)
    (path-added paths c.insert-in-loop-table.new.self k c.in_ok-has_new_path.ensures.updates y.schema y.sql_name
    ∙ ap (λ o. (option_eq bytes_eq o y.schema && bytes_eq k.1.now y.sql_name) || has_path paths y.schema y.sql_name)
    c.path.ensures.schema
    ∙ ap (λ q. (option_eq bytes_eq x.schema y.schema && bytes_eq q y.sql_name) || has_path paths y.schema y.sql_name)
    c.path.ensures.name)
    ∙ crossed (bytes_eq x.name y.name) (has_name names y.name)
    (option_eq bytes_eq x.schema y.schema && bytes_eq x.sql_name y.sql_name) (has_path paths y.schema y.sql_name))
    ∙ c.loop-table.invariant

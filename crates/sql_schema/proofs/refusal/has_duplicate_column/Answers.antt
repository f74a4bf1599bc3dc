use Rattle.std.proofs.Common.{rules, ◌≡◌, ◌<◌, ◌||◌, length, get_or, sym, ap, ◌∙◌}
use Rattle.std.specs.Str.{bytes_eq}
use Rattle.sql_schema.specs.Refusals.{any_two, columns_clash}
use Rattle.sql_schema.specs.inside.NameSets.{has_name}
use Rattle.sql_schema.proofs.NameSets.{no-name, name-added, both-new, one-known}
use Rattle.sql_schema.proofs.Repeats.{repeats-none, turn, found, over, crossed}
use Rattle.sql_schema.proofs.refusal.has_duplicate_column.Goals as goal

pub loop-column-init : goal.loop-column-init
loop-column-init c =
    repeats-none columns_clash _ c.as_slice-column-items.result.now
    (λ y. ap (λ b. b || has_name c.new-sql_names.result y.sql_name)
    (no-name c.new-names.result c.new-names.ensures.empty y.name)
    ∙ no-name c.new-sql_names.result c.new-sql_names.ensures.empty y.sql_name)

pub returns-then-not-is_new_in_sql : goal.returns-then-not-is_new_in_sql
returns-then-not-is_new_in_sql c =
    let x = c.column-item.result in
    let xs = c.as_slice-column-items.result.now in
    let i = c.loop-column.column-index in
    let within : i < length xs = search rules in
    let is : x ≡ get_or xs i x = search rules in
    let known =
    one-known c.in_ok-is_new.is_new c.in_ok-is_new_in_sql.is_new_in_sql
    (has_name c.loop-column.names x.name) (has_name c.loop-column.sql_names x.sql_name)
    (search rules) (search rules) c.if-not-is_new_in_sql.either in
    sym (found columns_clash _ xs i x within is known) ∙ c.loop-column.invariant
    ∙ ap (any_two columns_clash) c.as_slice-column-items.ensures

pub loop-column-preserved : goal.loop-column-preserved
loop-column-preserved c =
    let x = c.column-item.result in
    let xs = c.as_slice-column-items.result.now in
    let i = c.loop-column.column-index in
    let within : i < length xs = search rules in
    let is : x ≡ get_or xs i x = search rules in
    let new =
    both-new c.in_ok-is_new.is_new c.in_ok-is_new_in_sql.is_new_in_sql
    (has_name c.loop-column.names x.name) (has_name c.loop-column.sql_names x.sql_name)
    (search rules) (search rules) c.if-not-is_new_in_sql.false in
    turn columns_clash _ xs i x within is
    (λ y. has_name c.insert.new.self y.name || has_name c.insert-in-loop-column.new.self y.sql_name) new
    (λ y. ap (λ b. b || has_name c.insert-in-loop-column.new.self y.sql_name)
    (name-added c.loop-column.names c.insert.new.self c.as_str.result c.in_ok-is_new.ensures.updates y.name)
    ∙ ap (λ b. (bytes_eq c.as_str.result.now y.name || has_name c.loop-column.names y.name) || b)
    (name-added c.loop-column.sql_names c.insert-in-loop-column.new.self c.as_str-in-loop-column.result
    c.in_ok-is_new_in_sql.ensures.updates y.sql_name)
    ∙ crossed (bytes_eq c.as_str.result.now y.name) (has_name c.loop-column.names y.name)
    (bytes_eq c.as_str-in-loop-column.result.now y.sql_name) (has_name c.loop-column.sql_names y.sql_name)
    ∙ ap (λ b. (b || bytes_eq c.as_str-in-loop-column.result.now y.sql_name) || (has_name c.loop-column.names y.name || has_name c.loop-column.sql_names y.sql_name))
    (ap (λ t. bytes_eq t y.name) c.as_str.ensures)
    ∙ ap (λ b. (bytes_eq x.name y.name || b) || (has_name c.loop-column.names y.name || has_name c.loop-column.sql_names y.sql_name))
    (ap (λ t. bytes_eq t y.sql_name) c.as_str-in-loop-column.ensures))
    ∙ c.loop-column.invariant

pub returns : goal.returns
returns c =
    sym (over columns_clash _ c.as_slice-column-items.result.now c.loop-column.column-index (search rules))
    ∙ c.loop-column.invariant
    ∙ ap (any_two columns_clash) c.as_slice-column-items.ensures

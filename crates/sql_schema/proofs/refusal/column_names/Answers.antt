use Rattle.std.proofs.Common.{rules, ◌≡◌, ◌<◌, ◌||◌, length, get_or, take, sym, ap, ◌∙◌}
use Rattle.std.specs.Str.{bytes_eq}
use Rattle.std.proofs.lemmas.List.Folds.{list_any_more}
use Rattle.sql_schema.specs.Refusals.{has_column}
use Rattle.sql_schema.specs.inside.NameSets.{has_name}
use Rattle.sql_schema.proofs.NameSets.{name-added}
use Rattle.sql_schema.proofs.Repeats.{or-swapped}
use Rattle.sql_schema.proofs.refusal.column_names.Goals as goal

pub loop-column-preserved : goal.loop-column-preserved
loop-column-preserved c =
    let x = c.column-item.result in
    let xs = c.args.columns.now in
    let i = c.loop-column.column-index in
    let s = c.loop-column.names in
    let within : i < length xs = search rules in
    let is : x ≡ get_or xs i x = search rules in
    λ q. name-added s c.insert.new.self c.as_str.result c.in_ok-insert.ensures.updates q
    ∙ ap (λ t. bytes_eq t q || has_name s q) c.as_str.ensures
    ∙ ap (λ b. bytes_eq x.name q || b) (c.loop-column.invariant q)
    ∙ or-swapped (bytes_eq x.name q) (has_column (take i xs) q)
    ∙ ap (λ y. has_column (take i xs) q || bytes_eq y.name q) is
    ∙ sym (list_any_more (λ y. bytes_eq y.name q) xs i x within)

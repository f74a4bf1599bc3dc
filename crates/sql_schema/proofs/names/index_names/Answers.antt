use Rattle.std.proofs.Common.{rules, ◌≡◌, ◌<◌, Some, length, get_or, string_bytes, ap, ◌∙◌}
use Rattle.std.specs.BTreeMap.{get_by_text}
use Rattle.std.specs.Map.{update}
use Rattle.std.specs.Str.{bytes_eq}
use Rattle.std.proofs.lemmas.Map.Text.{btree_map_updates_text}
use Rattle.sql_schema.proofs.Indices.{indexes-more}
use Rattle.sql_schema.proofs.names.index_names.Goals as goal

pub loop-index-preserved : goal.loop-index-preserved
loop-index-preserved g c =
    let name_of = g.T.Named.name_of in
    let x = c.index-items-index.result in
    let xs = c.args.items.now in
    let i = c.loop-index.index in
    let before = c.loop-index.names in
    let after = c.insert.new.self in
    let key = c.in_ok-name.name in
    let within : i < length xs = search rules in
    let is : x ≡ get_or xs i x = search rules in
    let named : string_bytes key ≡ name_of x = c.in_ok-name.ensures.ok ∙ c.declared_name.ensures in
    indexes-more (λ q y. bytes_eq (name_of y) q) (get_by_text before) (get_by_text after) xs i x within is
    (λ q. btree_map_updates_text (string_bytes key) before after (Some i) c.in_ok-insert.ensures.updates q
    ∙ ap (λ t. update bytes_eq (get_by_text before) t (Some i) q) named)
    c.loop-index.invariant

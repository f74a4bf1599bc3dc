use Rattle.std.proofs.Common.{rules, ◌≡◌, ◌<◌, Some, cond, length, get_or, ap, ◌∙◌}
use Rattle.std.specs.BTreeMap.{get}
use Rattle.sql_schema.specs.inside.Pairs.{key_cmp, key_of, is_key, has_key}
use Rattle.sql_schema.proofs.Indices.{indexes-more}
use Rattle.sql_schema.proofs.pairs.index_pairs.Goals as goal

pub loop-index-preserved : goal.loop-index-preserved
loop-index-preserved g c =
    let names_of = g.T.NamesTables.names_of in
    let x = c.index-items-index.result in
    let xs = c.args.items.now in
    let tables = c.args.tables.now in
    let i = c.loop-index.index in
    let before = c.loop-index.pairs in
    let after = c.set_index.new.pairs in
    let names = c.table_names.result in
    let within : i < length xs = search rules in
    let is : x ≡ get_or xs i x = search rules in
    let key : c.pair_key.result ≡ key_of tables (names_of x).0 (names_of x).1 =
    c.pair_key.ensures ∙ ap (λ a. key_of tables a names.1.now) c.table_names.ensures.one
    ∙ ap (λ b. key_of tables (names_of x).0 b) c.table_names.ensures.other in
    indexes-more (has_key tables names_of) (get key_cmp before) (get key_cmp after) xs i x within is
    (λ q. c.in_ok-set_index.ensures q ∙ ap (λ k. cond (is_key k q) (Some i) (get key_cmp before q)) key)
    c.loop-index.invariant

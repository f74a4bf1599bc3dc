use Rattle.std.proofs.Common.{refl}
use Rattle.sql_node.specs.Tree.{order_by}
use Rattle.sql_select.specs.Changes.{items_in, items_then}
use Rattle.sql_select.proofs.ClauseLaws.{twice, filter-append, ordered-append}
use Rattle.sql_select.proofs.laws.filter_and_then_order_by_append.Goals as goal

pub returns : goal.returns
returns c = record {
  filter = filter-append;
  then_order_by = ordered-append;
  first =
      λ is js. twice (λ c. record c { order = order_by (items_then (items_in c.order) js) })
      (λ c. record c { order = order_by is }) (λ c. record c { order = order_by (items_then is js) }) (λ _. refl);
}

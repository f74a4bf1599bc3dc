use Rattle.std.proofs.Common.{Some, refl}
use Rattle.sql_node.specs.Tree.{an_expr, order_by}
use Rattle.sql_select.proofs.ClauseLaws.{twice, rows-twice, selected-twice}
use Rattle.sql_select.proofs.laws.the_later_call_stands.Goals as goal

pub returns : goal.returns
returns c = record {
  select = selected-twice;
  distinct =
      λ d e. twice (λ c. record c { distinct = e }) (λ c. record c { distinct = d }) (λ c. record c { distinct = e })
      (λ _. refl);
  order =
      λ is js. twice (λ c. record c { order = order_by js }) (λ c. record c { order = order_by is })
      (λ c. record c { order = order_by js }) (λ _. refl);
  limit =
      λ m n. rows-twice (λ r. record r { limit_clause = Some n }) (λ r. record r { limit_clause = Some m })
      (λ r. record r { limit_clause = Some n }) (λ _. refl);
  offset =
      λ m n. rows-twice (λ r. record r { offset_clause = Some n }) (λ r. record r { offset_clause = Some m })
      (λ r. record r { offset_clause = Some n }) (λ _. refl);
  group_by =
      λ d e. twice (λ c. record c { group_by = an_expr e }) (λ c. record c { group_by = an_expr d })
      (λ c. record c { group_by = an_expr e }) (λ _. refl);
  having =
      λ d e. twice (λ c. record c { having = an_expr e }) (λ c. record c { having = an_expr d })
      (λ c. record c { having = an_expr e }) (λ _. refl);
}

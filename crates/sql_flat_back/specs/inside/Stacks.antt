-- What the loop from the last node to the first has on its stack: what the trees stand for that begin behind.
use Rattle.std.specs.Prelude.{ℕ, List, map, option_map}
use Rattle.sql_flat_law.specs.Backward.{put}
use Rattle.sql_flat_law.specs.Finished.{before, finished}
use Rattle.sql_flat_law.specs.Seen.{seen}
use Rattle.sql_flat_law.specs.declared.finished.Finished.{Finished}
use Rattle.sql_node.specs.View.{distinct_clause_tree, expr_tree, from_clause_tree, group_by_clause_tree, having_clause_tree, items_of, order_clause_tree, order_item_tree, source_tree, statement_tree, where_clause_tree}
use Rattle.sql_flat_back.specs.declared.clauses.Clauses as declared_clauses
use Rattle.sql_flat.specs.declared.kind.FlatKind.{FlatKind}
use Rattle.sql_flat_back.specs.declared.part.Part as declared_part
use Rattle.sql_flat_back.specs.declared.part.Part.TheVariants as P
use Rattle.sql_flat.specs.inside.Parts.{Clauses, Part, expr_part, element_part, values_part, source_part, on_part, from_part, distinct_on_part, where_part, group_by_part, having_part, item_part, order_part, statement_part, position_part, positions_part, unfit, over}
use Rattle.sql_flat.specs.inside.Reading.{end_of, kind_of}

abbrev pub part_of : declared_part.Part → Part
part_of (P.Expr e) = expr_part (expr_tree e)
part_of (P.Element v) = element_part v
part_of (P.Values t vs) = values_part t vs
part_of (P.Source s) = source_part (source_tree s)
part_of (P.On e) = on_part (expr_tree e)
part_of (P.From s) = from_part (source_tree s)
part_of (P.DistinctOn e) = distinct_on_part (expr_tree e)
part_of (P.Where e) = where_part (expr_tree e)
part_of (P.GroupBy e) = group_by_part (expr_tree e)
part_of (P.Having e) = having_part (expr_tree e)
part_of (P.Item i) = item_part (order_item_tree i)
part_of (P.OrderBy is) = order_part (items_of (map order_item_tree is))
part_of (P.Statement s) = statement_part (statement_tree s.value)
part_of (P.Position i) = position_part i
part_of (P.Positions is) = positions_part is
part_of P.Unfit = unfit

abbrev pub parts_of : List declared_part.Part → List Part
parts_of ps = map part_of ps

abbrev pub clauses_of : declared_clauses.Clauses → Clauses
clauses_of c = record {
  distinct_clause = distinct_clause_tree c.distinct;
  selection = option_map expr_tree c.selection;
  from_clause = from_clause_tree c.from;
  where_clause = where_clause_tree c.where_clause;
  group_by = group_by_clause_tree c.group_by;
  having = having_clause_tree c.having;
  order = order_clause_tree c.order;
}

-- from the first tree on
abbrev pub stack : List (Finished declared_part.Part) → List (ℕ × Part)
stack ts = seen part_of (finished ts)

-- what those stand for that begin before e, and the others
abbrev pub split : ℕ → List (Finished declared_part.Part) → List Part × List (ℕ × Part)
split e ts = before e (stack ts)

-- the stack with the tree of a node of a kind at an index, over those that were split off
abbrev pub put_at : ℕ → FlatKind → List Part × List (ℕ × Part) → List (ℕ × Part)
put_at = put kind_of end_of over

-- Which statements have an id: those with no list of values, no boxed part, no place in an order and no sample (diesel, `QueryId`,
-- `HAS_STATIC_QUERY_ID`).
use Rattle.std.specs.Prelude.{Bool, true, false, List, [], ◌∷◌, Option, None, Some}
use Rattle.sql_leaf.specs.declared.position.PositionalItem.{PositionalItem}
use Rattle.sql_leaf.specs.declared.table_source.Tablesample.{Tablesample}
use Rattle.sql_node.specs.Tree.{Statement}
use Rattle.sql_shape.specs.Nodes.{NodeTests, all_statement}

abbrev pub lacks_sample : Option Tablesample → Bool
lacks_sample None = true
lacks_sample (Some s) = false

-- no place stands in the order
abbrev pub lacks_places : Option (List PositionalItem) → Bool
lacks_places None = true
lacks_places (Some []) = true
lacks_places (Some (p ∷ ps)) = false

abbrev pub id_tests : NodeTests
id_tests =
    record {
      boxed = false;
      value = λ t x. true;
      values = λ t xs. false;
      sample = lacks_sample;
      places = lacks_places;
    }

abbrev pub has_id : Statement → Bool
has_id = all_statement id_tests

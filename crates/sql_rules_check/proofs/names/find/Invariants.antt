use Rattle.std.proofs.Common.{◌≡◌, ◌||◌, drop, []}
use Rattle.std.specs.List.{list_any}
use Rattle.sql_rules_check.specs.inside.Sites.{is_ambiguous, is_apart, is_clashing, site_out, site_select}
use Rattle.sql_rules_check.specs.inside.Walks.{opens, walked}
use Rattle.sql_rules_check.proofs.names.find.Given as goal

abbrev pub invariant-loop-index : goal.invariant-loop-index
invariant-loop-index l = record {
  scope :
      (l.out || list_any (site_out l.whole) (walked (opens l.nest.items) l.index (drop l.index l.nodes)))
      ≡ list_any (site_out l.whole) (walked [] 0 l.nodes);
  ambiguous :
      (l.ambiguous || list_any (site_select is_ambiguous) (walked (opens l.nest.items) l.index (drop l.index l.nodes)))
      ≡ list_any (site_select is_ambiguous) (walked [] 0 l.nodes);
  apart :
      (l.apart || list_any (site_select (is_apart l.schema))
      (walked (opens l.nest.items) l.index (drop l.index l.nodes)))
      ≡ list_any (site_select (is_apart l.schema)) (walked [] 0 l.nodes);
  clashing :
      (l.clashing || list_any (site_select is_clashing) (walked (opens l.nest.items) l.index (drop l.index l.nodes)))
      ≡ list_any (site_select is_clashing) (walked [] 0 l.nodes);
}

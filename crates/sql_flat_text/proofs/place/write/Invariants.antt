use Rattle.std.proofs.Common.{◌≡◌, ◌+◌, ◌-◌, ◌*◌, ◌≤◌, true, drop, length, sum_by, []}
use Rattle.sql_flat_text.specs.Steps.{steps_from, steps_of}
use Rattle.sql_flat_text.specs.inside.Sinks.{Fits, poured, sunk}
use Rattle.sql_flat_text.specs.inside.Turns.{frames, told_from}
use Rattle.sql_flat_text.proofs.place.write.Given as goal

abbrev pub decreases-loop-place : goal.decreases-loop-place
decreases-loop-place g l = 2 * (length l.nodes - l.place.index) + length l.place.«open».items

abbrev pub invariant-loop-place : goal.invariant-loop-place
invariant-loop-place g l = record {
  told :
      poured g.DB.Backend.speaks (sunk g.DB.QueryBuilder.QueryBuilder.text g.DB.QueryBuilder.QueryBuilder.count l.sink)
      (told_from g.DB.Backend.speaks (frames l.place.«open».items) l.place.first l.place.index
      (drop l.place.index l.nodes))
      ≡ poured g.DB.Backend.speaks
      (sunk g.DB.QueryBuilder.QueryBuilder.text g.DB.QueryBuilder.QueryBuilder.count l.initial.sink)
      (told_from g.DB.Backend.speaks [] true 0 l.nodes);
  fits :
      Fits g.DB.Backend.speaks
      (sunk g.DB.QueryBuilder.QueryBuilder.text g.DB.QueryBuilder.QueryBuilder.count l.initial.sink).count
      → Fits g.DB.Backend.speaks
      (sunk g.DB.QueryBuilder.QueryBuilder.text g.DB.QueryBuilder.QueryBuilder.count l.sink).count;
  within : l.place.index ≤ length l.nodes;
  begun : sum_by (λ o. o.begun) l.place.«open».items ≤ l.place.index;
  cost : l.steps + length l.place.«open».items ≤ l.initial.steps + 2 * l.place.index;
  exact :
      l.steps + length l.place.«open».items
      + steps_from g.DB.Backend.speaks 0 l.place.index (drop l.place.index l.nodes)
      ≡ l.initial.steps + steps_of g.DB.Backend.speaks l.nodes;
  since : l.initial.steps ≤ l.steps;
}

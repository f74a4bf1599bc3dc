use Rattle.std.proofs.Common.{◌≡◌, List, [], map}
use Rattle.sql_tool_build.specs.Output.{Line, AreLines}
use Rattle.sql_tool_build.specs.inside.Keys.{line_key, seen_at, Tells}
use Rattle.sql_tool_generate.specs.Generated.{generated}
use Rattle.sql_tool_series.specs.Schema.{declarations}
use Rattle.sql_tool_generate.specs.inside.Counting.{Tell}
use Rattle.sql_tool_generate.proofs.requests.generate.Given as goal

-- the counters tell of the lines of the requests so far, the map has their keys, and the cache is of their schema
abbrev pub invariant-loop-number : goal.invariant-loop-number
invariant-loop-number l =
    (ls : List Line) × AreLines declarations [] (generated l.number) ls × Tell l.counts ls
    × Tells (seen_at l.seen) (map line_key ls) × (l.cache.schema ≡ declarations)

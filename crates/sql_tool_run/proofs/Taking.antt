-- What a run took from its source.
use Rattle.std.proofs.Common.{◌≡◌, ℕ, List, Option}
use Rattle.std.specs.Io.KnownBytes.{Consumes}
use Rattle.sql_tool_stream.proofs.Readings.{gives-consumed}
use Rattle.sql_tool_run.specs.Run.{Took}
use Rattle.sql_tool_run.specs.declared.status.Status.{Status}

pub took-consumed : (status : Status) (old new : Option (List ℕ)) (given : List ℕ) → Consumes old new given
    → Took status old new given
took-consumed status old new given h = (gives-consumed old new given h, λ _. h)

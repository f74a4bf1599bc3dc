-- What was taken from a source, it gave.
use Rattle.std.proofs.Common.{ℕ, List, Option, None, Some}
use Rattle.std.specs.Io.KnownBytes.{Consumes}
use Rattle.sql_tool_stream.specs.Reading.{Gives}

pub gives-consumed : (old new : Option (List ℕ)) (bs : List ℕ) → Consumes old new bs → Gives old new bs
gives-consumed None new bs h = tt
gives-consumed (Some xs) None bs h = absurd h
gives-consumed (Some xs) (Some ys) bs h = h

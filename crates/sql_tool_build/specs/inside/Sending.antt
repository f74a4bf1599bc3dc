-- The events by which a list of data is sent to a `Serializer`.
use Rattle.std.specs.Prelude.{◌≡◌, List, [], ◌∷◌}
use Rattle.serde.specs.Event.{Log}
use Rattle.serde_json.specs.Data.{Data}
use Rattle.serde_json.specs.Events.{SendsValue}

-- each in turn
abbrev pub SendsEach : List Data → Log → Log → Type 0
SendsEach [] old new = new ≡ old
SendsEach (d ∷ ds) old new = (mid : Log) × SendsValue d old mid × SendsEach ds mid new

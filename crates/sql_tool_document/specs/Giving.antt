-- How a decoder answers.
use Rattle.std.specs.Prelude.{◌≡◌, Result, Ok, Err, Option, Some, None}
use Rattle.sql_tool_document.specs.declared.refusal.Refusal.{Refusal}
use Rattle.sql_tool_document.specs.declared.refusal.Refusal.TheVariants.{NoMemory, NotADocument}

-- A decoder's answer, seen by `seen`, is what the form gives, unless memory ran out.
abbrev pub Refuses : {Y : Type 0} → Refusal → Option Y → Type 0
Refuses NoMemory given = Unit {0}
Refuses NotADocument given = given ≡ None

abbrev pub Gives : {X Y : Type 0} → (X → Y) → Result X Refusal → Option Y → Type 0
Gives seen (Ok x) given = given ≡ Some (seen x)
Gives seen (Err e) given = Refuses e given

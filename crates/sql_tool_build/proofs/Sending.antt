-- Data that are sent one after the other.
use Rattle.std.proofs.Common.{◌≡◌, suc, List, [], ◌∷◌, ◌++◌, length, map, refl, ap, subst}
use Rattle.serde.specs.Event as e
use Rattle.serde.specs.Event.{Log, Logs}
use Rattle.serde_json.specs.Data.{Data}
use Rattle.serde_json.specs.Events.{SendsItems, SendsValue, items_len}
use Rattle.serde_json.specs.View.{items_of}
use Rattle.sql_tool_build.specs.inside.Sending.{SendsEach}

pub each-more : (ds : List Data) (d : Data) (old mid new : Log) → SendsEach ds old mid → SendsValue d mid new
    → SendsEach (ds ++ d ∷ []) old new
each-more [] d old mid new is sent = (new, subst (λ l. SendsValue d l new) is sent, refl)
each-more (x ∷ ds) d old mid new (next, first, rest) sent = (next, first, each-more ds d next mid new rest sent)

pub each-ended : (ds : List Data) (old last new : Log) → SendsEach ds old last → Logs last new e.seq_ends
    → SendsItems (items_of ds) old new
each-ended [] old last new is ended = subst (λ l. Logs l new e.seq_ends) is ended
each-ended (d ∷ ds) old last new (mid, first, rest) ended = (mid, first, each-ended ds mid last new rest ended)

pub counted : {X : Type 0} (f : X → Data) (xs : List X) → length xs ≡ items_len (items_of (map f xs))
counted f [] = refl
counted f (x ∷ xs) = ap suc (counted f xs)

-- Calls one after another.
use Rattle.std.proofs.Common.{◌≡◌, Bool, true, false, true≢false, List, [], ◌∷◌, Some, Contains, refl, sym, ap, ◌∙◌, subst}
use Rattle.std.proofs.lemmas.Map.Views.{Contains-from_any, list_any-from_Contains}
use Rattle.std.specs.List.{list_any, slice_get}
use Rattle.std.specs.Prelude.{Ok}
use Rattle.sql_schema.specs.Declarations.{Declarations}
use Rattle.sql_dialect.specs.declared.backend.Dialect.{Dialect}
use Rattle.sql_node.specs.Tree.{Statement}
use Rattle.sql_key.specs.Keys.{id_of}
use Rattle.sql_flat.specs.declared.kind.FlatNode.{FlatNode}
use Rattle.sql_rules.specs.Lists.{Each}
use Rattle.sql_check.specs.declared.built.Built.{Built}
use Rattle.sql_rules_law.proofs.Exchange.{accepted-fit}
use Rattle.sql_rows.specs.Calls.{AreCalls, Call, IsAnswer, IsCall}
use Rattle.sql_rows.specs.Entries.{Entries, IsLookedUp}
use Rattle.sql_rows.specs.contracts.cache.RequestKeyEq.TheImpl.Laws.{laws-law}
use Rattle.sql_rows.specs.declared.cache.RequestKey.{RequestKey}
use Rattle.sql_rows.proofs.Exact.{exact-key, same_key}

abbrev Alone : Declarations → List Call → Type 0
Alone schema calls = Each (λ c. IsAnswer schema c.dialect c.statement c.answer) calls

pub answers : (before after : Entries) (calls : List Call) → AreCalls before calls after → Alone before.schema calls
answers before after [] h = tt
answers before after (c ∷ calls) (next, call, more) =
    (call.answer, subst (λ w. Alone w calls) call.schema (answers next after calls more))

pub schemas : (before after : Entries) (calls : List Call) → AreCalls before calls after
    → after.schema ≡ before.schema
schemas before after [] h = ap (λ (w : Entries). w.schema) h
schemas before after (c ∷ calls) (next, call, more) = schemas next after calls more ∙ call.schema

front : (before after : Entries) (d : Dialect) (s : Statement) (b : Built) (pair : RequestKey) → IsLookedUp d s pair
    → IsCall before (record { dialect = d; statement = s; answer = Ok b }) after
    → (t : Bool) → list_any (same_key pair) before.keys ≡ t → slice_get after.keys 0 ≡ Some pair
front before after d s b pair own call true there =
    let hit = (call.entries.found pair own (Contains-from_any exact-key pair before.keys there)).0 in
    ap (λ (w : Entries). slice_get w.keys 0) hit.is
front before after d s b pair own call false none =
    let new : ¬ Contains before.keys pair =
    λ c. true≢false (sym (list_any-from_Contains laws-law pair before.keys c) ∙ none) in
    ap (λ (w : Entries). slice_get w.keys 0) (call.entries.not_found pair own new).0

pub stands-in-front : (before after : Entries) (d : Dialect) (s : Statement) (b : Built) (k : List FlatNode)
    → id_of s ≡ Some k → IsCall before (record { dialect = d; statement = s; answer = Ok b }) after
    → slice_get after.keys 0 ≡ Some (record { dialect = d; key = k })
stands-in-front before after d s b k id call =
    let pair : RequestKey = record { dialect = d; key = k } in
    let own : IsLookedUp d s pair =
    record { fit = accepted-fit before.schema d s call.answer.built.accepted; id = id; dialect = refl } in
    front before after d s b pair own call (list_any (same_key pair) before.keys) refl

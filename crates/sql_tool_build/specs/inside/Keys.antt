-- The program's own keys: how it finds the id of a request in an ordered map.
use Rattle.std.specs.Prelude.{◌≡◌, ℕ, ◌+◌, List, [], ◌∷◌, map, Bool, Option, Some, None, option_map, if◌then◌else◌}
use Rattle.std.specs.Option.{option_or, unwrap_or}
use Rattle.std.specs.BTreeMap as tree
use Rattle.std.specs.BTreeMap.{BTreeMap}
use Rattle.sql_dialect.specs.declared.backend.Dialect.{Dialect}
use Rattle.sql_key.specs.Keys.{id_of}
use Rattle.sql_flat.specs.declared.kind.FlatNode.{FlatNode}
use Rattle.sql_schema.specs.Declarations.{Declarations}
use Rattle.sql_schema.specs.Refusals.{least_refusal}
use Rattle.sql_tool_build.specs.Judgement.{Judgement, refuses, accepts, Judges}
use Rattle.sql_tool_build.specs.Output.{AreLines, Line, StatementRequest, lines_text}
use Rattle.sql_rows.specs.declared.cache.RequestKey.{RequestKey}
use Rattle.sql_rows.specs.contracts.cache.NamedRequestPartialEq.TheImpl as key_eq
use Rattle.sql_rows.specs.contracts.cache.NamedRequestOrd.TheImpl as key_ord

abbrev pub keyed : Dialect → List FlatNode → RequestKey
keyed d k = record { dialect = d; key = k }

-- the dialect and the statement's key, none where the request is refused or its statement has no id
abbrev pub request_key : Dialect → Judgement → Option RequestKey
request_key d (refuses name) = None
request_key d (accepts s ts) = option_map (keyed d) (id_of s)

-- one dialect, and one key but for what is declared of its tables and columns beside their names
abbrev pub same_key : RequestKey → RequestKey → Bool
same_key = (key_eq.ghosts).eq

-- the index of the first request that has this key, where the first index is n
abbrev pub index_from : ℕ → List (Option RequestKey) → RequestKey → Option ℕ
index_from n [] q = None
index_from n (None ∷ keys) q = index_from (n + 1) keys q
index_from n (Some k ∷ keys) q = if same_key k q then Some n else index_from (n + 1) keys q

-- what the map holds at a key
abbrev pub seen_at : BTreeMap RequestKey ℕ → RequestKey → Option ℕ
seen_at seen q = tree.get (key_ord.ghosts).cmp seen q

-- the id of the request with this number and this key, where a look-up has the numbers of the keys before it
abbrev pub id_found : (RequestKey → Option ℕ) → ℕ → Option RequestKey → Option ℕ
id_found f n own = option_map (λ k. unwrap_or (f k) n) own

-- the line of the request with this number, by such a look-up
abbrev pub line_found : (RequestKey → Option ℕ) → ℕ → Dialect → Judgement → Line
line_found f n d j = record { dialect = d; judgement = j; id = id_found f n (request_key d j) }

-- g has what f has, and the number n at a key that is new
abbrev pub IsKept : (RequestKey → Option ℕ) → (RequestKey → Option ℕ) → ℕ → Option RequestKey → Type 0
IsKept f g n own = (q : RequestKey) → g q ≡ option_or (f q) (index_from n (own ∷ []) q)

-- Of the line of the request with number n this is said, where f has the numbers of the keys before it, and g those and its own. No
-- refusal holds of the schema, so that keys of its statements are told apart by names.
abbrev pub HasLine : Declarations → StatementRequest → ℕ → (RequestKey → Option ℕ) → (RequestKey → Option ℕ) → (Line → Type 0) → Type 0
HasLine schema r n f g Said =
    (j : Judgement) × Judges schema r.dialect r.statement j × Said (line_found f n r.dialect j)
    × IsKept f g n (request_key r.dialect j) × (least_refusal schema ≡ None)

abbrev pub line_key : Line → Option RequestKey
line_key l = request_key l.dialect l.judgement

-- a look-up f has the index of each key in xs
abbrev pub Tells : (RequestKey → Option ℕ) → List (Option RequestKey) → Type 0
Tells f xs = (q : RequestKey) → f q ≡ index_from 1 xs q

-- the text is the lines of these requests, and f has the numbers of their keys
abbrev pub AreWritten : Declarations → (RequestKey → Option ℕ) → List StatementRequest → List ℕ → Type 0
AreWritten schema f rs text =
    (ls : List Line) × AreLines schema [] rs ls × Tells f (map line_key ls) × (text ≡ lines_text ls)

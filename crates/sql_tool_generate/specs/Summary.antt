-- The one line that is written for generated requests.
use Rattle.std.specs.Prelude.{◌≡◌, ℕ, zero, suc, min, ◌^◌, ◌-◌, List, [], ◌∷◌, ◌++◌, length, codes}
use Rattle.serde_json.specs.Data.{Data, number, object, unsigned, Members, no_members, member, put}
use Rattle.serde_json.specs.Written.{compact_text}
use Rattle.sql_rules.specs.Rules.{all_rules}
use Rattle.sql_rules.specs.Texts.{rule_text}
use Rattle.sql_rules.specs.declared.rule.Rule.{Rule}
use Rattle.sql_tool_build.specs.Output.{Line, AreLines}
use Rattle.sql_tool_generate.specs.Counts.{accepted, binds, bytes, ids, refused_as}
use Rattle.sql_tool_generate.specs.Generated.{generated}
use Rattle.sql_tool_series.specs.Schema.{declarations}

-- a count, cut at the last number of 64 bits
abbrev pub cut : ℕ → ℕ
cut n = min n (2 ^ 64 - 1)

abbrev pub count : ℕ → Data
count n = number (unsigned n)

-- the members, with this count at its name in their order, unless it is zero
abbrev pub tallied : List ℕ → ℕ → Members → Members
tallied name zero ms = ms
tallied name (suc n) ms = put name (count (suc n)) ms

-- the members, with how many lines each of these rules refused
abbrev pub refusals : List Rule → List Line → Members → Members
refusals [] ls ms = ms
refusals (r ∷ rs) ls ms = refusals rs ls (tallied (rule_text r) (cut (refused_as (rule_text r) ls)) ms)

abbrev pub summary_object : ℕ → ℕ → ℕ → ℕ → Members → ℕ → Data
summary_object accepted binds bytes ids refused requests =
    object (member (codes "accepted") (count accepted)
    (member (codes "binds") (count binds)
    (member (codes "bytes") (count bytes)
    (member (codes "ids") (count ids)
    (member (codes "refused") (object refused)
    (member (codes "requests") (count requests) no_members))))))

abbrev pub summary : List Line → Data
summary ls =
    summary_object (cut (accepted ls)) (cut (binds ls)) (cut (bytes ls)) (cut (ids ls)) (refusals all_rules ls no_members)
    (cut (length ls))

-- compact JSON, and a newline
unfoldable pub summary_text : List Line → List ℕ
summary_text ls = compact_text (summary ls) ++ 10 ∷ []

-- The text is the line for n generated requests: it sums up the lines that these requests have as a document's.
abbrev pub IsSummary : ℕ → List ℕ → Type 0
IsSummary n text = (ls : List Line) × AreLines declarations [] (generated n) ls × (text ≡ summary_text ls)

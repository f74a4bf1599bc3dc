-- Lines after lines.
use Rattle.std.proofs.Common.{◌≡◌, ◌∙◌, ◌<◌, ◌≤◌, ℕ, Bool, true, false, cond, List, [], ◌∷◌, ◌++◌, length, Option, None, Some, Result, Ok, Err, refl, ap, sym, subst, append_assoc, append-nil, arith}
use Rattle.std.specs.Prelude.{nat_lt, nat_eq, option_map}
use Rattle.std.proofs.lemmas.Bool.Decides.{nat_tests}
use Rattle.std.proofs.lemmas.List.{append_cancel_left, take_all}
use Rattle.std.proofs.lemmas.List.Folds.{length-prefix_len}
use Rattle.std.specs.List.{prefix_len}
use Rattle.serde_json.specs.Data.{Data}
use Rattle.sql_schema.specs.Declarations.{Declarations}
use Rattle.sql_tool_build.specs.Output.{Line, StatementRequest, lines_text}
use Rattle.sql_tool_document.specs.Documents.{Request}
use Rattle.sql_tool_talk.proofs.Requests.{one-request}
use Rattle.sql_tool_guard.specs.Tenants.{Tenant}
use Rattle.sql_tool_ids.proofs.Few.{same-after}
use Rattle.sql_tool_ids.specs.Memory.{AreLinesAfter, no_memory}
use Rattle.sql_tool_ids.specs.declared.seen.TheConstants.{MAX_SHAPES}
use Rattle.sql_tool_run.specs.Limits.{greatest_input}
use Rattle.sql_tool_session.proofs.Answered.{answered_lines}
use Rattle.sql_tool_session.specs.Session.{AreLinesOf, AreMade, Asked, Asking, IsMade, asked_for}
use Rattle.sql_tool_session.specs.Within.{HasTooDeep, before_too_deep, fits}
use Rattle.sql_tool_session.specs.declared.responder.Responder.{Responder}
use Rattle.sql_tool_lines.proofs.Turns.{prompt-weaker}
use Rattle.sql_tool_lines.specs.Conversation.{Conversed}
use Rattle.sql_tool_lines.specs.Lines.{all_lines}
use Rattle.sql_tool_lines.specs.Turns.{Event, read_in, written_in}
use Rattle.sql_tool_lines.specs.declared.listener.Stop.{Stop}
use Rattle.sql_tool_talk.specs.Talk.{AreAnswered, AreAnsweredBy, IsOutputSo, Opened, Talk, after, anew, answer_text, asking_error, depth_error, error, error_in, heard, kept, kept_after, opened_as, requests_of, session_after}
use Rattle.sql_tool_talk.specs.Resets.{is_reset}
use Rattle.sql_tool_talk.specs.declared.remark.Remark.{Remark}
use Rattle.sql_tool_talk.specs.declared.remark.Remark.TheVariants.{BadDocument, TooDeep, TooLarge}
use Rattle.sql_tool_talk.specs.inside.Talkers.{Knows, Told}

pub after-more : (o : Option Opened) (ls ms : List (List ℕ)) → session_after o (ls ++ ms) ≡ session_after (session_after o ls) ms
after-more o [] ms = refl
after-more o (l ∷ ls) ms = after-more (heard o l) ls ms

-- one more line
pub talk-more : (o : Option Opened) (output : List ℕ) (lines : List (List ℕ)) (text whole line own : List ℕ)
    → Talk o output lines text whole → IsOutputSo (heard (session_after o lines) line) (kept (session_after o lines) line whole ++ own)
    → Talk o output (lines ++ line ∷ []) (text ++ answer_text own (error (session_after o lines) line))
    (kept (session_after o lines) line whole ++ own)
talk-more o output [] text whole line own (none, same) is =
    let said = answer_text own (error o line) in (
      own,
      [],
      subst (λ w. IsOutputSo (heard o line) (kept o line w ++ own)) same is,
      ap (λ t. t ++ said) none ∙ sym (append-nil said),
      (refl, ap (λ w. kept o line w ++ own) same),
    )
talk-more o output (l ∷ ls) text whole line own (mine, rest, is, split, later) last =
    let said = answer_text own (error (session_after o (l ∷ ls)) line) in (
      mine,
      rest ++ said,
      is,
      ap (λ t. t ++ said) split ∙ append_assoc (answer_text mine (error o l)) rest said,
      talk-more (heard o l) (kept o l output ++ mine) ls rest whole line own later last,
    )

-- ---- requests have one text

one-made : (schema : Declarations) (t : Option Tenant) (q : Request) (r p : StatementRequest) → IsMade schema t q r
    → IsMade schema t q p → r ≡ p
one-made schema None q r p first second = first ∙ sym second
one-made schema (Some t) q r p first second = one-request schema t q r p first second

same-made : (schema : Declarations) (asked : List Asked) (rs ps : List StatementRequest) → AreMade schema asked rs
    → AreMade schema asked ps → rs ≡ ps
same-made schema [] [] [] first second = refl
same-made schema [] [] (p ∷ ps) first second = absurd second
same-made schema [] (r ∷ rs) ps first second = absurd first
same-made schema (a ∷ more) [] ps first second = absurd first
same-made schema (a ∷ more) (r ∷ rs) [] first second = absurd second
same-made schema (a ∷ more) (r ∷ rs) (p ∷ ps) first second =
    let head = one-made schema a.tenant a.request r p first.0 second.0 in
    let tail = same-made schema more rs ps first.1 second.1 in
    λ i. head i ∷ tail i

one-answer : (schema : Declarations) (asked : List Asked) (a b : List ℕ) → AreAnsweredBy schema asked a
    → AreAnsweredBy schema asked b → a ≡ b
one-answer schema asked a b (ls, (rs, made, lines), is) (ks, (ps, also, others), it) =
    let requests = same-made schema asked rs ps made also in
    let first = subst (λ x. AreLinesAfter MAX_SHAPES schema no_memory x ls) requests lines in
    is ∙ ap lines_text (same-after MAX_SHAPES schema no_memory ps ls ks first others) ∙ sym it

one-output-so : (o : Option Opened) (a b : List ℕ) → IsOutputSo o a → IsOutputSo o b → a ≡ b
one-output-so None a b p q = p ∙ sym q
one-output-so (Some o) a b p q = one-answer o.schema o.asked a b p q

-- lines have one text
one-talk : (o : Option Opened) (output : List ℕ) (lines : List (List ℕ)) (a b v w : List ℕ)
    → Talk o output lines a v → Talk o output lines b w → a ≡ b
one-talk o output [] a b v w p q = p.0 ∙ sym q.0
one-talk o output (l ∷ ls) a b v w (x, r, is, split, later) (y, s, it, cut, others) =
    let own : x ≡ y =
    append_cancel_left (kept o l output) x y
    (one-output-so (heard o l) (kept o l output ++ x) (kept o l output ++ y) is it) in
    let rest : r ≡ s =
    one-talk (heard o l) (kept o l output ++ y) ls r s v w
    (subst (λ z. Talk (heard o l) (kept o l output ++ z) ls r v) own later) others in
    split ∙ (λ i. answer_text (own i) (error o l) ++ rest i) ∙ sym cut

pub one-text : (lines : List (List ℕ)) (a b : List ℕ) → AreAnswered lines a → AreAnswered lines b → a ≡ b
one-text lines a b (v, p) (w, q) = one-talk None [] lines a b v w p q

-- what the session has answered is its document's output
pub talk-output : (o : Option Opened) (output : List ℕ) (lines : List (List ℕ)) (text whole : List ℕ)
    → IsOutputSo o output → Talk o output lines text whole → IsOutputSo (session_after o lines) whole
talk-output o output [] text whole is p = subst (IsOutputSo o) (sym p.1) is
talk-output o output (l ∷ ls) text whole is (own, rest, it, split, later) =
    talk-output (heard o l) (kept o l output ++ own) ls rest whole it later

pub one-list : (lines : List (List ℕ)) (text output : List ℕ) (o : Opened) → Talk None [] lines text output
    → session_after None lines ≡ Some o → AreAnsweredBy o.schema o.asked output
one-list lines text output o p is =
    subst (λ x. IsOutputSo x output) is (talk-output None [] lines text output refl p)

-- ---- one line

pub short : (line : List ℕ) → length line ≤ greatest_input → nat_lt greatest_input (length line) ≡ false
short line few = grind (arith, nat_tests)

long : (line : List ℕ) → greatest_input < length line → nat_lt greatest_input (length line) ≡ true
long line many = grind (arith, nat_tests)

pub if-false : {X : Type 0} (b : Bool) (x y : X) → b ≡ false → cond b x y ≡ y
if-false b x y h = ap (λ t. cond t x y) h

if-true : {X : Type 0} (b : Bool) (x y : X) → b ≡ true → cond b x y ≡ x
if-true b x y h = ap (λ t. cond t x y) h

pub heard-short : (o : Option Opened) (line : List ℕ) → length line ≤ greatest_input → heard o line ≡ after o line
heard-short o line few = if-false _ o (after o line) (short line few)

pub error-short : (o : Option Opened) (line : List ℕ) → length line ≤ greatest_input → error o line ≡ error_in o line
error-short o line few = if-false _ (Some TooLarge) (error_in o line) (short line few)

pub kept-short : (o : Option Opened) (line output : List ℕ) → length line ≤ greatest_input
    → kept o line output ≡ kept_after o line output
kept-short o line output few = if-false _ output (kept_after o line output) (short line few)

kept-long : (o : Option Opened) (line output : List ℕ) → greatest_input < length line → kept o line output ≡ output
kept-long o line output many = if-true _ output (kept_after o line output) (long line many)

pub heard-long : (o : Option Opened) (line : List ℕ) → greatest_input < length line → heard o line ≡ o
heard-long o line many = if-true _ o (after o line) (long line many)

pub error-long : (o : Option Opened) (line : List ℕ) → greatest_input < length line → error o line ≡ Some TooLarge
error-long o line many = if-true _ (Some TooLarge) (error_in o line) (long line many)

pub knows-output : (r : Responder) (o : Option Opened) (output : List ℕ) → Knows r o output → IsOutputSo o output
knows-output r None output h = h.1
knows-output r (Some o) output (s, is, terms, has) =
    subst (λ most. (ls : List Line) × AreLinesOf most o.schema o.asked ls × (output ≡ lines_text ls)) terms.1
    (answered_lines o.schema o.asked output s has)

told-more : (old new : Responder) (lines : List (List ℕ)) (text line own said : List ℕ) → Told old lines text
    → ((o : Option Opened) (output : List ℕ) → Knows old o output
    → (said ≡ answer_text own (error o line)) × Knows new (heard o line) (kept o line output ++ own))
    → Told new (lines ++ line ∷ []) (text ++ said)
told-more old new lines text line own said (output, talk, knows) step =
    let o = session_after None lines in
    let whole = kept o line output ++ own in
    let (is, then) = step o output knows in (
      whole,
      subst (λ u. Talk None [] (lines ++ line ∷ []) (text ++ u) whole) (sym is)
          (talk-more None [] lines text output line own talk (knows-output new (heard o line) whole then)),
      subst (λ x. Knows new x whole) (sym (after-more None lines (line ∷ []))) then,
    )

-- a line that is short enough, and one that is too long
pub told-short : (old new : Responder) (lines : List (List ℕ)) (text line own said : List ℕ) (remark : Option Remark)
    → length line ≤ greatest_input → said ≡ answer_text own remark
    → ((o : Option Opened) (output : List ℕ) → Knows old o output
    → (remark ≡ error_in o line) × Knows new (after o line) (kept_after o line output ++ own))
    → Told old lines text → Told new (lines ++ line ∷ []) (text ++ said)
told-short old new lines text line own said remark few is step told =
    told-more old new lines text line own said told (λ o output knows.
    let (same, then) = step o output knows in (
      is ∙ ap (answer_text own) (same ∙ sym (error-short o line few)),
      subst (λ x. Knows new x (kept o line output ++ own)) (sym (heard-short o line few))
          (subst (λ w. Knows new (after o line) (w ++ own)) (sym (kept-short o line output few)) then),
    ))

pub told-long : (now : Responder) (lines : List (List ℕ)) (text line said : List ℕ) → greatest_input < length line
    → said ≡ answer_text [] (Some TooLarge) → Told now lines text → Told now (lines ++ line ∷ []) (text ++ said)
told-long now lines text line said many is told =
    told-more now now lines text line [] said told (λ o output knows. (
      is ∙ ap (answer_text []) (sym (error-long o line many)),
      subst (λ x. Knows now x (kept o line output ++ [])) (sym (heard-long o line many))
          (subst (Knows now o) (sym (append-nil (kept o line output) ∙ kept-long o line output many)) knows),
    ))

-- ---- a reset

no-answer : (schema : Declarations) (own : List ℕ) → AreAnsweredBy schema [] own → own ≡ []
no-answer schema own ([], ([], made, lines), is) = is
no-answer schema own ([], (r ∷ rs, made, lines), is) = absurd made
no-answer schema own (l ∷ ls, ([], made, lines), is) = absurd lines
no-answer schema own (l ∷ ls, (r ∷ rs, made, lines), is) = absurd made

-- the parts of a conversation, which a reset cuts
abbrev Cut : Option Opened → List ℕ → List (List ℕ) → List (List ℕ) → Opened → List ℕ → List ℕ → Type 0
Cut start output lines more o text whole =
    (first rest before : List ℕ) × (text ≡ first ++ 10 ∷ rest) × Talk start output lines first before
    × Talk (Some (anew o)) [] more rest whole

cut-here : (o : Opened) (line : List ℕ) (more : List (List ℕ)) (output text whole : List ℕ) → length line ≤ greatest_input
    → is_reset line ≡ true → Talk (Some o) output (line ∷ more) text whole → Cut (Some o) output [] more o text whole
cut-here o line more output text whole few reset (own, rest, right, split, later) =
    let begins : heard (Some o) line ≡ Some (anew o) =
    heard-short (Some o) line few ∙ ap Some (if-true (is_reset line) (anew o) _ reset) in
    let none : kept (Some o) line output ≡ [] =
    kept-short (Some o) line output few ∙ if-true (is_reset line) [] output reset in
    let quiet : error (Some o) line ≡ None = error-short (Some o) line few ∙ if-true (is_reset line) None _ reset in
    let mine : AreAnsweredBy o.schema [] own =
    subst (λ x. IsOutputSo x own) begins (subst (λ w. IsOutputSo (heard (Some o) line) (w ++ own)) none right) in
    let empty = no-answer o.schema own mine in
    let nothing : kept (Some o) line output ++ own ≡ [] = λ i. none i ++ empty i in (
      [],
      rest,
      output,
      split ∙ (λ i. answer_text (empty i) (quiet i) ++ rest),
      (refl, refl),
      subst (λ x. Talk x [] more rest whole) begins
          (subst (λ w. Talk (heard (Some o) line) w more rest whole) nothing later),
    )

cut-from : (start : Option Opened) (output : List ℕ) (lines more : List (List ℕ)) (line text whole : List ℕ) (o : Opened)
    → session_after start lines ≡ Some o → length line ≤ greatest_input → is_reset line ≡ true
    → Talk start output (lines ++ line ∷ more) text whole → Cut start output lines more o text whole
cut-from start output [] more line text whole o is few reset talk =
    subst (λ x. Cut x output [] more o text whole) (sym is)
    (cut-here o line more output text whole few reset (subst (λ x. Talk x output (line ∷ more) text whole) is talk))
cut-from start output (l ∷ ls) more line text whole o is few reset (mine, later, right, split, talk) =
    let (first, rest, before, parts, front, back) =
    cut-from (heard start l) (kept start l output ++ mine) ls more line later whole o is few reset talk in
    let said = answer_text mine (error start l) in (
      said ++ first,
      rest,
      before,
      split ∙ ap (λ t. said ++ t) parts ∙ sym (append_assoc said first (10 ∷ rest)),
      (mine, first, right, refl, front),
      back,
    )

pub cut : (lines more : List (List ℕ)) (line text whole : List ℕ) (o : Opened) → session_after None lines ≡ Some o
    → length line ≤ greatest_input → is_reset line ≡ true → Talk None [] (lines ++ line ∷ more) text whole
    → Cut None [] lines more o text whole
cut lines more line text whole o = cut-from None [] lines more line text whole o

-- ---- what is answered of a line's requests

-- where none nests too deep, all are before it
pub all-fit : (rs : List Request) → (HasTooDeep rs → ⊥) → before_too_deep rs ≡ rs
all-fit rs none =
    let few : length rs ≤ length (before_too_deep rs) = omega arith in
    take_all (prefix_len fits rs) rs (omega (arith, few, length-prefix_len fits rs))

pub deep-error : (rs : List Request) → HasTooDeep rs → depth_error rs ≡ Some TooDeep
deep-error rs deep =
    let is : nat_lt (length (before_too_deep rs)) (length rs) ≡ true = grind (arith, nat_tests) in
    if-true _ (Some TooDeep) None is

pub no-depth-error : (rs : List Request) → (HasTooDeep rs → ⊥) → depth_error rs ≡ None
no-depth-error rs none =
    let few : length rs ≤ length (before_too_deep rs) = omega arith in
    let is : nat_lt (length (before_too_deep rs)) (length rs) ≡ false = grind (arith, nat_tests) in
    if-false _ (Some TooDeep) None is

declares-none : (a : Asking) → length a.document.schema.tables ≡ 0 → nat_eq (length a.document.schema.tables) 0 ≡ true
declares-none a none = ap (λ n. nat_eq n 0) none

declares-some : (a : Asking) → 0 < length a.document.schema.tables → nat_eq (length a.document.schema.tables) 0 ≡ false
declares-some a some = grind (arith, nat_tests)

-- ---- the first line

pub opens : (template : Option (Option Data)) (o : Option Asking) (a : Asking) → o ≡ Some a → (HasTooDeep a.document.requests → ⊥)
    → (option_map (opened_as template) o
    ≡ Some (record { schema = a.document.schema; template = template; asked = asked_for a.tenant a.document.requests }))
    × (asking_error None o ≡ None)
opens template o a is none = (
  ap (option_map (opened_as template)) is
      ∙ ap (λ rs. Some (record { schema = a.document.schema; template = template; asked = asked_for a.tenant rs }))
      (all-fit a.document.requests none),
  ap (asking_error None) is ∙ no-depth-error a.document.requests none,
)

pub opens-some : (template : Option (Option Data)) (o : Option Asking) (a : Asking) → o ≡ Some a → HasTooDeep a.document.requests
    → (option_map (opened_as template) o ≡ Some (opened_as template a)) × (asking_error None o ≡ Some TooDeep)
opens-some template o a is deep =
    (ap (option_map (opened_as template)) is, ap (asking_error None) is ∙ deep-error a.document.requests deep)

-- ---- a further line

pub goes-on : (s : Opened) (a : Asking) (o : Option Asking) → o ≡ Some a → length a.document.schema.tables ≡ 0
    → (HasTooDeep a.document.requests → ⊥)
    → (requests_of o ≡ asked_for a.tenant a.document.requests) × (asking_error (Some s) o ≡ None)
goes-on s a o is none shallow =
    let tables = declares-none a none in (
      ap requests_of is ∙ if-true _ (asked_for a.tenant (before_too_deep a.document.requests)) [] tables
          ∙ ap (asked_for a.tenant) (all-fit a.document.requests shallow),
      ap (asking_error (Some s)) is ∙ if-true _ (depth_error a.document.requests) (Some BadDocument) tables
          ∙ no-depth-error a.document.requests shallow,
    )

pub goes-on-some : (s : Opened) (a : Asking) (o : Option Asking) → o ≡ Some a → length a.document.schema.tables ≡ 0
    → HasTooDeep a.document.requests
    → (requests_of o ≡ asked_for a.tenant (before_too_deep a.document.requests))
    × (asking_error (Some s) o ≡ Some TooDeep)
goes-on-some s a o is none deep =
    let tables = declares-none a none in (
      ap requests_of is ∙ if-true _ (asked_for a.tenant (before_too_deep a.document.requests)) [] tables,
      ap (asking_error (Some s)) is ∙ if-true _ (depth_error a.document.requests) (Some BadDocument) tables
          ∙ deep-error a.document.requests deep,
    )

pub goes-on-bad : (s : Opened) (o : Option Asking)
    → ((a : Asking) → o ≡ Some a → 0 < length a.document.schema.tables)
    → (requests_of o ≡ []) × (asking_error (Some s) o ≡ Some BadDocument)
goes-on-bad s None declares = (refl, refl)
goes-on-bad s (Some a) declares =
    let tables = declares-some a (declares a refl) in (
      if-false _ (asked_for a.tenant (before_too_deep a.document.requests)) [] tables,
      if-false _ (depth_error a.document.requests) (Some BadDocument) tables,
    )

-- ---- a whole conversation

-- before the first line
pub told-nothing : (r : Responder) → Knows r None [] → Told r [] []
told-nothing r knows = ([], (refl, refl), knows)

pub conversed-so : {T : Type 0} (Answered Done : List (List ℕ) → List ℕ → Type 0) (es : List Event) (result : Result T Stop)
    → ((lines : List (List ℕ)) (text : List ℕ) → Answered lines text → AreAnswered lines text)
    → ((lines : List (List ℕ)) (text : List ℕ) → Done lines text → AreAnswered lines text)
    → Conversed {T = T} Answered Done es result → Conversed {T = T} AreAnswered AreAnswered es result
conversed-so Answered Done es (Ok x) some all h = record {
  prompt = prompt-weaker Answered AreAnswered some [] [] es h.prompt;
  ends = (h.ends.0, all (all_lines (read_in es)) (written_in es) h.ends.1);
}
conversed-so Answered Done es (Err e) some all h = record {
  prompt = prompt-weaker Answered AreAnswered some [] [] es h.prompt;
  ends = record {
    some = h.ends.some;
    later = h.ends.later;
    rest = h.ends.rest;
    lines = h.ends.lines;
    answered = some h.ends.some (written_in es ++ h.ends.rest) h.ends.answered;
    whole = h.ends.whole;
    read = h.ends.read;
  };
}

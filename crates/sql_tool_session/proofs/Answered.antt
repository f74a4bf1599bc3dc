-- A session that has answered one more request, and what its text is.
use Rattle.std.proofs.Common.{◌≡◌, ◌∙◌, ◌≤◌, ◌<◌, ℕ, ◌+◌, suc, List, [], ◌∷◌, ◌++◌, map, length, Option, None, Some, ap, refl, subst, sym, append_assoc, arith}
use Rattle.std.proofs.lemmas.List.{map-append}
use Rattle.std.specs.BTreeMap.{BTreeMap, IsEmpty, btree_map_len}
use Rattle.sql_schema.specs.Declarations.{Declarations}
use Rattle.sql_tool_document.specs.Documents.{Document, Request}
use Rattle.sql_tool_build.specs.Output.{IsOutput, AreLines, Line, StatementRequest, line_text, lines_text, statement_request}
use Rattle.sql_tool_build.specs.Shared.{OneIdServes}
use Rattle.sql_tool_build.specs.inside.Keys.{HasLine, seen_at}
use Rattle.sql_tool_guard.specs.Output.{AreGuarded, IsGuardedOutput}
use Rattle.sql_tool_guard.specs.Tenants.{Tenant}
use Rattle.sql_rows.specs.declared.cache.RequestKey.{RequestKey}
use Rattle.sql_tool_ids.proofs.Few.{few-lines}
use Rattle.sql_tool_ids.proofs.Placed.{one-id}
use Rattle.sql_tool_ids.proofs.Remembering.{written-more, written-none}
use Rattle.sql_tool_ids.specs.Memory.{own_ids}
use Rattle.sql_tool_ids.specs.inside.Remembering.{AreWrittenAfter, IsSorted}
use Rattle.sql_tool_session.specs.Session.{Asked, AreLinesOf, AreMade, HasAnswered, IsMade, asked_for, capacity_of}
use Rattle.sql_tool_session.specs.declared.session.Session.{Session}

made-more : (schema : Declarations) (asked : List Asked) (rs : List StatementRequest) (a : Asked) (r : StatementRequest)
    → AreMade schema asked rs → IsMade schema a.tenant a.request r → AreMade schema (asked ++ a ∷ []) (rs ++ r ∷ [])
made-more schema [] [] a r all one = (one, tt)
made-more schema [] (s ∷ rs) a r all one = absurd all
made-more schema (b ∷ more) [] a r all one = absurd all
made-more schema (b ∷ more) (s ∷ rs) a r all one = (all.0, made-more schema more rs a r all.1 one)

made-length : (schema : Declarations) (asked : List Asked) (rs : List StatementRequest) → AreMade schema asked rs
    → length rs ≡ length asked
made-length schema [] [] all = refl
made-length schema [] (r ∷ rs) all = absurd all
made-length schema (a ∷ more) [] all = absurd all
made-length schema (a ∷ more) (r ∷ rs) all = ap suc (made-length schema more rs all.1)

-- no lines
pub first_written : (most : ℕ) (schema : Declarations) (seen : BTreeMap RequestKey ℕ) → IsEmpty seen → IsSorted seen
    → (rs : List StatementRequest) × AreMade schema [] rs × AreWrittenAfter most schema seen rs []
first_written most schema seen none sorted = ([], tt, written-none most schema seen none sorted)

-- the lines so far, and one more
pub written_next : (most : ℕ) (schema here : Declarations) (asked : List Asked) (old new after : BTreeMap RequestKey ℕ) (a : Asked) (n : ℕ)
    (text line : List ℕ)
    → n ≡ 1 + length asked → here ≡ schema
    → ((r : StatementRequest) × IsMade here a.tenant a.request r
    × HasLine here r n (seen_at old) (seen_at new) (λ l. line ≡ line_text l))
    → IsSorted new → (most ≤ btree_map_len new → IsEmpty after) → (btree_map_len new < most → after ≡ new)
    → IsSorted after
    → ((rs : List StatementRequest) × AreMade schema asked rs × AreWrittenAfter most schema old rs text)
    → (rs : List StatementRequest) × AreMade schema (asked ++ a ∷ []) rs × AreWrittenAfter most schema after rs (text ++ line)
written_next most schema here asked old new after a n text line number same told sorted full stays ordered (rs, made, written) =
    let (r, is, has) =
    subst
    (λ (w : Declarations). (r : StatementRequest) × IsMade w a.tenant a.request r
    × HasLine w r n (seen_at old) (seen_at new) (λ l. line ≡ line_text l))
    same told in
    let counted : n ≡ 1 + length rs = omega (arith, number, made-length schema asked rs made) in (
      rs ++ r ∷ [],
      made-more schema asked rs a r made is,
      written-more most schema old new after rs n text line r counted written has sorted full stays ordered,
    )

-- requests after requests
pub asked_more : (t : Option Tenant) (asked : List Asked) (some more : List Request)
    → (asked ++ asked_for t some) ++ asked_for t more ≡ asked ++ asked_for t (some ++ more)
asked_more t asked some more =
    append_assoc asked (asked_for t some) (asked_for t more)
    ∙ ap (λ x. asked ++ x) (sym (map-append (λ (q : Request). record { tenant = t; request = q }) some more))

-- ---- what the text is

plain_made : (schema : Declarations) (qs : List Request) (rs : List StatementRequest)
    → AreMade schema (asked_for None qs) rs → rs ≡ map (statement_request schema) qs
plain_made schema [] [] all = refl
plain_made schema [] (r ∷ rs) all = absurd all
plain_made schema (q ∷ qs) [] all = absurd all
plain_made schema (q ∷ qs) (r ∷ rs) all = λ i. all.0 i ∷ plain_made schema qs rs all.1 i

guarded_made : (schema : Declarations) (t : Tenant) (qs : List Request) (rs : List StatementRequest)
    → AreMade schema (asked_for (Some t) qs) rs → AreGuarded schema t qs rs
guarded_made schema t [] [] all = tt
guarded_made schema t [] (r ∷ rs) all = absurd all
guarded_made schema t (q ∷ qs) [] all = absurd all
guarded_made schema t (q ∷ qs) (r ∷ rs) all = (all.0, guarded_made schema t qs rs all.1)

pub answered_lines : (schema : Declarations) (asked : List Asked) (text : List ℕ) (s : Session)
    → HasAnswered schema asked text s
    → (ls : List Line) × AreLinesOf (capacity_of s) schema asked ls × (text ≡ lines_text ls)
answered_lines schema asked text s has =
    let (rs, made, (ls, lines, keeps, is)) = has.written in (ls, (rs, made, lines), is)

pub lines_one_id : (most : ℕ) (schema : Declarations) (asked : List Asked) (ls : List Line) → AreLinesOf most schema asked ls
    → OneIdServes ls
lines_one_id most schema asked ls (rs, made, lines) = one-id most schema rs ls lines

pub lines_output : (most : ℕ) (d : Document) (ls : List Line) → AreLinesOf most d.schema (asked_for None d.requests) ls
    → own_ids 1 ls < most → IsOutput d (lines_text ls)
lines_output most d ls (rs, made, lines) few = (
  ls,
  subst (λ x. AreLines d.schema [] x ls) (plain_made d.schema d.requests rs made)
      (few-lines most d.schema rs ls few lines),
  refl,
)

pub lines_guarded : (most : ℕ) (d : Document) (t : Tenant) (ls : List Line)
    → AreLinesOf most d.schema (asked_for (Some t) d.requests) ls → own_ids 1 ls < most → IsGuardedOutput d t (lines_text ls)
lines_guarded most d t ls (rs, made, lines) few =
    (rs, guarded_made d.schema t d.requests rs made, (ls, few-lines most d.schema rs ls few lines, refl))

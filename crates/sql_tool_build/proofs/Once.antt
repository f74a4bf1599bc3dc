-- A document has at most one output, and what is written for its first requests is a prefix of it.
use Rattle.std.proofs.Common.{◌≡◌, ℕ, List, [], ◌∷◌, ◌++◌, Option, refl, sym, ap, subst, ◌∙◌, append_assoc}
use Rattle.sql_schema.specs.Declarations.{Declarations}
use Rattle.sql_dialect.specs.declared.backend.Dialect.{Dialect}
use Rattle.sql_rules.specs.Rules.{Broken}
use Rattle.sql_rules.specs.Texts.{rule_text}
use Rattle.sql_rules.specs.Types.{columns}
use Rattle.sql_tool_document.specs.Documents.{Document}
use Rattle.sql_rows.proofs.Once.{least-is-one, one-list}
use Rattle.sql_tool_build.proofs.First.{one-id}
use Rattle.sql_tool_build.specs.Ids.{RequestShape, request_shape, IsId}
use Rattle.sql_tool_build.specs.Judgement.{Judgement, Judges, Made, accepts, made, refuses, unmade}
use Rattle.sql_tool_build.specs.Output.{Line, StatementRequest, IsLine, AreLines, IsOutput, IsOutputPrefix, line_shape, line_text, lines_text, statement_requests}

module _ (schema : Declarations) (d : Dialect) where
  one-judgement : (o : Made) (a b : Judgement) → Judges schema d o a → Judges schema d o b → a ≡ b
  one-judgement (unmade why) (refuses m) (refuses n) first second = ap refuses (first ∙ sym second)
  one-judgement (unmade why) (refuses m) (accepts t ts) first second = absurd second
  one-judgement (unmade why) (accepts t ts) b first second = absurd first
  one-judgement (made s) (refuses m) (refuses n) (a, least, is) (b, also, it) =
      ap refuses (is ∙ ap rule_text (least-is-one schema d s a b least also) ∙ sym it)
  one-judgement (made s) (refuses m) (accepts t ts) (a, least, is) (same, accepted) =
      absurd (accepted.accepted a (subst (λ x. Broken a schema d x) same least.broken))
  one-judgement (made s) (accepts t ts) (refuses n) (same, accepted) (b, also, it) =
      absurd (accepted.accepted b (subst (λ x. Broken b schema d x) same also.broken))
  one-judgement (made s) (accepts t ts) (accepts u us) (same, accepted) (also, again) =
      let statements : t ≡ u = sym same ∙ also in
      let types = one-list ts us (accepted.types ∙ ap columns statements ∙ sym again.types) in
      λ i. accepts (statements i) (types i)

  one-line : (earlier : List (Option RequestShape)) (r : StatementRequest) (a b : Line) → IsLine schema earlier r a
      → IsLine schema earlier r b → r.dialect ≡ d → a ≡ b
  one-line earlier r a b first second at =
      let dialects = first.dialect ∙ sym second.dialect in
      let judgements =
      one-judgement r.statement a.judgement b.judgement
      (subst (λ e. Judges schema e r.statement a.judgement) at first.judged)
      (subst (λ e. Judges schema e r.statement b.judgement) at second.judged) in
      let shapes : line_shape a ≡ line_shape b = λ i. request_shape (dialects i) (judgements i) in
      let ids =
      one-id (earlier ++ line_shape b ∷ []) (line_shape b) a.id b.id
      (subst (λ o. IsId (earlier ++ o ∷ []) o a.id) shapes first.id) second.id in
      λ i. record { dialect = dialects i; judgement = judgements i; id = ids i }

-- the lines of the first requests are the first lines of all
first-lines : (schema : Declarations) (earlier : List (Option RequestShape)) (rs later : List StatementRequest)
    (ls all : List Line)
    → AreLines schema earlier rs ls → AreLines schema earlier (rs ++ later) all → (rest : List Line) × (all ≡ ls ++ rest)
first-lines schema earlier [] later [] all some whole = (all, refl)
first-lines schema earlier [] later (l ∷ ls) all some whole = absurd some
first-lines schema earlier (r ∷ rs) later [] all some whole = absurd some
first-lines schema earlier (r ∷ rs) later (l ∷ ls) [] some whole = absurd whole
first-lines schema earlier (r ∷ rs) later (l ∷ ls) (k ∷ all) some whole =
    let same = one-line schema r.dialect earlier r k l whole.0 some.0 refl in
    let (rest, is) =
    first-lines schema (earlier ++ line_shape l ∷ []) rs later ls all some.1
    (subst (λ x. AreLines schema (earlier ++ line_shape x ∷ []) (rs ++ later) all) same whole.1) in
    (rest, λ i. same i ∷ is i)

text-append : (ls ks : List Line) → lines_text (ls ++ ks) ≡ lines_text ls ++ lines_text ks
text-append [] ks = refl
text-append (l ∷ ls) ks =
    ap (λ t. line_text l ++ t) (text-append ls ks) ∙ sym (append_assoc (line_text l) (lines_text ls) (lines_text ks))

pub prefix-of-output : (d : Document) (prefix whole : List ℕ) → IsOutputPrefix d prefix → IsOutput d whole
    → (rest : List ℕ) × (whole ≡ prefix ++ rest)
prefix-of-output d prefix whole (rs, later, cut, (ls, lines, (more, is))) (all, each, it) =
    let (rest, split) =
    first-lines d.schema [] rs later ls all lines (subst (λ q. AreLines d.schema [] q all) cut each) in (
      more ++ lines_text rest,
      it ∙ ap lines_text split ∙ text-append ls rest ∙ ap (λ t. t ++ lines_text rest) is
          ∙ append_assoc prefix more (lines_text rest),
    )

-- requests have at most one list of lines
pub same-lines : (schema : Declarations) (earlier : List (Option RequestShape)) (rs : List StatementRequest)
    (ls ks : List Line)
    → AreLines schema earlier rs ls → AreLines schema earlier rs ks → ls ≡ ks
same-lines schema earlier [] [] [] first second = refl
same-lines schema earlier [] [] (k ∷ ks) first second = absurd second
same-lines schema earlier [] (l ∷ ls) ks first second = absurd first
same-lines schema earlier (r ∷ rs) [] ks first second = absurd first
same-lines schema earlier (r ∷ rs) (l ∷ ls) [] first second = absurd second
same-lines schema earlier (r ∷ rs) (l ∷ ls) (k ∷ ks) first second =
    let head = one-line schema r.dialect earlier r k l second.0 first.0 refl in
    let tail =
    same-lines schema (earlier ++ line_shape l ∷ []) rs ls ks first.1
    (subst (λ x. AreLines schema (earlier ++ line_shape x ∷ []) rs ks) head second.1) in
    λ i. sym head i ∷ tail i

pub one-output : (d : Document) (a b : List ℕ) → IsOutput d a → IsOutput d b → a ≡ b
one-output d a b (ls, first, is) (ks, second, it) =
    is ∙ ap lines_text (same-lines d.schema [] (statement_requests d) ls ks first second) ∙ sym it

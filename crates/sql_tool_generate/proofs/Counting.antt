-- What counters tell of one more line.
use Rattle.std.proofs.Common.{◌≡◌, ◌∙◌, ℕ, zero, suc, ◌+◌, ◌≤◌, Bool, true, false, cond, List, [], ◌∷◌, ◌++◌, length, Option, None, Some, option_map, unwrap_or, bytes_eq, refl, sym, ap, subst, arith}
use Rattle.std.proofs.lemmas.Slice.Eq.{bytes_eq-Decides}
use Rattle.std.specs.BTreeMap.{get_by_text}
use Rattle.sql_schema.specs.Declarations.{Declarations}
use Rattle.sql_schema.specs.Refusals.{least_refusal}
use Rattle.sql_schema.specs.declared.types.SqlType.{SqlType}
use Rattle.sql_node.specs.Tree.{Statement}
use Rattle.sql_rules.specs.Texts.{rule_text}
use Rattle.sql_rules.specs.declared.rule.Rule.{Rule}
use Rattle.sql_check.specs.Compiled.{IsBuilt, IsLeast, IsRead, sql_of, binds_of}
use Rattle.sql_check.specs.declared.built.Built.{Built}
use Rattle.sql_tool_build.proofs.Judging.{is-accepted, kept-none}
use Rattle.sql_tool_build.specs.Judgement.{Judges, accepts, made, refuses}
use Rattle.sql_tool_build.specs.Output.{Line, StatementRequest}
use Rattle.sql_rows.specs.declared.cache.RequestKey.{RequestKey}
use Rattle.sql_tool_build.specs.inside.Keys.{HasLine, IsKept, id_found, keyed, line_found}
use Rattle.sql_tool_generate.proofs.Totals.{total-more, cut-raised, grown, same, grown-ids, same-ids, grown-length}
use Rattle.sql_tool_generate.specs.Counts.{one_if, is_accepted, is_refused_as, binds_in, bytes_in, is_own, refused_as}
use Rattle.sql_tool_generate.specs.Summary.{cut}
use Rattle.sql_tool_generate.specs.declared.counts.Counts.{Counts}
use Rattle.sql_tool_generate.specs.inside.Counting.{kept, raised, HasRefusals, IsRaisedAt, IsWithRefused, with_accepted, TellMore}

-- ---- look-ups by name

unwrap-kept : (m : ℕ) → unwrap_or (kept m) 0 ≡ m
unwrap-kept zero = refl
unwrap-kept (suc m) = refl

kept-some : (m : ℕ) → 1 ≤ m → Some m ≡ kept m
kept-some zero h = absurd (omega (arith, h))
kept-some (suc m) h = refl

-- a look-up by a name that refused one more
refusals-raised : (f g : List ℕ → Option ℕ) (ls : List Line) (l : Line) (name : List ℕ) → l.judgement ≡ refuses name
    → HasRefusals f ls → IsRaisedAt name f g → HasRefusals g (ls ++ l ∷ [])
refusals-raised f g ls l name judged told is q = is q ∙ here (bytes_eq name q) refl
  where
    adds : one_if (is_refused_as q l.judgement) ≡ one_if (bytes_eq name q)
    adds = ap (λ j. one_if (is_refused_as q j)) judged

    more : refused_as q (ls ++ l ∷ []) ≡ refused_as q ls + one_if (is_refused_as q l.judgement)
    more = total-more (λ k. one_if (is_refused_as q k.judgement)) ls l

    here : (b : Bool) → bytes_eq name q ≡ b
        → cond b (Some (raised (unwrap_or (f name) 0) 1)) (f q) ≡ kept (cut (refused_as q (ls ++ l ∷ [])))
    here true found =
        let one : name ≡ q = (bytes_eq-Decides name q).0 found in
        let before : unwrap_or (f name) 0 ≡ cut (refused_as q ls) =
        ap (λ o. unwrap_or o 0) (told name) ∙ unwrap-kept (cut (refused_as name ls)) ∙ ap (λ x. cut (refused_as x ls)) one in
        let plus : one_if (bytes_eq name q) ≡ 1 = ap one_if found in
        let sum : refused_as q ls + 1 ≡ refused_as q (ls ++ l ∷ []) = omega (arith, more, adds, plus) in
        let now : raised (unwrap_or (f name) 0) 1 ≡ cut (refused_as q (ls ++ l ∷ [])) =
        ap (λ x. raised x 1) before ∙ cut-raised (refused_as q ls) 1 ∙ ap cut sum in
        let some : 1 ≤ cut (refused_as q (ls ++ l ∷ [])) = omega (arith, sum) in
        ap Some now ∙ kept-some (cut (refused_as q (ls ++ l ∷ []))) some
    here false found =
        let none : one_if (bytes_eq name q) ≡ 0 = ap one_if found in
        let sum : refused_as q ls ≡ refused_as q (ls ++ l ∷ []) = omega (arith, more, adds, none) in
        told q ∙ ap (λ m. kept (cut m)) sum

-- a look-up by names of which none refused the line
refusals-same : (f : List ℕ → Option ℕ) (ls : List Line) (l : Line) (s : Statement) (ts : List SqlType)
    → l.judgement ≡ accepts s ts → HasRefusals f ls → HasRefusals f (ls ++ l ∷ [])
refusals-same f ls l s ts judged told q =
    let none : one_if (is_refused_as q l.judgement) ≡ 0 = ap (λ j. one_if (is_refused_as q j)) judged in
    let more = total-more (λ k. one_if (is_refused_as q k.judgement)) ls l in
    let sum : refused_as q ls ≡ refused_as q (ls ++ l ∷ []) = omega (arith, more, none) in
    told q ∙ ap (λ m. kept (cut m)) sum

-- ---- one more line

abbrev counts_accepted : Line → ℕ
counts_accepted l = one_if (is_accepted l.judgement)

abbrev counts_binds : Line → ℕ
counts_binds l = binds_in l.dialect l.judgement

abbrev counts_bytes : Line → ℕ
counts_bytes l = bytes_in l.dialect l.judgement

module _ (n : ℕ) (old new : Counts) (l : Line) where
  tell-accepted : (s : Statement) (ts : List SqlType) → l.judgement ≡ accepts s ts
      → new ≡ with_accepted (length (binds_of l.dialect s)) (length (sql_of l.dialect s)) (is_own n l.id) old
      → TellMore n old new l
  tell-accepted s ts judged is ls number told =
      record {
        accepted =
            grown ls l old.accepted new.accepted counts_accepted 1 told.accepted (ap (λ c. c.accepted) is)
            (ap (λ j. one_if (is_accepted j)) judged);
        binds =
            grown ls l old.binds new.binds counts_binds (length (binds_of l.dialect s)) told.binds
            (ap (λ c. c.binds) is) (ap (λ j. binds_in l.dialect j) judged);
        bytes =
            grown ls l old.bytes new.bytes counts_bytes (length (sql_of l.dialect s)) told.bytes
            (ap (λ c. c.bytes) is) (ap (λ j. bytes_in l.dialect j) judged);
        ids =
            grown-ids ls l old.ids new.ids n (one_if (is_own n l.id)) number told.ids (ap (λ c. c.ids) is) refl;
        refused =
            subst (λ m. HasRefusals (get_by_text m) (ls ++ l ∷ [])) (sym (ap (λ c. c.refused) is))
            (refusals-same (get_by_text old.refused) ls l s ts judged told.refused);
        requests = grown-length ls l old.requests new.requests told.requests (ap (λ c. c.requests) is);
      }

  tell-refused : (name : List ℕ) → l.judgement ≡ refuses name → l.id ≡ None → IsWithRefused name old new
      → TellMore n old new l
  tell-refused name judged none is ls number told =
      record {
        accepted =
            same ls l old.accepted new.accepted counts_accepted told.accepted is.accepted
            (ap (λ j. one_if (is_accepted j)) judged);
        binds =
            same ls l old.binds new.binds counts_binds told.binds is.binds (ap (λ j. binds_in l.dialect j) judged);
        bytes =
            same ls l old.bytes new.bytes counts_bytes told.bytes is.bytes (ap (λ j. bytes_in l.dialect j) judged);
        ids = same-ids ls l old.ids new.ids n number told.ids is.ids (ap (λ o. one_if (is_own n o)) none);
        refused =
            refusals-raised (get_by_text old.refused) (get_by_text new.refused) ls l name judged told.refused is.refused;
        requests = grown-length ls l old.requests new.requests told.requests is.requests;
      }

-- ---- the line of a request

module _ (schema : Declarations) (sound : least_refusal schema ≡ None) (r : StatementRequest) (n : ℕ) (f : RequestKey → Option ℕ) (old new : Counts) where
  pub accepted-counted : (s : Statement) (b : Built) (g : RequestKey → Option ℕ) → made s ≡ r.statement
      → IsBuilt schema r.dialect s b → IsRead r.dialect s b.sql b.binds
      → new
      ≡ with_accepted (length b.binds) (length b.sql) (is_own n (id_found f n (option_map (keyed r.dialect) b.id))) old
      → IsKept f g n (option_map (keyed r.dialect) b.id) → HasLine schema r n f g (TellMore n old new)
  accepted-counted s b g some built read is kept =
      let d = r.dialect in
      let ts = b.sql_types in (
        accepts s ts,
        subst (λ o. Judges schema d o (accepts s ts)) some (
          refl,
          is-accepted schema d s b built read,
        ),
        tell-accepted n old new (line_found f n d (accepts s ts)) s ts refl
            (is ∙ (λ i. with_accepted (length (built.binds i)) (length (built.sql i)) (is_own n (id_found f n (option_map (keyed d) (built.id i)))) old)),
        subst (λ k. IsKept f g n (option_map (keyed d) k)) built.id kept,
        sound,
      )

  pub refused-counted : (s : Statement) (rule : Rule) → made s ≡ r.statement → IsLeast rule schema r.dialect s
      → IsWithRefused (rule_text rule) old new → HasLine schema r n f f (TellMore n old new)
  refused-counted s rule some least is = (
    refuses (rule_text rule),
    subst (λ o. Judges schema r.dialect o (refuses (rule_text rule))) some (rule, least, refl),
    tell-refused n old new (line_found f n r.dialect (refuses (rule_text rule))) (rule_text rule) refl refl is,
    kept-none f n,
    sound,
  )

-- The id that the program finds is the line's id. Lines of one id are of statements of one shape, and the other way round.
use Rattle.std.proofs.Common.{◌≡◌, ◌↔◌, ◌+◌, ℕ, Bool, true, false, cond, Option, Some, None, option_map, List, [], ◌∷◌, ◌++◌, length, map, refl, sym, ap, subst, ◌∙◌, append_assoc, inl, inr, arith}
use Rattle.std.proofs.lemmas.List.{length-map, map-append}
use Rattle.std.specs.Option.{unwrap_or}
use Rattle.sql_schema.specs.Declarations.{Declarations}
use Rattle.sql_schema.specs.Refusals.{least_refusal}
use Rattle.sql_schema.specs.declared.types.SqlType.{SqlType}
use Rattle.sql_dialect.specs.declared.backend.Dialect.{Dialect}
use Rattle.sql_node.specs.Tree.{Statement}
use Rattle.sql_flat.specs.Flat.{flat_of}
use Rattle.sql_flat.specs.declared.kind.FlatNode.{FlatNode}
use Rattle.sql_key.specs.Keys.{id_of, key}
use Rattle.sql_shape.specs.Ids.{has_id}
use Rattle.sql_shape.specs.Shape.{shape}
use Rattle.sql_shape.proofs.IdLaws.{same-id}
use Rattle.sql_key.proofs.Shapes.{same-shape}
use Rattle.sql_rules_law.specs.Blank.{blank_bound}
use Rattle.sql_rules.specs.Lists.{AnyOf, Each}
use Rattle.sql_rules.specs.Rules.{Broken}
use Rattle.sql_rules.specs.declared.rule.Rule.TheVariants.{UnknownName}
use Rattle.sql_rules_law.proofs.Lists.{each_append}
use Rattle.sql_rules_check.proofs.NamesTell.{all-known}
use Rattle.sql_rules_law.proofs.OneText as one
use Rattle.sql_rules_law.proofs.SafeLaws.{safe_alike}
use Rattle.sql_rules_law.proofs.TypeLaws as columns
use Rattle.sql_check.specs.Compiled.{sql_of, binds_of, is_safe_in}
use Rattle.sql_tool_build.proofs.First.{none_some, first-found, one-id, one-own, id-longer}
use Rattle.sql_tool_build.proofs.Keys.{index-told}
use Rattle.sql_tool_build.specs.Ids.{RequestShape, request_shape, IsFirst, IsId}
use Rattle.sql_tool_build.specs.Judgement.{Judgement, Judges, Made, accepts, made, refuses, unmade}
use Rattle.sql_tool_build.specs.Output.{Line, StatementRequest, AreLines, line_shape}
use Rattle.sql_tool_build.specs.Shared.{OneIdServes, OneShapeOneId}
use Rattle.sql_rows.specs.declared.cache.RequestKey.{RequestKey}
use Rattle.sql_rows.specs.inside.Known.{AreKnown, IsKnown}
use Rattle.sql_rows.proofs.Known.{exact-pair, key-unknown}
use Rattle.sql_tool_build.specs.inside.Keys.{id_found, index_from, keyed, line_key, request_key, same_key, Tells}

each_weaker : {X : Type 0} {P Q : X → Type 0} → ((x : X) → P x → Q x) → (xs : List X) → Each P xs → Each Q xs
each_weaker f [] h = tt
each_weaker f (x ∷ xs) h = (f x h.0, each_weaker f xs h.1)

abbrev shaped : Dialect → Statement → RequestShape
shaped d s = record { dialect = d; shape = shape s }

-- ---- keys are equal where shapes are

key-shape : (d e : Dialect) (s t : Statement) → keyed e (key t) ≡ keyed d (key s) → shaped e t ≡ shaped d s
key-shape d e s t h =
    let shapes = (same-shape t s).0 (ap (λ k. k.key) h) in
    λ i. record { dialect = (h i).dialect; shape = shapes i }

shape-key : (d e : Dialect) (s t : Statement) → shaped e t ≡ shaped d s → keyed e (key t) ≡ keyed d (key s)
shape-key d e s t h =
    let keys = (same-shape t s).1 (ap (λ k. k.shape) h) in
    λ i. keyed (h i).dialect (keys i)

alike-by : (d e : Dialect) (s t : Statement) (b : Bool)
    → (option_map (keyed e) (cond b (Some (key t)) None) ≡ Some (keyed d (key s)))
    ↔ (cond b (Some (shaped e t)) None ≡ Some (shaped d s))
alike-by d e s t true =
    (λ h. let k : keyed e (key t) ≡ keyed d (key s) = cc in ap Some (key-shape d e s t k), λ h. let k : shaped e t ≡ shaped d s = cc in ap Some (shape-key d e s t k))
alike-by d e s t false = (λ h. absurd (none_some _ h), λ h. absurd (none_some _ h))

alike : (d e : Dialect) (s : Statement) (j : Judgement)
    → (request_key e j ≡ Some (keyed d (key s))) ↔ (request_shape e j ≡ Some (shaped d s))
alike d e s (refuses name) = (λ h. absurd (none_some _ h), λ h. absurd (none_some _ h))
alike d e s (accepts t ts) = alike-by d e s t (has_id t)

-- ---- the id that is found

-- the names of the line's key, if it has one, are the schema's
abbrev pub LineKnown : Declarations → Line → Type 0
LineKnown schema l = (q : RequestKey) → line_key l ≡ Some q → IsKnown schema q

accepted-known : (schema : Declarations) (d e : Dialect) (s : Statement) → ¬ Broken UnknownName schema e s
    → (q : RequestKey) → option_map (keyed d) (id_of s) ≡ Some q → IsKnown schema q
accepted-known schema d e s h q is = by-id (id_of s) refl is
  where
    by-id : (o : Option (List FlatNode)) → id_of s ≡ o → option_map (keyed d) o ≡ Some q → IsKnown schema q
    by-id None at one = absurd (none_some q one)
    by-id (Some k) at one =
        let same : k ≡ q.key = ap (λ p. p.key) (let it : keyed d k ≡ q = cc in it) in
        subst (AreKnown schema) same (key-unknown schema s k at ∙ all-known s (flat_of s) schema e refl h)

pub judged-known : (schema : Declarations) (d e : Dialect) (m : Made) (j : Judgement) → Judges schema e m j
    → (id : Option ℕ) → LineKnown schema (record { dialect = d; judgement = j; id = id })
judged-known schema d e m (refuses name) h id q is = absurd (none_some q is)
judged-known schema d e (unmade why) (accepts t ts) h id q is = absurd h
judged-known schema d e (made s) (accepts t ts) h id q is =
    accepted-known schema d e t (h.1.accepted UnknownName) q is

pub lines-known : (schema : Declarations) (earlier : List (Option RequestShape)) (rs : List StatementRequest)
    (ls : List Line)
    → AreLines schema earlier rs ls → Each (LineKnown schema) ls
lines-known schema earlier [] [] h = tt
lines-known schema earlier [] (l ∷ ls) h = absurd h
lines-known schema earlier (r ∷ rs) [] h = absurd h
lines-known schema earlier (r ∷ rs) (l ∷ ls) h = (
  judged-known schema l.dialect r.dialect r.statement l.judgement h.0.judged l.id,
  lines-known schema (earlier ++ line_shape l ∷ []) rs ls h.1,
)

module _ (schema : Declarations) (sound : least_refusal schema ≡ None) (f : RequestKey → Option ℕ) (ls : List Line) (known : Each (LineKnown schema) ls) (n : ℕ) (number : n ≡ 1 + length ls) (tells : Tells f (map line_key ls)) where
  -- `==` tells the keys of the lines so far from one more
  each-told : (k : RequestKey) → IsKnown schema k → (l : Line) → LineKnown schema l → (q : RequestKey)
      → line_key l ≡ Some q → same_key q k ≡ true → q ≡ k
  each-told k h l g q is same = exact-pair schema sound q k (g q is) h same

  found-first : (d : Dialect) (s : Statement) (ts : List SqlType)
      → LineKnown schema (record { dialect = d; judgement = accepts s ts; id = None }) → has_id s ≡ true
      → IsFirst (unwrap_or (f (keyed d (key s))) n) (map line_shape ls ++ Some (shaped d s) ∷ []) (shaped d s)
  found-first d s ts mine has =
      let k = keyed d (key s) in
      let own : Line = record { dialect = d; judgement = accepts s ts; id = None } in
      let one_key : line_key own ≡ Some k = ap (λ b. option_map (keyed d) (cond b (Some (key s)) None)) has in
      let one_shape : line_shape own ≡ Some (shaped d s) = ap (λ b. cond b (Some (shaped d s)) None) has in
      let keys : map line_key (ls ++ own ∷ []) ≡ map line_key ls ++ Some k ∷ [] =
      map-append line_key ls (own ∷ []) ∙ ap (λ o. map line_key ls ++ o ∷ []) one_key in
      let shapes : map line_shape (ls ++ own ∷ []) ≡ map line_shape ls ++ Some (shaped d s) ∷ [] =
      map-append line_shape ls (own ∷ []) ∙ ap (λ o. map line_shape ls ++ o ∷ []) one_shape in
      let told = index-told f (map line_key ls) [] k n tells (number ∙ ap (λ m. 1 + m) (sym (length-map ls line_key))) in
      let (i, at, stands) =
      first-found line_key line_shape k (shaped d s) (λ l. alike d l.dialect s l.judgement) 1 (ls ++ own ∷ []) _
      (each_weaker (each-told k (mine k one_key)) (ls ++ own ∷ [])
      (each_append (LineKnown schema) ls (own ∷ []) known (mine, tt)))
      (ap (λ xs. index_from 1 xs k) keys ∙ sym told) in
      subst (λ xs. IsFirst (unwrap_or (f k) n) xs (shaped d s)) shapes
      (i, let next : unwrap_or (f k) n ≡ i + 1 = at ∙ add-one i in next, stands.0, stands.1)
    where
      add-one : (i : ℕ) → 1 + i ≡ i + 1
      add-one i = omega arith

  found-by : (d : Dialect) (s : Statement) (ts : List SqlType)
      → LineKnown schema (record { dialect = d; judgement = accepts s ts; id = None }) → (b : Bool) → has_id s ≡ b
      → IsId (map line_shape ls ++ cond b (Some (shaped d s)) None ∷ []) (cond b (Some (shaped d s)) None)
      (id_found f n (option_map (keyed d) (cond b (Some (key s)) None)))
  found-by d s ts mine true has = found-first d s ts mine has
  found-by d s ts mine false has = refl

  -- the id that a look-up of the lines so far gives to one more
  pub found-id : (d : Dialect) (j : Judgement)
      → LineKnown schema (record { dialect = d; judgement = j; id = None })
      → IsId (map line_shape ls ++ request_shape d j ∷ []) (request_shape d j) (id_found f n (request_key d j))
  found-id d (refuses name) mine = refl
  found-id d (accepts s ts) mine = found-by d s ts mine (has_id s) refl

-- ---- the ids of lines, all in one list of shapes

line-first : (schema : Declarations) (earlier : List (Option RequestShape)) (rs : List StatementRequest) (ls : List Line)
    (l : Line)
    → AreLines schema earlier rs ls → AnyOf (λ x. x ≡ l) ls
    → IsId (earlier ++ map line_shape ls) (line_shape l) l.id
line-first schema earlier rs [] l h there = absurd there
line-first schema earlier [] (x ∷ ls) l h there = absurd h
line-first schema earlier (r ∷ rs) (x ∷ ls) l h (inl same) =
    subst (λ y. IsId (earlier ++ line_shape x ∷ map line_shape ls) (line_shape y) y.id) same
    (subst (λ xs. IsId xs (line_shape x) x.id) (append_assoc earlier (line_shape x ∷ []) (map line_shape ls))
    (id-longer (earlier ++ line_shape x ∷ []) (map line_shape ls) (line_shape x) x.id h.0.id))
line-first schema earlier (r ∷ rs) (x ∷ ls) l h (inr later) =
    subst (λ xs. IsId xs (line_shape l) l.id) (append_assoc earlier (line_shape x ∷ []) (map line_shape ls))
    (line-first schema (earlier ++ line_shape x ∷ []) rs ls l h.1 later)

-- an accepted line with an id is of a statement that has one
own-shape : (xs : List (Option RequestShape)) (d : Dialect) (s : Statement) (n : ℕ) (b : Bool)
    → IsId xs (cond b (Some (shaped d s)) None) (Some n) → (b ≡ true) × IsFirst n xs (shaped d s)
own-shape xs d s n true h = (refl, h)
own-shape xs d s n false h = absurd (none_some n (sym h))

module _ (schema : Declarations) (rs : List StatementRequest) (ls : List Line) (lines : AreLines schema [] rs ls) where
  pub one-id-serves : OneIdServes ls
  one-id-serves d e s t ts us n first second =
      let xs = map line_shape ls in
      let (has, mine) = own-shape xs d s n (has_id s) (line-first schema [] rs ls _ lines first) in
      let (also, other) = own-shape xs e t n (has_id t) (line-first schema [] rs ls _ lines second) in
      let same = one-own xs (shaped d s) (shaped e t) n mine other in
      let dialects = ap (λ k. k.dialect) same in
      let shapes = ap (λ k. k.shape) same in
      record {
        dialect = dialects;
        shapes = shapes;
        text = one.text d s t shapes ∙ ap (λ x. sql_of x t) dialects;
        safe = safe_alike d s t shapes ∙ ap (λ x. is_safe_in x t) dialects;
        values = one.values d s t shapes ∙ ap (λ x. map blank_bound (binds_of x t)) dialects;
        types = columns.types s t shapes has;
      }

  pub one-shape-one-id : OneShapeOneId ls
  one-shape-one-id d s t ts us m n first second h =
      let xs = map line_shape ls in
      let same : request_shape d (accepts s ts) ≡ request_shape d (accepts t us) =
      λ i. cond (same-id s t h i) (Some (record { dialect = d; shape = h i })) None in
      one-id xs (request_shape d (accepts s ts)) m n (line-first schema [] rs ls _ lines first)
      (subst (λ o. IsId xs o n) (sym same) (line-first schema [] rs ls _ lines second))

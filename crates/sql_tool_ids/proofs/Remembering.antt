-- The program's map has what is remembered.
use Rattle.std.proofs.Common.{◌≡◌, ◌∙◌, ◌≤◌, ◌<◌, ◌+◌, ◌||◌, ℕ, suc, Bool, true, false, cond, Option, Some, None, List, [], ◌∷◌, ◌++◌, length, map, refl, sym, ap, ap₂, subst, arith}
use Rattle.std.specs.BTreeMap.{BTreeMap, IsEmpty, btree_map_len, is_at}
use Rattle.std.specs.List.{AllByRecursion}
use Rattle.std.specs.Map.{keys_of, lookup}
use Rattle.std.specs.Option.{is_some, option_or, unwrap_or}
use Rattle.std.specs.Ordering.{eq_by_cmp}
use Rattle.std.specs.Prelude.{nat_eq, nat_le}
use Rattle.std.proofs.lemmas.Bool.Decides.{nat_tests}
use Rattle.std.proofs.lemmas.Cmp.{eq_by_cmp_equiv}
use Rattle.std.proofs.lemmas.List.{length-map, map-append}
use Rattle.std.proofs.lemmas.Map.{none_passes_from_lookup}
use Rattle.std.proofs.lemmas.Map.Entries.{length-keys_of}
use Rattle.std.proofs.lemmas.Map.Keys.{IsDistinct-cons, IsDistinct-from_sorted}
use Rattle.std.proofs.lemmas.Map.Made.{is_some-lookup, length-from_same_keys}
use Rattle.sql_schema.specs.Declarations.{Declarations}
use Rattle.sql_schema.specs.Refusals.{least_refusal}
use Rattle.sql_dialect.specs.declared.backend.Dialect.TheVariants.{Pg}
use Rattle.sql_rules.specs.Lists.{Each}
use Rattle.sql_dialect.specs.declared.backend.Dialect.{Dialect}
use Rattle.sql_rules_law.proofs.Lists.{each_append}
use Rattle.sql_rows.specs.declared.cache.RequestKey.{RequestKey}
use Rattle.sql_rows.specs.contracts.cache.NamedRequestOrd.TheImpl as key_ord
use Rattle.sql_rows.specs.contracts.cache.NamedRequestOrd.TheImpl.Laws.{matches_eq-law, total-law}
use Rattle.sql_tool_build.proofs.First.{none_some}
use Rattle.sql_tool_build.proofs.Ids.{LineKnown, judged-known}
use Rattle.sql_tool_build.proofs.Keys.{blind}
use Rattle.sql_tool_build.proofs.Lines.{line-found, line-kept, text-more}
use Rattle.sql_tool_build.specs.Ids.{RequestShape}
use Rattle.sql_tool_build.specs.Judgement.{Judgement, Judges, Made, refuses, unmade}
use Rattle.sql_tool_build.specs.Output.{IsLine, Line, StatementRequest, line_shape, line_text}
use Rattle.sql_tool_build.specs.inside.Keys.{HasLine, IsKept, id_found, index_from, line_found, line_key, request_key, same_key, seen_at}
use Rattle.sql_tool_ids.proofs.Few.{after-length, after-more, lines-length, lines-more}
use Rattle.sql_tool_ids.specs.Memory.{Memory, after_lines, forgotten, is_own, learnt, no_memory, within}
use Rattle.sql_tool_ids.specs.inside.Remembering.{AreWrittenAfter, IsSorted, Remembers}

abbrev Seen : Type 0
Seen = BTreeMap RequestKey ℕ

-- ---- how many keys a map has

same-keys : (m n : Seen) → IsSorted m → IsSorted n → ((q : RequestKey) → is_some (seen_at m q) ≡ is_some (seen_at n q))
    → btree_map_len m ≡ btree_map_len n
same-keys m n s t h =
    let cmp = (key_ord.ghosts).cmp in
    sym (length-keys_of m.entries)
    ∙ length-from_same_keys (eq_by_cmp_equiv total-law) (keys_of m.entries) (keys_of n.entries)
    (IsDistinct-from_sorted cmp (keys_of m.entries) s) (IsDistinct-from_sorted cmp (keys_of n.entries) t)
    (λ q. sym (is_some-lookup (is_at (cmp q)) m.entries) ∙ h q ∙ is_some-lookup (is_at (cmp q)) n.entries)
    ∙ length-keys_of n.entries

over-keys : (test : RequestKey → Bool) (es : List (RequestKey × ℕ)) → AllByRecursion (λ e. test e.0 ≡ false) es
    → AllByRecursion (λ k. test k ≡ false) (keys_of es)
over-keys test [] h = tt
over-keys test (e ∷ es) h = (h.0, over-keys test es h.1)

new-key : (m n : Seen) (k : RequestKey) → IsSorted m → IsSorted n → seen_at m k ≡ None
    → ((q : RequestKey) → is_some (seen_at n q) ≡ (eq_by_cmp (key_ord.ghosts).cmp q k || is_some (seen_at m q)))
    → btree_map_len n ≡ 1 + btree_map_len m
new-key m n k s t none h =
    let cmp = (key_ord.ghosts).cmp in
    let ks = keys_of m.entries in
    let apart = over-keys (is_at (cmp k)) m.entries (none_passes_from_lookup (is_at (cmp k)) m.entries none) in
    let longer : length (keys_of n.entries) ≡ length (k ∷ ks) =
    length-from_same_keys (eq_by_cmp_equiv total-law) (keys_of n.entries) (k ∷ ks)
    (IsDistinct-from_sorted cmp (keys_of n.entries) t)
    (IsDistinct-cons (eq_by_cmp cmp) k ks apart (IsDistinct-from_sorted cmp ks s))
    (λ q. sym (is_some-lookup (is_at (cmp q)) n.entries) ∙ h q
    ∙ ap (λ b. eq_by_cmp cmp q k || b) (is_some-lookup (is_at (cmp q)) m.entries)) in
    omega (arith, longer, length-keys_of m.entries, length-keys_of n.entries)

-- ---- one more key

kept-none : (f g : RequestKey → Option ℕ) (n : ℕ) → IsKept f g n None → (q : RequestKey) → is_some (g q) ≡ is_some (f q)
kept-none f g n kept q = ap is_some (kept q) ∙ by (f q)
  where
    by : (o : Option ℕ) → is_some (option_or o None) ≡ is_some o
    by None = refl
    by (Some x) = refl

kept-some : (f g : RequestKey → Option ℕ) (k : RequestKey) (n : ℕ) → IsKept f g n (Some k) → (q : RequestKey)
    → is_some (g q) ≡ (same_key k q || is_some (f q))
kept-some f g k n kept q = ap is_some (kept q) ∙ by (f q) (same_key k q)
  where
    by : (o : Option ℕ) (b : Bool) → is_some (option_or o (cond b (Some n) None)) ≡ (b || is_some o)
    by None true = refl
    by None false = refl
    by (Some x) true = refl
    by (Some x) false = refl

turned : (k q : RequestKey) → same_key k q ≡ eq_by_cmp (key_ord.ghosts).cmp q k
turned k q = matches_eq-law k q ∙ (eq_by_cmp_equiv total-law).symm k q

-- a key that is there already
found-again : (seen : Seen) (k : RequestKey) (p : ℕ) → seen_at seen k ≡ Some p → (q : RequestKey)
    → (same_key k q || is_some (seen_at seen q)) ≡ is_some (seen_at seen q)
found-again seen k p at q = by (same_key k q) refl
  where
    by : (b : Bool) → same_key k q ≡ b → (b || is_some (seen_at seen q)) ≡ is_some (seen_at seen q)
    by true is = ap is_some (sym at ∙ blind seen k q is)
    by false is = refl

index-below : (n : ℕ) (keys : List (Option RequestKey)) (q : RequestKey) (p : ℕ) → index_from n keys q ≡ Some p
    → p < n + length keys
index-below n [] q p h = absurd (none_some p h)
index-below n (None ∷ keys) q p h = omega (arith, index-below (n + 1) keys q p h)
index-below n (Some k ∷ keys) q p h = by (same_key k q) h (index-below (n + 1) keys q p)
  where
    by : (b : Bool) → cond b (Some n) (index_from (n + 1) keys q) ≡ Some p
        → (index_from (n + 1) keys q ≡ Some p → p < n + 1 + length keys) → p < n + suc (length keys)
    by true is later = let same : n ≡ p = cc in omega (arith, same)
    by false is later = omega (arith, later is)

-- ---- what is remembered

abbrev number_of : Memory → ℕ
number_of m = length m.shapes + 1

is-own : (n places : ℕ) → n ≡ 1 + places → nat_eq n (places + 1) ≡ true
is-own n places h = grind (arith, nat_tests)

not-own : (p places : ℕ) → p < 1 + places → nat_eq p (places + 1) ≡ false
not-own p places h = grind (arith, nat_tests)

places : (schema : Declarations) (seen : Seen) (m : Memory) (h : Remembers schema seen m) → length h.lines ≡ length m.shapes
places schema seen m h = sym (length-map h.lines line_shape) ∙ ap length h.shapes

counted : (schema : Declarations) (old new : Seen) (m : Memory) → Remembers schema old m → (n : ℕ) → n ≡ 1 + length m.shapes
    → (o : Option RequestKey) → IsKept (seen_at old) (seen_at new) n o → IsSorted new
    → btree_map_len new ≡ cond (is_own (number_of m) (id_found (seen_at old) n o)) (m.count + 1) m.count
counted schema old new m h n number None kept sorted =
    same-keys new old sorted h.sorted (kept-none (seen_at old) (seen_at new) n kept) ∙ h.count
counted schema old new m h n number (Some k) kept sorted = by (seen_at old k) refl
  where
    by : (p : Option ℕ) → seen_at old k ≡ p
        → btree_map_len new ≡ cond (is_own (number_of m) (Some (unwrap_or p n))) (m.count + 1) m.count
    by None at =
        let one =
        new-key old new k h.sorted sorted at
        (λ q. kept-some (seen_at old) (seen_at new) k n kept q ∙ ap (λ b. b || is_some (seen_at old q)) (turned k q)) in
        let more : btree_map_len new ≡ m.count + 1 = omega (arith, one, h.count) in
        more ∙ sym (ap (λ b. cond b (m.count + 1) m.count) (is-own n (length m.shapes) number))
    by (Some p) at =
        let below = index-below 1 (map line_key h.lines) k p (sym (h.tells k) ∙ at) in
        let few : p < 1 + length m.shapes = omega (arith, below, length-map h.lines line_key, places schema old m h) in
        same-keys new old sorted h.sorted
        (λ q. kept-some (seen_at old) (seen_at new) k n kept q ∙ found-again old k p at q)
        ∙ h.count ∙ sym (ap (λ b. cond b (m.count + 1) m.count) (not-own p (length m.shapes) few))

abbrev IsJudged : Declarations → Line → Type 0
IsJudged schema l = (d : Dialect) × (m : Made) × Judges schema d m l.judgement

all-named : (schema : Declarations) (ls : List Line) → Each (IsJudged schema) ls → Each (LineKnown schema) ls
all-named schema [] all = tt
all-named schema (l ∷ ls) all =
    let (d, m, judged) = all.0 in (judged-known schema l.dialect d m l.judgement judged l.id, all-named schema ls all.1)

module _ (schema : Declarations) (old new : Seen) (m : Memory) (h : Remembers schema old m) (n : ℕ) (number : n ≡ 1 + length m.shapes) (r : StatementRequest) (j : Judgement) (judged : Judges schema r.dialect r.statement j) where
  abbrev the_line : Line
  the_line = line_found (seen_at old) n r.dialect j

  after-lines : n ≡ 1 + length h.lines
  after-lines = number ∙ ap (λ x. 1 + x) (sym (places schema old m h))

  line-is : least_refusal schema ≡ None → IsLine schema m.shapes r the_line
  line-is sound =
      subst (λ xs. IsLine schema xs r the_line) h.shapes
      (line-found schema (seen_at old) (seen_at new) h.lines n after-lines h.tells sound
      (all-named schema h.lines h.judged) r j judged)

  remembers-more : IsKept (seen_at old) (seen_at new) n (request_key r.dialect j) → IsSorted new
      → Remembers schema new (learnt m the_line)
  remembers-more kept sorted = record {
    lines = h.lines ++ the_line ∷ [];
    shapes = map-append line_shape h.lines (the_line ∷ []) ∙ ap (λ xs. xs ++ line_shape the_line ∷ []) h.shapes;
    judged = each_append (IsJudged schema) h.lines (the_line ∷ []) h.judged ((r.dialect, r.statement, judged), tt);
    tells = line-kept schema (seen_at old) (seen_at new) h.lines n after-lines h.tells r.dialect j kept;
    count = counted schema old new m h n number (request_key r.dialect j) kept sorted;
    sorted = sorted;
  }

-- ---- nothing is remembered

abbrev blank : Line
blank = record { dialect = Pg; judgement = refuses []; id = None }

abbrev blanks : List (Option RequestShape) → List Line
blanks [] = []
blanks (x ∷ xs) = blank ∷ blanks xs

blank-shapes : (xs : List (Option RequestShape)) → map line_shape (blanks xs) ≡ map (λ o. None) xs
blank-shapes [] = refl
blank-shapes (x ∷ xs) = ap (λ ys. None ∷ ys) (blank-shapes xs)

blank-judged : (schema : Declarations) (xs : List (Option RequestShape)) → Each (IsJudged schema) (blanks xs)
blank-judged schema [] = tt
blank-judged schema (x ∷ xs) = ((Pg, unmade [], refl), blank-judged schema xs)

blank-index : (n : ℕ) (xs : List (Option RequestShape)) (q : RequestKey) → index_from n (map line_key (blanks xs)) q ≡ None
blank-index n [] q = refl
blank-index n (x ∷ xs) q = blank-index (n + 1) xs q

pub remembers-none : (schema : Declarations) (seen : Seen) (m : Memory) → IsEmpty seen → IsSorted seen
    → Remembers schema seen (forgotten m)
remembers-none schema seen m none sorted = record {
  lines = blanks m.shapes;
  shapes = blank-shapes m.shapes;
  judged = blank-judged schema m.shapes;
  tells = λ q. ap (lookup (is_at ((key_ord.ghosts).cmp q))) none ∙ sym (blank-index 1 m.shapes q);
  count = ap length none;
  sorted = sorted;
}

reaches : (most c : ℕ) → nat_le most c ≡ true → most ≤ c
reaches most c h = grind (arith, nat_tests)

fails : (most c : ℕ) → nat_le most c ≡ false → c < most
fails most c h = grind (arith, nat_tests)

remembers-within : (most : ℕ) (schema : Declarations) (old new : Seen) (m : Memory) → Remembers schema old m
    → (most ≤ btree_map_len old → IsEmpty new) → (btree_map_len old < most → new ≡ old) → IsSorted new
    → Remembers schema new (within most m)
remembers-within most schema old new m h full stays sorted = by (nat_le most m.count) refl
  where
    by : (b : Bool) → nat_le most m.count ≡ b → Remembers schema new (cond b (forgotten m) m)
    by true is =
        remembers-none schema new m (full (subst (λ c. most ≤ c) (sym h.count) (reaches most m.count is))) sorted
    by false is =
        subst (λ s. Remembers schema s m) (sym (stays (subst (λ c. c < most) (sym h.count) (fails most m.count is)))) h

-- ---- texts

pub written-none : (most : ℕ) (schema : Declarations) (seen : Seen) → IsEmpty seen → IsSorted seen
    → AreWrittenAfter most schema seen [] []
written-none most schema seen none sorted = ([], tt, remembers-none schema seen no_memory none sorted, refl)

pub written-more : (most : ℕ) (schema : Declarations) (old new after : Seen) (rs : List StatementRequest) (n : ℕ)
    (text line : List ℕ) (r : StatementRequest)
    → n ≡ 1 + length rs → AreWrittenAfter most schema old rs text
    → HasLine schema r n (seen_at old) (seen_at new) (λ l. line ≡ line_text l) → IsSorted new
    → (most ≤ btree_map_len new → IsEmpty after) → (btree_map_len new < most → after ≡ new) → IsSorted after
    → AreWrittenAfter most schema after (rs ++ r ∷ []) (text ++ line)
written-more most schema old new after rs n text line r number (ls, lines, h, is) (j, judged, told, kept, sound) sorted full stays ordered =
    let m = after_lines most no_memory ls in
    let one = line_found (seen_at old) n r.dialect j in
    let counts : n ≡ 1 + length m.shapes =
    omega (arith, number, after-length most no_memory ls, lines-length most schema no_memory rs ls lines) in (
      ls ++ one ∷ [],
      lines-more most schema no_memory rs ls r one lines (line-is schema old new m h n counts r j judged sound),
      subst (Remembers schema after) (sym (after-more most no_memory ls one))
          (remembers-within most schema new after (learnt m one)
          (remembers-more schema old new m h n counts r j judged kept sorted) full stays ordered),
      ap₂ (λ a b. a ++ b) is told ∙ sym (text-more ls one),
    )

-- Which words are a command.
use Rattle.std.proofs.Common.{◌≡◌, ◌↔◌, ◌∙◌, ℕ, Bool, true, false, cond, List, [], ◌∷◌, codes, Option, None, Some, ap, refl, sym, subst}
use Rattle.std.specs.Prelude.{find, option_map}
use Rattle.std.specs.Fmt.{decimal}
use Rattle.std.specs.Str.{bytes_eq}
use Rattle.std.proofs.lemmas.Slice.Eq.{bytes_eq-Decides}
use Rattle.sql_dialect.specs.declared.backend.Dialect.{Dialect}
use Rattle.sql_dialect.specs.declared.backend.Dialect.TheVariants.{Pg, Mysql, Sqlite, Bracket}
use Rattle.sql_tool_document.specs.Names.{dialect_of, dialect_text, dialects}
use Rattle.sql_tool_run.proofs.Counts.{count-back, count-some}
use Rattle.sql_tool_run.specs.Command.{AreWordsOf, command_of, count_of}
use Rattle.sql_tool_run.specs.declared.command.Command.{Command}
use Rattle.sql_tool_run.specs.declared.command.Command.TheVariants.{Build, Generate, Read, Audit, Guard, Tenant}

-- ---- tests

none_some : {X Y : Type 0} (x : X) → Prim.Path (Option X) None (Some x) → Y
none_some x h = cc

true_false : {Y : Type 0} → true ≡ false → Y
true_false h = cc

same-words : (w v : List ℕ) → bytes_eq w v ≡ true → w ≡ v
same-words w v = (bytes_eq-Decides w v).0

own-words : (w : List ℕ) → bytes_eq w w ≡ true
own-words w = (bytes_eq-Decides w w).1 refl

if-true : {X : Type 0} (b : Bool) (x y : X) → b ≡ true → cond b x y ≡ x
if-true true x y h = refl
if-true false x y h = cc

found : {X : Type 0} (test : X → Bool) (xs : List X) (x : X) → find test xs ≡ Some x → test x ≡ true
found test [] x h = none_some x h
found test (y ∷ ys) x h =
    let at : (b : Bool) → test y ≡ b → cond b (Some y) (find test ys) ≡ Some x → test x ≡ true =
    λ b. elim b as (λ b. test y ≡ b → cond b (Some y) (find test ys) ≡ Some x → test x ≡ true) [
      | true ↦ λ is e. let same : y ≡ x = cc in subst (λ z. test z ≡ true) same is
      | false ↦ λ is e. found test ys x e
    ] in
    at (test y) refl h

mapped : {X Y : Type 0} (f : X → Y) (o : Option X) (y : Y) → option_map f o ≡ Some y
    → (x : X) × (o ≡ Some x) × (f x ≡ y)
mapped f None y h = none_some y h
mapped f (Some x) y h = let same : f x ≡ y = cc in (x, refl, same)

-- ---- dialects

dialect-back : (name : List ℕ) (d : Dialect) → dialect_of name ≡ Some d → name ≡ dialect_text d
unfolding dialect_of
dialect-back name d h = same-words name (dialect_text d) (found (λ e. bytes_eq name (dialect_text e)) dialects d h)

dialect-forth : (d : Dialect) → dialect_of (dialect_text d) ≡ Some d
unfolding dialect_of
dialect-forth Pg = refl
dialect-forth Mysql = refl
dialect-forth Sqlite = refl
dialect-forth Bracket = refl

-- ---- commands

-- the words that a command has are its own
one-word : (w : List ℕ) (a b e : Bool) (c : Command) → bytes_eq w (codes "build") ≡ a → bytes_eq w (codes "guard") ≡ b
    → bytes_eq w (codes "tenant") ≡ e
    → cond a (Some Build) (cond b (Some Guard) (cond e (Some Tenant) None)) ≡ Some c → AreWordsOf c (w ∷ [])
one-word w true b e c is it that h =
    let own : Build ≡ c = cc in subst (λ k. AreWordsOf k (w ∷ [])) own (ap (λ v. v ∷ []) (same-words w (codes "build") is))
one-word w false true e c is it that h =
    let own : Guard ≡ c = cc in subst (λ k. AreWordsOf k (w ∷ [])) own (ap (λ v. v ∷ []) (same-words w (codes "guard") it))
one-word w false false true c is it that h =
    let own : Tenant ≡ c = cc in
    subst (λ k. AreWordsOf k (w ∷ [])) own (ap (λ v. v ∷ []) (same-words w (codes "tenant") that))
one-word w false false false c is it that h = none_some c h

generated : (w v : List ℕ) (c : Command) → bytes_eq w (codes "generate") ≡ true → option_map Generate (count_of v) ≡ Some c
    → AreWordsOf c (w ∷ v ∷ [])
generated w v c is h =
    let (n, counted, own) = mapped Generate (count_of v) c h in
    let (spelled, within) = count-back v n counted in
    let words : w ∷ v ∷ [] ≡ codes "generate" ∷ decimal n ∷ [] = λ i. same-words w (codes "generate") is i ∷ spelled i ∷ [] in
    subst (λ k. AreWordsOf k (w ∷ v ∷ [])) own (words, within)

reading : (w v : List ℕ) (c : Command) → bytes_eq w (codes "read") ≡ true → option_map Read (dialect_of v) ≡ Some c
    → AreWordsOf c (w ∷ v ∷ [])
reading w v c is h =
    let (d, named, own) = mapped Read (dialect_of v) c h in
    let words : w ∷ v ∷ [] ≡ codes "read" ∷ dialect_text d ∷ [] = λ i. same-words w (codes "read") is i ∷ dialect-back v d named i ∷ [] in
    subst (λ k. AreWordsOf k (w ∷ v ∷ [])) own words

auditing : (w v : List ℕ) (c : Command) → bytes_eq w (codes "audit") ≡ true → option_map Audit (dialect_of v) ≡ Some c
    → AreWordsOf c (w ∷ v ∷ [])
auditing w v c is h =
    let (d, named, own) = mapped Audit (dialect_of v) c h in
    let words : w ∷ v ∷ [] ≡ codes "audit" ∷ dialect_text d ∷ [] = λ i. same-words w (codes "audit") is i ∷ dialect-back v d named i ∷ [] in
    subst (λ k. AreWordsOf k (w ∷ v ∷ [])) own words

two-words : (w v : List ℕ) (a b e : Bool) (c : Command) → bytes_eq w (codes "generate") ≡ a
    → bytes_eq w (codes "read") ≡ b → bytes_eq w (codes "audit") ≡ e
    → cond a (option_map Generate (count_of v))
    (cond b (option_map Read (dialect_of v)) (cond e (option_map Audit (dialect_of v)) None))
    ≡ Some c → AreWordsOf c (w ∷ v ∷ [])
two-words w v true b e c is it that h = generated w v c is h
two-words w v false true e c is it that h = reading w v c it h
two-words w v false false true c is it that h = auditing w v c that h
two-words w v false false false c is it that h = none_some c h

told : (given : List (List ℕ)) (c : Command) → command_of given ≡ Some c → AreWordsOf c given
told [] c h = none_some c h
told (w ∷ []) c h = one-word w (bytes_eq w (codes "build")) (bytes_eq w (codes "guard")) (bytes_eq w (codes "tenant")) c refl refl refl h
told (w ∷ v ∷ []) c h =
    two-words w v (bytes_eq w (codes "generate")) (bytes_eq w (codes "read")) (bytes_eq w (codes "audit")) c refl refl refl h
told (w ∷ v ∷ u ∷ ws) c h = none_some c h

-- and with its own words a command is told
telling : (given : List (List ℕ)) (c : Command) → AreWordsOf c given → command_of given ≡ Some c
telling given Build is = ap command_of is
telling given Guard is = ap command_of is
telling given Tenant is = ap command_of is
telling given (Generate n) (is, within) =
    ap command_of is ∙ ap (option_map Generate) (count-some (decimal n) n within refl)
telling given (Read d) is = ap command_of is ∙ ap (option_map Read) (dialect-forth d)
telling given (Audit d) is = ap command_of is ∙ ap (option_map Audit) (dialect-forth d)

pub is-told : (given : List (List ℕ)) (c : Command) → (command_of given ≡ Some c) ↔ AreWordsOf c given
is-told given c = (told given c, telling given c)

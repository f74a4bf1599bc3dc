-- A line that has a session begin anew is no document.
use Rattle.std.proofs.Common.{◌≡◌, ◌∙◌, ◌&&◌, ℕ, List, [], ◌∷◌, length, codes, Bool, true, false, cond, Option, None, Some, option_map, ap, refl, subst, sym, arith}
use Rattle.std.specs.Prelude.{is_some, String}
use Rattle.std.specs.Option.{unwrap_or}
use Rattle.std.specs.declared.alloc.Global.{Global}
use Rattle.std.specs.Cmp.Lexicographic.{bytes_decides, slice_cmp}
use Rattle.std.specs.Ordering.{is_eq, match_ordering, nat_cmp}
use Rattle.std.specs.Str.{IsUtf8, is_utf8}
use Rattle.std.specs.declared.cmp.Ordering.{Ordering}
use Rattle.std.specs.declared.cmp.Ordering.TheVariants.{Less, Equal, Greater}
use Rattle.std.proofs.lemmas.Map.Text.{is_eq-slice_cmp}
use Rattle.std.proofs.lemmas.Str.{IsUtf8-from_is_utf8, is_utf8-from_IsUtf8}
use Rattle.serde_json.specs.Data.{Data, null, boolean, number, string, array, object, Members, no_members, member}
use Rattle.serde_json.specs.Find.{as_array, as_bool, as_object, get}
use Rattle.serde_json.specs.Read.{read}
use Rattle.serde_json.specs.View.{members_view}
use Rattle.serde_json.specs.declared.value.Value.{Value}
use Rattle.serde_json.specs.Written.{has_float}
use Rattle.sql_tool_document.specs.Documents.{Document, document_of, value_in, without_floats}
use Rattle.sql_tool_document.specs.Members.{each, single}
use Rattle.sql_tool_document.specs.Places.{filled}
use Rattle.sql_tool_document.specs.Policies.{Policed, policy_of}
use Rattle.sql_tool_document.specs.Scalar.{◌>>=◌}
use Rattle.sql_tool_document.specs.Sessions.{Call, call_in, call_of, policed_by}
use Rattle.sql_tool_session.specs.Session.{Asking, asking_in}
use Rattle.sql_tool_talk.specs.Resets.{is_reset, is_reset_value, is_true}
use Rattle.sql_tool_talk.specs.Talk.{Opened, asking_of}

true-false : {X : Type 0} → Prim.Path Bool false true → X
true-false h = cc

-- ---- the value

abbrev Entries : Type 0
Entries = List (String Global × Value)

pub is-true : (o : Option Bool) → unwrap_or o false ≡ is_true o
is-true None = refl
is-true (Some b) = refl

many : (xs : Entries) → (length xs ≡ 1 → ⊥) → is_some (single (members_view xs)) ≡ false
many [] more = refl
many (x ∷ []) more = absurd (more refl)
many (x ∷ y ∷ xs) more = refl

lone : (xs : Entries) → length xs ≡ 1 → is_some (single (members_view xs)) ≡ true
lone [] one = absurd (omega (arith, one))
lone (x ∷ []) one = refl
lone (x ∷ y ∷ xs) one = absurd (omega (arith, one))

-- an object has one member where so many are listed
pub more-members : (d : Data) (xs : Entries) → Some (members_view xs) ≡ as_object d → (length xs ≡ 1 → ⊥)
    → is_reset_value d ≡ false
more-members d xs is more =
    let value = is_true (get (codes "reset") d >>= as_bool) in
    ap (λ (o : Option Members). is_some (o >>= single) && value) (sym is) ∙ ap (λ b. b && value) (many xs more)

pub one-member : (d : Data) (xs : Entries) → Some (members_view xs) ≡ as_object d → length xs ≡ 1
    → is_reset_value d ≡ is_true (get (codes "reset") d >>= as_bool)
one-member d xs is one =
    let value = is_true (get (codes "reset") d >>= as_bool) in
    ap (λ (o : Option Members). is_some (o >>= single) && value) (sym is) ∙ ap (λ b. b && value) (lone xs one)

named-reset : (k : List ℕ) → slice_cmp nat_cmp (codes "reset") k ≡ Equal → codes "reset" ≡ k
named-reset k h =
    (bytes_decides (codes "reset") k).0 (sym (is_eq-slice_cmp (codes "reset") k) ∙ ap is_eq h)

other-name : (k : List ℕ) (e : Data) (r : Ordering) → slice_cmp nat_cmp (codes "reset") k ≡ r
    → is_true (match_ordering r None (Some e) None >>= as_bool) ≡ true
    → match_ordering (slice_cmp nat_cmp (codes "schema") k) None (Some e) None ≡ None
other-name k e Less is h = true-false h
other-name k e Equal is h =
    subst (λ l. match_ordering (slice_cmp nat_cmp (codes "schema") l) None (Some e) None ≡ None) (named-reset k is) refl
other-name k e Greater is h = true-false h

no-schema : (d : Data) → is_reset_value d ≡ true → get (codes "schema") d ≡ None
no-schema null h = refl
no-schema (boolean b) h = refl
no-schema (number n) h = refl
no-schema (string s) h = refl
no-schema (array ds) h = refl
no-schema (object no_members) h = refl
no-schema (object (member k e no_members)) h = other-name k e (slice_cmp nat_cmp (codes "reset") k) refl h
no-schema (object (member k e (member l f ms))) h = true-false h

no-document : (d : Data) → is_reset_value d ≡ true → document_of d ≡ None
unfolding document_of
no-document d h = rw (no-schema d h) refl

-- ---- the line

pub of-read : (line : List ℕ) (d : Data) → IsUtf8 line → read line ≡ Some d → is_reset line ≡ is_reset_value d
unfolding is_reset
of-read line d utf8 is =
    ap (λ b. cond b (is_true (option_map is_reset_value (read line))) false) (is_utf8-from_IsUtf8 line utf8)
    ∙ ap (λ o. is_true (option_map is_reset_value o)) is

pub no-read : (line : List ℕ) → (IsUtf8 line → read line ≡ None) → is_reset line ≡ false
unfolding is_reset
no-read line none = by (is_utf8 line) refl
  where
    by : (b : Bool) → is_utf8 line ≡ b → cond b (is_true (option_map is_reset_value (read line))) false ≡ false
    by true utf8 = ap (λ o. is_true (option_map is_reset_value o)) (none (IsUtf8-from_is_utf8 line utf8))
    by false utf8 = refl

-- ---- what is asked

bind-none : {A B : Type 0} (o : Option A) (f : A → Option B) → ((a : A) → f a ≡ None) → (o >>= f) ≡ None
bind-none None f none = refl
bind-none (Some a) f none = none a

no-policed : (t d : Data) → is_reset_value d ≡ true → policed_by t d ≡ None
unfolding policed_by
no-policed t d h =
    bind-none (as_array (filled (get (codes "values") d) t)) _ (λ items.
    bind-none (each policy_of items) _ (λ policies.
    ap (λ (o : Option Document). o >>= λ document. Some (record { document = document; policies = policies })) (no-document d h)))

no-call : (t : Option Data) (d : Data) → is_reset_value d ≡ true → call_of t d ≡ None
no-call None d h = ap (option_map (λ x. record { document = x; policies = None })) (no-document d h)
no-call (Some t) d h =
    ap (option_map (λ x. record { document = x.document; policies = Some x.policies })) (no-policed t d h)

nothing-of : {X : Type 0} (b : Bool) (o : Option Data) (f : Data → Option X)
    → cond b (is_true (option_map is_reset_value o)) false ≡ true
    → ((d : Data) → is_reset_value d ≡ true → f d ≡ None) → (cond b (o >>= without_floats) None >>= f) ≡ None
nothing-of false o f is none = refl
nothing-of true None f is none = refl
nothing-of true (Some d) f is none = by (has_float d)
  where
    by : (c : Bool) → (cond c None (Some d) >>= f) ≡ None
    by true = refl
    by false = none d is

asks-nothing : (t : Option (Option Data)) (line : List ℕ) → is_reset line ≡ true → call_in t line ≡ None
unfolding is_reset value_in call_in is_utf8
asks-nothing None line is = nothing-of (is_utf8 line) (read line) (call_of None) is (no-call None)
asks-nothing (Some None) line is = refl
asks-nothing (Some (Some t)) line is = nothing-of (is_utf8 line) (read line) (call_of (Some t)) is (no-call (Some t))

none_some : {X Y : Type 0} (x : X) → Prim.Path (Option X) None (Some x) → Y
none_some x is = cc

-- a line that asks for requests is no reset
pub no-reset : (o : Opened) (line : List ℕ) (a : Asking) → asking_of (Some o) line ≡ Some a → is_reset line ≡ false
no-reset o line a is = by (is_reset line) refl
  where
    by : (b : Bool) → is_reset line ≡ b → b ≡ false
    by true reset =
        none_some a (sym (ap (λ c. c >>= asking_in o.schema) (asks-nothing o.template line reset)) ∙ is)
    by false reset = refl

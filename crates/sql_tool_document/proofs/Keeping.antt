-- What a text that is kept of a part of a value is read as.
use Rattle.std.proofs.Common.{◌≡◌, ◌∙◌, ℕ, List, Bool, true, false, if◌then◌else◌, codes, Option, None, Some, option_map, option_and_then, Ordering, Less, Equal, Greater, ap, refl, subst, sym}
use Rattle.std.proofs.lemmas.Bool.{or_parts}
use Rattle.std.specs.Cmp.Lexicographic.{slice_cmp}
use Rattle.std.specs.Ordering.{nat_cmp, match_ordering}
use Rattle.std.specs.Str.{IsUtf8}
use Rattle.serde_json.specs.Data.{Data, null, boolean, number, string, array, object, Members, no_members, member}
use Rattle.serde_json.specs.Find.{get, get_member}
use Rattle.serde_json.specs.Read.{read}
use Rattle.serde_json.specs.Written.{has_float, members_have_float}
use Rattle.sql_tool_document.proofs.Bytes.{value_from_read}
use Rattle.sql_tool_document.specs.Documents.{value_in, without_floats}

none_some : {X : Type 0} {Y : Type 0} (x : X) → Prim.Path (Option X) None (Some x) → Y
none_some x is = cc

found_at : (o : Ordering) (e d : Data) (rest : Option Data) → has_float e ≡ false
    → (rest ≡ Some d → has_float d ≡ false) → match_ordering o rest (Some e) rest ≡ Some d → has_float d ≡ false
found_at Less e d rest here others is = others is
found_at Equal e d rest here others is = let same : e ≡ d = cc in subst (λ x. has_float x ≡ false) same here
found_at Greater e d rest here others is = others is

member_whole : (k : List ℕ) (ms : Members) (d : Data) → members_have_float ms ≡ false → get_member k ms ≡ Some d
    → has_float d ≡ false
member_whole k no_members d whole is = none_some d is
member_whole k (member l e ms) d whole is =
    let both = or_parts (has_float e) (members_have_float ms) whole in
    found_at (slice_cmp nat_cmp k l) e d (get_member k ms) both.0 (member_whole k ms d both.1) is

-- a part of a value without floats has none
part_whole : (k : List ℕ) (e d : Data) → has_float e ≡ false → get k e ≡ Some d → has_float d ≡ false
part_whole k null d whole is = none_some d is
part_whole k (boolean b) d whole is = none_some d is
part_whole k (number n) d whole is = none_some d is
part_whole k (string s) d whole is = none_some d is
part_whole k (array ds) d whole is = none_some d is
part_whole k (object ms) d whole is = member_whole k ms d whole is

-- the text that is read as the part of that name is the text of what the value has there
pub part_kept : (text name : List ℕ) (e d : Data) → has_float e ≡ false → get name e ≡ Some d → IsUtf8 text
    → read text ≡ Some d → option_map Some (option_and_then (get name) (without_floats e)) ≡ Some (value_in text)
part_kept text name e d whole found utf8 back =
    let part : has_float d ≡ false = part_whole name e d whole found in
    let kept : value_in text ≡ Some d = value_from_read text d utf8 back ∙ rw part refl in
    rw whole (ap (option_map Some) found ∙ ap Some (sym kept))

-- where it has nothing there, there is none
pub no_part : (name : List ℕ) (e : Data) → get name e ≡ None
    → option_map {T = Data} {U = Option Data} Some (option_and_then (get name) (without_floats e)) ≡ None
no_part name e none = absent (has_float e)
  where
    absent : (b : Bool)
        → option_map {T = Data} {U = Option Data} Some (option_and_then (get name) (if b then None else Some e)) ≡ None
    absent true = refl
    absent false = ap (option_map Some) none

-- nor where it has a float
pub float_refused : (name : List ℕ) (e : Data) → has_float e ≡ true
    → option_map {T = Data} {U = Option Data} Some (option_and_then (get name) (without_floats e)) ≡ None
float_refused name e float = rw float refl

-- A tree that is filled stands for the data that is filled.
use Rattle.std.proofs.Common.{◌≡◌, ◌∙◌, ◌+◌, ◌<◌, ℕ, List, [], ◌∷◌, ◌++◌, length, map, take, get_or, Bool, true, false, cond, codes, Option, Some, None, option_map, option_and_then, Ordering, Less, Equal, Greater, refl, sym, ap}
use Rattle.std.proofs.lemmas.List.{map_push, take_more}
use Rattle.std.specs.declared.alloc.Global.{Global}
use Rattle.std.specs.Borrow.{Bor}
use Rattle.std.specs.Option.{unwrap_or}
use Rattle.std.specs.Ordering.{nat_cmp, match_ordering}
use Rattle.std.specs.Cmp.Lexicographic.{slice_cmp}
use Rattle.std.specs.Str.{bytes_eq}
use Rattle.json.specs.Find as json_find
use Rattle.json.specs.Json as json
use Rattle.json.specs.Value.{items_of, items_view, members_view, value_view}
use Rattle.json.specs.declared.value.Value.{Value}
use Rattle.serde_json.specs.Data.{Data, array, object, Items, item, Members, no_members, member, put}
use Rattle.serde_json.specs.Find.{get, as_str}
use Rattle.sql_tool_document.proofs.Seen.{get-seen}
use Rattle.sql_tool_document.specs.Members.{single}
use Rattle.sql_tool_document.specs.Places.{scalar, value_for, placed, filled, filled_items, filled_members}
use Rattle.sql_tool_document.specs.Scalar.{◌>>=◌}
use Rattle.sql_tool_document.specs.inside.Filled.{scalar_json, json_for, placed_json, filled_json, items_filled, members_filled}
use Rattle.sql_tool_document.specs.inside.Seen.{data_of, data_items, data_members}

scalar-seen : (j : json.Json) → scalar (data_of j) ≡ option_map data_of (scalar_json j)
scalar-seen json.null = refl
scalar-seen (json.boolean b) = refl
scalar-seen (json.number s) = refl
scalar-seen (json.string s) = refl
scalar-seen (json.array js) = refl
scalar-seen (json.object ms) = refl

then-scalar : (o : Option json.Json)
    → (option_map data_of o >>= scalar) ≡ option_map data_of (o >>= scalar_json)
then-scalar None = refl
then-scalar (Some j) = scalar-seen j

-- the value of a name
for-seen : (values : Option json.Json) (name : List ℕ)
    → value_for (option_map data_of values) name ≡ option_map data_of (json_for values name)
for-seen None name = refl
for-seen (Some v) name = ap (λ o. o >>= scalar) (get-seen name v) ∙ then-scalar (json_find.get name v)

then-for : (values : Option json.Json) (o : Option (List ℕ))
    → (o >>= value_for (option_map data_of values)) ≡ option_map data_of (o >>= json_for values)
then-for values None = refl
then-for values (Some name) = for-seen values name

if-for : (values : Option json.Json) (b : Bool) (o : Option (List ℕ))
    → cond b (o >>= value_for (option_map data_of values)) None ≡ option_map data_of (cond b (o >>= json_for values) None)
if-for values true o = then-for values o
if-for values false o = refl

at-place : (values : Option json.Json) (o : Option (List ℕ × Data))
    → (o >>= λ m. cond (bytes_eq m.0 (codes "value")) (as_str m.1 >>= value_for (option_map data_of values)) None)
    ≡ option_map data_of (o >>= λ m. cond (bytes_eq m.0 (codes "value")) (as_str m.1 >>= json_for values) None)
at-place values None = refl
at-place values (Some m) = if-for values (bytes_eq m.0 (codes "value")) (as_str m.1)

-- what is put at a place
placed-seen : (values : Option json.Json) (ms : json.Members)
    → placed (option_map data_of values) (data_members ms no_members) ≡ option_map data_of (placed_json values ms)
placed-seen values ms = at-place values (single (data_members ms no_members))

put-at : (values : Option Data) (o : Ordering) (a b c : Members)
    → match_ordering o (filled_members values a) (filled_members values b) (filled_members values c)
    ≡ filled_members values (match_ordering o a b c)
put-at values Less a b c = refl
put-at values Equal a b c = refl
put-at values Greater a b c = refl

put-filled : (values : Option Data) (k : List ℕ) (d : Data) (ms : Members)
    → put k (filled values d) (filled_members values ms) ≡ filled_members values (put k d ms)
put-filled values k d no_members = refl
put-filled values k d (member l e ms) =
    ap (λ rest. match_ordering (slice_cmp nat_cmp k l) (member k (filled values d) (member l (filled values e) (filled_members values ms))) (member l (filled values d) (filled_members values ms)) (member l (filled values e) rest))
    (put-filled values k d ms)
    ∙ put-at values (slice_cmp nat_cmp k l) (member k d (member l e ms)) (member l d ms) (member l e (put k d ms))

chosen : (o : Option json.Json) (j : json.Json) (d : Data) → data_of j ≡ d
    → data_of (unwrap_or o j) ≡ unwrap_or (option_map data_of o) d
chosen None j d is = is
chosen (Some i) j d is = refl

mutual
  pub filled_data : (values : Option json.Json) (j : json.Json)
      → data_of (filled_json values j) ≡ filled (option_map data_of values) (data_of j)
  filled_data values json.null = refl
  filled_data values (json.boolean b) = refl
  filled_data values (json.number s) = refl
  filled_data values (json.string s) = refl
  filled_data values (json.array js) = ap array (filled_items_data values js)
  filled_data values (json.object ms) =
      chosen (placed_json values ms) (json.object (members_filled values ms)) _
      (ap object (filled_members_data values ms no_members))
      ∙ ap (λ o. unwrap_or o (object (filled_members (option_map data_of values) (data_members ms no_members))))
      (sym (placed-seen values ms))

  filled_items_data : (values : Option json.Json) (js : json.Items)
      → data_items (items_filled values js) ≡ filled_items (option_map data_of values) (data_items js)
  filled_items_data values json.no_items = refl
  filled_items_data values (json.item j js) = λ i. item (filled_data values j i) (filled_items_data values js i)

  filled_members_data : (values : Option json.Json) (ms : json.Members) (found : Members)
      → data_members (members_filled values ms) (filled_members (option_map data_of values) found)
      ≡ filled_members (option_map data_of values) (data_members ms found)
  filled_members_data values json.no_members found = refl
  filled_members_data values (json.member k j ms) found =
      ap (λ d. data_members (members_filled values ms) (put k d (filled_members (option_map data_of values) found)))
      (filled_data values j)
      ∙ ap (data_members (members_filled values ms)) (put-filled (option_map data_of values) k (data_of j) found)
      ∙ filled_members_data values ms (put k (data_of j) found)

-- ---- lists, as loops fill them

-- what was filled so far, and one more
pub fills_on : {X Y : Type 0} (made asked : X → Y) (front xs : List X) (i : ℕ) (x y : X) → i < length xs
    → x ≡ get_or xs i x → made y ≡ asked x → map made front ≡ map asked (take i xs)
    → map made (front ++ y ∷ []) ≡ map asked (take (i + 1) xs)
fills_on made asked front xs i x y lt is same so_far =
    map_push made front y ∙ (λ j. so_far j ++ same j ∷ []) ∙ sym (map_push asked (take i xs) x)
    ∙ ap (λ z. map asked (take i xs ++ z ∷ [])) is ∙ ap (map asked) (sym (take_more xs i x lt))

filled_views : (values : Option json.Json) (vs : List (Value Global))
    → items_of (map (λ v. filled_json values (value_view v)) vs) ≡ items_filled values (items_view vs)
filled_views values [] = refl
filled_views values (v ∷ vs) = ap (json.item (filled_json values (value_view v))) (filled_views values vs)

pub items_done : (values : Option json.Json) (made vs : List (Value Global))
    → map value_view made ≡ map (λ v. filled_json values (value_view v)) vs
    → items_view made ≡ items_filled values (items_view vs)
items_done values made vs is = ap items_of is ∙ filled_views values vs

-- the members by the texts of their keys
abbrev keyed : List (List ℕ × json.Json) → json.Members
keyed [] = json.no_members
keyed (m ∷ ms) = json.member m.0 m.1 (keyed ms)

abbrev pub Entry : Type 0
Entry = Bor (List ℕ) × Value Global

abbrev pub entry_view : Entry → List ℕ × json.Json
entry_view m = (m.0.now, value_view m.1)

abbrev pub entry_filled : Option json.Json → Entry → List ℕ × json.Json
entry_filled values m = (m.0.now, filled_json values (value_view m.1))

keyed_views : (ms : List Entry) → keyed (map entry_view ms) ≡ members_view ms
keyed_views [] = refl
keyed_views (m ∷ ms) = ap (json.member m.0.now (value_view m.1)) (keyed_views ms)

keyed_filled : (values : Option json.Json) (ms : List Entry)
    → keyed (map (entry_filled values) ms) ≡ members_filled values (members_view ms)
keyed_filled values [] = refl
keyed_filled values (m ∷ ms) = ap (json.member m.0.now (filled_json values (value_view m.1))) (keyed_filled values ms)

pub members_done : (values : Option json.Json) (made ms : List Entry)
    → map entry_view made ≡ map (entry_filled values) ms → members_view made ≡ members_filled values (members_view ms)
members_done values made ms is = sym (keyed_views made) ∙ ap keyed is ∙ keyed_filled values ms

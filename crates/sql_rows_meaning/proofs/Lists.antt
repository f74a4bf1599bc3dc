-- What holds of each element of a list, through the relations of the meaning.
use Rattle.std.proofs.Common.{◌≡◌, ℕ, zero, suc, Bool, true, false, List, [], ◌∷◌, ◌++◌, map, take, drop, Option, Some, None, ℤ, pos, negsuc, refl, IsPermutation}
use Rattle.std.specs.List.{AllZip, AllByRecursion}
use Rattle.std.proofs.lemmas.List.Elements.{All-from_recursion, recursion_from_All}
use Rattle.std.proofs.lemmas.List.Sorted.{All-permutation}
use Rattle.sql_leaf.specs.declared.limit_offset.LimitOffsetClause.{LimitOffsetClause}
use Rattle.sql_leaf.specs.declared.table_source.JoinKind.{JoinKind}
use Rattle.sql_leaf.specs.declared.table_source.JoinKind.TheVariants.{Inner, LeftOuter}
use Rattle.sql_node.specs.Tree.{Distinct, every, distinct, distinct_on}
use Rattle.sql_rules.specs.Lists.{Each}
use Rattle.sql_rows_meaning.specs.Answers.{Line, is_keyed, first_of_each, left_by, or_padded, Joined, no_rows, a_row}
use Rattle.sql_rows_meaning.specs.Frames.{Frame}
use Rattle.sql_rows_meaning.specs.Rows.{Row, Filtered, none, kept, dropped, IsPart, skipped, limited, page}

pub Each-append : {A : Type 0} (P : A → Type 0) (xs ys : List A) → Each P xs → Each P ys → Each P (xs ++ ys)
Each-append P [] ys h k = k
Each-append P (x ∷ xs) ys h k = (h.0, Each-append P xs ys h.1 k)

pub Each-front : {A : Type 0} (P : A → Type 0) (xs ys : List A) → Each P (xs ++ ys) → Each P xs
Each-front P [] ys h = tt
Each-front P (x ∷ xs) ys h = (h.0, Each-front P xs ys h.1)

pub Each-end : {A : Type 0} (P : A → Type 0) (xs ys : List A) → Each P (xs ++ ys) → Each P ys
Each-end P [] ys h = h
Each-end P (x ∷ xs) ys h = Each-end P xs ys h.1

pub Each-map : {A B : Type 0} (P : A → Type 0) (Q : B → Type 0) (f : A → B) → ((a : A) → P a → Q (f a))
    → (xs : List A) → Each P xs → Each Q (map f xs)
Each-map P Q f g [] h = tt
Each-map P Q f g (x ∷ xs) h = (g x h.0, Each-map P Q f g xs h.1)

pub Each-unmap : {A B : Type 0} (P : A → Type 0) (Q : B → Type 0) (f : A → B) → ((a : A) → Q (f a) → P a)
    → (xs : List A) → Each Q (map f xs) → Each P xs
Each-unmap P Q f g [] h = tt
Each-unmap P Q f g (x ∷ xs) h = (g x h.0, Each-unmap P Q f g xs h.1)

pub Each-weaken : {A : Type 0} (P Q : A → Type 0) → ((a : A) → P a → Q a) → (xs : List A) → Each P xs → Each Q xs
Each-weaken P Q f [] h = tt
Each-weaken P Q f (x ∷ xs) h = (f x h.0, Each-weaken P Q f xs h.1)

Each-take : {A : Type 0} (P : A → Type 0) (n : ℕ) (xs : List A) → Each P xs → Each P (take n xs)
Each-take P zero xs h = tt
Each-take P (suc n) [] h = tt
Each-take P (suc n) (x ∷ xs) h = (h.0, Each-take P n xs h.1)

Each-drop : {A : Type 0} (P : A → Type 0) (n : ℕ) (xs : List A) → Each P xs → Each P (drop n xs)
Each-drop P zero xs h = h
Each-drop P (suc n) [] h = tt
Each-drop P (suc n) (x ∷ xs) h = Each-drop P n xs h.1

limited-each : {A : Type 0} (P : A → Type 0) (limit : Option ℤ) (xs : List A) → Each P xs → Each P (limited limit xs)
limited-each P (Some (pos n)) xs h = Each-take P n xs h
limited-each P (Some (negsuc n)) xs h = h
limited-each P None xs h = h

pub page-each : {A : Type 0} (P : A → Type 0) (rows : LimitOffsetClause) (xs : List A) → Each P xs
    → Each P (page rows xs)
page-each P rows xs h = limited-each P rows.limit_clause _ (Each-drop P (skipped rows.offset_clause) xs h)

to_recursion : {A : Type 0} (P : A → Type 0) (xs : List A) → Each P xs → AllByRecursion P xs
to_recursion P [] h = tt
to_recursion P (x ∷ xs) h = (h.0, to_recursion P xs h.1)

from_recursion : {A : Type 0} (P : A → Type 0) (xs : List A) → AllByRecursion P xs → Each P xs
from_recursion P [] h = tt
from_recursion P (x ∷ xs) h = (h.0, from_recursion P xs h.1)

pub Each-permutation : {A : Type 0} (P : A → Type 0) (xs ys : List A) → IsPermutation xs ys → Each P xs → Each P ys
Each-permutation P xs ys p h =
    from_recursion P ys (recursion_from_All P ys
    (All-permutation P xs ys p (All-from_recursion P xs (to_recursion P xs h))))

pub IsPart-each : {A : Type 0} (P : A → Type 0) (may_lack : Bool) (xs ys : List A) → IsPart may_lack xs ys → Each P xs
    → Each P ys
IsPart-each P may_lack xs ys p h = Each-front P ys p.rest (Each-permutation P xs (ys ++ p.rest) p.order h)

pub Filtered-each : {A : Type 0} (P : A → Type 0) {Test : A → Bool → Type 0} {xs ys : List A} → Filtered Test xs ys
    → Each P xs → Each P ys
Filtered-each P none h = tt
Filtered-each P (kept t f) h = (h.0, Filtered-each P f h.1)
Filtered-each P (dropped t f) h = Filtered-each P f h.1

-- what a pairing says of each element on the right, from what holds of each on the left
pub AllZip-each : {A B : Type 0} (R : A → B → Type 0) (P : A → Type 0) (Q : B → Type 0)
    → ((a : A) (b : B) → R a b → P a → Q b) → (xs : List A) (ys : List B) → AllZip R xs ys → Each P xs → Each Q ys
AllZip-each R P Q f [] [] z h = tt
AllZip-each R P Q f [] (y ∷ ys) z h = absurd z
AllZip-each R P Q f (x ∷ xs) [] z h = absurd z
AllZip-each R P Q f (x ∷ xs) (y ∷ ys) z h = (f x y z.0 h.0, AllZip-each R P Q f xs ys z.1 h.1)

pub AllZip-append : {A B : Type 0} (R : A → B → Type 0) (xs us : List A) (ys vs : List B) → AllZip R xs ys
    → AllZip R us vs
    → AllZip R (xs ++ us) (ys ++ vs)
AllZip-append R [] us [] vs h k = k
AllZip-append R [] us (y ∷ ys) vs h k = absurd h
AllZip-append R (x ∷ xs) us [] vs h k = absurd h
AllZip-append R (x ∷ xs) us (y ∷ ys) vs h k = (h.0, AllZip-append R xs us ys vs h.1 k)

pub AllZip-weaken : {A B : Type 0} (R S : A → B → Type 0) → ((a : A) (b : B) → R a b → S a b)
    → (xs : List A) (ys : List B)
    → AllZip R xs ys → AllZip S xs ys
AllZip-weaken R S f [] [] h = tt
AllZip-weaken R S f [] (y ∷ ys) h = absurd h
AllZip-weaken R S f (x ∷ xs) [] h = absurd h
AllZip-weaken R S f (x ∷ xs) (y ∷ ys) h = (f x y h.0, AllZip-weaken R S f xs ys h.1)

pub AllZip-map : {A B C : Type 0} (R : A → B → Type 0) (S : C → B → Type 0) (g : A → C)
    → ((a : A) (b : B) → R a b → S (g a) b) → (xs : List A) (ys : List B) → AllZip R xs ys → AllZip S (map g xs) ys
AllZip-map R S g f [] [] h = tt
AllZip-map R S g f [] (y ∷ ys) h = absurd h
AllZip-map R S g f (x ∷ xs) [] h = absurd h
AllZip-map R S g f (x ∷ xs) (y ∷ ys) h = (f x y h.0, AllZip-map R S g f xs ys h.1)

pub first_of_each-each : (P : Line → Type 0) (key : Line → Row) (before lines : List Line) → Each P lines
    → Each P (first_of_each key before lines)
first_of_each-each P key before [] h = tt
first_of_each-each P key before (line ∷ lines) h =
    go (is_keyed key (key line) before) refl (first_of_each-each P key before lines h.1)
    (first_of_each-each P key (line ∷ before) lines h.1)
  where
    go : (b : Bool) → is_keyed key (key line) before ≡ b → Each P (first_of_each key before lines)
        → Each P (first_of_each key (line ∷ before) lines) → Each P (first_of_each key before (line ∷ lines))
    go true e a b = rw e a
    go false e a b = rw e (h.0, b)

pub left_by-each : (P : Line → Type 0) (u : Distinct) (lines : List Line) → Each P lines → Each P (left_by u lines)
left_by-each P every lines h = h
left_by-each P distinct lines h = first_of_each-each P (λ line. line.shown) [] lines h
left_by-each P (distinct_on e) lines h = first_of_each-each P (λ line. line.key) [] lines h

-- each row of a join is a pair, or a left row beside the padding
pub Joined-each : (P Q R : Frame → Type 0) (kind : JoinKind) (padding : Frame) {On : Frame → Bool → Type 0}
    (right : List Frame)
    → ((x y : Frame) → P x → Q y → R (x ++ y)) → ((x : Frame) → kind ≡ LeftOuter → P x → R (x ++ padding))
    → Each Q right
    → {left rows : List Frame} → Joined kind padding On right left rows → Each P left → Each R rows
Joined-each P Q R kind padding right pair pad hs no_rows h = tt
Joined-each P Q R kind padding right pair pad hs (a_row {x = x} {pairs = pairs} f j) h =
    Each-append R _ _
    (padded kind pairs (pad x) (Filtered-each R f (Each-map Q R (λ y. x ++ y) (λ y q. pair x y h.0 q) right hs)))
    (Joined-each P Q R kind padding right pair pad hs j h.1)
  where
    padded : (k : JoinKind) (ps : List Frame) → (k ≡ LeftOuter → P x → R (x ++ padding)) → Each R ps
        → Each R (or_padded k padding x ps)
    padded Inner [] to_pad r = r
    padded Inner (p ∷ ps) to_pad r = r
    padded LeftOuter [] to_pad r = (to_pad refl h.0, tt)
    padded LeftOuter (p ∷ ps) to_pad r = r

-- No row has to come before another that has to come before it.
use Rattle.std.proofs.Common.{◌≡◌, ℕ, ℤ, Bool, true, false, not, ◌&&◌, ◌||◌, List, [], ◌∷◌, refl, sym, ap, ◌∙◌, if◌then◌else◌, int_lt, arith, Ordering, Less, Equal, Greater}
use Rattle.std.specs.Cmp.Lexicographic.{slice_cmp}
use Rattle.std.specs.Ordering.{ordering_reverse, nat_cmp, is_lt}
use Rattle.std.proofs.lemmas.Cmp.{nat_list_cmp_total}
use Rattle.std.proofs.lemmas.Bool.{false≢true}
use Rattle.std.proofs.lemmas.Int.{ints}
use Rattle.sql_leaf.specs.declared.position.Direction.{Direction}
use Rattle.sql_pass.specs.declared.value.Value.{Value}
use Rattle.sql_pass.specs.declared.value.Value.TheVariants as V
use Rattle.sql_rows_meaning.specs.Rows.{NullPlaces, descends, nulls_first, comes_before, row_before}
use Rattle.sql_rows_meaning.specs.Values.{is_below}
use Rattle.sql_rows_meaning.proofs.Sorting.{IsAsymmetric}

bool-below : (x y : Bool) → (not x && y) ≡ true → (not y && x) ≡ false
bool-below true y e = absurd (false≢true e)
bool-below false true e = refl
bool-below false false e = absurd (false≢true e)

int-below : (x y : ℤ) → int_lt x y ≡ true → int_lt y x ≡ false
int-below x y e = go (int_lt y x) refl
  where
    go : (b : Bool) → int_lt y x ≡ b → b ≡ false
    go true k = absurd (omega (arith, ints))
    go false k = refl

list-below : (x y : List ℕ) → is_lt (slice_cmp nat_cmp x y) ≡ true → is_lt (slice_cmp nat_cmp y x) ≡ false
list-below x y e = go (slice_cmp nat_cmp y x) (ap is_lt (sym (nat_list_cmp_total.antisymm x y)) ∙ e)
  where
    go : (o : Ordering) → is_lt (ordering_reverse o) ≡ true → is_lt o ≡ false
    go Less h = absurd (false≢true h)
    go Equal h = refl
    go Greater h = refl

below-asymmetric : IsAsymmetric is_below
below-asymmetric (V.SmallInt x) (V.SmallInt y) e = int-below x y e
below-asymmetric (V.Integer x) (V.Integer y) e = int-below x y e
below-asymmetric (V.BigInt x) (V.BigInt y) e = int-below x y e
below-asymmetric (V.Text x) (V.Text y) e = list-below x y e
below-asymmetric (V.Binary x) (V.Binary y) e = list-below x y e
below-asymmetric (V.Bool x) (V.Bool y) e = bool-below x y e
below-asymmetric x y e = absurd (false≢true e)

two-ways : (b : Bool) (x y : Value) → (if b then is_below y x else is_below x y) ≡ true
    → (if b then is_below x y else is_below y x) ≡ false
two-ways true x y e = below-asymmetric y x e
two-ways false x y e = below-asymmetric x y e

opposite : (b : Bool) → not b ≡ true → b ≡ false
opposite true e = absurd (false≢true e)
opposite false e = refl

reversed : (b : Bool) → b ≡ true → not b ≡ false
reversed true e = refl
reversed false e = absurd (false≢true e)

comes-asymmetric : (places : NullPlaces) (by : Direction) → IsAsymmetric (comes_before places by)
comes-asymmetric places by V.Null V.Null e = absurd (false≢true e)
comes-asymmetric places by V.Null (V.SmallInt y) e = reversed (nulls_first places by) e
comes-asymmetric places by V.Null (V.Integer y) e = reversed (nulls_first places by) e
comes-asymmetric places by V.Null (V.BigInt y) e = reversed (nulls_first places by) e
comes-asymmetric places by V.Null (V.Text y) e = reversed (nulls_first places by) e
comes-asymmetric places by V.Null (V.Binary y) e = reversed (nulls_first places by) e
comes-asymmetric places by V.Null (V.Bool y) e = reversed (nulls_first places by) e
comes-asymmetric places by (V.SmallInt x) V.Null e = opposite (nulls_first places by) e
comes-asymmetric places by (V.Integer x) V.Null e = opposite (nulls_first places by) e
comes-asymmetric places by (V.BigInt x) V.Null e = opposite (nulls_first places by) e
comes-asymmetric places by (V.Text x) V.Null e = opposite (nulls_first places by) e
comes-asymmetric places by (V.Binary x) V.Null e = opposite (nulls_first places by) e
comes-asymmetric places by (V.Bool x) V.Null e = opposite (nulls_first places by) e
comes-asymmetric places by (V.SmallInt x) (V.SmallInt y) e = two-ways (descends by) (V.SmallInt x) (V.SmallInt y) e
comes-asymmetric places by (V.SmallInt x) (V.Integer y) e = two-ways (descends by) (V.SmallInt x) (V.Integer y) e
comes-asymmetric places by (V.SmallInt x) (V.BigInt y) e = two-ways (descends by) (V.SmallInt x) (V.BigInt y) e
comes-asymmetric places by (V.SmallInt x) (V.Text y) e = two-ways (descends by) (V.SmallInt x) (V.Text y) e
comes-asymmetric places by (V.SmallInt x) (V.Binary y) e = two-ways (descends by) (V.SmallInt x) (V.Binary y) e
comes-asymmetric places by (V.SmallInt x) (V.Bool y) e = two-ways (descends by) (V.SmallInt x) (V.Bool y) e
comes-asymmetric places by (V.Integer x) (V.SmallInt y) e = two-ways (descends by) (V.Integer x) (V.SmallInt y) e
comes-asymmetric places by (V.Integer x) (V.Integer y) e = two-ways (descends by) (V.Integer x) (V.Integer y) e
comes-asymmetric places by (V.Integer x) (V.BigInt y) e = two-ways (descends by) (V.Integer x) (V.BigInt y) e
comes-asymmetric places by (V.Integer x) (V.Text y) e = two-ways (descends by) (V.Integer x) (V.Text y) e
comes-asymmetric places by (V.Integer x) (V.Binary y) e = two-ways (descends by) (V.Integer x) (V.Binary y) e
comes-asymmetric places by (V.Integer x) (V.Bool y) e = two-ways (descends by) (V.Integer x) (V.Bool y) e
comes-asymmetric places by (V.BigInt x) (V.SmallInt y) e = two-ways (descends by) (V.BigInt x) (V.SmallInt y) e
comes-asymmetric places by (V.BigInt x) (V.Integer y) e = two-ways (descends by) (V.BigInt x) (V.Integer y) e
comes-asymmetric places by (V.BigInt x) (V.BigInt y) e = two-ways (descends by) (V.BigInt x) (V.BigInt y) e
comes-asymmetric places by (V.BigInt x) (V.Text y) e = two-ways (descends by) (V.BigInt x) (V.Text y) e
comes-asymmetric places by (V.BigInt x) (V.Binary y) e = two-ways (descends by) (V.BigInt x) (V.Binary y) e
comes-asymmetric places by (V.BigInt x) (V.Bool y) e = two-ways (descends by) (V.BigInt x) (V.Bool y) e
comes-asymmetric places by (V.Text x) (V.SmallInt y) e = two-ways (descends by) (V.Text x) (V.SmallInt y) e
comes-asymmetric places by (V.Text x) (V.Integer y) e = two-ways (descends by) (V.Text x) (V.Integer y) e
comes-asymmetric places by (V.Text x) (V.BigInt y) e = two-ways (descends by) (V.Text x) (V.BigInt y) e
comes-asymmetric places by (V.Text x) (V.Text y) e = two-ways (descends by) (V.Text x) (V.Text y) e
comes-asymmetric places by (V.Text x) (V.Binary y) e = two-ways (descends by) (V.Text x) (V.Binary y) e
comes-asymmetric places by (V.Text x) (V.Bool y) e = two-ways (descends by) (V.Text x) (V.Bool y) e
comes-asymmetric places by (V.Binary x) (V.SmallInt y) e = two-ways (descends by) (V.Binary x) (V.SmallInt y) e
comes-asymmetric places by (V.Binary x) (V.Integer y) e = two-ways (descends by) (V.Binary x) (V.Integer y) e
comes-asymmetric places by (V.Binary x) (V.BigInt y) e = two-ways (descends by) (V.Binary x) (V.BigInt y) e
comes-asymmetric places by (V.Binary x) (V.Text y) e = two-ways (descends by) (V.Binary x) (V.Text y) e
comes-asymmetric places by (V.Binary x) (V.Binary y) e = two-ways (descends by) (V.Binary x) (V.Binary y) e
comes-asymmetric places by (V.Binary x) (V.Bool y) e = two-ways (descends by) (V.Binary x) (V.Bool y) e
comes-asymmetric places by (V.Bool x) (V.SmallInt y) e = two-ways (descends by) (V.Bool x) (V.SmallInt y) e
comes-asymmetric places by (V.Bool x) (V.Integer y) e = two-ways (descends by) (V.Bool x) (V.Integer y) e
comes-asymmetric places by (V.Bool x) (V.BigInt y) e = two-ways (descends by) (V.Bool x) (V.BigInt y) e
comes-asymmetric places by (V.Bool x) (V.Text y) e = two-ways (descends by) (V.Bool x) (V.Text y) e
comes-asymmetric places by (V.Bool x) (V.Binary y) e = two-ways (descends by) (V.Bool x) (V.Binary y) e
comes-asymmetric places by (V.Bool x) (V.Bool y) e = two-ways (descends by) (V.Bool x) (V.Bool y) e

pub row-asymmetric : (places : NullPlaces) (items : List Direction) → IsAsymmetric (row_before places items)
row-asymmetric places [] x y e = absurd (false≢true e)
row-asymmetric places (by ∷ items) [] y e = absurd (false≢true e)
row-asymmetric places (by ∷ items) (x ∷ xs) [] e = absurd (false≢true e)
row-asymmetric places (by ∷ items) (x ∷ xs) (y ∷ ys) e =
    go (comes_before places by x y) (comes_before places by y x) (comes-asymmetric places by x y)
    (row-asymmetric places items xs ys) e
  where
    go : (a b : Bool) → (a ≡ true → b ≡ false)
        → (row_before places items xs ys ≡ true → row_before places items ys xs ≡ false)
        → (a || (not b && row_before places items xs ys)) ≡ true → (b || (not a && row_before places items ys xs)) ≡ false
    go true true f r h = absurd (false≢true (sym (f refl)))
    go true false f r h = refl
    go false true f r h = absurd (false≢true h)
    go false false f r h = r h

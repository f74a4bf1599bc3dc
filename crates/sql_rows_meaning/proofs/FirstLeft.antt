-- Of lines in an order DISTINCT ON leaves the first of each key, and what is left is in that order: rows whose values are of one
-- type item by item are ordered as a weak order orders them.
use Rattle.std.proofs.Common.{◌≡◌, ℕ, suc, ◌+◌, ℤ, Bool, true, false, not, ◌&&◌, ◌||◌, List, [], ◌∷◌, map, get_or, refl, sym, ap, subst, ◌∙◌, inl, inr, ◌⊎◌, if◌then◌else◌, int_lt, arith, Ordering, Less, Equal, Greater, IsSortedBy}
use Rattle.std.specs.Cmp.Lexicographic.{slice_cmp}
use Rattle.std.specs.Ordering.{ordering_reverse, nat_cmp, is_lt}
use Rattle.std.proofs.lemmas.Cmp.{nat_list_cmp_total}
use Rattle.std.proofs.lemmas.Bool.{false≢true}
use Rattle.std.proofs.lemmas.Int.{ints}
use Rattle.sql_schema.specs.declared.types.Base.{Base}
use Rattle.sql_schema.specs.declared.types.Base.TheVariants as base
use Rattle.sql_schema.specs.declared.types.SqlType.{SqlType}
use Rattle.sql_schema.proofs.ExactTypes.{exact-base}
use Rattle.sql_pass.specs.declared.value.Value.{Value}
use Rattle.sql_pass.specs.declared.value.Value.TheVariants as V
use Rattle.sql_leaf.specs.declared.position.Direction.{Direction}
use Rattle.sql_rules.specs.Lists.{Each}
use Rattle.sql_rules.specs.Types.{fits}
use Rattle.sql_rows_meaning.specs.Answers.{Line, is_keyed, first_of_each}
use Rattle.sql_rows_meaning.specs.Fitting.{RowFits}
use Rattle.sql_rows_meaning.specs.Rows.{Row, NullPlaces, same_row, descends, nulls_first, comes_before, row_before}
use Rattle.sql_rows_meaning.specs.Worked.{FirstIsLeft}
use Rattle.sql_rows_meaning.proofs.Counts.{exact-row}
use Rattle.sql_rows_meaning.proofs.Lists.{Each-weaken, first_of_each-each}
use Rattle.sql_rows_meaning.proofs.Orders.{row-asymmetric}
use Rattle.sql_rows_meaning.proofs.Sorting.{IsPath, in-order, path-map}

-- ---- what a value of a type is

abbrev Payload : Base → Type 0
Payload base.SmallInt = ℤ
Payload base.Integer = ℤ
Payload base.BigInt = ℤ
Payload base.Text = List ℕ
Payload base.Binary = List ℕ
Payload base.Bool = Bool

abbrev made : (b : Base) → Payload b → Value
made base.SmallInt x = V.SmallInt x
made base.Integer x = V.Integer x
made base.BigInt x = V.BigInt x
made base.Text x = V.Text x
made base.Binary x = V.Binary x
made base.Bool x = V.Bool x

abbrev lesser : (b : Base) → Payload b → Payload b → Bool
lesser base.SmallInt x y = int_lt x y
lesser base.Integer x y = int_lt x y
lesser base.BigInt x y = int_lt x y
lesser base.Text x y = is_lt (slice_cmp nat_cmp x y)
lesser base.Binary x y = is_lt (slice_cmp nat_cmp x y)
lesser base.Bool x y = not x && y

abbrev IsOf : Base → Value → Type 0
IsOf b v = (v ≡ V.Null) ⊎ ((x : Payload b) × (v ≡ made b x))

of-base : (b c : Base) (v : Value) → b ≡ c → IsOf c v → IsOf b v
of-base b c v e h = subst (λ k. IsOf k v) (sym e) h

is-of : (t : SqlType) (v : Value) → fits t v ≡ true → IsOf t.base v
is-of t V.Null h = inl refl
is-of t (V.SmallInt x) h = of-base t.base base.SmallInt (V.SmallInt x) (exact-base t.base base.SmallInt h) (inr (x, refl))
is-of t (V.Integer x) h = of-base t.base base.Integer (V.Integer x) (exact-base t.base base.Integer h) (inr (x, refl))
is-of t (V.BigInt x) h = of-base t.base base.BigInt (V.BigInt x) (exact-base t.base base.BigInt h) (inr (x, refl))
is-of t (V.Text x) h = of-base t.base base.Text (V.Text x) (exact-base t.base base.Text h) (inr (x, refl))
is-of t (V.Binary x) h = of-base t.base base.Binary (V.Binary x) (exact-base t.base base.Binary h) (inr (x, refl))
is-of t (V.Bool x) h = of-base t.base base.Bool (V.Bool x) (exact-base t.base base.Bool h) (inr (x, refl))

-- ---- what is not below a value that is not below a third is not below that

int-over : (x y z : ℤ) → int_lt x y ≡ false → int_lt y z ≡ false → int_lt x z ≡ false
int-over x y z h k = go (int_lt x z) refl
  where
    go : (b : Bool) → int_lt x z ≡ b → b ≡ false
    go true e = absurd (omega (arith, ints))
    go false e = refl

list-over : (x y z : List ℕ) → is_lt (slice_cmp nat_cmp x y) ≡ false → is_lt (slice_cmp nat_cmp y z) ≡ false
    → is_lt (slice_cmp nat_cmp x z) ≡ false
list-over x y z h k = go (slice_cmp nat_cmp x z) refl
  where
    less : (o : Ordering) → is_lt o ≡ false → o ≡ Less → ⊥
    less Less e q = false≢true (sym e)
    less Equal e q = absurd cc
    less Greater e q = absurd cc

    by : (o : Ordering) → slice_cmp nat_cmp x y ≡ o → slice_cmp nat_cmp x z ≡ Less → ⊥
    by Less e q = less (slice_cmp nat_cmp x y) h e
    by Equal e q = less (slice_cmp nat_cmp y z) k (sym (nat_list_cmp_total.congr x y z e) ∙ q)
    by Greater e q =
        less (slice_cmp nat_cmp y z) k
        (nat_list_cmp_total.trans y x z (nat_list_cmp_total.antisymm y x ∙ ap ordering_reverse e) q)

    go : (o : Ordering) → slice_cmp nat_cmp x z ≡ o → is_lt o ≡ false
    go Less e = absurd (by (slice_cmp nat_cmp x y) refl e)
    go Equal e = refl
    go Greater e = refl

bool-over : (x y z : Bool) → (not x && y) ≡ false → (not y && z) ≡ false → (not x && z) ≡ false
bool-over true y z h k = refl
bool-over false true true h k = absurd (false≢true (sym h))
bool-over false true false h k = refl
bool-over false false true h k = absurd (false≢true (sym k))
bool-over false false false h k = refl

over : (b : Base) (x y z : Payload b) → lesser b x y ≡ false → lesser b y z ≡ false → lesser b x z ≡ false
over base.SmallInt x y z h k = int-over x y z h k
over base.Integer x y z h k = int-over x y z h k
over base.BigInt x y z h k = int-over x y z h k
over base.Text x y z h k = list-over x y z h k
over base.Binary x y z h k = list-over x y z h k
over base.Bool x y z h k = bool-over x y z h k

either-over : (d : Bool) (b : Base) (x y z : Payload b) → (if d then lesser b y x else lesser b x y) ≡ false
    → (if d then lesser b z y else lesser b y z) ≡ false → (if d then lesser b z x else lesser b x z) ≡ false
either-over true b x y z h k = over b z y x k h
either-over false b x y z h k = over b x y z h k

module _ (places : NullPlaces) (by : Direction) where
  before-made : (b : Base) (x y : Payload b)
      → comes_before places by (made b x) (made b y) ≡ (if descends by then lesser b y x else lesser b x y)
  before-made base.SmallInt x y = refl
  before-made base.Integer x y = refl
  before-made base.BigInt x y = refl
  before-made base.Text x y = refl
  before-made base.Binary x y = refl
  before-made base.Bool x y = refl

  null-before : (b : Base) (y : Payload b) → comes_before places by V.Null (made b y) ≡ nulls_first places by
  null-before base.SmallInt y = refl
  null-before base.Integer y = refl
  null-before base.BigInt y = refl
  null-before base.Text y = refl
  null-before base.Binary y = refl
  null-before base.Bool y = refl

  before-null : (b : Base) (x : Payload b) → comes_before places by (made b x) V.Null ≡ not (nulls_first places by)
  before-null base.SmallInt x = refl
  before-null base.Integer x = refl
  before-null base.BigInt x = refl
  before-null base.Text x = refl
  before-null base.Binary x = refl
  before-null base.Bool x = refl

  never-both : (b : Bool) → not b ≡ false → b ≡ false → ⊥
  never-both true h k = false≢true (sym k)
  never-both false h k = false≢true (sym h)

  made-over : (b : Base) (u v w : Value) → IsOf b u → IsOf b v → IsOf b w → comes_before places by u v ≡ false
      → comes_before places by v w ≡ false → comes_before places by u w ≡ false
  made-over b u v w (inl p) (inl q) (inl r) h k = subst (λ z. comes_before places by z w ≡ false) (sym p)
      (subst (λ z. comes_before places by z w ≡ false) q k)
  made-over b u v w (inl p) (inl q) (inr (z, r)) h k =
      subst (λ x. comes_before places by x w ≡ false) (q ∙ sym p) k
  made-over b u v w (inl p) (inr (y, q)) (inl r) h k =
      subst (λ x. comes_before places by x w ≡ false) (sym p)
      (subst (λ x. comes_before places by V.Null x ≡ false) (sym r) refl)
  made-over b u v w (inl p) (inr (y, q)) (inr (z, r)) h k =
      subst (λ x. comes_before places by x w ≡ false) (sym p)
      (subst (λ x. comes_before places by V.Null x ≡ false) (sym r)
      (null-before b z ∙ (sym (null-before b y)
      ∙ subst (λ x. comes_before places by V.Null x ≡ false) q (subst (λ x. comes_before places by x v ≡ false) p h))))
  made-over b u v w (inr (x, p)) (inl q) (inl r) h k =
      subst (λ z. comes_before places by u z ≡ false) (q ∙ sym r) h
  made-over b u v w (inr (x, p)) (inl q) (inr (z, r)) h k =
      absurd (never-both (nulls_first places by)
      (sym (before-null b x)
      ∙ subst (λ y. comes_before places by y V.Null ≡ false) p (subst (λ y. comes_before places by u y ≡ false) q h))
      (sym (null-before b z)
      ∙ subst (λ y. comes_before places by V.Null y ≡ false) r (subst (λ y. comes_before places by y w ≡ false) q k)))
  made-over b u v w (inr (x, p)) (inr (y, q)) (inl r) h k =
      subst (λ z. comes_before places by z w ≡ false) (sym p)
      (subst (λ z. comes_before places by (made b x) z ≡ false) (sym r)
      (before-null b x ∙ (sym (before-null b y)
      ∙ subst (λ z. comes_before places by (made b y) z ≡ false) r
      (subst (λ z. comes_before places by z w ≡ false) q k))))
  made-over b u v w (inr (x, p)) (inr (y, q)) (inr (z, r)) h k =
      subst (λ l. comes_before places by l w ≡ false) (sym p)
      (subst (λ l. comes_before places by (made b x) l ≡ false) (sym r)
      (before-made b x z ∙ either-over (descends by) b x y z
      (sym (before-made b x y)
      ∙ subst (λ l. comes_before places by (made b x) l ≡ false) q
      (subst (λ l. comes_before places by l v ≡ false) p h))
      (sym (before-made b y z)
      ∙ subst (λ l. comes_before places by (made b y) l ≡ false) r
      (subst (λ l. comes_before places by l w ≡ false) q k))))

-- the same of rows, by the first item in which they differ
first_false : (a c : Bool) → (a || c) ≡ false → a ≡ false
first_false true c h = h
first_false false c h = refl

then_false : (a c : Bool) → (a || c) ≡ false → c ≡ false
then_false true c h = absurd (false≢true (sym h))
then_false false c h = h

or_later : (a c : Bool) → (not a && c) ≡ false → (a ≡ true) ⊎ (c ≡ false)
or_later true c h = inl refl
or_later false c h = inr h

row-over : (places : NullPlaces) (items : List Direction) (types : List SqlType) (xs ys zs : Row) → RowFits types xs
    → RowFits types ys → RowFits types zs → row_before places items xs ys ≡ false
    → row_before places items ys zs ≡ false → row_before places items xs zs ≡ false
row-over places [] types xs ys zs fx fy fz h k = refl
row-over places (by ∷ items) [] [] ys zs fx fy fz h k = refl
row-over places (by ∷ items) [] (x ∷ xs) ys zs fx fy fz h k = absurd fx
row-over places (by ∷ items) (t ∷ types) [] ys zs fx fy fz h k = absurd fx
row-over places (by ∷ items) (t ∷ types) (x ∷ xs) [] zs fx fy fz h k = absurd fy
row-over places (by ∷ items) (t ∷ types) (x ∷ xs) (y ∷ ys) [] fx fy fz h k = absurd fz
row-over places (by ∷ items) (t ∷ types) (x ∷ xs) (y ∷ ys) (z ∷ zs) fx fy fz h k =
    go (comes_before places by x z) (comes_before places by z x) refl refl
    (row-over places items types xs ys zs fx.1 fy.1 fz.1)
  where
    vx : IsOf t.base x
    vx = is-of t x fx.0

    vy : IsOf t.base y
    vy = is-of t y fy.0

    vz : IsOf t.base z
    vz = is-of t z fz.0

    not_xy : comes_before places by x y ≡ false
    not_xy = first_false (comes_before places by x y) _ h

    not_yz : comes_before places by y z ≡ false
    not_yz = first_false (comes_before places by y z) _ k

    later : comes_before places by z x ≡ false
        → (row_before places items xs ys ≡ false → row_before places items ys zs ≡ false
        → row_before places items xs zs ≡ false) → row_before places items xs zs ≡ false
    later e next =
        both (or_later (comes_before places by y x) (row_before places items xs ys)
        (then_false (comes_before places by x y) _ h))
        (or_later (comes_before places by z y) (row_before places items ys zs)
        (then_false (comes_before places by y z) _ k))
      where
        both : (comes_before places by y x ≡ true) ⊎ (row_before places items xs ys ≡ false)
            → (comes_before places by z y ≡ true) ⊎ (row_before places items ys zs ≡ false)
            → row_before places items xs zs ≡ false
        both (inl a) b = absurd (false≢true (sym (made-over places by t.base y z x vy vz vx not_yz e) ∙ a))
        both (inr a) (inl b) = absurd (false≢true (sym (made-over places by t.base z x y vz vx vy e not_xy) ∙ b))
        both (inr a) (inr b) = next a b

    go : (a b : Bool) → comes_before places by x z ≡ a → comes_before places by z x ≡ b
        → (row_before places items xs ys ≡ false → row_before places items ys zs ≡ false
        → row_before places items xs zs ≡ false)
        → (a || (not b && row_before places items xs zs)) ≡ false
    go true b p q next =
        absurd (false≢true (sym (made-over places by t.base x y z vx vy vz not_xy not_yz) ∙ p))
    go false true p q next = refl
    go false false p q next = later q next

-- ---- lines in an order

path-of : {A : Type 0} (before : A → A → Bool) (xs : List A) → IsSortedBy before xs → IsPath before xs
path-of before [] h = tt
path-of before (x ∷ []) h = (tt, tt)
path-of before (x ∷ (y ∷ ys)) h = (
  h 0 x (omega arith) (omega arith),
  path-of before (y ∷ ys) (λ k d l u. let next : suc k + 1 ≡ suc (k + 1) = omega arith in
      subst (λ n. before (get_or (x ∷ (y ∷ ys)) n d) (get_or (y ∷ ys) k d) ≡ false) next
      (h (suc k) d (omega arith) (omega arith))),
)

each-both : {A : Type 0} (P Q : A → Type 0) (xs : List A) → Each P xs → Each Q xs → Each (λ x. P x × Q x) xs
each-both P Q [] h k = tt
each-both P Q (x ∷ xs) h k = ((h.0, k.0), each-both P Q xs h.1 k.1)

-- no element has to come before one that stands before it
abbrev IsPairwise : {A : Type 0} → (A → A → Bool) → List A → Type 0
IsPairwise before [] = Unit {0}
IsPairwise before (x ∷ xs) = Each (λ y. before y x ≡ false) xs × IsPairwise before xs

module _ {A : Type 0} (T : A → Type 0) (before : A → A → Bool)
    (weak : (x y z : A) → T x → T y → T z → before x y ≡ false → before y z ≡ false → before x z ≡ false) where
  after : (x : A) (ys : List A) → T x → Each T ys → IsPath before (x ∷ ys) → Each (λ y. before y x ≡ false) ys
  after x [] tx ts p = tt
  after x (y ∷ ys) tx ts p = (
    p.0,
    Each-weaken (λ z. T z × (before z y ≡ false)) (λ z. before z x ≡ false)
        (λ z h. weak z y x h.0 ts.0 tx h.1 p.0) ys
        (each-both T (λ z. before z y ≡ false) ys ts.1 (after y ys ts.0 ts.1 p.1)),
  )

  pairwise-of : (xs : List A) → Each T xs → IsPath before xs → IsPairwise before xs
  pairwise-of [] ts p = tt
  pairwise-of (x ∷ xs) ts p = (after x xs ts.0 ts.1 p, pairwise-of xs ts.1 p.1)

path-pairwise : {A : Type 0} (before : A → A → Bool) (xs : List A) → IsPairwise before xs → IsPath before xs
path-pairwise before [] h = tt
path-pairwise before (x ∷ []) h = (tt, tt)
path-pairwise before (x ∷ (y ∷ ys)) h = (h.0.0, path-pairwise before (y ∷ ys) h.1)

-- ---- the first of each key

module _ (key : Line → Row) (before : Line → Line → Bool) where
  left-pairwise : (seen lines : List Line) → IsPairwise before lines → IsPairwise before (first_of_each key seen lines)
  left-pairwise seen [] h = tt
  left-pairwise seen (x ∷ xs) h =
      go (is_keyed key (key x) seen) (left-pairwise seen xs h.1) (left-pairwise (x ∷ seen) xs h.1)
    where
      go : (b : Bool) → IsPairwise before (first_of_each key seen xs)
          → IsPairwise before (first_of_each key (x ∷ seen) xs)
          → IsPairwise before (if b then first_of_each key seen xs else x ∷ first_of_each key (x ∷ seen) xs)
      go true a b = a
      go false a b = (first_of_each-each (λ y. before y x ≡ false) key (x ∷ seen) xs h.0, b)

  head_unkeyed : (row : Row) (x : Line) (seen : List Line) → is_keyed key row (x ∷ seen) ≡ false
      → same_row row (key x) ≡ false
  head_unkeyed row x seen e = go (same_row row (key x)) e
    where
      go : (b : Bool) → (if b then true else is_keyed key row seen) ≡ false → b ≡ false
      go true k = k
      go false k = refl

  rest_unkeyed : (row : Row) (x : Line) (seen : List Line) → is_keyed key row (x ∷ seen) ≡ false
      → is_keyed key row seen ≡ false
  rest_unkeyed row x seen e = go (same_row row (key x)) e
    where
      go : (b : Bool) → (if b then true else is_keyed key row seen) ≡ false → is_keyed key row seen ≡ false
      go true k = absurd (false≢true (sym k))
      go false k = k

  unkeyed : (seen lines : List Line) → Each (λ c. is_keyed key (key c) seen ≡ false) (first_of_each key seen lines)
  unkeyed seen [] = tt
  unkeyed seen (x ∷ xs) = go (is_keyed key (key x) seen) refl (unkeyed seen xs) (unkeyed (x ∷ seen) xs)
    where
      go : (b : Bool) → is_keyed key (key x) seen ≡ b
          → Each (λ c. is_keyed key (key c) seen ≡ false) (first_of_each key seen xs)
          → Each (λ c. is_keyed key (key c) (x ∷ seen) ≡ false) (first_of_each key (x ∷ seen) xs)
          → Each (λ c. is_keyed key (key c) seen ≡ false)
          (if b then first_of_each key seen xs else x ∷ first_of_each key (x ∷ seen) xs)
      go true e a b = a
      go false e a b =
          (e, Each-weaken _ _ (λ c h. rest_unkeyed (key c) x seen h) (first_of_each key (x ∷ seen) xs) b)

  -- none of its key comes before it
  abbrev Leads : List Line → Line → Type 0
  Leads lines c = Each (λ l. same_row (key c) (key l) ≡ true → before l c ≡ false) lines

  leads : ((l : Line) → before l l ≡ false) → (seen lines : List Line) → IsPairwise before lines
      → Each (Leads lines) (first_of_each key seen lines)
  leads irreflexive seen [] h = tt
  leads irreflexive seen (x ∷ xs) h =
      go (is_keyed key (key x) seen) refl (leads irreflexive seen xs h.1) (leads irreflexive (x ∷ seen) xs h.1)
    where
      go : (b : Bool) → is_keyed key (key x) seen ≡ b → Each (Leads xs) (first_of_each key seen xs)
          → Each (Leads xs) (first_of_each key (x ∷ seen) xs)
          → Each (Leads (x ∷ xs)) (if b then first_of_each key seen xs else x ∷ first_of_each key (x ∷ seen) xs)
      go true e a b =
          Each-weaken (λ c. (is_keyed key (key c) seen ≡ false) × Leads xs c) (Leads (x ∷ xs))
          (λ c k. (
            λ s. absurd (false≢true (sym k.0
                ∙ (ap (λ row. is_keyed key row seen) (exact-row (key c) (key x) s) ∙ e))),
            k.1,
          ))
          (first_of_each key seen xs)
          (each-both _ (Leads xs) (first_of_each key seen xs) (unkeyed seen xs) a)
      go false e a b = (
        (λ s. irreflexive x, Each-weaken (λ l. before l x ≡ false) _ (λ l k s. k) xs h.0),
        Each-weaken (λ c. (is_keyed key (key c) (x ∷ seen) ≡ false) × Leads xs c) (Leads (x ∷ xs))
            (λ c k. (λ s. absurd (false≢true (sym (head_unkeyed (key c) x seen k.0) ∙ s)), k.1))
            (first_of_each key (x ∷ seen) xs)
            (each-both _ (Leads xs) (first_of_each key (x ∷ seen) xs) (unkeyed (x ∷ seen) xs) b),
      )

path-unmap : {A B : Type 0} (f : A → B) (before : B → B → Bool) (xs : List A) → IsPath before (map f xs)
    → IsPath (λ x y. before (f x) (f y)) xs
path-unmap f before [] h = tt
path-unmap f before (x ∷ []) h = (tt, tt)
path-unmap f before (x ∷ (y ∷ ys)) h = (h.0, path-unmap f before (y ∷ ys) h.1)

pub first-left : FirstIsLeft
first-left places items types lines fit ordered = (
  in-order (row_before places items) (map (λ l. l.order) (first_of_each (λ l. l.key) [] lines))
      (path-map (λ l. l.order) (row_before places items) (first_of_each (λ l. l.key) [] lines)
      (path-pairwise (λ l m. row_before places items l.order m.order) (first_of_each (λ l. l.key) [] lines)
      (left-pairwise (λ l. l.key) (λ l m. row_before places items l.order m.order) [] lines pairwise))),
  leads (λ l. l.key) (λ l m. row_before places items l.order m.order)
      (λ l. itself l.order (row_before places items l.order l.order) refl) [] lines pairwise,
)
  where
    itself : (row : Row) (b : Bool) → row_before places items row row ≡ b → b ≡ false
    itself row true e = sym e ∙ row-asymmetric places items row row e
    itself row false e = refl

    pairwise : IsPairwise (λ l m. row_before places items l.order m.order) lines
    pairwise =
        pairwise-of (λ l. RowFits types l.order) (λ l m. row_before places items l.order m.order)
        (λ x y z tx ty tz h k. row-over places items types x.order y.order z.order tx ty tz h k) lines fit
        (path-unmap (λ l. l.order) (row_before places items) lines
        (path-of (row_before places items) (map (λ l. l.order) lines) ordered))

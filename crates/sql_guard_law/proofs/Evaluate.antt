-- Expressions without aggregates and subselects have one value, whatever the database.
use Rattle.std.proofs.Common.{◌≡◌, ℕ, ◌+◌, Bool, true, List, [], ◌∷◌, ◌++◌, map, length, Option, Some, None, refl, sym, ap, ap₂, subst, ◌∙◌, arith, inl, inr, if◌then◌else◌}
use Rattle.std.proofs.lemmas.List.{length-append, length-map}
use Rattle.sql_schema.specs.declared.types.SqlType.{SqlType}
use Rattle.sql_schema.specs.declared.declaration.ColumnDecl.{ColumnDecl}
use Rattle.sql_schema.specs.declared.declaration.TableDecl.{TableDecl}
use Rattle.sql_pass.specs.declared.value.Value.{Value}
use Rattle.sql_node.specs.Tree.{Origin, Expr, column, value, list, count_star, nullable, unary, count, compared, joined, exists, single, among_values, among_rows, Exprs, no_exprs, more_exprs, MaybeExpr, no_expr, an_expr}
use Rattle.sql_source.specs.Fields.{fields_in, fields_in_each, aliased}
use Rattle.sql_origin.specs.Origins.{a_table, an_alias}
use Rattle.sql_origin.proofs.OriginLaws.{same-origin_itself}
use Rattle.sql_rules.specs.Lists.{AnyOf, Each}
use Rattle.sql_rules.specs.Scope.{nodes, nodes_of}
use Rattle.sql_rules.specs.Types.{given, given_each, element_types, only_type, is_bool, type_of, all_nullable, unary_type, compared_type, joined_type, among_type, one, many}
use Rattle.sql_rules.proofs.Lists.{any_left, any_right}
use Rattle.sql_rules.proofs.Nulled.{nulled_elements}
use Rattle.sql_rows_meaning.specs.Answers.{Gives, AllGive, Holds, first_value}
use Rattle.sql_rows_meaning.specs.Frames.{Database, Frame, row_of, value_in, value_of}
use Rattle.sql_guard_law.specs.Restricted.{predicate_under, predicate_of}
use Rattle.sql_guard_law.specs.Tenant.{IsBeyond, IsOwn}
use Rattle.sql_rows_meaning.specs.Groups.{Group, one_row}
use Rattle.sql_rows_meaning.specs.Rows.{NullPlaces}
use Rattle.sql_rows_meaning.specs.Values.{is_true, compared_value, joined_value, unary_value, among_value}
use Rattle.sql_rows_meaning.proofs.Facts.{nulled}
use Rattle.sql_rows_meaning.proofs.Lists.{Each-front, Each-end}
use Rattle.sql_rows_meaning.proofs.Typed.{one-typed, only-typed, unary-typed, compared-typed, joined-typed, among-typed, all_nulled-typed, split-typed}

-- ---- expressions without aggregates and subselects

abbrev mutual
  pub IsFlat : Expr → Type 0
  IsFlat (column o c) = Unit {0}
  IsFlat (value t x) = Unit {0}
  IsFlat (list es) = AreFlat es
  IsFlat count_star = ⊥
  IsFlat (nullable e) = IsFlat e
  IsFlat (unary n e) = IsFlat e
  IsFlat (count e) = ⊥
  IsFlat (compared by a b) = IsFlat a × IsFlat b
  IsFlat (joined by a b) = IsFlat a × IsFlat b
  IsFlat (exists q) = ⊥
  IsFlat (single q) = ⊥
  IsFlat (among_values n e t xs) = IsFlat e
  IsFlat (among_rows n e q) = ⊥

  pub AreFlat : Exprs → Type 0
  AreFlat no_exprs = Unit {0}
  AreFlat (more_exprs e es) = IsFlat e × AreFlat es

mutual
  pub is-flat : (e : Expr) → ¬ AnyOf IsBeyond (nodes e) → IsFlat e
  is-flat (column o c) h = tt
  is-flat (value t x) h = tt
  is-flat (list es) h = are-flat es (λ i. h (inr i))
  is-flat count_star h = h (inl tt)
  is-flat (nullable e) h = is-flat e (λ i. h (inr i))
  is-flat (unary n e) h = is-flat e (λ i. h (inr i))
  is-flat (count e) h = h (inl tt)
  is-flat (compared by a b) h = (
    is-flat a (λ i. h (inr (any_left IsBeyond (nodes a) (nodes b) i))),
    is-flat b
        (λ i. h (inr (any_right IsBeyond (nodes a) (nodes b) i))),
  )
  is-flat (joined by a b) h = (
    is-flat a (λ i. h (inr (any_left IsBeyond (nodes a) (nodes b) i))),
    is-flat b
        (λ i. h (inr (any_right IsBeyond (nodes a) (nodes b) i))),
  )
  is-flat (exists q) h = h (inl tt)
  is-flat (single q) h = h (inl tt)
  is-flat (among_values n e t xs) h = is-flat e (λ i. h (inr i))
  is-flat (among_rows n e q) h = h (inl tt)

  are-flat : (es : Exprs) → ¬ AnyOf IsBeyond (nodes_of es) → AreFlat es
  are-flat no_exprs h = tt
  are-flat (more_exprs e es) h = (
    is-flat e (λ i. h (any_left IsBeyond (nodes e) (nodes_of es) i)),
    are-flat es
        (λ i. h (any_right IsBeyond (nodes e) (nodes_of es) i)),
  )

-- ---- their values

abbrev mutual
  pub eval : Expr → Frame → List Value
  eval (column o c) f = value_of o c f ∷ []
  eval (value t x) f = x ∷ []
  eval (list es) f = eval_all es f
  eval count_star f = []
  eval (nullable e) f = eval e f
  eval (unary u e) f = unary_value u (first_value (eval e f)) ∷ []
  eval (count e) f = []
  eval (compared by a b) f = compared_value by (first_value (eval a f)) (first_value (eval b f)) ∷ []
  eval (joined by a b) f = joined_value by (first_value (eval a f)) (first_value (eval b f)) ∷ []
  eval (exists q) f = []
  eval (single q) f = []
  eval (among_values n e t xs) f = among_value n (first_value (eval e f)) xs ∷ []
  eval (among_rows n e q) f = []

  pub eval_all : Exprs → Frame → List Value
  eval_all no_exprs f = []
  eval_all (more_exprs e es) f = eval e f ++ eval_all es f

first_is : (x : Value) (vs : List Value) → x ∷ [] ≡ vs → x ≡ first_value vs
first_is x vs e = ap first_value e

-- what is given is that
mutual
  pub gives-eval : (places : NullPlaces) (e : Expr) (db : Database) (f : Group) (vs : List Value) → IsFlat e
      → Gives places e db f vs → vs ≡ eval e (one_row f)
  gives-eval places (column o c) db f vs h g = g
  gives-eval places (value t x) db f vs h g = g
  gives-eval places (list es) db f vs h g = gives_all-eval places es db f vs h g
  gives-eval places count_star db f vs h g = absurd h
  gives-eval places (nullable e) db f vs h g = gives-eval places e db f vs h g
  gives-eval places (unary u e) db f vs h g =
      g.2 ∙ ap (λ x. unary_value u x ∷ []) (first_is g.0 _ (gives-eval places e db f (g.0 ∷ []) h g.1))
  gives-eval places (count e) db f vs h g = absurd h
  gives-eval places (compared by a b) db f vs h g =
      g.4 ∙ ap₂ (λ x y. compared_value by x y ∷ []) (first_is g.0 _ (gives-eval places a db f (g.0 ∷ []) h.0 g.2))
      (first_is g.1 _ (gives-eval places b db f (g.1 ∷ []) h.1 g.3))
  gives-eval places (joined by a b) db f vs h g =
      g.4 ∙ ap₂ (λ x y. joined_value by x y ∷ []) (first_is g.0 _ (gives-eval places a db f (g.0 ∷ []) h.0 g.2))
      (first_is g.1 _ (gives-eval places b db f (g.1 ∷ []) h.1 g.3))
  gives-eval places (exists q) db f vs h g = absurd h
  gives-eval places (single q) db f vs h g = absurd h
  gives-eval places (among_values n e t xs) db f vs h g =
      g.2 ∙ ap (λ x. among_value n x xs ∷ []) (first_is g.0 _ (gives-eval places e db f (g.0 ∷ []) h g.1))
  gives-eval places (among_rows n e q) db f vs h g = absurd h

  gives_all-eval : (places : NullPlaces) (es : Exprs) (db : Database) (f : Group) (vs : List Value) → AreFlat es
      → AllGive places es db f vs → vs
      ≡ eval_all es (one_row f)
  gives_all-eval places no_exprs db f vs h g = g
  gives_all-eval places (more_exprs e es) db f vs h g =
      g.4 ∙ ap₂ ◌++◌ (gives-eval places e db f g.0 h.0 g.2) (gives_all-eval places es db f g.1 h.1 g.3)

-- ---- typed ones have a value, and as many as types

abbrev HasAll : NullPlaces → Expr → Database → Group → List SqlType → Type 0
HasAll places e db f ts = Gives places e db f (eval e (one_row f)) × (length (eval e (one_row f)) ≡ length ts)

one_value : (vs : List Value) → length vs ≡ 1 → vs ≡ first_value vs ∷ []
one_value [] e = absurd (grind arith)
one_value (v ∷ []) e = refl
one_value (v ∷ (w ∷ vs)) e = absurd (grind arith)

pub one-given : (places : NullPlaces) (e : Expr) (db : Database) (f : Group) (t : SqlType) → HasAll places e db f (t ∷ [])
    → Gives places e db f (first_value (eval e (one_row f)) ∷ [])
one-given places e db f t h = subst (λ vs. Gives places e db f vs) (one_value (eval e (one_row f)) h.1) h.0

one_long : (ts : List SqlType) (t : SqlType) → ts ≡ t ∷ [] → 1 ≡ length ts
one_long ts t e = sym (ap length e)

no_types : (ts : List SqlType) → [] ≡ map Some ts → 0 ≡ length ts
no_types [] e = refl
no_types (t ∷ ts) e = absurd cc

mutual
  pub eval-given : (places : NullPlaces) (e : Expr) (db : Database) (f : Group) (ts : List SqlType) → IsFlat e
      → element_types (given e)
      ≡ map Some ts → HasAll places e db f ts
  eval-given places (column o c) db f ts h t = let (u, is, are) = one-typed (Some c.ty) ts t in (refl, one_long ts u are)
  eval-given places (value ty x) db f ts h t = let (u, is, are) = one-typed (Some ty) ts t in (refl, one_long ts u are)
  eval-given places (list es) db f ts h t = eval_all-given places es db f ts h t
  eval-given places count_star db f ts h t = absurd h
  eval-given places (nullable e) db f ts h t =
      let (us, are, ts_are) = all_nulled-typed (element_types (given e)) ts (sym (nulled_elements (given e)) ∙ t) in
      let got = eval-given places e db f us h are in
      (got.0, got.1 ∙ (sym (length-map us nulled) ∙ ap length (sym ts_are)))
  eval-given places (unary o e) db f ts h t =
      let (u, is, are) = one-typed (unary_type o (only_type (given e))) ts t in
      let (w, w_is) = unary-typed o (only_type (given e)) u is in (
        (
          first_value (eval e (one_row f)),
          one-given places e db f w
              (eval-given places e db f (w ∷ []) h (only-typed (given e) w w_is)),
          refl,
        ),
        one_long ts u are,
      )
  eval-given places (count e) db f ts h t = absurd h
  eval-given places (compared by a b) db f ts h t =
      let (u, is, are) = one-typed (compared_type (only_type (given a)) (only_type (given b))) ts t in
      let (w, a_is, b_is, u_is) = compared-typed (only_type (given a)) (only_type (given b)) u is in (
        (
          first_value (eval a (one_row f)),
          first_value (eval b (one_row f)),
          one-given places a db f w (eval-given places a db f (w ∷ []) h.0 (only-typed (given a) w a_is)),
          one-given places b db f w (eval-given places b db f (w ∷ []) h.1 (only-typed (given b) w b_is)),
          refl,
        ),
        one_long ts u are,
      )
  eval-given places (joined by a b) db f ts h t =
      let (u, is, are) = one-typed (joined_type (only_type (given a)) (only_type (given b))) ts t in
      let (w, x, a_is, b_is, u_is) = joined-typed (only_type (given a)) (only_type (given b)) u is in (
        (
          first_value (eval a (one_row f)),
          first_value (eval b (one_row f)),
          one-given places a db f w (eval-given places a db f (w ∷ []) h.0 (only-typed (given a) w a_is)),
          one-given places b db f x (eval-given places b db f (x ∷ []) h.1 (only-typed (given b) x b_is)),
          refl,
        ),
        one_long ts u are,
      )
  eval-given places (exists q) db f ts h t = absurd h
  eval-given places (single q) db f ts h t = absurd h
  eval-given places (among_values n e ty xs) db f ts h t =
      let (u, is, are) = one-typed (among_type (only_type (given e)) ty xs) ts t in
      let parts = among-typed (only_type (given e)) ty xs u is in
      let (w, e_is, ty_is, u_is) = compared-typed (only_type (given e)) (Some ty) u parts.1 in (
        (
          first_value (eval e (one_row f)),
          one-given places e db f w
              (eval-given places e db f (w ∷ []) h (only-typed (given e) w e_is)),
          refl,
        ),
        one_long ts u are,
      )
  eval-given places (among_rows n e q) db f ts h t = absurd h

  eval_all-given : (places : NullPlaces) (es : Exprs) (db : Database) (f : Group) (ts : List SqlType) → AreFlat es
      → given_each es
      ≡ map Some ts
      → AllGive places es db f (eval_all es (one_row f)) × (length (eval_all es (one_row f)) ≡ length ts)
  eval_all-given places no_exprs db f ts h t = (refl, no_types ts t)
  eval_all-given places (more_exprs e es) db f ts h t =
      let (us, ws, u_is, w_is, both) = split-typed (element_types (given e)) (given_each es) ts t in
      let head = eval-given places e db f us h.0 u_is in
      let rest = eval_all-given places es db f ws h.1 w_is in (
        (eval e (one_row f), eval_all es (one_row f), head.0, rest.0, refl),
        length-append (eval e (one_row f)) (eval_all es (one_row f))
            ∙ (ap₂ ◌+◌ head.1 rest.1 ∙ (sym (length-append us ws) ∙ ap length (sym both))),
      )

-- ---- conditions

-- Bool, without aggregates and subselects
abbrev pub IsTest : Expr → Type 0
IsTest e = IsFlat e × ((t : SqlType) × (type_of e ≡ Some t) × (is_bool t ≡ true))

abbrev pub IsPlainCondition : MaybeExpr → Type 0
IsPlainCondition no_expr = Unit {0}
IsPlainCondition (an_expr e) = IsTest e

abbrev pub true_at : MaybeExpr → Frame → Bool
true_at no_expr f = true
true_at (an_expr e) f = is_true (first_value (eval e f))

pub holds-true : (places : NullPlaces) (c : MaybeExpr) (db : Database) (f : Group) (t : Bool) → IsPlainCondition c
    → Holds places c db f t → t
    ≡ true_at c (one_row f)
holds-true places no_expr db f t h g = g
holds-true places (an_expr e) db f t h g = g.2 ∙ ap is_true (first_is g.0 _ (gives-eval places e db f (g.0 ∷ []) h.0 g.1))

pub true-holds : (places : NullPlaces) (c : MaybeExpr) (db : Database) (f : Group) → IsPlainCondition c
    → Holds places c db f (true_at c (one_row f))
true-holds places no_expr db f h = refl
true-holds places (an_expr e) db f h =
    let got = eval-given places e db f (h.1.0 ∷ []) h.0 (only-typed (given e) h.1.0 h.1.1) in
    (first_value (eval e (one_row f)), one-given places e db f h.1.0 got, refl)

-- ---- an expression whose columns are all taken from one leaf

abbrev mutual
  pub aimed : Expr → Origin → Expr
  aimed (column o' c) o = column o c
  aimed (value t x) o = value t x
  aimed (list es) o = list (aimed_all es o)
  aimed count_star o = count_star
  aimed (nullable e) o = nullable (aimed e o)
  aimed (unary n e) o = unary n (aimed e o)
  aimed (count e) o = count (aimed e o)
  aimed (compared by a b) o = compared by (aimed a o) (aimed b o)
  aimed (joined by a b) o = joined by (aimed a o) (aimed b o)
  aimed (exists q) o = exists q
  aimed (single q) o = single q
  aimed (among_values n e t xs) o = among_values n (aimed e o) t xs
  aimed (among_rows n e q) o = among_rows n (aimed e o) q

  pub aimed_all : Exprs → Origin → Exprs
  aimed_all no_exprs o = no_exprs
  aimed_all (more_exprs e es) o = more_exprs (aimed e o) (aimed_all es o)

value_of-row : (o o' : Origin) (c : ColumnDecl) (f f' : Frame) → o.table ≡ o'.table → row_of o f ≡ row_of o' f'
    → value_of o c f ≡ value_of o' c f'
value_of-row o o' c f f' t r = ap₂ (λ tb row. value_in c tb.columns row) t r

-- its values hang on the row of that leaf alone
mutual
  pub aimed-eval : (e : Expr) (o o' : Origin) (f f' : Frame) → o.table ≡ o'.table → row_of o f ≡ row_of o' f'
      → eval (aimed e o) f ≡ eval (aimed e o') f'
  aimed-eval (column k c) o o' f f' t r = ap (λ v. v ∷ []) (value_of-row o o' c f f' t r)
  aimed-eval (value ty x) o o' f f' t r = refl
  aimed-eval (list es) o o' f f' t r = aimed_all-eval es o o' f f' t r
  aimed-eval count_star o o' f f' t r = refl
  aimed-eval (nullable e) o o' f f' t r = aimed-eval e o o' f f' t r
  aimed-eval (unary u e) o o' f f' t r = ap (λ vs. unary_value u (first_value vs) ∷ []) (aimed-eval e o o' f f' t r)
  aimed-eval (count e) o o' f f' t r = refl
  aimed-eval (compared by a b) o o' f f' t r =
      ap₂ (λ vs ws. compared_value by (first_value vs) (first_value ws) ∷ []) (aimed-eval a o o' f f' t r)
      (aimed-eval b o o' f f' t r)
  aimed-eval (joined by a b) o o' f f' t r =
      ap₂ (λ vs ws. joined_value by (first_value vs) (first_value ws) ∷ []) (aimed-eval a o o' f f' t r)
      (aimed-eval b o o' f f' t r)
  aimed-eval (exists q) o o' f f' t r = refl
  aimed-eval (single q) o o' f f' t r = refl
  aimed-eval (among_values n e ty xs) o o' f f' t r =
      ap (λ vs. among_value n (first_value vs) xs ∷ []) (aimed-eval e o o' f f' t r)
  aimed-eval (among_rows n e q) o o' f f' t r = refl

  aimed_all-eval : (es : Exprs) (o o' : Origin) (f f' : Frame) → o.table ≡ o'.table → row_of o f ≡ row_of o' f'
      → eval_all (aimed_all es o) f ≡ eval_all (aimed_all es o') f'
  aimed_all-eval no_exprs o o' f f' t r = refl
  aimed_all-eval (more_exprs e es) o o' f f' t r =
      ap₂ ◌++◌ (aimed-eval e o o' f f' t r) (aimed_all-eval es o o' f f' t r)

-- it has the same types
mutual
  aimed-given : (e : Expr) (o : Origin) → IsFlat e → given (aimed e o) ≡ given e
  aimed-given (column k c) o h = refl
  aimed-given (value ty x) o h = refl
  aimed-given (list es) o h = ap many (aimed_all-given es o h)
  aimed-given count_star o h = absurd h
  aimed-given (nullable e) o h = ap all_nullable (aimed-given e o h)
  aimed-given (unary u e) o h = ap (λ g. one (unary_type u (only_type g))) (aimed-given e o h)
  aimed-given (count e) o h = absurd h
  aimed-given (compared by a b) o h =
      ap₂ (λ g k. one (compared_type (only_type g) (only_type k))) (aimed-given a o h.0) (aimed-given b o h.1)
  aimed-given (joined by a b) o h =
      ap₂ (λ g k. one (joined_type (only_type g) (only_type k))) (aimed-given a o h.0) (aimed-given b o h.1)
  aimed-given (exists q) o h = absurd h
  aimed-given (single q) o h = absurd h
  aimed-given (among_values n e ty xs) o h = ap (λ g. one (among_type (only_type g) ty xs)) (aimed-given e o h)
  aimed-given (among_rows n e q) o h = absurd h

  aimed_all-given : (es : Exprs) (o : Origin) → AreFlat es → given_each (aimed_all es o) ≡ given_each es
  aimed_all-given no_exprs o h = refl
  aimed_all-given (more_exprs e es) o h =
      ap₂ (λ g ts. element_types g ++ ts) (aimed-given e o h.0) (aimed_all-given es o h.1)

mutual
  pub aimed-flat : (e : Expr) (o : Origin) → IsFlat e → IsFlat (aimed e o)
  aimed-flat (column k c) o h = tt
  aimed-flat (value ty x) o h = tt
  aimed-flat (list es) o h = aimed_all-flat es o h
  aimed-flat count_star o h = absurd h
  aimed-flat (nullable e) o h = aimed-flat e o h
  aimed-flat (unary n e) o h = aimed-flat e o h
  aimed-flat (count e) o h = absurd h
  aimed-flat (compared by a b) o h = (aimed-flat a o h.0, aimed-flat b o h.1)
  aimed-flat (joined by a b) o h = (aimed-flat a o h.0, aimed-flat b o h.1)
  aimed-flat (exists q) o h = absurd h
  aimed-flat (single q) o h = absurd h
  aimed-flat (among_values n e ty xs) o h = aimed-flat e o h
  aimed-flat (among_rows n e q) o h = absurd h

  aimed_all-flat : (es : Exprs) (o : Origin) → AreFlat es → AreFlat (aimed_all es o)
  aimed_all-flat no_exprs o h = tt
  aimed_all-flat (more_exprs e es) o h = (aimed-flat e o h.0, aimed_all-flat es o h.1)

pub aimed-test : (e : Expr) (o : Origin) → IsTest e → IsTest (aimed e o)
aimed-test e o h = (aimed-flat e o h.0, (h.1.0, ap only_type (aimed-given e o h.0) ∙ h.1.1, h.1.2))

-- ---- a predicate on a table's own columns, under an alias of it too, is aimed at that leaf

own-beyond : (t : TableDecl) (e : Expr) → IsOwn t e → ¬ IsBeyond e
own-beyond t (column o c) h = λ b. b
own-beyond t (value ty x) h = λ b. b
own-beyond t (list es) h = h
own-beyond t count_star h = h
own-beyond t (nullable e) h = h
own-beyond t (unary n e) h = h
own-beyond t (count e) h = h
own-beyond t (compared by a b) h = h
own-beyond t (joined by a b) h = h
own-beyond t (exists q) h = h
own-beyond t (single q) h = h
own-beyond t (among_values n e ty xs) h = h
own-beyond t (among_rows n e q) h = h

pub own-free : (t : TableDecl) (es : List Expr) → Each (IsOwn t) es → ¬ AnyOf IsBeyond es
own-free t [] h i = i
own-free t (e ∷ es) h (inl b) = own-beyond t e h.0 b
own-free t (e ∷ es) h (inr i) = own-free t es h.1 i

aliased-own : (a : List ℕ) (t : TableDecl) (o : Origin) → o ≡ a_table t → aliased a t o ≡ an_alias a t
aliased-own a t o e =
    ap (aliased a t) e ∙ ap (λ b. if b then an_alias a t else a_table t) (same-origin_itself (a_table t))

mutual
  own-itself : (t : TableDecl) (e : Expr) → Each (IsOwn t) (nodes e) → aimed e (a_table t) ≡ e
  own-itself t (column o c) h = ap (λ x. column x c) (sym h.0.0)
  own-itself t (value ty x) h = refl
  own-itself t (list es) h = ap list (own_all-itself t es h.1)
  own-itself t count_star h = refl
  own-itself t (nullable e) h = ap nullable (own-itself t e h.1)
  own-itself t (unary n e) h = ap (unary n) (own-itself t e h.1)
  own-itself t (count e) h = ap count (own-itself t e h.1)
  own-itself t (compared by a b) h =
      ap₂ (compared by) (own-itself t a (Each-front _ (nodes a) (nodes b) h.1))
      (own-itself t b (Each-end _ (nodes a) (nodes b) h.1))
  own-itself t (joined by a b) h =
      ap₂ (joined by) (own-itself t a (Each-front _ (nodes a) (nodes b) h.1))
      (own-itself t b (Each-end _ (nodes a) (nodes b) h.1))
  own-itself t (exists q) h = refl
  own-itself t (single q) h = refl
  own-itself t (among_values n e ty xs) h = ap (λ x. among_values n x ty xs) (own-itself t e h.1)
  own-itself t (among_rows n e q) h = ap (λ x. among_rows n x q) (own-itself t e h.1)

  own_all-itself : (t : TableDecl) (es : Exprs) → Each (IsOwn t) (nodes_of es) → aimed_all es (a_table t) ≡ es
  own_all-itself t no_exprs h = refl
  own_all-itself t (more_exprs e es) h =
      ap₂ more_exprs (own-itself t e (Each-front _ (nodes e) (nodes_of es) h))
      (own_all-itself t es (Each-end _ (nodes e) (nodes_of es) h))

mutual
  own-fields : (a : List ℕ) (t : TableDecl) (e : Expr) → Each (IsOwn t) (nodes e) → fields_in a t e
      ≡ aimed e (an_alias a t)
  own-fields a t (column o c) h = ap (λ x. column x c) (aliased-own a t o h.0.0)
  own-fields a t (value ty x) h = refl
  own-fields a t (list es) h = ap list (own_all-fields a t es h.1)
  own-fields a t count_star h = refl
  own-fields a t (nullable e) h = ap nullable (own-fields a t e h.1)
  own-fields a t (unary n e) h = ap (unary n) (own-fields a t e h.1)
  own-fields a t (count e) h = ap count (own-fields a t e h.1)
  own-fields a t (compared by l r) h =
      ap₂ (compared by) (own-fields a t l (Each-front _ (nodes l) (nodes r) h.1))
      (own-fields a t r (Each-end _ (nodes l) (nodes r) h.1))
  own-fields a t (joined by l r) h =
      ap₂ (joined by) (own-fields a t l (Each-front _ (nodes l) (nodes r) h.1))
      (own-fields a t r (Each-end _ (nodes l) (nodes r) h.1))
  own-fields a t (exists q) h = refl
  own-fields a t (single q) h = refl
  own-fields a t (among_values n e ty xs) h = ap (λ x. among_values n x ty xs) (own-fields a t e h.1)
  own-fields a t (among_rows n e q) h = ap (λ x. among_rows n x q) (own-fields a t e h.1)

  own_all-fields : (a : List ℕ) (t : TableDecl) (es : Exprs) → Each (IsOwn t) (nodes_of es) → fields_in_each a t es
      ≡ aimed_all es (an_alias a t)
  own_all-fields a t no_exprs h = refl
  own_all-fields a t (more_exprs e es) h =
      ap₂ more_exprs (own-fields a t e (Each-front _ (nodes e) (nodes_of es) h))
      (own_all-fields a t es (Each-end _ (nodes e) (nodes_of es) h))

under-aimed : (t : TableDecl) (p : Expr) → Each (IsOwn t) (nodes p) → (alias : Option (List ℕ)) (u : TableDecl) → t ≡ u
    → predicate_under p alias u ≡ aimed p (record { alias = alias; table = u })
under-aimed t p h None u e =
    subst (λ w. p ≡ aimed p (record { alias = None; table = w })) e (sym (own-itself t p h))
under-aimed t p h (Some a) u e =
    subst (λ w. fields_in a w p ≡ aimed p (record { alias = Some a; table = w })) e (own-fields a t p h)

pub predicate-aimed : (t : TableDecl) (p : Expr) → Each (IsOwn t) (nodes p) → (o : Origin) → t ≡ o.table
    → predicate_of p o ≡ aimed p o
predicate-aimed t p h o e = under-aimed t p h o.alias o.table e

pub aimed-own : (t : TableDecl) (p : Expr) → Each (IsOwn t) (nodes p) → aimed p (a_table t) ≡ p
aimed-own t p h = own-itself t p h

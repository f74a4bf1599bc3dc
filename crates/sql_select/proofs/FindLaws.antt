-- Conditions on a key, made from the last column to the first.
use Rattle.std.proofs.Common.{◌≡◌, ℕ, suc, Bool, true, nat_eq, Option, Some, List, [], ◌∷◌, ◌++◌, map, length, length-append, refl, sym, ap, ◌∙◌, arith}
use Rattle.std.proofs.lemmas.List.{length-map, map-append}
use Rattle.sql_leaf.specs.declared.limit_offset.LimitOffsetClause.{LimitOffsetClause}
use Rattle.sql_leaf.specs.declared.marks.Marks.{Marks}
use Rattle.sql_leaf.specs.declared.operator.Comparison.TheVariants.{Eq}
use Rattle.sql_leaf.specs.declared.operator.Logic.TheVariants.{And}
use Rattle.sql_node.specs.Tree.{Origin, Expr, compared, MaybeExpr, an_expr, From, Distinct, Order, Form, select}
use Rattle.sql_select.specs.Changes.{filtered}
use Rattle.sql_select.specs.Clauses.{Clauses, statement_of}
use Rattle.sql_select.specs.Finding.{equal_each, and_then, all_before, key_columns, has_key, and_maybe, only_leaf, found_by, found_in, found}

pub equal-last : (cs vs : List Expr) (c v : Expr) → length cs ≡ length vs
    → equal_each (cs ++ c ∷ []) (vs ++ v ∷ []) ≡ equal_each cs vs ++ compared Eq c v ∷ []
equal-last [] [] c v h = refl
equal-last [] (w ∷ vs) c v h = cc
equal-last (b ∷ cs) [] c v h = cc
equal-last (b ∷ cs) (w ∷ vs) c v h =
    let same : length cs ≡ length vs = cc in
    ap (λ es. compared Eq b w ∷ es) (equal-last cs vs c v same)

pub all-last : (es : List Expr) (e : Expr) (w : MaybeExpr)
    → all_before (es ++ e ∷ []) w ≡ all_before es (an_expr (and_then e w))
all-last [] e w = refl
all-last (b ∷ es) e w = ap (λ x. an_expr (and_then b x)) (all-last es e w)

-- the last column and value go into what follows
pub one-less : (cs vs : List Expr) (c v : Expr) (w : MaybeExpr) → length cs ≡ length vs
    → all_before (equal_each (cs ++ c ∷ []) (vs ++ v ∷ [])) w
    ≡ all_before (equal_each cs vs) (an_expr (and_then (compared Eq c v) w))
one-less cs vs c v w h =
    ap (λ es. all_before es w) (equal-last cs vs c v h) ∙ all-last (equal_each cs vs) (compared Eq c v) w

shorter : {A : Type 0} (xs ys : List A) (x y : A) → length (xs ++ x ∷ []) ≡ length (ys ++ y ∷ [])
    → length xs ≡ length ys
shorter xs ys x y h = omega (arith, h, length-append xs (x ∷ []), length-append ys (y ∷ []))

-- the same of columns and values that are seen as expressions
pub one-less-seen : {A : Type 0} (f : A → Expr) (cs vs : List A) (c v : A) (w : MaybeExpr) (columns values : List A)
    → columns ≡ cs ++ c ∷ [] → values ≡ vs ++ v ∷ [] → length columns ≡ length values
    → (length cs ≡ length vs)
    × (all_before (equal_each (map f columns) (map f values)) w
    ≡ all_before (equal_each (map f cs) (map f vs)) (an_expr (and_then (compared Eq (f c) (f v)) w)))
one-less-seen f cs vs c v w columns values by-c by-v h =
    let same : length cs ≡ length vs = shorter cs vs c v (sym (ap length by-c) ∙ h ∙ ap length by-v) in
    let seen-c : map f columns ≡ map f cs ++ f c ∷ [] = ap (map f) by-c ∙ map-append f cs (c ∷ []) in
    let seen-v : map f values ≡ map f vs ++ f v ∷ [] = ap (map f) by-v ∙ map-append f vs (v ∷ []) in
    let lengths : length (map f cs) ≡ length (map f vs) = length-map cs f ∙ same ∙ sym (length-map vs f) in (
      same,
      (λ i. all_before (equal_each (seen-c i) (seen-v i)) w) ∙ one-less (map f cs) (map f vs) (f c) (f v) w lengths,
    )

-- where the source is one leaf and there are as many values as columns of its key, the key is one more condition
pub filtered-found : (vs : List Expr) (o : Origin) (e : Expr) (d : Bool) (x : Expr) (f : From) (u : Distinct)
    (w : MaybeExpr) (s : Order) (r : LimitOffsetClause) (g h : MaybeExpr) (form : Form) (m : Marks)
    → only_leaf f ≡ Some o → nat_eq (length (key_columns o)) (length vs) ≡ true → has_key o vs ≡ an_expr e
    → filtered And e (select d x f u w s r g h form m) ≡ found vs (select d x f u w s r g h form m)
filtered-found vs o e d x f u w s r g h form m leaf same key =
    let c : Clauses =
    record {
      selection = (d, x);
      source = f;
      distinct = u;
      condition = w;
      order = s;
      rows = r;
      group_by = g;
      having = h;
      form = form;
      marks = m;
    } in
    sym (ap (λ p. statement_of (found_in p vs c)) leaf ∙ ap (λ b. statement_of (found_by b o vs c)) same
    ∙ ap (λ q. statement_of (record c { condition = and_maybe w q })) key)

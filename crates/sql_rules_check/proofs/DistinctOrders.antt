-- InvalidDistinctOrder, by a test of select statements and the words of two of their clauses.
use Rattle.std.proofs.Common.{◌≡◌, ◌≢◌, inl, inr, ℕ, zero, suc, ◌+◌, Bool, true, false, ◌&&◌, List, [], ◌∷◌, ◌++◌, map, refl, sym, ap, ◌∙◌, subst, append_assoc, append-nil, arith}
use Rattle.std.specs.Prelude.{IsTrue, Result, Ok, Err, IfOk}
use Rattle.std.specs.Bool.{Decides}
use Rattle.std.specs.Cmp.{first_so}
use Rattle.std.proofs.lemmas.Bool.{false≢true, eqb-true, eq-eqb}
use Rattle.std.proofs.lemmas.Bool.Decides.{Decides-and, Decides-at, Decides-like}
use Rattle.sql_schema.specs.Declarations.{Declarations}
use Rattle.sql_dialect.specs.declared.backend.Dialect.{Dialect}
use Rattle.sql_leaf.specs.declared.locking.LockingClause.{LockingClause}
use Rattle.sql_flat_law.specs.Rose.{Rose, node, Roses, none, more, one}
use Rattle.sql_node.specs.Tree as t
use Rattle.sql_node.specs.Tree.{Expr, column, value, list, count_star, nullable, unary, count, compared, joined, exists, single, among_values, among_rows, Exprs, no_exprs, more_exprs, Items, no_items, more_items, MaybeExpr, no_expr, an_expr, From, no_source, from, Distinct, every, distinct, distinct_on, Order, no_order, order_by, Statement, unboxed, boxed, under}
use Rattle.sql_rules.specs.Lists.{Differ}
use Rattle.sql_rules.specs.Rules.{Broken, OrderDiffers, PartBreaks}
use Rattle.sql_rules.specs.Scope.{View, Part, a_select, a_combination, Select, flat, flat_items, flat_of as flat_exprs, parts}
use Rattle.sql_rules.specs.declared.rule.Rule.TheVariants as rule
use Rattle.sql_flat.specs.Flat.{expr_rose, exprs_roses, flat_of, form_of, from_roses, items_roses, maybe_roses, order_roses, selecting_of, uniqueness}
use Rattle.sql_flat.proofs.Unflattening.{one-expr}
use Rattle.sql_flat.specs.declared.kind.FlatKind.{FlatKind}
use Rattle.sql_flat.specs.declared.kind.FlatKind.TheVariants as K
use Rattle.sql_flat.specs.declared.kind.FlatNode.{FlatNode}
use Rattle.sql_flat.specs.declared.kind.Selecting.{Selecting}
use Rattle.sql_shape.specs.Expressions.{expr_shape}
use Rattle.sql_key.specs.Blank.{blank_kind}
use Rattle.sql_key.specs.inside.Swept.{goes, swept}
use Rattle.sql_key.proofs.ExactNodes.{same-key}
use Rattle.sql_key.proofs.Sweeping.{expr-swept}
use Rattle.sql_flat.specs.Flat.{flat_node}
use Rattle.sql_flat_law.specs.Rose as roses
use Rattle.sql_rules_check.specs.declared.order.Standing.{Standing}
use Rattle.sql_rules_check.specs.declared.order.Standing.TheVariants.{Over, Within}
use Rattle.sql_rules_check.specs.inside.Ahead.{any_ahead}
use Rattle.sql_rules_check.specs.inside.Known.{Known}
use Rattle.sql_rules_check.specs.inside.Shapes.{same_kind}
use Rattle.sql_rules_check.specs.inside.Views.{Views}
use Rattle.sql_rules_check.specs.inside.Words.{Word, clash, disordered, disordered_at, first_words, is_distinct_on, is_order_by, has_distinct_on, is_unboxed, same_standing, same_word, words, words_each}
use Rattle.sql_rules_check.proofs.Absent.{Never, NoClause, NoCombination, NoExpr, NoSource, no-any-expr, no-from, no-order, no-positions}
use Rattle.sql_rules_check.proofs.Clashing.{IsWhole, all, clash-decides}
use Rattle.sql_rules_check.proofs.Decided.{decides-ahead, decides-rule}
use Rattle.sql_rules_check.proofs.Listing.{kids-told, listed_each, listed-each-inner, standing_at, within-swept-each}
use Rattle.sql_rules_check.proofs.Seen as seen
use Rattle.sql_rules_check.proofs.SourceLeaves.{select_roses}
use Rattle.sql_rules_check.proofs.WordTrees.{same-test}

-- ---- words are compared exactly

exact-kind : (k l : FlatKind) → Decides (same_kind k l) (k ≡ l)
exact-kind k l =
    let r = same-key (flat_node k 0 ∷ []) (flat_node l 0 ∷ []) in (
      λ e. ap first_kind (r.0 (rw e refl)),
      λ e. first_so (same_kind k l) true
          (first_so (same_kind k l && true) true (r.1 (λ i. flat_node (e i) 0 ∷ []))),
    )
  where
    first_kind : List FlatNode → FlatKind
    first_kind [] = k
    first_kind (x ∷ xs) = x.kind

exact-standing : (s t : Standing) → Decides (same_standing s t) (s ≡ t)
exact-standing (Over n) (Over m) = (λ e. ap Over (eqb-true n m e), λ e. eq-eqb n m (cc))
exact-standing (Over n) (Within d) = (λ e. absurd (false≢true e), λ e. cc)
exact-standing (Within d) (Over n) = (λ e. absurd (false≢true e), λ e. cc)
exact-standing (Within c) (Within d) = (λ e. ap Within (eqb-true c d e), λ e. eq-eqb c d (cc))

exact-word : (v w : Word) → Decides (same_word v w) (v ≡ w)
exact-word v w =
    let both = Decides-and (same_standing v.standing w.standing) (same_kind v.kind w.kind)
    (exact-standing v.standing w.standing) (exact-kind v.kind w.kind) in (
      λ e. let r = both.0 e in λ i. record { kind = r.1 i; standing = r.0 i },
      λ e. both.1 (ap (λ x. x.standing) e, ap (λ x. x.kind) e),
    )

-- ---- the words of an element

-- of a tree whose node begins an element under n nullables
abbrev begun : ℕ → Rose FlatKind → List Word
begun n (node k ts) = standing_at (Over n) (blank_kind k) ∷ words_each (Within 1) ts

abbrev pub element_words : ℕ → Expr → List Word
element_words n (nullable e) = element_words (n + 1) e
element_words n e = begun n (expr_rose e)

-- the same with all values
abbrev plainly : ℕ → Rose FlatKind → List Word
plainly n (node k ts) = standing_at (Over n) k ∷ listed_each 1 ts

abbrev plain_words : ℕ → Expr → List Word
plain_words n (nullable e) = plain_words (n + 1) e
plain_words n e = plainly n (expr_rose e)

abbrev begins : ℕ → Roses FlatKind → List Word
begins n none = []
begins n (more (node k ts) us) = standing_at (Over n) k ∷ listed_each 1 ts

begins-one : (n : ℕ) (t : Rose FlatKind) → begins n (one t) ≡ plainly n t
begins-one n (node k ts) = refl

abbrev is_gone : Rose FlatKind → Bool
is_gone (node k ts) = goes false k

begun-swept : (n : ℕ) (t : Rose FlatKind) → is_gone t ≡ false → begun n t ≡ begins n (swept false t)
begun-swept n (node k ts) h = rw h (ap (λ l. standing_at (Over n) (blank_kind k) ∷ l) (within-swept-each 1 ts))

shaped-node : (n : ℕ) (e : Expr) → is_gone (expr_rose e) ≡ false
    → begun n (expr_rose e) ≡ plainly n (expr_rose (expr_shape e))
shaped-node n e h =
    begun-swept n (expr_rose e) h ∙ ap (begins n) (expr-swept false e) ∙ begins-one n (expr_rose (expr_shape e))

shaped : (n : ℕ) (e : Expr) → element_words n e ≡ plain_words n (expr_shape e)
shaped n (nullable e) = shaped (n + 1) e
shaped n e = shaped-node n e refl

whole-plain : (n : ℕ) (t : Rose FlatKind) → IsWhole (plainly n t)
whole-plain n (node k ts) = (refl, listed-each-inner 1 ts)

plain-whole : (n : ℕ) (e : Expr) → IsWhole (plain_words n e)
plain-whole n (nullable e) = plain-whole (n + 1) e
plain-whole n e = whole-plain n (expr_rose e)

element-whole : (n : ℕ) (e : Expr) → IsWhole (element_words n e)
element-whole n e = subst IsWhole (sym (shaped n e)) (plain-whole n (expr_shape e))

-- ---- one expression for one list of words

number_of : Standing → ℕ
number_of (Over n) = n
number_of (Within d) = d

node-told : (n m : ℕ) (t u : Rose FlatKind) → plainly n t ≡ plainly m u → (n ≡ m) × (t ≡ u)
unfolding number_of
node-told n m (node k ts) (node l us) h =
    let e : standing_at (Over n) k ≡ standing_at (Over m) l = cc in
    let r = kids-told 1 ts us (cc) in
    (ap (λ w. number_of w.standing) e, λ i. node ((e i).kind) (r i))

one-rose : (a b : Expr) → expr_rose a ≡ expr_rose b → a ≡ b
one-rose a b h = one-expr a b (ap (λ t. roses.flat flat_node 0 t []) h)

under-suc : (n : ℕ) (e : Expr) → under (suc n) e ≡ under n (nullable e)
under-suc zero e = refl
under-suc (suc n) e = ap nullable (under-suc n e)

under-more : (n : ℕ) (e : Expr) → under (n + 1) e ≡ under n (nullable e)
under-more n e = let next : n + 1 ≡ suc n = omega arith in ap (λ m. under m e) next ∙ under-suc n e

same-node : (n m : ℕ) (a b : Expr) → plainly n (expr_rose a) ≡ plainly m (expr_rose b) → under n a ≡ under m b
same-node n m a b h =
    let r = node-told n m (expr_rose a) (expr_rose b) h in
    let e = one-rose a b r.1 in λ i. under (r.0 i) (e i)

node-first : (n m : ℕ) (a b : Expr) → plainly n (expr_rose a) ≡ plain_words m b → under n a ≡ under m b
node-first n m a (nullable b) h = node-first n (m + 1) a b h ∙ under-more m b
node-first n m a b h = same-node n m a b h

told : (n m : ℕ) (a b : Expr) → plain_words n a ≡ plain_words m b → under n a ≡ under m b
told n m (nullable a) b h = sym (under-more n a) ∙ told (n + 1) m a b h
told n m a b h = node-first n m a b h

-- ---- elements

all-append : {X : Type 0} (f : X → List Word) (xs ys : List X) → all f (xs ++ ys) ≡ all f xs ++ all f ys
all-append f [] ys = refl
all-append f (x ∷ xs) ys =
    ap (λ l. f x ++ l) (all-append f xs ys) ∙ sym (append_assoc (f x) (all f xs) (all f ys))

all-nullable : (n : ℕ) (es : List Expr) → all (element_words n) (map nullable es) ≡ all (element_words (n + 1)) es
all-nullable n [] = refl
all-nullable n (e ∷ es) = ap (λ l. element_words (n + 1) e ++ l) (all-nullable n es)

mutual
  elements : (n : ℕ) (e : Expr) → words (Over n) (expr_rose e) ≡ all (element_words n) (flat e)
  elements n (list es) = elements-each n es
  elements n (nullable e) =
      append-nil (words (Over (n + 1)) (expr_rose e)) ∙ elements (n + 1) e ∙ sym (all-nullable n (flat e))
  elements n e = sym (append-nil (begun n (expr_rose e)))

  elements-each : (n : ℕ) (es : Exprs) → words_each (Over n) (exprs_roses es) ≡ all (element_words n) (flat_exprs es)
  elements-each n no_exprs = refl
  elements-each n (more_exprs e es) =
      (λ i. elements n e i ++ elements-each n es i) ∙ sym (all-append (element_words n) (flat e) (flat_exprs es))

item-elements : (is : Items) → words_each (Over 0) (items_roses is) ≡ all (element_words 0) (flat_items is)
item-elements no_items = refl
item-elements (more_items e by is) =
    ap (λ l. l ++ words_each (Over 0) (items_roses is)) (append-nil (words (Over 0) (expr_rose e)) ∙ elements 0 e)
    ∙ ap (λ l. all (element_words 0) (flat e) ++ l) (item-elements is)
    ∙ sym (all-append (element_words 0) (flat e) (flat_items is))

differ-each : {X : Type 0} (R S : X → X → Type 0) → ((x y : X) → R x y → S x y) → (xs ys : List X) → Differ R xs ys
    → Differ S xs ys
differ-each R S f [] ys h = h
differ-each R S f (x ∷ xs) [] h = h
differ-each R S f (x ∷ xs) (y ∷ ys) (inl r) = inl (f x y r)
differ-each R S f (x ∷ xs) (y ∷ ys) (inr h) = inr (differ-each R S f xs ys h)

abbrev Apart : Expr → Expr → Type 0
Apart x y = expr_shape x ≢ expr_shape y

abbrev WordsApart : Expr → Expr → Type 0
WordsApart x y = element_words 0 x ≢ element_words 0 y

to-apart : (x y : Expr) → WordsApart x y → Apart x y
to-apart x y r e = r (shaped 0 x ∙ ap (plain_words 0) e ∙ sym (shaped 0 y))

of-apart : (x y : Expr) → Apart x y → WordsApart x y
of-apart x y r e = r (told 0 0 (expr_shape x) (expr_shape y) (sym (shaped 0 x) ∙ e ∙ shaped 0 y))

shapes-decide : (xs ys : List Expr)
    → Decides (clash (all (element_words 0) xs) (all (element_words 0) ys)) (Differ Apart xs ys)
shapes-decide xs ys =
    Decides-like (clash (all (element_words 0) xs) (all (element_words 0) ys))
    (differ-each WordsApart Apart to-apart xs ys) (differ-each Apart WordsApart of-apart xs ys)
    (clash-decides exact-word (element_words 0) (element-whole 0) xs ys)

-- ---- the clauses of a select statement

no-order-node : (e : Expr) (rest : Roses FlatKind)
    → first_words is_order_by (more (expr_rose e) rest) ≡ first_words is_order_by rest
no-order-node (column o c) rest = refl
no-order-node _ rest = refl

behind-from : (f : From) (rest : Roses FlatKind)
    → first_words is_order_by (from_roses f rest) ≡ first_words is_order_by rest
behind-from no_source rest = refl
behind-from (from f) rest = refl

behind-where : (m : MaybeExpr) (rest : Roses FlatKind)
    → first_words is_order_by (maybe_roses K.Where m rest) ≡ first_words is_order_by rest
behind-where no_expr rest = refl
behind-where (an_expr e) rest = refl

behind-group : (m : MaybeExpr) (rest : Roses FlatKind)
    → first_words is_order_by (maybe_roses K.GroupBy m rest) ≡ first_words is_order_by rest
behind-group no_expr rest = refl
behind-group (an_expr e) rest = refl

behind-having : (m : MaybeExpr) (rest : Roses FlatKind)
    → first_words is_order_by (maybe_roses K.Having m rest) ≡ first_words is_order_by rest
behind-having no_expr rest = refl
behind-having (an_expr e) rest = refl

abbrev ordered : Order → List Expr
ordered no_order = []
ordered (order_by is) = flat_items is

order-words : (o : Order) → first_words is_order_by (order_roses o) ≡ all (element_words 0) (ordered o)
order-words no_order = refl
order-words (order_by is) = item-elements is

never : Decides false ⊥
never = (λ e. absurd (false≢true e), λ h. absurd h)

no-difference : (xs : List Expr) → Differ Apart xs [] → ⊥
no-difference [] h = h
no-difference (x ∷ xs) h = h

to-differ : (l : LockingClause) (d : Expr) (o : Order) → Differ Apart (flat d) (ordered o)
    → OrderDiffers (unboxed l) (distinct_on d) o
to-differ l d no_order h = no-difference (flat d) h
to-differ l d (order_by is) h = h

of-differ : (l : LockingClause) (d : Expr) (o : Order) → OrderDiffers (unboxed l) (distinct_on d) o
    → Differ Apart (flat d) (ordered o)
of-differ l d no_order h = absurd h
of-differ l d (order_by is) h = h

module _ (e : Expr) (f : From) (w : MaybeExpr) (o : Order) (g h : MaybeExpr) where
  distinct-words : (d : Expr) → first_words is_distinct_on (select_roses e f (distinct_on d) w o g h)
      ≡ all (element_words 0) (flat d)
  distinct-words d = append-nil (words (Over 0) (expr_rose d)) ∙ elements 0 d

  ordered-words : (d : Expr) → first_words is_order_by (select_roses e f (distinct_on d) w o g h)
      ≡ all (element_words 0) (ordered o)
  ordered-words d =
      let having = maybe_roses K.Having h (order_roses o) in
      let groups = maybe_roses K.GroupBy g having in
      let conditions = maybe_roses K.Where w groups in
      no-order-node e (from_roses f conditions) ∙ behind-from f conditions ∙ behind-where w groups
      ∙ behind-group g having ∙ behind-having h (order_roses o) ∙ order-words o

  abbrev clashes : Distinct → Bool
  clashes u =
      clash (first_words is_distinct_on (select_roses e f u w o g h))
      (first_words is_order_by (select_roses e f u w o g h))

  clauses-decide : (s : t.Form) (u : Distinct)
      → Decides ((is_unboxed (form_of s) && has_distinct_on (uniqueness u)) && clashes u) (OrderDiffers s u o)
  clauses-decide (boxed b n) u = never
  clauses-decide (unboxed l) every = never
  clauses-decide (unboxed l) distinct = never
  clauses-decide (unboxed l) (distinct_on d) =
      Decides-like (clashes (distinct_on d)) (to-differ l d o) (of-differ l d o)
      (Decides-at (clashes (distinct_on d)) (clash (all (element_words 0) (flat d)) (all (element_words 0) (ordered o)))
      (λ i. clash (distinct-words d i) (ordered-words d i)) (shapes-decide (flat d) (ordered o)))

-- ---- the test of a select statement

truth : (b : Bool) → Decides b (IsTrue b)
truth b = (λ e. e, λ h. h)

abbrev Disordered : View → Views → Selecting → Roses FlatKind → Type 0
Disordered v w s ts = IsTrue (disordered (K.Select s) ts)

node-decides : (v : View) (k : FlatKind) (w : Known)
    → Decides (disordered k w.kids) (seen.of_kind NoExpr NoClause Never Never Disordered NoCombination NoSource v k w)
node-decides v (K.Select s) w = truth (disordered (K.Select s) w.kids)
node-decides v _ w = never

no-node : (v : View) (e : Expr) → seen.OfExpr NoExpr NoClause Never Never Disordered NoCombination NoSource v e → ⊥
no-node v (column o c) h = h
no-node v _ h = h

select-decides : (s : Select) → Decides (disordered (K.Select (selecting_of false s.distinctness s.rows s.form s.marks))
    (select_roses s.selection s.source s.distinctness s.where_by s.order s.group_by s.having_by))
    (OrderDiffers s.form s.distinctness s.order)
select-decides s =
    clauses-decide s.selection s.source s.where_by s.order s.group_by s.having_by s.form s.distinctness

module _ (schema : Declarations) (d : Dialect) where
  to-rule : (p : Part) → seen.PartOut NoExpr NoClause Never Never Disordered NoCombination NoSource p
      → PartBreaks rule.InvalidDistinctOrder schema d p
  to-rule (a_select outer s) (inl (inl h)) =
      absurd (no-any-expr NoExpr Disordered NoCombination NoSource no-node outer s h)
  to-rule (a_select outer s) (inl (inr h)) = (select-decides s).0 h
  to-rule (a_select outer s) (inr (inl h)) = absurd (no-from NoExpr Disordered NoCombination s.source h)
  to-rule (a_select outer s) (inr (inr h)) = absurd (no-order NoExpr Disordered NoCombination NoSource s.order h)
  to-rule (a_combination c) (inl h) = h
  to-rule (a_combination c) (inr h) = no-positions NoExpr Disordered NoCombination NoSource c.order h

  of-rule : (p : Part) → PartBreaks rule.InvalidDistinctOrder schema d p
      → seen.PartOut NoExpr NoClause Never Never Disordered NoCombination NoSource p
  of-rule (a_select outer s) h = inl (inr ((select-decides s).1 h))
  of-rule (a_combination c) h = absurd h

disordering : (s : Statement) (nodes : List FlatNode) (b : Bool) → nodes ≡ flat_of s
    → b ≡ any_ahead disordered_at 0 nodes → (schema : Declarations) (d : Dialect)
    → Decides b (Broken rule.InvalidDistinctOrder schema d s)
disordering s nodes b is h schema d =
    decides-rule NoExpr NoClause Never Never Disordered NoCombination NoSource
    (PartBreaks rule.InvalidDistinctOrder schema d) (to-rule schema d) (of-rule schema d) (parts [] s) b
    (decides-ahead NoExpr NoClause Never Never Disordered NoCombination NoSource disordered disordered_at same-test node-decides s nodes b is h)

pub disordered-answer : {E : Type 0} (s : Statement) (nodes : List FlatNode) (r : Result Bool E) → nodes ≡ flat_of s
    → IfOk r (λ b. b ≡ any_ahead disordered_at 0 nodes) → (schema : Declarations) (d : Dialect)
    → IfOk r (λ b. Decides b (Broken rule.InvalidDistinctOrder schema d s))
disordered-answer s nodes (Ok b) is h schema d = disordering s nodes b is h schema d
disordered-answer s nodes (Err e) is h schema d = tt

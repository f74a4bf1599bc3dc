-- Incompatible, by a test of select statements and the clauses that they have.
use Rattle.std.proofs.Common.{◌≡◌, ℕ, suc, ◌+◌, List, [], ◌∷◌, ◌++◌, Bool, true, false, not, ◌&&◌, ◌||◌, inl, inr, refl, sym, ap, ◌∙◌}
use Rattle.std.specs.Prelude.{IsTrue}
use Rattle.std.specs.Bool.{Decides}
use Rattle.std.specs.List.{flat_map, list_any}
use Rattle.std.proofs.lemmas.Bool.{false≢true}
use Rattle.std.proofs.lemmas.Bool.Decides.{Decides-and, Decides-not, Decides-or}
use Rattle.std.proofs.lemmas.List.Folds.{list_any-append}
use Rattle.sql_schema.specs.Declarations.{Declarations}
use Rattle.sql_dialect.specs.declared.backend.Dialect.{Dialect}
use Rattle.sql_leaf.specs.declared.locking.LockingClause.TheVariants.{NoLockingClause, LockingClause as Locked}
use Rattle.sql_flat_law.specs.Rose.{Roses, sizes, flats}
use Rattle.sql_flat_law.specs.Folds.{gathered}
use Rattle.sql_node.specs.Tree as t
use Rattle.sql_node.specs.Tree.{Distinct, every, distinct, distinct_on, Expr, column, value, list, count_star, nullable, unary, count, compared, joined, exists, single, among_values, among_rows, MaybeExpr, no_expr, an_expr, From, no_source, from, Order, no_order, order_by, Statement, unboxed, boxed}
use Rattle.sql_rules.specs.Rules.{Broken, HasLock, IsDistinct, IsIncompatible, PartBreaks, Present, misuse}
use Rattle.sql_rules.specs.Scope.{View, Part, a_select, a_combination, Select, parts}
use Rattle.sql_rules.specs.declared.rule.Rule.TheVariants as rule
use Rattle.sql_flat.specs.Flat.{distinct_roses, expr_rose, flat_node, flat_of, form_of, from_roses, maybe_roses, order_roses, uniqueness}
use Rattle.sql_flat.specs.declared.kind.FlatKind.{FlatKind}
use Rattle.sql_flat.specs.declared.kind.FlatKind.TheVariants as K
use Rattle.sql_flat.specs.declared.kind.FlatNode.{FlatNode}
use Rattle.sql_flat.specs.declared.kind.Selecting.{Selecting}
use Rattle.sql_rules_check.specs.inside.Ahead.{any_ahead, gathered_from}
use Rattle.sql_rules_check.specs.inside.Clauses.{clash, clash_in, clause_at, clauses_in, has_lock, incompatible, incompatible_at, incompatible_by, is_distinct, is_group, is_having}
use Rattle.sql_rules_check.specs.inside.Kids.{all_passed, nodes_from}
use Rattle.sql_rules_check.specs.inside.Known.{Known}
use Rattle.sql_rules_check.specs.inside.Views.{Views}
use Rattle.sql_rules_check.proofs.Absent.{Never, NoClause, NoCombination, NoExpr, NoSource, no-any-expr, no-from, no-order, no-positions}
use Rattle.sql_rules_check.proofs.Ahead.{behind-kids, gathered-over, or-false}
use Rattle.sql_rules_check.proofs.Decided.{decides-ahead, decides-rule}
use Rattle.sql_rules_check.proofs.Seen as seen
use Rattle.sql_rules_check.proofs.SourceLeaves.{select_roses}

-- ---- the loop over the clauses of a select statement

one-group : (k : FlatKind) → list_any is_group (clause_at k) ≡ is_group k
one-group K.GroupBy = refl
one-group K.Having = refl
one-group _ = refl

one-having : (k : FlatKind) → list_any is_having (clause_at k) ≡ is_having k
one-having K.GroupBy = refl
one-having K.Having = refl
one-having _ = refl

pub any-more : {X : Type 0} (p : X → Bool) (xs : List X) (x : X) → (list_any p xs || p x) ≡ list_any p (xs ++ x ∷ [])
any-more p xs x = sym (list_any-append p xs (x ∷ []) ∙ ap (λ b. list_any p xs || b) (or-false (p x)))

module _ (p : FlatKind → Bool) (one : (k : FlatKind) → list_any p (clause_at k) ≡ p k) where
  flat : (cs : List (ℕ × FlatNode))
      → list_any (λ c. p c.1.kind) cs ≡ list_any p (flat_map (λ c. clause_at c.1.kind) cs)
  flat [] = refl
  flat (c ∷ cs) =
      (λ i. sym (one c.1.kind) i || flat cs i)
      ∙ sym (list_any-append p (clause_at c.1.kind) (flat_map (λ c. clause_at c.1.kind) cs))

  over : (e i : ℕ) (nodes : List FlatNode)
      → list_any (λ c. p c.1.kind) (nodes_from all_passed e i nodes)
      ≡ list_any p (gathered_from clause_at all_passed e i nodes)
  over e i nodes =
      flat (nodes_from all_passed e i nodes) ∙ ap (list_any p) (gathered-over clause_at all_passed e i nodes)

pub groups-over : (e i : ℕ) (nodes : List FlatNode)
    → list_any (λ c. is_group c.1.kind) (nodes_from all_passed e i nodes)
    ≡ list_any is_group (gathered_from clause_at all_passed e i nodes)
groups-over = over is_group one-group

pub havings-over : (e i : ℕ) (nodes : List FlatNode)
    → list_any (λ c. is_having c.1.kind) (nodes_from all_passed e i nodes)
    ≡ list_any is_having (gathered_from clause_at all_passed e i nodes)
havings-over = over is_having one-having

-- ---- the clauses of a select statement

no-clause : (e : Expr) → gathered clause_at all_passed (expr_rose e) ≡ []
no-clause (column o c) = refl
no-clause (value t x) = refl
no-clause (list es) = refl
no-clause count_star = refl
no-clause (nullable e) = refl
no-clause (unary n e) = refl
no-clause (count e) = refl
no-clause (compared by a b) = refl
no-clause (joined by a b) = refl
no-clause (exists q) = refl
no-clause (single q) = refl
no-clause (among_values n e t xs) = refl
no-clause (among_rows n e q) = refl

abbrev present_kinds : FlatKind → MaybeExpr → List FlatKind
present_kinds k no_expr = []
present_kinds k (an_expr e) = clause_at k

abbrev is_present : MaybeExpr → Bool
is_present no_expr = false
is_present (an_expr e) = true

of-distinct : (u : Distinct) (rest : Roses FlatKind) → clauses_in (distinct_roses u rest) ≡ clauses_in rest
of-distinct every rest = refl
of-distinct distinct rest = refl
of-distinct (distinct_on e) rest = refl

of-from : (f : From) (rest : Roses FlatKind) → clauses_in (from_roses f rest) ≡ clauses_in rest
of-from no_source rest = refl
of-from (from f) rest = refl

of-where : (m : MaybeExpr) (rest : Roses FlatKind) → clauses_in (maybe_roses K.Where m rest) ≡ clauses_in rest
of-where no_expr rest = refl
of-where (an_expr e) rest = refl

of-group : (m : MaybeExpr) (rest : Roses FlatKind)
    → clauses_in (maybe_roses K.GroupBy m rest) ≡ present_kinds K.GroupBy m ++ clauses_in rest
of-group no_expr rest = refl
of-group (an_expr e) rest = refl

of-having : (m : MaybeExpr) (rest : Roses FlatKind)
    → clauses_in (maybe_roses K.Having m rest) ≡ present_kinds K.Having m ++ clauses_in rest
of-having no_expr rest = refl
of-having (an_expr e) rest = refl

of-order : (o : Order) → clauses_in (order_roses o) ≡ []
of-order no_order = refl
of-order (order_by is) = refl

kinds-of : (e : Expr) (f : From) (u : Distinct) (w : MaybeExpr) (o : Order) (g h : MaybeExpr)
    → clauses_in (select_roses e f u w o g h) ≡ present_kinds K.GroupBy g ++ (present_kinds K.Having h ++ [])
kinds-of e f u w o g h =
    let having = maybe_roses K.Having h (order_roses o) in
    let group = maybe_roses K.GroupBy g having in
    let after = maybe_roses K.Where w group in
    of-distinct u _ ∙ ap (λ ks. ks ++ clauses_in (from_roses f after)) (no-clause e) ∙ of-from f after
    ∙ of-where w group ∙ of-group g having
    ∙ ap (λ ks. present_kinds K.GroupBy g ++ ks)
    (of-having h (order_roses o) ∙ ap (λ ks. present_kinds K.Having h ++ ks) (of-order o))

groups-of : (g h : MaybeExpr)
    → list_any is_group (present_kinds K.GroupBy g ++ (present_kinds K.Having h ++ [])) ≡ is_present g
groups-of no_expr no_expr = refl
groups-of no_expr (an_expr h) = refl
groups-of (an_expr g) no_expr = refl
groups-of (an_expr g) (an_expr h) = refl

havings-of : (g h : MaybeExpr)
    → list_any is_having (present_kinds K.GroupBy g ++ (present_kinds K.Having h ++ [])) ≡ is_present h
havings-of no_expr no_expr = refl
havings-of no_expr (an_expr h) = refl
havings-of (an_expr g) no_expr = refl
havings-of (an_expr g) (an_expr h) = refl

-- ---- the test of a select statement

never : Decides false ⊥
never = (λ e. absurd (false≢true e), λ h. absurd h)

always : Decides true (Unit {0})
always = (λ e. tt, λ h. refl)

truth : (b : Bool) → Decides b (IsTrue b)
truth b = (λ e. e, λ h. h)

present-decides : (m : MaybeExpr) → Decides (is_present m) (Present m)
present-decides no_expr = never
present-decides (an_expr e) = always

lock-decides : (f : t.Form) → Decides (has_lock (form_of f)) (HasLock f)
lock-decides (unboxed NoLockingClause) = never
lock-decides (unboxed (Locked m w)) = always
lock-decides (boxed d n) = never

distinct-decides : (u : Distinct) → Decides (is_distinct (uniqueness u)) (IsDistinct u)
distinct-decides every = never
distinct-decides distinct = always
distinct-decides (distinct_on e) = always

-- what is said of a select statement, by the test itself
abbrev Clashes : View → Views → Selecting → Roses FlatKind → Type 0
Clashes v w s ts = IsTrue (clash_in s (clauses_in ts))

node-decides : (v : View) (k : FlatKind) (w : Known)
    → Decides (incompatible k w.kids) (seen.of_kind NoExpr NoClause Never Never Clashes NoCombination NoSource v k w)
node-decides v (K.Select s) w = truth (clash_in s (clauses_in w.kids))
node-decides v _ w = never

no-node : (v : View) (e : Expr) → seen.OfExpr NoExpr NoClause Never Never Clashes NoCombination NoSource v e → ⊥
no-node v (column o c) h = h
no-node v _ h = h

module _ (s : Select) where
  abbrev kids : Roses FlatKind
  kids = select_roses s.selection s.source s.distinctness s.where_by s.order s.group_by s.having_by

  abbrev plainly : Selecting
  plainly = record {
    default = false;
    unique = uniqueness s.distinctness;
    rows = s.rows;
    form = form_of s.form;
    marks = s.marks;
  }

  same-clash : clash_in plainly (clauses_in kids) ≡ clash plainly (is_present s.group_by) (is_present s.having_by)
  same-clash =
      let is = kinds-of s.selection s.source s.distinctness s.where_by s.order s.group_by s.having_by in
      ap (clash_in plainly) is
      ∙ (λ i. clash plainly (groups-of s.group_by s.having_by i) (havings-of s.group_by s.having_by i))

  clash-decides : Decides (clash plainly (is_present s.group_by) (is_present s.having_by)) (IsIncompatible s)
  clash-decides =
      let groups = is_present s.group_by in
      let having = is_present s.having_by in
      let lock = has_lock (form_of s.form) in
      let unique = is_distinct (uniqueness s.distinctness) in
      Decides-or (misuse s.marks) ((lock && (unique || (groups || having))) || (having && not groups))
      (truth (misuse s.marks))
      (Decides-or (lock && (unique || (groups || having))) (having && not groups)
      (Decides-and lock (unique || (groups || having)) (lock-decides s.form)
      (Decides-or unique (groups || having) (distinct-decides s.distinctness)
      (Decides-or groups having (present-decides s.group_by) (present-decides s.having_by))))
      (Decides-and having (not groups) (present-decides s.having_by) (Decides-not groups (present-decides s.group_by))))

module _ (schema : Declarations) (d : Dialect) where
  to-rule : (p : Part) → seen.PartOut NoExpr NoClause Never Never Clashes NoCombination NoSource p
      → PartBreaks rule.Incompatible schema d p
  to-rule (a_select outer s) (inl (inl h)) =
      absurd (no-any-expr NoExpr Clashes NoCombination NoSource no-node outer s h)
  to-rule (a_select outer s) (inl (inr h)) = (clash-decides s).0 (sym (same-clash s) ∙ h)
  to-rule (a_select outer s) (inr (inl h)) = absurd (no-from NoExpr Clashes NoCombination s.source h)
  to-rule (a_select outer s) (inr (inr h)) = absurd (no-order NoExpr Clashes NoCombination NoSource s.order h)
  to-rule (a_combination c) (inl h) = h
  to-rule (a_combination c) (inr h) = no-positions NoExpr Clashes NoCombination NoSource c.order h

  of-rule : (p : Part) → PartBreaks rule.Incompatible schema d p
      → seen.PartOut NoExpr NoClause Never Never Clashes NoCombination NoSource p
  of-rule (a_select outer s) h = inl (inr (same-clash s ∙ (clash-decides s).1 h))
  of-rule (a_combination c) h = absurd h

same-test : (n : ℕ) (k : FlatKind) (ts : Roses FlatKind) (rest : List FlatNode)
    → incompatible_at n (flat_node k (n + suc (sizes ts))) (flats flat_node (n + 1) ts rest) ≡ incompatible k ts
same-test n k ts rest = ap (incompatible_by k) (behind-kids clause_at all_passed n k ts rest) ∙ by_kind k
  where
    by_kind : (k : FlatKind) → incompatible_by k (clauses_in ts) ≡ incompatible k ts
    by_kind (K.Select s) = refl
    by_kind _ = refl

pub misfitting : (s : Statement) (nodes : List FlatNode) (b : Bool) → nodes ≡ flat_of s
    → b ≡ any_ahead incompatible_at 0 nodes → (schema : Declarations) (d : Dialect)
    → Decides b (Broken rule.Incompatible schema d s)
misfitting s nodes b is h schema d =
    decides-rule NoExpr NoClause Never Never Clashes NoCombination NoSource (PartBreaks rule.Incompatible schema d)
    (to-rule schema d) (of-rule schema d) (parts [] s) b
    (decides-ahead NoExpr NoClause Never Never Clashes NoCombination NoSource incompatible incompatible_at
    same-test node-decides s nodes b is h)

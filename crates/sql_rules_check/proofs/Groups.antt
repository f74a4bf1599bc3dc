-- What the clauses of a select statement hold of columns and aggregates, by its tree. Verdicts are the rule's, unless an
-- aggregate is counted.
use Rattle.std.proofs.Common.{◌≡◌, ◌⊎◌, inl, inr, ◌||◌, if◌then◌else◌, Bool, true, false, List, [], ◌∷◌, ◌++◌, Option, None, Some, refl, sym, ap, ◌∙◌, append-nil}
use Rattle.std.specs.List.{list_any}
use Rattle.std.proofs.lemmas.List.Folds.{list_any-append}
use Rattle.sql_schema.specs.declared.declaration.ColumnDecl.{ColumnDecl}
use Rattle.sql_flat_law.specs.Rose.{Rose, Roses, node, more, one}
use Rattle.sql_flat_law.specs.Folds.{gathered, gathered_each}
use Rattle.sql_node.specs.Tree.{Origin, Expr, column, value, list, count_star, nullable, unary, count, compared, joined, exists, single, among_values, among_rows, Exprs, no_exprs, more_exprs, Items, no_items, more_items, MaybeExpr, no_expr, an_expr, From, no_source, from, Distinct, every, distinct, distinct_on, Order, no_order, order_by, Statement, select, combination}
use Rattle.sql_rules.specs.Lists.{AnyOf}
use Rattle.sql_rules.specs.Rules.{CountsAggregate}
use Rattle.sql_rules.specs.Scope.{nodes, nodes_of}
use Rattle.sql_rules.specs.Verdicts as v
use Rattle.sql_rules.specs.Verdicts.{Field, column_verdict, fields, fields_of, holds_aggregate, mix, verdict, verdict_of}
use Rattle.sql_rules.proofs.Lists.{any_left, any_right}
use Rattle.sql_flat.specs.Flat.{distinct_roses, expr_rose, exprs_roses, from_roses, items_roses, maybe_roses, order_roses, rose}
use Rattle.sql_flat.specs.declared.kind.FlatKind.{FlatKind}
use Rattle.sql_flat.specs.declared.kind.FlatKind.TheVariants as K
use Rattle.sql_rules_check.specs.inside.Grouping.{Piece, Sums, all_give, column_gives, field_at, field_passed, group_in, is_aggregate, kind_gives, nothing_summed, own_at, own_passed, piece_of, summed}
use Rattle.sql_rules_check.specs.inside.Kids.{kids_of}
use Rattle.sql_rules_check.proofs.Ahead.{or-false}
use Rattle.sql_rules_check.proofs.GroupTurns.{mix-mix, mix-unit}
use Rattle.sql_rules_check.proofs.SourceLeaves.{select_roses}

abbrev own_of : Rose FlatKind → List FlatKind
own_of = gathered own_at own_passed

abbrev pub own : Expr → List FlatKind
own e = own_of (expr_rose e)

abbrev pub owns : Exprs → List FlatKind
owns es = gathered_each own_at own_passed (exprs_roses es)

abbrev pub group_of : MaybeExpr → Option (List Field)
group_of no_expr = None
group_of (an_expr e) = Some (fields e)

-- ---- the columns of a GROUP BY

mutual
  fields-held : (e : Expr) → gathered field_at field_passed (expr_rose e) ≡ fields e
  fields-held (column o c) = refl
  fields-held (value t x) = refl
  fields-held (list es) = fields-each es
  fields-held count_star = refl
  fields-held (nullable e) = append-nil (gathered field_at field_passed (expr_rose e)) ∙ fields-held e
  fields-held (unary n e) = refl
  fields-held (count e) = refl
  fields-held (compared by a b) = refl
  fields-held (joined by a b) = refl
  fields-held (exists q) = refl
  fields-held (single q) = refl
  fields-held (among_values n e t xs) = refl
  fields-held (among_rows n e q) = refl

  fields-each : (es : Exprs) → gathered_each field_at field_passed (exprs_roses es) ≡ fields_of es
  fields-each no_exprs = refl
  fields-each (more_exprs e es) = λ i. fields-held e i ++ fields-each es i

-- ---- aggregates

abbrev any_own : List FlatKind → Bool
any_own = list_any is_aggregate

abbrev any_node : Expr → Bool
any_node e = holds_aggregate e

query-any : (q : Statement) → any_own (own_of (rose q)) ≡ false
query-any (select default e f u w o rows g h form marks) = refl
query-any (combination by all a b o rows) = refl

any-one : (ks : List FlatKind) (b : Bool) → any_own ks ≡ b → any_own (ks ++ []) ≡ b
any-one ks b h = ap any_own (append-nil ks) ∙ h

any-two : (ks ls : List FlatKind) (b c : Bool) → any_own ks ≡ b → any_own ls ≡ c → any_own (ks ++ (ls ++ [])) ≡ (b || c)
any-two ks ls b c h g =
    list_any-append is_aggregate ks (ls ++ []) ∙ (λ i. h i || any-one ls c g i)

mutual
  pub any-held : (e : Expr) → any_own (own e) ≡ holds_aggregate e
  any-held (column o c) = refl
  any-held (value t x) = refl
  any-held (list es) = any-each es
  any-held count_star = refl
  any-held (nullable e) = any-one (own e) (holds_aggregate e) (any-held e)
  any-held (unary n e) = any-one (own e) (holds_aggregate e) (any-held e)
  any-held (count e) = refl
  any-held (compared by a b) =
      any-two (own a) (own b) (holds_aggregate a) (holds_aggregate b) (any-held a) (any-held b)
      ∙ sym (list_any-append v.is_aggregate (nodes a) (nodes b))
  any-held (joined by a b) =
      any-two (own a) (own b) (holds_aggregate a) (holds_aggregate b) (any-held a) (any-held b)
      ∙ sym (list_any-append v.is_aggregate (nodes a) (nodes b))
  any-held (exists q) = any-one (own_of (rose q)) false (query-any q)
  any-held (single q) = any-one (own_of (rose q)) false (query-any q)
  any-held (among_values n e t xs) =
      any-two (own e) (K.Values t ∷ []) (holds_aggregate e) false (any-held e) refl ∙ or-false (holds_aggregate e)
  any-held (among_rows n e q) =
      any-two (own e) (own_of (rose q)) (holds_aggregate e) false (any-held e) (query-any q)
      ∙ or-false (holds_aggregate e)

  any-each : (es : Exprs) → any_own (owns es) ≡ list_any v.is_aggregate (nodes_of es)
  any-each no_exprs = refl
  any-each (more_exprs e es) =
      list_any-append is_aggregate (own e) (owns es) ∙ (λ i. any-held e i || any-each es i)
      ∙ sym (list_any-append v.is_aggregate (nodes e) (nodes_of es))

-- what is counted has an aggregate
pub counts : (e : Expr) → any_own (own e ++ []) ≡ holds_aggregate e
counts e = any-one (own e) (holds_aggregate e) (any-held e)

-- ---- verdicts

module _ (g : Option (List Field)) where
  give-append : (ks ls : List FlatKind) → all_give g (ks ++ ls) ≡ mix (all_give g ks) (all_give g ls)
  give-append [] ls = refl
  give-append (k ∷ ks) ls =
      ap (mix (kind_gives g k)) (give-append ks ls)
      ∙ sym (mix-mix (kind_gives g k) (all_give g ks) (all_give g ls))

  query-gives : (q : Statement) → all_give g (own_of (rose q)) ≡ v.Never
  query-gives (select default e f u w o rows g h form marks) = refl
  query-gives (combination by all a b o rows) = refl

  give-one : (ks : List FlatKind) (a : v.Verdict) → all_give g ks ≡ a → all_give g (ks ++ []) ≡ a
  give-one ks a h = ap (all_give g) (append-nil ks) ∙ h

  give-two : (ks ls : List FlatKind) (a b : v.Verdict) → all_give g ks ≡ a → all_give g ls ≡ b
      → all_give g (ks ++ (ls ++ [])) ≡ mix a b
  give-two ks ls a b h k = give-append ks (ls ++ []) ∙ (λ i. mix (h i) (give-one ls b k i))

module _ (g : MaybeExpr) where
  abbrev gives : List FlatKind → v.Verdict
  gives = all_give (group_of g)

  -- an aggregate is counted in it, or this is its verdict
  abbrev Agrees : List Expr → v.Verdict → v.Verdict → Type 0
  Agrees es a b = AnyOf CountsAggregate es ⊎ (a ≡ b)

  agree-one : (e : Expr) (es : List Expr) (a b c : v.Verdict) → Agrees es a b → (a ≡ b → c ≡ b) → Agrees (e ∷ es) c b
  agree-one e es a b c (inl h) f = inl (inr h)
  agree-one e es a b c (inr h) f = inr (f h)

  agree-two : (e : Expr) (ds es : List Expr) (a b c d r : v.Verdict) → Agrees ds a b → Agrees es c d
      → (a ≡ b → c ≡ d → r ≡ mix b d) → Agrees (e ∷ (ds ++ es)) r (mix b d)
  agree-two e ds es a b c d r (inl h) k f = inl (inr (any_left CountsAggregate ds es h))
  agree-two e ds es a b c d r (inr h) (inl k) f = inl (inr (any_right CountsAggregate ds es k))
  agree-two e ds es a b c d r (inr h) (inr k) f = inr (f h k)

  agree-more : (ds es : List Expr) (a b c d r : v.Verdict) → Agrees ds a b → Agrees es c d
      → (a ≡ b → c ≡ d → r ≡ mix b d) → Agrees (ds ++ es) r (mix b d)
  agree-more ds es a b c d r (inl h) k f = inl (any_left CountsAggregate ds es h)
  agree-more ds es a b c d r (inr h) (inl k) f = inl (any_right CountsAggregate ds es k)
  agree-more ds es a b c d r (inr h) (inr k) f = inr (f h k)

  count-agrees : (e : Expr) (b : Bool) → holds_aggregate e ≡ b → Agrees (nodes (count e)) v.Yes (verdict g (count e))
  count-agrees e true h = inl (inl h)
  count-agrees e false h = inr (ap (λ c. if c then v.NoVerdict else v.Yes) (sym h))

  column-agrees : (m : MaybeExpr) (o : Origin) (c : ColumnDecl) → column_gives (group_of m) o c ≡ column_verdict m o c
  column-agrees no_expr o c = refl
  column-agrees (an_expr e) o c = refl

  below : (t e : Expr) → Agrees (nodes e) (gives (own e)) (verdict g e)
      → Agrees (t ∷ nodes e) (gives (own e ++ [])) (verdict g e)
  below t e h =
      agree-one t (nodes e) (gives (own e)) (verdict g e) (gives (own e ++ [])) h
      (give-one (group_of g) (own e) (verdict g e))

  alone : (t : Expr) (es : Exprs) → Agrees (nodes_of es) (gives (owns es)) (verdict_of g es)
      → Agrees (t ∷ nodes_of es) (gives (owns es)) (verdict_of g es)
  alone t es h = agree-one t (nodes_of es) (gives (owns es)) (verdict_of g es) (gives (owns es)) h (λ k. k)

  beside : (t e : Expr) (ks : List FlatKind) → gives ks ≡ v.Never → Agrees (nodes e) (gives (own e)) (verdict g e)
      → Agrees (t ∷ nodes e) (gives (own e ++ (ks ++ []))) (verdict g e)
  beside t e ks n h =
      agree-one t (nodes e) (gives (own e)) (verdict g e) (gives (own e ++ (ks ++ []))) h
      (λ k. give-two (group_of g) (own e) ks (verdict g e) v.Never k n ∙ mix-unit (verdict g e))

  both : (t a b : Expr) → Agrees (nodes a) (gives (own a)) (verdict g a)
      → Agrees (nodes b) (gives (own b)) (verdict g b)
      → Agrees (t ∷ (nodes a ++ nodes b)) (gives (own a ++ (own b ++ []))) (mix (verdict g a) (verdict g b))
  both t a b h k =
      agree-two t (nodes a) (nodes b) (gives (own a)) (verdict g a) (gives (own b)) (verdict g b)
      (gives (own a ++ (own b ++ []))) h k (give-two (group_of g) (own a) (own b) (verdict g a) (verdict g b))

  list-more : (e : Expr) (es : Exprs) → Agrees (nodes e) (gives (own e)) (verdict g e)
      → Agrees (nodes_of es) (gives (owns es)) (verdict_of g es)
      → Agrees (nodes e ++ nodes_of es) (gives (own e ++ owns es)) (mix (verdict g e) (verdict_of g es))
  list-more e es h k =
      agree-more (nodes e) (nodes_of es) (gives (own e)) (verdict g e) (gives (owns es)) (verdict_of g es)
      (gives (own e ++ owns es)) h k
      (λ p q. give-append (group_of g) (own e) (owns es) ∙ (λ i. mix (p i) (q i)))

  mutual
    pub agrees : (e : Expr) → Agrees (nodes e) (gives (own e)) (verdict g e)
    agrees (column o c) = inr (mix-unit (column_gives (group_of g) o c) ∙ column-agrees g o c)
    agrees (value t x) = inr refl
    agrees (list es) = alone (list es) es (agrees-each es)
    agrees count_star = inr refl
    agrees (nullable e) = below (nullable e) e (agrees e)
    agrees (unary n e) = below (unary n e) e (agrees e)
    agrees (count e) = count-agrees e (holds_aggregate e) refl
    agrees (compared by a b) = both (compared by a b) a b (agrees a) (agrees b)
    agrees (joined by a b) = both (joined by a b) a b (agrees a) (agrees b)
    agrees (exists q) = inr (give-one (group_of g) (own_of (rose q)) v.Never (query-gives (group_of g) q))
    agrees (single q) = inr (give-one (group_of g) (own_of (rose q)) v.Never (query-gives (group_of g) q))
    agrees (among_values n e t xs) = beside (among_values n e t xs) e (K.Values t ∷ []) refl (agrees e)
    agrees (among_rows n e q) =
        beside (among_rows n e q) e (own_of (rose q)) (query-gives (group_of g) q) (agrees e)

    agrees-each : (es : Exprs) → Agrees (nodes_of es) (gives (owns es)) (verdict_of g es)
    agrees-each no_exprs = inr refl
    agrees-each (more_exprs e es) = list-more e es (agrees e) (agrees-each es)

-- ---- the clauses of a select statement, one after the other

abbrev clause_own : FlatKind → Expr → List FlatKind
clause_own k e = own_of (node k (one (expr_rose e)))

abbrev item_gives : Option (List Field) → Items → v.Verdict
item_gives g no_items = v.Never
item_gives g (more_items e by is) = mix (all_give g (own e)) (item_gives g is)

abbrev pub order_gives : Option (List Field) → Order → v.Verdict
order_gives g no_order = v.Never
order_gives g (order_by is) = item_gives g is

abbrev pub distinct_gives : Option (List Field) → Distinct → v.Verdict
distinct_gives g every = v.Never
distinct_gives g distinct = v.Never
distinct_gives g (distinct_on e) = all_give g (own e)

abbrev pub clause_any : Bool → MaybeExpr → Bool
clause_any b no_expr = b
clause_any b (an_expr e) = b || holds_aggregate e

abbrev pieces : Roses FlatKind → List Piece
pieces = kids_of piece_of

-- the group

group-having : (m : MaybeExpr) (o : Order) → group_in (pieces (maybe_roses K.Having m (order_roses o))) ≡ None
group-having no_expr no_order = refl
group-having no_expr (order_by is) = refl
group-having (an_expr e) no_order = refl
group-having (an_expr e) (order_by is) = refl

group-group : (m h : MaybeExpr) (o : Order)
    → group_in (pieces (maybe_roses K.GroupBy m (maybe_roses K.Having h (order_roses o)))) ≡ group_of m
group-group no_expr h o = group-having h o
group-group (an_expr e) h o =
    ap (λ fs. Some fs) (append-nil (gathered field_at field_passed (expr_rose e)) ∙ fields-held e)

group-where : (m : MaybeExpr) (rest : Roses FlatKind)
    → group_in (pieces (maybe_roses K.Where m rest)) ≡ group_in (pieces rest)
group-where no_expr rest = refl
group-where (an_expr e) rest = refl

group-from : (f : From) (rest : Roses FlatKind) → group_in (pieces (from_roses f rest)) ≡ group_in (pieces rest)
group-from no_source rest = refl
group-from (from f) rest = refl

group-selection : (e : Expr) (rest : Roses FlatKind)
    → group_in (pieces (more (expr_rose e) rest)) ≡ group_in (pieces rest)
group-selection (column o c) rest = refl
group-selection (value t x) rest = refl
group-selection (list es) rest = refl
group-selection count_star rest = refl
group-selection (nullable e) rest = refl
group-selection (unary n e) rest = refl
group-selection (count e) rest = refl
group-selection (compared by a b) rest = refl
group-selection (joined by a b) rest = refl
group-selection (exists q) rest = refl
group-selection (single q) rest = refl
group-selection (among_values n e t xs) rest = refl
group-selection (among_rows n e q) rest = refl

group-distinct : (u : Distinct) (rest : Roses FlatKind)
    → group_in (pieces (distinct_roses u rest)) ≡ group_in (pieces rest)
group-distinct every rest = refl
group-distinct distinct rest = refl
group-distinct (distinct_on e) rest = refl

pub group-held : (e : Expr) (f : From) (u : Distinct) (w : MaybeExpr) (o : Order) (g h : MaybeExpr)
    → group_in (pieces (select_roses e f u w o g h)) ≡ group_of g
group-held e f u w o g h =
    let group = maybe_roses K.GroupBy g (maybe_roses K.Having h (order_roses o)) in
    let after = maybe_roses K.Where w group in
    group-distinct u (more (expr_rose e) (from_roses f after)) ∙ group-selection e (from_roses f after)
    ∙ group-from f after ∙ group-where w group ∙ group-group g h o

-- the verdicts, and whether there is an aggregate

module _ (g : Option (List Field)) where
  item-own : (is : Items) → all_give g (gathered_each own_at own_passed (items_roses is)) ≡ item_gives g is
  item-own no_items = refl
  item-own (more_items e by is) =
      give-append g (own e ++ []) (gathered_each own_at own_passed (items_roses is))
      ∙ (λ i. mix (all_give g (append-nil (own e) i)) (item-own is i))

  sum-order : (s : Sums) (o : Order) → s.ordered ≡ v.Never
      → summed g s (pieces (order_roses o)) ≡ record s { ordered = order_gives g o }
  sum-order s no_order n = λ i. record s { ordered = n i }
  sum-order s (order_by is) n = λ i. record s { ordered = mix (n i) (item-own is i) }

  sum-having : (s : Sums) (m : MaybeExpr) (rest : Roses FlatKind)
      → summed g s (pieces (maybe_roses K.Having m rest)) ≡ summed g s (pieces rest)
  sum-having s no_expr rest = refl
  sum-having s (an_expr e) rest = refl

  sum-group : (s : Sums) (m : MaybeExpr) (rest : Roses FlatKind)
      → summed g s (pieces (maybe_roses K.GroupBy m rest))
      ≡ summed g (record s { aggregate = clause_any s.aggregate m }) (pieces rest)
  sum-group s no_expr rest = refl
  sum-group s (an_expr e) rest =
      let h = any-one (own e) (holds_aggregate e) (any-held e) in
      λ i. summed g (record s { aggregate = s.aggregate || h i }) (pieces rest)

  sum-where : (s : Sums) (m : MaybeExpr) (rest : Roses FlatKind)
      → summed g s (pieces (maybe_roses K.Where m rest))
      ≡ summed g (record s { aggregate = clause_any s.aggregate m }) (pieces rest)
  sum-where s no_expr rest = refl
  sum-where s (an_expr e) rest =
      let h = any-one (own e) (holds_aggregate e) (any-held e) in
      λ i. summed g (record s { aggregate = s.aggregate || h i }) (pieces rest)

  sum-from : (s : Sums) (f : From) (rest : Roses FlatKind)
      → summed g s (pieces (from_roses f rest)) ≡ summed g s (pieces rest)
  sum-from s no_source rest = refl
  sum-from s (from f) rest = refl

  abbrev selecting : Sums → Expr → Sums
  selecting s e = record s { selected = mix s.selected (all_give g (own e)) }

  sum-selection : (s : Sums) (e : Expr) (rest : Roses FlatKind)
      → summed g s (pieces (more (expr_rose e) rest)) ≡ summed g (selecting s e) (pieces rest)
  sum-selection s (column o c) rest = refl
  sum-selection s (value t x) rest = refl
  sum-selection s (list es) rest = refl
  sum-selection s count_star rest = refl
  sum-selection s (nullable e) rest = refl
  sum-selection s (unary n e) rest = refl
  sum-selection s (count e) rest = refl
  sum-selection s (compared by a b) rest = refl
  sum-selection s (joined by a b) rest = refl
  sum-selection s (exists q) rest = refl
  sum-selection s (single q) rest = refl
  sum-selection s (among_values n e t xs) rest = refl
  sum-selection s (among_rows n e q) rest = refl

  sum-distinct : (s : Sums) (u : Distinct) (rest : Roses FlatKind) → s.distinct ≡ v.Never
      → summed g s (pieces (distinct_roses u rest))
      ≡ summed g (record s { distinct = distinct_gives g u }) (pieces rest)
  sum-distinct s every rest n = λ i. summed g (record s { distinct = n i }) (pieces rest)
  sum-distinct s distinct rest n = λ i. summed g (record s { distinct = n i }) (pieces rest)
  sum-distinct s (distinct_on e) rest n =
      λ i. summed g (record s { distinct = mix (n i) (all_give g (append-nil (own e) i)) }) (pieces rest)

  pub sums-held : (e : Expr) (f : From) (u : Distinct) (w : MaybeExpr) (o : Order) (m h : MaybeExpr)
      → summed g nothing_summed (pieces (select_roses e f u w o m h))
      ≡ record {
        selected = all_give g (own e);
        distinct = distinct_gives g u;
        ordered = order_gives g o;
        aggregate = clause_any (clause_any false w) m;
      }
  sums-held e f u w o m h =
      let having = maybe_roses K.Having h (order_roses o) in
      let group = maybe_roses K.GroupBy m having in
      let after = maybe_roses K.Where w group in
      let one : Sums = record nothing_summed { distinct = distinct_gives g u } in
      let two : Sums = record one { selected = all_give g (own e) } in
      let three : Sums = record two { aggregate = clause_any false w } in
      let four : Sums = record three { aggregate = clause_any (clause_any false w) m } in
      sum-distinct nothing_summed u (more (expr_rose e) (from_roses f after)) refl
      ∙ sum-selection one e (from_roses f after) ∙ sum-from two f after ∙ sum-where two w group
      ∙ sum-group three m having ∙ sum-having four h (order_roses o) ∙ sum-order four o refl

-- The normal tree is one that the dialect has.
use Rattle.std.proofs.Common.{◌≡◌, ℕ, ℤ, suc, ◌+◌, ◌≤◌, List, [], ◌∷◌, ◌++◌, length, map, Bool, true, false, Option, Some, None, option_map, refl, sym, ap, ◌∙◌, subst, arith}
use Rattle.sql_schema.specs.declared.declaration.TableDecl.{TableDecl}
use Rattle.sql_dialect.specs.Supports.{combines, is_all}
use Rattle.sql_dialect.specs.declared.backend.Dialect.{Dialect}
use Rattle.sql_dialect.specs.declared.backend.Dialect.TheVariants.{Pg, Mysql, Sqlite, Bracket}
use Rattle.sql_dialect.specs.Written.{numbers, MAX_BINDS}
use Rattle.sql_dialect.specs.declared.combination.Combinator.{Combinator}
use Rattle.sql_dialect.specs.declared.combination.Combinator.TheVariants.{Union, Intersect, Except}
use Rattle.sql_dialect.specs.declared.combination.DuplicateRule.{DuplicateRule}
use Rattle.sql_dialect.specs.declared.combination.DuplicateRule.TheVariants.{Distinct as DistinctRows, All}
use Rattle.sql_grammar.specs.Fits as fits
use Rattle.sql_grammar.specs.Numbering.{mark_of, after, each_expression, each_expressions, each_items, each_source, each_maybe, each_maybe_expressions, each_maybe_items, each_maybe_source, each_distinct, each_query, each_page, each_sample, each_marks, each_option}
use Rattle.sql_grammar.specs.Tree as g
use Rattle.sql_grammar.specs.Values.{values_expression, values_expressions, values_items, values_source, values_maybe, values_maybe_expressions, values_maybe_items, values_maybe_source, values_distinct, values_query, values_page, values_sample, values_option}
use Rattle.sql_grammar.proofs.Numbers.{after-count, after-append}
use Rattle.sql_pass.specs.Pieces.{values_of}
use Rattle.sql_pass.specs.declared.value.Bound.{Bound}
use Rattle.sql_pass.specs.declared.value.Bound.TheVariants.{Value as OneValue, List as ManyValues}
use Rattle.sql_pass.specs.Bounds.{of_i16, of_i32, of_i64}
use Rattle.sql_leaf.specs.declared.position.PositionalItem.{PositionalItem}
use Rattle.sql_leaf.specs.declared.table_source.Tablesample.{Tablesample}
use Rattle.sql_leaf.specs.declared.operator.Unary.{Unary}
use Rattle.sql_leaf.specs.declared.operator.Unary.TheVariants.{Not, IsNull, IsNotNull}
use Rattle.sql_node.specs.Pieces.{pieces}
use Rattle.sql_node.specs.Tree.{Expr, column, value, list, count_star, nullable, unary, count, compared, joined, exists, single, among_values, among_rows, Exprs, no_exprs, more_exprs, Items, no_items, more_items, MaybeExpr, no_expr, an_expr, Source, of_table, of_alias, join, From, no_source, from, Distinct, every, distinct, distinct_on, Order, no_order, order_by, Statement, select, combination}
use Rattle.sql_normal.specs.Filled as f
use Rattle.sql_normal.specs.Filled.{lead, expressions_of, expressions_from, trees, trees_in, filled, normal, Item, items_from, items_of, item_trees, first_name, more_names, column_path}
use Rattle.sql_normal.specs.Words as words
use Rattle.sql_normal.specs.inside.HasText.{ExprHasText, ExprsHaveText, ItemsHaveText, MaybeHasText, GroupHasText, OnHasText, SourceHasText, FromHasText, DistinctHasText, OrderHasText, PageHasText, PlacesHaveText, AreCounted, SampleHasText, HasText, HasNumbers}
use Rattle.sql_normal.proofs.TextLaws.{value-law}

-- ## Numbers

-- up to n, placeholders have numbers
abbrev pub Room : Dialect → ℕ → Type 0
Room d n = numbers d ≡ true → n ≤ MAX_BINDS

mark-fits : (d : Dialect) (n : ℕ) → Room d (suc n) → fits.FitsMark d (mark_of d n)
mark-fits Pg n r = (omega arith, r refl)
mark-fits Mysql n r = tt
mark-fits Sqlite n r = tt
mark-fits Bracket n r = (omega arith, r refl)

less-room : (d : Dialect) (a b : ℕ) → a ≤ b → Room d b → Room d a
less-room d a b l r t = let m = r t in omega arith

-- room for two lists, one after the other
both-room : (d : Dialect) (n : ℕ) (bs cs : List Bound) → Room d (after n (bs ++ cs))
    → Room d (after n bs) × Room d (after (after n bs) cs)
both-room d n bs cs r =
    let all = subst (Room d) (after-append n bs cs) r in
    (less-room d (after n bs) (after (after n bs) cs) (let e = after-count (after n bs) cs in omega arith) all, all)

marks-fit : (d : Dialect) (n : ℕ) (bs : List Bound) → Room d (after n bs)
    → fits.FitsMarks d (each_marks (λ k b. mark_of d k) n bs)
marks-fit d n [] r = tt
marks-fit d n (b ∷ bs) r = (mark-fits d n (both-room d n (b ∷ []) bs r).0, marks-fit d (suc n) bs r)

option-fits : (d : Dialect) (n : ℕ) (o : Option Bound) → Room d (after n (values_option o))
    → fits.FitsMaybeMark d (each_option (λ k b. mark_of d k) n o)
option-fits d n None r = tt
option-fits d n (Some b) r = mark-fits d n r

-- ## Parts

module _ (d : Dialect) where
  abbrev mark : ℕ → Bound → g.Mark
  mark n b = mark_of d n

  abbrev ExprFits : g.Expression Bound → Type 0
  ExprFits t = (n : ℕ) → Room d (after n (values_expression t)) → fits.FitsExpression d (each_expression mark n t)

  abbrev EachFits : List (g.Expression Bound) → Type 0
  EachFits [] = Unit {0}
  EachFits (t ∷ ts) = ExprFits t × EachFits ts

  abbrev ItemsFit : List Item → Type 0
  ItemsFit [] = Unit {0}
  ItemsFit (i ∷ is) = ExprFits i.0 × ItemsFit is

  append-fits : (ts us : List (g.Expression Bound)) → EachFits ts → EachFits us → EachFits (ts ++ us)
  append-fits [] us h k = k
  append-fits (t ∷ ts) us h k = (h.0, append-fits ts us h.1 k)

  lead-fits : (ts : List (g.Expression Bound)) → EachFits ts → ExprFits (lead ts)
  unfolding fits.FitsExpression
  lead-fits [] h n r = tt
  lead-fits (t ∷ ts) h n r = h.0 n r

  list-fits : (t : g.Expression Bound) (ts : List (g.Expression Bound)) → ExprFits t → EachFits ts
      → (n : ℕ) → Room d (after n (values_expressions (expressions_from t ts)))
      → fits.FitsExpressions d (each_expressions mark n (expressions_from t ts))
  unfolding fits.FitsExpressions
  list-fits t [] h k n r = h n r
  list-fits t (u ∷ us) h k n r =
      let b = both-room d n (values_expression t) (values_expressions (expressions_from u us)) r in
      (h n b.0, list-fits u us k.0 k.1 (after n (values_expression t)) b.1)

  elements-fit : (ts : List (g.Expression Bound)) → EachFits ts → (n : ℕ)
      → Room d (after n (values_expressions (expressions_of ts)))
      → fits.FitsExpressions d (each_expressions mark n (expressions_of ts))
  unfolding fits.FitsExpressions fits.FitsExpression
  elements-fit [] h n r = tt
  elements-fit (t ∷ ts) h n r = list-fits t ts h.0 h.1 n r

  items-fit : (i : Item) (is : List Item) → ExprFits i.0 → ItemsFit is → (n : ℕ)
      → Room d (after n (values_items (items_from i is))) → fits.FitsItems d (each_items mark n (items_from i is))
  unfolding fits.FitsItems
  items-fit i [] h k n r = h n r
  items-fit i (j ∷ js) h k n r =
      let b = both-room d n (values_expression i.0) (values_items (items_from j js)) r in
      (h n b.0, items-fit j js k.0 k.1 (after n (values_expression i.0)) b.1)

  order-fits : (is : List Item) → ItemsFit is → (n : ℕ) → Room d (after n (values_items (items_of is)))
      → fits.FitsItems d (each_items mark n (items_of is))
  unfolding fits.FitsItems fits.FitsExpression
  order-fits [] h n r = tt
  order-fits (i ∷ is) h n r = items-fit i is h.0 h.1 n r

  path-fits : (schema : Option (List ℕ)) (name c : List ℕ) → fits.IsColumnPath (more_names schema name (c ∷ []))
  path-fits None name c = (omega arith, omega arith)
  path-fits (Some s) name c = (omega arith, omega arith)

  column-fits : (alias : Option (List ℕ)) (t : TableDecl) (c : List ℕ) → ExprFits (column_path alias t c)
  unfolding fits.FitsExpression
  column-fits None t c n r = path-fits t.schema t.sql_name c
  column-fits (Some a) t c n r = (omega arith, omega arith)

  table-fits : (schema : Option (List ℕ)) (name : List ℕ) → fits.IsTablePath (more_names schema name [])
  table-fits None name = omega arith
  table-fits (Some s) name = omega arith

  place-list-fits : (p : PositionalItem) (ps : List PositionalItem) → AreCounted (p ∷ ps)
      → fits.FitsPlaces (f.places_from p ps)
  place-list-fits p [] h = (p.column.0, omega (arith, h.0), refl)
  place-list-fits p (q ∷ qs) h = ((p.column.0, omega (arith, h.0), refl), place-list-fits q qs h.1)

  places-fit : (o : Option (List PositionalItem)) → PlacesHaveText o → fits.FitsMaybePlaces (f.places_of o)
  places-fit None h = tt
  places-fit (Some []) h = tt
  places-fit (Some (p ∷ ps)) h = place-list-fits p ps h

-- ## What the dialects have

-- an operand, and the places after it
in_list-fits : (d : Dialect) (t : g.Expression Bound) (c : Bound) (cs : List Bound) → ExprFits d t → (n : ℕ)
    → Room d (after n (values_expression t ++ c ∷ cs))
    → fits.FitsExpression d (each_expression (mark d) n t)
    × (fits.FitsMark d (mark_of d (after n (values_expression t)))
    × fits.FitsMarks d (each_marks (mark d) (suc (after n (values_expression t))) cs))
in_list-fits d t c cs h n r =
    let m = after n (values_expression t) in
    let b = both-room d n (values_expression t) (c ∷ cs) r in
    (h n b.0, (mark-fits d m (both-room d m (c ∷ []) cs b.1).0, marks-fit d (suc m) cs b.1))

among-fits : (d : Dialect) (negated : Bool) (t : g.Expression Bound) (b : Bound) (bs : List Bound) → ExprFits d t
    → ExprFits d (f.among d negated t b bs)
unfolding fits.FitsExpression
among-fits Pg negated t b bs h n r = let i = in_list-fits Pg t b [] h n r in (i.0, (i.1.0, refl))
among-fits Mysql negated t b [] h n r = tt
among-fits Mysql negated t b (c ∷ cs) h n r = in_list-fits Mysql t c cs h n r
among-fits Sqlite negated t b [] h n r = tt
among-fits Sqlite negated t b (c ∷ cs) h n r = in_list-fits Sqlite t c cs h n r
among-fits Bracket negated t b [] h n r = tt
among-fits Bracket negated t b (c ∷ cs) h n r = in_list-fits Bracket t c cs h n r

-- a limit, and an offset after it
both-fit : (d : Dialect) (l : Bound) (o : Option Bound) (n : ℕ) → Room d (after n (l ∷ values_option o))
    → fits.FitsMark d (mark_of d n) × fits.FitsMaybeMark d (each_option (mark d) (suc n) o)
both-fit d l o n r = (mark-fits d n (both-room d n (l ∷ []) (values_option o) r).0, option-fits d (suc n) o r)

-- an offset, and a limit after it
fetch-fits : (d : Dialect) (l : Bound) (o : Option Bound) (n : ℕ) → Room d (after n (values_option o ++ l ∷ []))
    → fits.FitsMaybeMark d (each_option (mark d) n o) × fits.FitsMark d (mark_of d (after n (values_option o)))
fetch-fits d l o n r =
    let b = both-room d n (values_option o) (l ∷ []) r in
    (option-fits d n o b.0, mark-fits d (after n (values_option o)) b.1)

page-fits : (d : Dialect) (l o : Option ℤ) (n : ℕ) → Room d (after n (values_page (f.page_of d l o)))
    → fits.FitsPage d (each_page (mark d) n (f.page_of d l o))
page-fits d None o n r = option-fits d n (option_map of_i64 o) r
page-fits Pg (Some l) o n r = let f = both-fit Pg (of_i64 l) (option_map of_i64 o) n r in (tt, f.0, f.1)
page-fits Mysql (Some l) o n r = let f = both-fit Mysql (of_i64 l) (option_map of_i64 o) n r in (tt, f.0, f.1)
page-fits Sqlite (Some l) o n r = let f = both-fit Sqlite (of_i64 l) (option_map of_i64 o) n r in (tt, f.0, f.1)
page-fits Bracket (Some l) o n r = let f = fetch-fits Bracket (of_i64 l) (option_map of_i64 o) n r in (tt, f.0, f.1)

outer_page-fits : (d : Dialect) (l o : Option ℤ) → PageHasText d false l o → (n : ℕ)
    → Room d (after n (values_page (f.page_of d l o))) → fits.FitsOuterPage d (each_page (mark d) n (f.page_of d l o))
outer_page-fits d None None h n r = tt
outer_page-fits Pg None (Some o) h n r = mark-fits Pg n r
outer_page-fits Mysql None (Some o) h n r = absurd h
outer_page-fits Sqlite None (Some o) h n r = mark-fits Sqlite n r
outer_page-fits Bracket None (Some o) h n r = mark-fits Bracket n r
outer_page-fits Pg (Some l) o h n r = page-fits Pg (Some l) o n r
outer_page-fits Mysql (Some l) o h n r = page-fits Mysql (Some l) o n r
outer_page-fits Sqlite (Some l) o h n r = page-fits Sqlite (Some l) o n r
outer_page-fits Bracket (Some l) o h n r = page-fits Bracket (Some l) o n r

operator-fits : (d : Dialect) (by : Combinator) (all : DuplicateRule) → combines d by all ≡ true
    → fits.FitsOperator d (words.operator_of by) (is_all all)
operator-fits Pg Union all h = tt
operator-fits Mysql Union all h = tt
operator-fits Sqlite Union all h = tt
operator-fits Pg Intersect all h = tt
operator-fits Pg Except all h = tt
operator-fits Bracket Union all h = tt
operator-fits Mysql Intersect all h = tt
operator-fits Mysql Except all h = tt
operator-fits Sqlite Intersect DistinctRows h = refl
operator-fits Sqlite Intersect All h = cc
operator-fits Sqlite Except DistinctRows h = refl
operator-fits Sqlite Except All h = cc
operator-fits Bracket Intersect DistinctRows h = refl
operator-fits Bracket Intersect All h = cc
operator-fits Bracket Except DistinctRows h = refl
operator-fits Bracket Except All h = cc

sample-fits : (d : Dialect) (s : Option Tablesample) → SampleHasText d s → (n : ℕ)
    → Room d (after n (values_sample (f.sample_of s))) → fits.FitsSample d (each_sample (λ k b. mark_of d k) n (f.sample_of s))
sample-fits d None h n r = tt
sample-fits d (Some s) h n r =
    let f = both-fit d (of_i16 s.portion) (option_map of_i32 s.seed) n r in (h, f.0, f.1)

-- ## Nodes

module _ (d : Dialect) where
  unary-fit : (u : Unary) (a : g.Expression Bound) → ExprFits d a → ExprFits d (words.unary_tree u a)
  unfolding fits.FitsExpression
  unary-fit Not a h n r = h n r
  unary-fit IsNull a h n r = h n r
  unary-fit IsNotNull a h n r = h n r

  two-fit : (a b : g.Expression Bound) → ExprFits d a → ExprFits d b → (n : ℕ)
      → Room d (after n (values_expression a ++ values_expression b))
      → fits.FitsExpression d (each_expression (mark d) n a)
      × fits.FitsExpression d (each_expression (mark d) (after n (values_expression a)) b)
  two-fit a b h k n r =
      let room = both-room d n (values_expression a) (values_expression b) r in
      (h n room.0, k (after n (values_expression a)) room.1)

  mutual
    unfolding fits.FitsExpression fits.FitsSource fits.FitsMaybeExpression fits.FitsMaybeExpressions fits.FitsMaybeItems fits.FitsMaybeSource fits.FitsDistinctness fits.FitsQuery

    expr-law : (e : Expr) → ExprHasText d e → EachFits d (trees d e)
    expr-law (column o c) k = (column-fits d o.alias o.table c.sql_name, tt)
    expr-law (value t v) k = (λ n r. mark-fits d n r, tt)
    expr-law (list es) k = exprs-law es k
    expr-law count_star k = (λ n r. tt, tt)
    expr-law (nullable e) k = expr-law e k
    expr-law (unary u e) k = (unary-fit u _ (lead-fits d _ (expr-law e k.1)), tt)
    expr-law (count e) k = (λ n r. lead-fits d _ (expr-law e k.1) n r, tt)
    expr-law (compared by a b) k = (
      λ n r. two-fit (lead (trees d a)) (lead (trees d b)) (lead-fits d _ (expr-law a k.0.1))
          (lead-fits d _ (expr-law b k.1.1)) n r,
      tt,
    )
    expr-law (joined by a b) k = (
      λ n r. two-fit (lead (trees d a)) (lead (trees d b)) (lead-fits d _ (expr-law a k.0.1))
          (lead-fits d _ (expr-law b k.1.1)) n r,
      tt,
    )
    expr-law (exists q) k = (λ n r. query-law q k n r, tt)
    expr-law (single q) k = (λ n r. query-law q k n r, tt)
    expr-law (among_values b e t vs) k =
        (among-fits d b _ (ManyValues t vs) (map (OneValue t) vs) (lead-fits d _ (expr-law e k.1)), tt)
    expr-law (among_rows b e q) k = (
      λ n r. let x = values_expression (lead (trees d e)) in
          let room = both-room d n x (values_query (filled d q)) r in
          (lead-fits d _ (expr-law e k.0.1) n room.0, query-law q k.1 (after n x) room.1),
      tt,
    )

    exprs-law : (es : Exprs) → ExprsHaveText d es → EachFits d (trees_in d es)
    exprs-law no_exprs k = tt
    exprs-law (more_exprs e es) k = append-fits d (trees d e) (trees_in d es) (expr-law e k.0) (exprs-law es k.1)

    items-law : (is : Items) → ItemsHaveText d is → ItemsFit d (item_trees d is)
    items-law no_items k = tt
    items-law (more_items e by is) k = (lead-fits d _ (expr-law e k.0.1), items-law is k.1)

    maybe-law : (e : MaybeExpr) → MaybeHasText d e → (n : ℕ) → Room d (after n (values_maybe (f.maybe_tree d e)))
        → fits.FitsMaybeExpression d (each_maybe (mark d) n (f.maybe_tree d e))
    maybe-law no_expr k n r = tt
    maybe-law (an_expr e) k n r = lead-fits d _ (expr-law e k.1) n r

    group-law : (e : MaybeExpr) → GroupHasText d e → (n : ℕ) → Room d (after n (values_maybe_expressions (f.group_tree d e)))
        → fits.FitsMaybeExpressions d (each_maybe_expressions (mark d) n (f.group_tree d e))
    group-law no_expr k n r = tt
    group-law (an_expr e) k n r = elements-fit d _ (expr-law e k.1) n r

    on-law : (e : MaybeExpr) → OnHasText d e → ExprFits d (f.on_tree d e)
    on-law no_expr k n r = absurd k
    on-law (an_expr e) k n r = lead-fits d _ (expr-law e k.1) n r

    source-law : (s : Source) → SourceHasText d s → (n : ℕ) → Room d (after n (values_source (f.source_tree d s)))
        → fits.FitsSource d (each_source (mark d) n (f.source_tree d s))
    source-law (of_table t only s) k n r = (table-fits d t.schema t.sql_name, k.0, sample-fits d s k.1 n r)
    source-law (of_alias a t) k n r = table-fits d t.schema t.sql_name
    source-law (join by a b on) k n r =
        let l = values_source (f.source_tree d a) in
        let m = values_source (f.source_tree d b) in
        let e = values_expression (f.on_tree d on) in
        let left = both-room d n l (m ++ e) r in
        let right = both-room d (after n l) m e left.1 in (
          source-law a k.0 n left.0,
          source-law b k.1 (after n l) right.0,
          on-law on k.2 (after (after n l) m) right.1,
        )

    from-law : (s : From) → FromHasText d s → (n : ℕ) → Room d (after n (values_maybe_source (f.from_tree d s)))
        → fits.FitsMaybeSource d (each_maybe_source (mark d) n (f.from_tree d s))
    from-law no_source k n r = tt
    from-law (from s) k n r = source-law s k n r

    distinct-law : (u : Distinct) → DistinctHasText d u → (n : ℕ) → Room d (after n (values_distinct (f.distinct_tree d u)))
        → fits.FitsDistinctness d (each_distinct (mark d) n (f.distinct_tree d u))
    distinct-law every k n r = tt
    distinct-law distinct k n r = tt
    distinct-law (distinct_on e) k n r = (k.0, elements-fit d _ (expr-law e k.2) n r)

    order-law : (o : Order) → OrderHasText d o → (n : ℕ) → Room d (after n (values_maybe_items (f.order_tree d o)))
        → fits.FitsMaybeItems d (each_maybe_items (mark d) n (f.order_tree d o))
    order-law no_order k n r = tt
    order-law (order_by is) k n r = order-fits d _ (items-law is k.1) n r

    query-law : (s : Statement) → HasText d s → (n : ℕ) → Room d (after n (values_query (filled d s)))
        → fits.FitsQuery d (each_query (mark d) n (filled d s))
    query-law (select default e s u w o rows by h form marks) k n r =
        let v1 = values_distinct (f.distinct_tree d u) in
        let v2 = values_expressions (expressions_of (trees d e)) in
        let v3 = values_maybe_source (f.from_tree d s) in
        let v4 = values_maybe (f.maybe_tree d w) in
        let v5 = values_maybe_expressions (f.group_tree d by) in
        let v6 = values_maybe (f.maybe_tree d h) in
        let v7 = values_maybe_items (f.order_tree d o) in
        let v8 = values_page (f.page_of d rows.limit_clause rows.offset_clause) in
        let n1 = after n v1 in
        let n2 = after n1 v2 in
        let n3 = after n2 v3 in
        let n4 = after n3 v4 in
        let n5 = after n4 v5 in
        let n6 = after n5 v6 in
        let n7 = after n6 v7 in
        let r1 = both-room d n v1 (v2 ++ (v3 ++ (v4 ++ (v5 ++ (v6 ++ (v7 ++ v8)))))) r in
        let r2 = both-room d n1 v2 (v3 ++ (v4 ++ (v5 ++ (v6 ++ (v7 ++ v8))))) r1.1 in
        let r3 = both-room d n2 v3 (v4 ++ (v5 ++ (v6 ++ (v7 ++ v8)))) r2.1 in
        let r4 = both-room d n3 v4 (v5 ++ (v6 ++ (v7 ++ v8))) r3.1 in
        let r5 = both-room d n4 v5 (v6 ++ (v7 ++ v8)) r4.1 in
        let r6 = both-room d n5 v6 (v7 ++ v8) r5.1 in
        let r7 = both-room d n6 v7 v8 r6.1 in (
          distinct-law u k.0 n r1.0,
          elements-fit d _ (expr-law e k.1.1) n1 r2.0,
          from-law s k.2 n2 r3.0,
          maybe-law w k.3 n3 r4.0,
          group-law by k.4 n4 r5.0,
          maybe-law h k.5 n5 r6.0,
          order-law o k.6 n6 r7.0,
          page-fits d rows.limit_clause rows.offset_clause n7 r7.1,
          k.8,
        )
    query-law (combination by all a b o rows) k n r =
        let va = values_query (filled d a) in
        let vb = values_query (filled d b) in
        let page = values_page (f.page_of d rows.limit_clause rows.offset_clause) in
        let left = both-room d n va (vb ++ page) r in
        let right = both-room d (after n va) vb page left.1 in (
          query-law a k.0 n left.0,
          operator-fits d by all k.1,
          query-law b k.2 (after n va) right.0,
          places-fit d o k.3,
          outer_page-fits d rows.limit_clause rows.offset_clause k.4 (after (after n va) vb) right.1,
        )

-- where the dialect has numbers for all values
room : (d : Dialect) (n : ℕ) → HasNumbers d n → Room d n
room d n h t = let m = h t in omega arith

pub normal-fits : (d : Dialect) (s : Statement) → HasText d s → HasNumbers d (length (values_of (pieces d s)))
    → fits.FitsQuery d (normal d s)
normal-fits d s k h =
    let whole : 0 + length (values_query (filled d s)) ≡ length (values_query (filled d s)) = omega arith in
    let same : length (values_of (pieces d s)) ≡ after 0 (values_query (filled d s)) =
    ap length (value-law d s k) ∙ sym (after-count 0 (values_query (filled d s)) ∙ whole) in
    query-law d s k 0 (room d (after 0 (values_query (filled d s))) (subst (HasNumbers d) same h))

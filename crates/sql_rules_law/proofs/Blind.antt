-- Statements with other values: what clauses see, the statements inside, clauses, expressions, verdicts and types are
-- those of the statement, as long as what fits goes on to fit and what does not goes on not to.
use Rattle.std.proofs.Common.{◌≡◌, Bool, ◌||◌, if◌then◌else◌, List, [], ◌∷◌, ◌++◌, map, Some, None, refl, sym, ap, ◌∙◌}
use Rattle.std.specs.List.{list_any}
use Rattle.std.proofs.lemmas.List.{map-append}
use Rattle.sql_schema.specs.declared.declaration.ColumnDecl.{ColumnDecl}
use Rattle.sql_schema.specs.declared.types.SqlType.{SqlType}
use Rattle.sql_pass.specs.declared.value.Value.{Value}
use Rattle.sql_node.specs.Tree.{Origin, Form, unboxed, boxed, Expr, column, list, count_star, nullable, unary, count, compared, joined, exists, single, among_values, among_rows, Exprs, no_exprs, more_exprs, Items, no_items, more_items, MaybeExpr, no_expr, an_expr, Source, of_table, of_alias, join, From, no_source, from, Distinct, distinct_on, Order, no_order, order_by, Statement, select, combination}
use Rattle.sql_origin.specs.Leaves.{leaves, in_right_side}
use Rattle.sql_shape.specs.Shape.{blank_rows, change_expr, change_exprs, change_items, change_maybe, change_source, change_from, change_distinct, change_order, change}
use Rattle.sql_rules.specs.Rules.{bare, bare_of}
use Rattle.sql_rules.specs.Scope.{View, origins, leaves_of, origins_of, widest, Select, Combination, Part, a_select, a_combination, parts, in_expr, in_exprs, in_items, in_maybe, in_source, in_from, in_distinct, in_order, Place, in_selection, in_order_by, in_on, in_where, in_group_by, in_having, Clause, clauses, clauses_by, maybe_clause, ons, ons_of, distinct_clause, item_clauses, order_clauses, own, nodes, nodes_of, flat, flat_of, flat_items}
use Rattle.sql_rules.specs.Types.{all_fit, one, many, given, given_each, columns, only_type, element_types, all_nullable, as_nullable, single_type, unary_type, if_typed, big_type, compared_type, joined_type, form_columns}
use Rattle.sql_rules.specs.Verdicts.{NoVerdict, Yes, mix, is_aggregate, holds_aggregate, fields, fields_of, holds_column, holds_key, column_verdict, verdict, verdict_of}

-- ## Lists

pub both : {X Y : Type 0} (f : X → Y) (a b : List X) {c d : List Y} → c ≡ map f a → d ≡ map f b
    → c ++ d ≡ map f (a ++ b)
both f a b p q = (λ i. p i ++ q i) ∙ sym (map-append f a b)

map-swap : {X : Type 0} (f g : X → X) → ((x : X) → f (g x) ≡ g (f x)) → (xs : List X)
    → map f (map g xs) ≡ map g (map f xs)
map-swap f g h [] = refl
map-swap f g h (x ∷ xs) = λ i. h x i ∷ map-swap f g h xs i

any-same : {X : Type 0} (t : X → Bool) (f : X → X) → ((x : X) → t (f x) ≡ t x) → (xs : List X)
    → list_any t (map f xs) ≡ list_any t xs
any-same t f h [] = refl
any-same t f h (x ∷ xs) = λ i. h x i || any-same t f h xs i

module _ (v : SqlType → Value → Value) (l : SqlType → List Value → List Value) where
  -- ## Leaves and views

  leaves-same : (s : Source) → leaves (change_source v l s) ≡ leaves s
  leaves-same (of_table t only sample) = refl
  leaves-same (of_alias a t) = refl
  leaves-same (join k a b on) = λ i. leaves-same a i ++ map (in_right_side k) (leaves-same b i)

  pub leaves-of-same : (f : From) → leaves_of (change_from v l f) ≡ leaves_of f
  leaves-of-same no_source = refl
  leaves-of-same (from s) = leaves-same s

  pub origins-same : (f : From) → origins_of (change_from v l f) ≡ origins_of f
  origins-same f = λ i. map (λ x. x.origin) (leaves-of-same f i)

  pub widest-same : (k : Form) (f : From) (outer : View) → widest k (change_from v l f) outer ≡ widest k f outer
  widest-same (unboxed m) no_source outer = refl
  widest-same (unboxed m) (from s) outer = λ i. map (λ x. x.origin) (leaves-same s i) ++ outer
  widest-same (boxed d n) f outer = origins-same f

  -- ## Statements inside

  abbrev pub change_select : Select → Select
  change_select s =
      record {
        selection = change_expr v l s.selection;
        source = change_from v l s.source;
        distinctness = change_distinct v l s.distinctness;
        where_by = change_maybe v l s.where_by;
        order = change_order v l s.order;
        rows = blank_rows s.rows;
        group_by = change_maybe v l s.group_by;
        having_by = change_maybe v l s.having_by;
        form = s.form;
        marks = s.marks;
      }

  abbrev pub change_part : Part → Part
  change_part (a_select outer s) = a_select outer (change_select s)
  change_part (a_combination c) =
      a_combination
      (record {
        combinator = c.combinator;
        duplicates = c.duplicates;
        left = change v l c.left;
        right = change v l c.right;
        order = c.order;
        rows = blank_rows c.rows;
      })

  mutual
    expr-parts : (e : Expr) (w : View) → in_expr w (change_expr v l e) ≡ map change_part (in_expr w e)
    expr-parts (list es) w = exprs-parts es w
    expr-parts (nullable e) w = expr-parts e w
    expr-parts (unary n e) w = expr-parts e w
    expr-parts (count e) w = expr-parts e w
    expr-parts (compared by a b) w = both _ (in_expr w a) (in_expr w b) (expr-parts a w) (expr-parts b w)
    expr-parts (joined by a b) w = both _ (in_expr w a) (in_expr w b) (expr-parts a w) (expr-parts b w)
    expr-parts (exists q) w = parts-same q w
    expr-parts (single q) w = parts-same q w
    expr-parts (among_values n e t xs) w = expr-parts e w
    expr-parts (among_rows n e q) w = both _ (in_expr w e) (parts w q) (expr-parts e w) (parts-same q w)
    expr-parts _ w = refl

    exprs-parts : (es : Exprs) (w : View) → in_exprs w (change_exprs v l es) ≡ map change_part (in_exprs w es)
    exprs-parts no_exprs w = refl
    exprs-parts (more_exprs e es) w = both _ (in_expr w e) (in_exprs w es) (expr-parts e w) (exprs-parts es w)

    items-parts : (is : Items) (w : View) → in_items w (change_items v l is) ≡ map change_part (in_items w is)
    items-parts no_items w = refl
    items-parts (more_items e by is) w = both _ (in_expr w e) (in_items w is) (expr-parts e w) (items-parts is w)

    maybe-parts : (e : MaybeExpr) (w : View) → in_maybe w (change_maybe v l e) ≡ map change_part (in_maybe w e)
    maybe-parts no_expr w = refl
    maybe-parts (an_expr e) w = expr-parts e w

    source-parts : (s : Source) → in_source (change_source v l s) ≡ map change_part (in_source s)
    source-parts (join k a b on) =
        let w : View = origins a ++ origins b in
        (λ i. in_source (change_source v l a) ++ (in_source (change_source v l b)
        ++ in_maybe (map (λ x. x.origin) (leaves-same a i) ++ map (λ x. x.origin) (leaves-same b i))
        (change_maybe v l on)))
        ∙ both _ (in_source a) (in_source b ++ in_maybe w on) (source-parts a)
        (both _ (in_source b) (in_maybe w on) (source-parts b) (maybe-parts on w))
    source-parts _ = refl

    from-parts : (f : From) → in_from (change_from v l f) ≡ map change_part (in_from f)
    from-parts no_source = refl
    from-parts (from s) = source-parts s

    distinct-parts : (u : Distinct) (w : View)
        → in_distinct w (change_distinct v l u) ≡ map change_part (in_distinct w u)
    distinct-parts (distinct_on e) w = expr-parts e w
    distinct-parts _ w = refl

    order-parts : (o : Order) (w : View) → in_order w (change_order v l o) ≡ map change_part (in_order w o)
    order-parts no_order w = refl
    order-parts (order_by is) w = items-parts is w

    pub parts-same : (s : Statement) (outer : View) → parts outer (change v l s) ≡ map change_part (parts outer s)
    parts-same (select default e f u w o rows g h form marks) outer =
        let p : View = origins_of f in
        let q : View = widest form f outer in
        let s : Select =
        record {
          selection = e;
          source = f;
          distinctness = u;
          where_by = w;
          order = o;
          rows = rows;
          group_by = g;
          having_by = h;
          form = form;
          marks = marks;
        } in
        (λ i. a_select outer (change_select s)
        ∷ (in_distinct (origins-same f i) (change_distinct v l u) ++ (in_expr (origins-same f i) (change_expr v l e)
        ++ (in_from (change_from v l f) ++ (in_maybe (widest-same form f outer i) (change_maybe v l w)
        ++ (in_maybe (origins-same f i) (change_maybe v l g) ++ (in_maybe (origins-same f i) (change_maybe v l h)
        ++ in_order (origins-same f i) (change_order v l o))))))))
        ∙ ap (λ x. a_select outer (change_select s) ∷ x)
        (both _ (in_distinct p u) _ (distinct-parts u p)
        (both _ (in_expr p e) _ (expr-parts e p)
        (both _ (in_from f) _ (from-parts f)
        (both _ (in_maybe q w) _ (maybe-parts w q)
        (both _ (in_maybe p g) _ (maybe-parts g p)
        (both _ (in_maybe p h) (in_order p o) (maybe-parts h p) (order-parts o p)))))))
    parts-same (combination by all a b o rows) outer =
        let c : Combination =
        record { combinator = by; duplicates = all; left = a; right = b; order = o; rows = rows } in
        ap (λ x. change_part (a_combination c) ∷ x)
        (both _ (parts outer a) (parts outer b) (parts-same a outer) (parts-same b outer))

  -- ## Clauses

  abbrev pub change_clause : Clause → Clause
  change_clause c = record { place = c.place; view = c.view; expr = change_expr v l c.expr }

  maybe-clause : (p : Place) (w : View) (e : MaybeExpr)
      → maybe_clause p w (change_maybe v l e) ≡ map change_clause (maybe_clause p w e)
  maybe-clause p w no_expr = refl
  maybe-clause p w (an_expr e) = refl

  on-clauses : (s : Source) → ons (change_source v l s) ≡ map change_clause (ons s)
  on-clauses (join k a b on) =
      let w : View = origins a ++ origins b in
      (λ i. ons (change_source v l a) ++ (ons (change_source v l b)
      ++ maybe_clause in_on (map (λ x. x.origin) (leaves-same a i) ++ map (λ x. x.origin) (leaves-same b i))
      (change_maybe v l on)))
      ∙ both _ (ons a) (ons b ++ maybe_clause in_on w on) (on-clauses a)
      (both _ (ons b) (maybe_clause in_on w on) (on-clauses b) (maybe-clause in_on w on))
  on-clauses _ = refl

  from-clauses : (f : From) → ons_of (change_from v l f) ≡ map change_clause (ons_of f)
  from-clauses no_source = refl
  from-clauses (from s) = on-clauses s

  distinct-clauses : (w : View) (u : Distinct)
      → distinct_clause w (change_distinct v l u) ≡ map change_clause (distinct_clause w u)
  distinct-clauses w (distinct_on e) = refl
  distinct-clauses w _ = refl

  items-clauses : (w : View) (is : Items) → item_clauses w (change_items v l is) ≡ map change_clause (item_clauses w is)
  items-clauses w no_items = refl
  items-clauses w (more_items e by is) =
      ap (λ x. record { place = in_order_by; view = w; expr = change_expr v l e } ∷ x) (items-clauses w is)

  orders-clauses : (w : View) (o : Order) → order_clauses w (change_order v l o) ≡ map change_clause (order_clauses w o)
  orders-clauses w no_order = refl
  orders-clauses w (order_by is) = items-clauses w is

  pub clauses-same : (outer : View) (s : Select) → clauses outer (change_select s) ≡ map change_clause (clauses outer s)
  clauses-same outer s =
      let p : View = own s in
      let q : View = widest s.form s.source outer in
      (λ i. clauses_by (origins-same s.source i) (widest-same s.form s.source outer i) (change_select s))
      ∙ both _ (distinct_clause p s.distinctness) _ (distinct-clauses p s.distinctness)
      (ap (λ x. record { place = in_selection; view = p; expr = change_expr v l s.selection } ∷ x)
      (both _ (ons_of s.source) _ (from-clauses s.source)
      (both _ (maybe_clause in_where q s.where_by) _ (maybe-clause in_where q s.where_by)
      (both _ (maybe_clause in_group_by p s.group_by) _ (maybe-clause in_group_by p s.group_by)
      (both _ (maybe_clause in_having p s.having_by) (order_clauses p s.order) (maybe-clause in_having p s.having_by)
      (orders-clauses p s.order))))))

  -- ## Expressions

  mutual
    pub nodes-same : (e : Expr) → nodes (change_expr v l e) ≡ map (change_expr v l) (nodes e)
    nodes-same (list es) = ap (λ x. change_expr v l (list es) ∷ x) (all-nodes-same es)
    nodes-same (nullable e) = ap (λ x. change_expr v l (nullable e) ∷ x) (nodes-same e)
    nodes-same (unary n e) = ap (λ x. change_expr v l (unary n e) ∷ x) (nodes-same e)
    nodes-same (count e) = ap (λ x. change_expr v l (count e) ∷ x) (nodes-same e)
    nodes-same (compared by a b) =
        ap (λ x. change_expr v l (compared by a b) ∷ x) (both _ (nodes a) (nodes b) (nodes-same a) (nodes-same b))
    nodes-same (joined by a b) =
        ap (λ x. change_expr v l (joined by a b) ∷ x) (both _ (nodes a) (nodes b) (nodes-same a) (nodes-same b))
    nodes-same (among_values n e t xs) = ap (λ x. change_expr v l (among_values n e t xs) ∷ x) (nodes-same e)
    nodes-same (among_rows n e q) = ap (λ x. change_expr v l (among_rows n e q) ∷ x) (nodes-same e)
    nodes-same _ = refl

    all-nodes-same : (es : Exprs) → nodes_of (change_exprs v l es) ≡ map (change_expr v l) (nodes_of es)
    all-nodes-same no_exprs = refl
    all-nodes-same (more_exprs e es) = both _ (nodes e) (nodes_of es) (nodes-same e) (all-nodes-same es)

  mutual
    pub flat-same : (e : Expr) → flat (change_expr v l e) ≡ map (change_expr v l) (flat e)
    flat-same (list es) = all-flat-same es
    flat-same (nullable e) = ap (map nullable) (flat-same e) ∙ map-swap nullable (change_expr v l) (λ x. refl) (flat e)
    flat-same _ = refl

    all-flat-same : (es : Exprs) → flat_of (change_exprs v l es) ≡ map (change_expr v l) (flat_of es)
    all-flat-same no_exprs = refl
    all-flat-same (more_exprs e es) = both _ (flat e) (flat_of es) (flat-same e) (all-flat-same es)

  pub items-flat-same : (is : Items) → flat_items (change_items v l is) ≡ map (change_expr v l) (flat_items is)
  items-flat-same no_items = refl
  items-flat-same (more_items e by is) = both _ (flat e) (flat_items is) (flat-same e) (items-flat-same is)

  mutual
    pub bare-same : (e : Expr) → bare (change_expr v l e) ≡ bare e
    bare-same (list es) = all-bare-same es
    bare-same (unary n e) = bare-same e
    bare-same (count e) = bare-same e
    bare-same (compared by a b) = λ i. bare-same a i ++ bare-same b i
    bare-same (joined by a b) = λ i. bare-same a i ++ bare-same b i
    bare-same (among_values n e t xs) = bare-same e
    bare-same (among_rows n e q) = bare-same e
    bare-same _ = refl

    all-bare-same : (es : Exprs) → bare_of (change_exprs v l es) ≡ bare_of es
    all-bare-same no_exprs = refl
    all-bare-same (more_exprs e es) = λ i. bare-same e i ++ all-bare-same es i

  -- ## Verdicts

  aggregate-same : (e : Expr) → is_aggregate (change_expr v l e) ≡ is_aggregate e
  aggregate-same count_star = refl
  aggregate-same _ = refl

  pub holds-same : (e : Expr) → holds_aggregate (change_expr v l e) ≡ holds_aggregate e
  holds-same e =
      ap (list_any is_aggregate) (nodes-same e)
      ∙ any-same is_aggregate (change_expr v l) aggregate-same (nodes e)

  mutual
    fields-same : (e : Expr) → fields (change_expr v l e) ≡ fields e
    fields-same (list es) = all-fields-same es
    fields-same (nullable e) = fields-same e
    fields-same _ = refl

    all-fields-same : (es : Exprs) → fields_of (change_exprs v l es) ≡ fields_of es
    all-fields-same no_exprs = refl
    all-fields-same (more_exprs e es) = λ i. fields-same e i ++ all-fields-same es i

  column-same : (g : MaybeExpr) (o : Origin) (c : ColumnDecl)
      → column_verdict (change_maybe v l g) o c ≡ column_verdict g o c
  column-same no_expr o c = refl
  column-same (an_expr e) o c =
      λ i. if holds_column (fields-same e i) o c.name || holds_key (fields-same e i) o then Yes else NoVerdict

  mutual
    pub verdict-same : (g : MaybeExpr) (e : Expr) → verdict (change_maybe v l g) (change_expr v l e) ≡ verdict g e
    verdict-same g (column o c) = column-same g o c
    verdict-same g (list es) = all-verdict-same g es
    verdict-same g (nullable e) = verdict-same g e
    verdict-same g (unary n e) = verdict-same g e
    verdict-same g (count e) = λ i. if holds-same e i then NoVerdict else Yes
    verdict-same g (compared by a b) = λ i. mix (verdict-same g a i) (verdict-same g b i)
    verdict-same g (joined by a b) = λ i. mix (verdict-same g a i) (verdict-same g b i)
    verdict-same g (among_values n e t xs) = verdict-same g e
    verdict-same g (among_rows n e q) = verdict-same g e
    verdict-same g _ = refl

    all-verdict-same : (g : MaybeExpr) (es : Exprs)
        → verdict_of (change_maybe v l g) (change_exprs v l es) ≡ verdict_of g es
    all-verdict-same g no_exprs = refl
    all-verdict-same g (more_exprs e es) = λ i. mix (verdict-same g e i) (all-verdict-same g es i)

-- ## Types

module _
    (v : SqlType → Value → Value)
    (l : SqlType → List Value → List Value)
    (all-fit : (t : SqlType) (xs : List Value) → all_fit t (l t xs) ≡ all_fit t xs)
  where
    mutual
      pub given-same : (e : Expr) → given (change_expr v l e) ≡ given e
      given-same (list es) = λ i. many (all-given-same es i)
      given-same (nullable e) = λ i. all_nullable (given-same e i)
      given-same (unary u e) = λ i. one (unary_type u (only_type (given-same e i)))
      given-same (count e) = λ i. one (if_typed (only_type (given-same e i)) big_type)
      given-same (compared by a b) =
          λ i. one (compared_type (only_type (given-same a i)) (only_type (given-same b i)))
      given-same (joined by a b) = λ i. one (joined_type (only_type (given-same a i)) (only_type (given-same b i)))
      given-same (single q) = λ i. one (as_nullable (single_type (columns-same q i)))
      given-same (among_values n e t xs) =
          λ i. one (if all-fit t xs i then compared_type (only_type (given-same e i)) (Some t) else None)
      given-same (among_rows n e q) =
          λ i. one (compared_type (only_type (given-same e i)) (single_type (columns-same q i)))
      given-same _ = refl

      all-given-same : (es : Exprs) → given_each (change_exprs v l es) ≡ given_each es
      all-given-same no_exprs = refl
      all-given-same (more_exprs e es) = λ i. element_types (given-same e i) ++ all-given-same es i

      pub columns-same : (s : Statement) → columns (change v l s) ≡ columns s
      columns-same (select default e f u w o rows g h form marks) =
          λ i. form_columns form (element_types (given-same e i))
      columns-same (combination by all a b o rows) = columns-same a

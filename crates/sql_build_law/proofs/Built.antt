-- What a query stands for over a schema names only what the schema declares.
use Rattle.std.proofs.Common.{◌≡◌, ◌∷◌, Bool, Option, Some, option_map, IfSome, unwrap_or, subst}
use Rattle.sql_schema.specs.Declarations.{Declarations}
use Rattle.sql_dialect.specs.declared.backend.Dialect.{Dialect}
use Rattle.sql_leaf.specs.declared.locking.LockMode.TheVariants as lock
use Rattle.sql_leaf.specs.declared.locking.Modifier.TheVariants as way
use Rattle.sql_node.specs.Tree as t
use Rattle.sql_node.specs.View.{Among, among_list, among_query, among_of, Item, exprs_of, items_of}
use Rattle.sql_leaf.specs.declared.operator.Logic.TheVariants.{And, Or}
use Rattle.sql_source.specs.Joins.{alone, joined_by}
use Rattle.sql_select.specs.Changes.{ordered, ordered_then, combined, single_value_of}
use Rattle.sql_select.specs.Clauses.{only}
use Rattle.sql_select.specs.Finding.{found}
use Rattle.sql_select.specs.Joins.{joined}
use Rattle.sql_select.specs.Simple.{simple}
use Rattle.sql_build_syntax.specs.Forms.{stands}
use Rattle.sql_build_syntax.specs.Tree.{Expr, list, count_star, column, field, bind, unary, binary, exists, single_value, quantified, Exprs, no_exprs, more_exprs, MaybeExpr, no_expr, an_expr, Membership, values, rows, Items, no_items, more_items, Source, of_table, of_alias, join, Start, from, select, Query, query, Calls, no_calls, more_calls, Call, plain, clause, join_with, find, order, then_order_by, limit, offset, into_boxed, combine, positional_order_by}
use Rattle.sql_build_syntax.specs.declared.call.ClauseCall.{ClauseCall}
use Rattle.sql_build_syntax.specs.declared.call.ClauseCall.TheVariants as clause
use Rattle.sql_build_syntax.specs.declared.call.PlainCall.{PlainCall}
use Rattle.sql_build_syntax.specs.declared.call.PlainCall.TheVariants as plain
use Rattle.sql_build_syntax.specs.declared.expr.BinaryOperator.{BinaryOperator}
use Rattle.sql_build_syntax.specs.declared.expr.BinaryOperator.TheVariants as binary
use Rattle.sql_build_syntax.specs.declared.expr.UnaryOperator.{UnaryOperator}
use Rattle.sql_build_syntax.specs.declared.expr.UnaryOperator.TheVariants as unary
use Rattle.sql_rules.specs.Lists.{Each}
use Rattle.sql_rules.specs.Rules.{Broken}
use Rattle.sql_rules.specs.declared.rule.Rule.TheVariants as R
use Rattle.sql_build.specs.Built.{side_of, directed, expr_in, exprs_in, maybe_in, membership_in, items_in, source_in, start_in, statement_in, calls_in, call_in}
use Rattle.sql_build.specs.Named.{both, only_where}
use Rattle.sql_build.specs.Made.{made_of_one, made_of_two, is_negated, form_of, plain_made, clause_made}
use Rattle.sql_build_law.proofs.Changes as changes
use Rattle.sql_build_law.proofs.Known.{KnownExpr, KnownSource, Known, KnownAmong, KnownOption, KnownSide}
use Rattle.sql_build_law.proofs.Lists.{if_map, if_both, if_then, if_where}
use Rattle.sql_build_law.proofs.Sources.{named_column-known, named_field-known, named_table-known, named_alias-known, exprs_of-known, items_of-known, default-known, joined-known}
use Rattle.sql_build_law.proofs.Unbroken.{keeps-names}

module _ (schema : Declarations) (d : Dialect) where
  -- ## Operators and calls

  one-known : (by : UnaryOperator) (e : t.Expr) → KnownExpr schema e → KnownExpr schema (made_of_one by e)
  one-known (unary.Condition by) e h = h
  one-known unary.Nullable e h = h
  one-known unary.Count e h = h

  two-known : (by : BinaryOperator) (a b : t.Expr) → KnownExpr schema a → KnownExpr schema b
      → KnownExpr schema (made_of_two by a b)
  two-known (binary.Compare by) a b h k = (h, k)
  two-known (binary.Join by) a b h k = (h, k)

  among-known : (n : Bool) (e : t.Expr) (m : Among) → KnownExpr schema e → KnownAmong schema m
      → KnownExpr schema (among_of n e m)
  among-known n e (among_list ty vs) h k = h
  among-known n e (among_query q) h k = (h, k)

  plain-known : (by : PlainCall) (s : t.Statement) → Known schema s → Known schema (plain_made by s)
  plain-known plain.Distinct s h = changes.distinct-known schema t.distinct s tt h
  plain-known plain.Count s h = changes.selected-known schema t.count_star s tt h
  plain-known plain.Nullable s h = changes.nulled-known schema s h
  plain-known plain.ForUpdate s h = changes.locked-known schema lock.ForUpdate s h
  plain-known plain.ForNoKeyUpdate s h = changes.locked-known schema lock.ForNoKeyUpdate s h
  plain-known plain.ForShare s h = changes.locked-known schema lock.ForShare s h
  plain-known plain.ForKeyShare s h = changes.locked-known schema lock.ForKeyShare s h
  plain-known plain.SkipLocked s h = changes.modified-known schema way.SkipLocked s h
  plain-known plain.NoWait s h = changes.modified-known schema way.NoWait s h

  clause-known : (by : ClauseCall) (e : t.Expr) (s : t.Statement) → KnownExpr schema e → Known schema s
      → Known schema (clause_made by e s)
  clause-known clause.DistinctOn e s k h = changes.distinct-known schema (t.distinct_on e) s k h
  clause-known clause.GroupBy e s k h = changes.grouped-known schema e s k h
  clause-known clause.Select e s k h = changes.selected-known schema e s k h
  clause-known clause.Filter e s k h = changes.filtered-known schema And e s k h
  clause-known clause.OrFilter e s k h = changes.filtered-known schema Or e s k h
  clause-known clause.Having e s k h = changes.having-known schema e s k h

  -- ## Queries

  side-known : (r : Option t.Source) (on : Option (Option t.Expr)) → IfSome r (KnownSource schema)
      → IfSome on (KnownOption schema) → IfSome (both side_of r on) (KnownSide schema)
  side-known = if_both (KnownSource schema) (KnownOption schema) (KnownSide schema) side_of (λ s o h k. (h, k))

  abbrev KnownItem : Item → Type 0
  KnownItem i = KnownExpr schema i.0

  mutual
    expr-known : (e : Expr) → KnownOption schema (expr_in schema d e)
    expr-known (list es) =
        if_map (Each (KnownExpr schema)) (KnownExpr schema) (λ all. t.list (exprs_of all)) (exprs_of-known schema)
        (exprs_in schema d es) (exprs-known es)
    expr-known count_star = tt
    expr-known (column n) = named_column-known schema n
    expr-known (field n) = named_field-known schema n
    expr-known (bind ty v) = tt
    expr-known (unary by e) =
        if_map (KnownExpr schema) (KnownExpr schema) (made_of_one by) (one-known by) (expr_in schema d e) (expr-known e)
    expr-known (binary by a b) =
        if_both (KnownExpr schema) (KnownExpr schema) (KnownExpr schema) (made_of_two by) (two-known by)
        (expr_in schema d a) (expr_in schema d b) (expr-known a) (expr-known b)
    expr-known (exists q) =
        if_map (Known schema) (KnownExpr schema) t.exists (λ s h. h) (statement_in schema d q) (statement-known q)
    expr-known (single_value q) =
        if_map (Known schema) (KnownExpr schema) single_value_of (changes.rows-known schema _) (statement_in schema d q)
        (statement-known q)
    expr-known (quantified by e m) =
        if_both (KnownExpr schema) (KnownAmong schema) (KnownExpr schema) (among_of (is_negated by))
        (among-known (is_negated by)) (expr_in schema d e) (membership_in schema d m) (expr-known e)
        (membership-known m)

    exprs-known : (es : Exprs) → IfSome (exprs_in schema d es) (Each (KnownExpr schema))
    exprs-known no_exprs = tt
    exprs-known (more_exprs e es) =
        if_both (KnownExpr schema) (Each (KnownExpr schema)) (Each (KnownExpr schema)) (λ first others. first ∷ others)
        (λ x xs h k. (h, k)) (expr_in schema d e) (exprs_in schema d es) (expr-known e) (exprs-known es)

    maybe-known : (e : MaybeExpr) → IfSome (maybe_in schema d e) (KnownOption schema)
    maybe-known no_expr = tt
    maybe-known (an_expr e) =
        if_map (KnownExpr schema) (KnownOption schema) Some (λ x h. h) (expr_in schema d e) (expr-known e)

    membership-known : (m : Membership) → IfSome (membership_in schema d m) (KnownAmong schema)
    membership-known (values ty vs) = tt
    membership-known (rows q) =
        if_map (Known schema) (KnownAmong schema) among_query (λ s h. h) (statement_in schema d q) (statement-known q)

    items-known : (is : Items) → IfSome (items_in schema d is) (Each KnownItem)
    items-known no_items = tt
    items-known (more_items e by is) =
        if_both KnownItem (Each KnownItem) (Each KnownItem) (λ first others. first ∷ others) (λ x xs h k. (h, k))
        (option_map (directed by) (expr_in schema d e)) (items_in schema d is)
        (if_map (KnownExpr schema) KnownItem (directed by) (λ x h. h) (expr_in schema d e) (expr-known e))
        (items-known is)

    source-known : (s : Source) → IfSome (source_in schema d s) (KnownSource schema)
    source-known (of_table n) = named_table-known schema n
    source-known (of_alias n) = named_alias-known schema n
    source-known (join kind l r on) =
        if_both (KnownSource schema) (KnownSide schema) (KnownSource schema)
        (λ left right. (joined_by schema kind (alone left) right).source)
        (λ left right h k. joined-known schema kind (alone left) right (h, tt) k) (source_in schema d l)
        (both side_of (source_in schema d r) (maybe_in schema d on)) (source-known l)
        (side-known (source_in schema d r) (maybe_in schema d on) (source-known r) (maybe-known on))

    start-known : (s : Start) → IfSome (start_in schema d s) (Known schema)
    start-known (from r) =
        if_map (KnownSource schema) (Known schema) simple (λ s h. (default-known schema s h, h, tt, tt, tt, tt, tt))
        (source_in schema d r) (source-known r)
    start-known (select e) =
        if_map (KnownExpr schema) (Known schema) only (λ x h. (h, tt, tt, tt, tt, tt, tt)) (expr_in schema d e)
        (expr-known e)

    statement-known : (q : Query) → IfSome (statement_in schema d q) (Known schema)
    statement-known (query start cs) =
        if_then (Known schema) (Known schema) (λ made. calls_in schema d cs made) (calls-known cs)
        (start_in schema d start) (start-known start)

    calls-known : (cs : Calls) (made : t.Statement) → Known schema made
        → IfSome (calls_in schema d cs made) (Known schema)
    calls-known no_calls made h = h
    calls-known (more_calls c cs) made h =
        if_then (Known schema) (Known schema) (λ next. calls_in schema d cs next) (calls-known cs)
        (only_where (call_in schema d c made) (stands (form_of made) c))
        (if_where (Known schema) (call_in schema d c made) (stands (form_of made) c) (call-known c made h))

    call-known : (c : Call) (made : t.Statement) → Known schema made → IfSome (call_in schema d c made) (Known schema)
    call-known (plain by) made h = plain-known by made h
    call-known (clause by e) made h =
        if_map (KnownExpr schema) (Known schema) (λ it. clause_made by it made) (λ it k. clause-known by it made k h)
        (expr_in schema d e) (expr-known e)
    call-known (join_with kind r on) made h =
        if_map (KnownSide schema) (Known schema) (λ side. joined schema kind side made)
        (λ side k. changes.join-known schema kind side made k h)
        (both side_of (source_in schema d r) (maybe_in schema d on))
        (side-known (source_in schema d r) (maybe_in schema d on) (source-known r) (maybe-known on))
    call-known (find es) made h =
        if_map (Each (KnownExpr schema)) (Known schema) (λ all. found all made)
        (λ all k. changes.found-known schema all made k h) (exprs_in schema d es) (exprs-known es)
    call-known (order is) made h =
        if_map (Each KnownItem) (Known schema) (λ all. ordered (items_of all) made)
        (λ all k. changes.ordered-known schema (items_of all) made (items_of-known schema all k) h)
        (items_in schema d is) (items-known is)
    call-known (then_order_by is) made h =
        if_map (Each KnownItem) (Known schema) (λ all. ordered_then (items_of all) made)
        (λ all k. changes.ordered_then-known schema (items_of all) made (items_of-known schema all k) h)
        (items_in schema d is) (items-known is)
    call-known (limit n) made h = changes.rows-known schema _ made h
    call-known (offset n) made h = changes.rows-known schema _ made h
    call-known (into_boxed given) made h = changes.boxed-known schema (unwrap_or given d) made h
    call-known (combine by all q) made h =
        if_map (Known schema) (Known schema) (λ other. combined by all made other) (λ other k. (h, k))
        (statement_in schema d q) (statement-known q)
    call-known (positional_order_by is) made h = changes.places-known schema is made h

pub built-knows : (schema : Declarations) (given d : Dialect) (q : Query) (s : t.Statement)
    → statement_in schema given q ≡ Some s → ¬ Broken R.UnknownName schema d s
built-knows schema given d q s is =
    keeps-names schema d s (subst (λ o. IfSome o (Known schema)) is (statement-known schema given q))

-- Where a call replaces the selection, all calls make one statement, whichever selection they begin with.
use Rattle.std.proofs.Common.{◌≡◌, length, List, Bool, true, false, nat_eq, Option, None, Some, option_map, unwrap_or, refl, sym, ap, ◌∙◌}
use Rattle.std.proofs.lemmas.Bool.{false≢true}
use Rattle.sql_schema.specs.Declarations.{Declarations}
use Rattle.sql_dialect.specs.declared.backend.Dialect.{Dialect}
use Rattle.sql_leaf.specs.declared.limit_offset.LimitOffsetClause.{LimitOffsetClause}
use Rattle.sql_leaf.specs.declared.locking.LockMode.{LockMode}
use Rattle.sql_leaf.specs.declared.locking.LockMode.TheVariants as lock
use Rattle.sql_leaf.specs.declared.locking.LockingClause.TheVariants.{NoLockingClause, LockingClause as Locked}
use Rattle.sql_leaf.specs.declared.locking.Modifier.{Modifier}
use Rattle.sql_leaf.specs.declared.locking.Modifier.TheVariants as way
use Rattle.sql_leaf.specs.declared.operator.Logic.{Logic}
use Rattle.sql_leaf.specs.declared.operator.Logic.TheVariants.{And, Or}
use Rattle.sql_leaf.specs.declared.position.PositionalItem.{PositionalItem}
use Rattle.sql_leaf.specs.declared.table_source.JoinKind.{JoinKind}
use Rattle.sql_node.specs.Tree as t
use Rattle.sql_node.specs.View.{items_of}
use Rattle.sql_expr.specs.Calls.{beside}
use Rattle.sql_expr.specs.Joining.{Side}
use Rattle.sql_source.specs.Joins.{alone, joined_by}
use Rattle.sql_select.specs.Changes.{columns_as_selected, selected, nulled_in, items_then, items_in as items_of_order, ordered, ordered_then, limited, offset_by, locked_in, locked, modified_in, modified, boxed_in, boxed_for, ordered_by_places}
use Rattle.sql_select.specs.Clauses.{Clauses, statement_of, changed, rows_changed}
use Rattle.sql_select.specs.Finding.{only_leaf, key_columns, found_by, found_in, found}
use Rattle.sql_select.specs.Joins.{from_map, resourced_by, joined}
use Rattle.sql_select.specs.Simple.{simple}
use Rattle.sql_build_syntax.specs.Forms.{is_unboxed, selects, combines, plain_stands, clause_stands}
use Rattle.sql_build_syntax.specs.Tree.{Start, from, select, query, Calls, no_calls, more_calls, Call, plain, clause, join_with, find, order, then_order_by, limit, offset, into_boxed, combine, positional_order_by}
use Rattle.sql_build_syntax.specs.declared.call.ClauseCall.{ClauseCall}
use Rattle.sql_build_syntax.specs.declared.call.ClauseCall.TheVariants as clause
use Rattle.sql_build_syntax.specs.declared.call.PlainCall.{PlainCall}
use Rattle.sql_build_syntax.specs.declared.call.PlainCall.TheVariants as plain
use Rattle.sql_build_syntax.specs.declared.form.Form.{Form}
use Rattle.sql_build.specs.Built.{side_of, expr_in, exprs_in, maybe_in, items_in, source_in, statement_in, calls_in}
use Rattle.sql_build.specs.Made.{form_of, plain_made, clause_made}
use Rattle.sql_build.specs.Named.{◌>>=◌, both, only_where}
use Rattle.sql_build.specs.inside.Replaced.{plain_effect, clause_effect, effect_of, by_or_later, is_replaced, begun, started_in}

-- an option for a statement is made where the call stands, and what follows it made of that
abbrev then_rest : {A : Type 0} → (t.Statement → Option t.Statement) → Option A → (A → t.Statement) → Bool
    → Option t.Statement
then_rest rest o f b = only_where (option_map f o) b >>= rest

rest_alike : {A : Type 0} (rest : t.Statement → Option t.Statement) (o : Option A) (f g : A → t.Statement) (b : Bool)
    → ((x : A) → rest (f x) ≡ rest (g x)) → then_rest rest o f b ≡ then_rest rest o g b
rest_alike rest None f g b h = refl
rest_alike rest (Some x) f g true h = h x
rest_alike rest (Some x) f g false h = refl

-- the clauses with that selection
abbrev choosing : t.Expr → Clauses → Clauses
choosing e c = record c { selection = (false, e) }

module _ (e : t.Expr) where
  -- a statement with the selection in place of its own
  abbrev chosen : t.Statement → t.Statement
  chosen = changed (choosing e)

  -- ## What a call makes is alike for all selections, but for the selection

  changed-alike : (f : Clauses → Clauses) → ((c : Clauses) → choosing e (f c) ≡ choosing e (f (choosing e c)))
      → (s : t.Statement) → chosen (changed f s) ≡ chosen (changed f (chosen s))
  changed-alike f h (t.select d x r u w o l g v k m) =
      ap statement_of
      (h (record {
        selection = (d, x);
        source = r;
        distinct = u;
        condition = w;
        order = o;
        rows = l;
        group_by = g;
        having = v;
        form = k;
        marks = m;
      }))
  changed-alike f h (t.combination by all a b o l) = refl

  rows-alike : (f : LimitOffsetClause → LimitOffsetClause) (s : t.Statement)
      → chosen (rows_changed f s) ≡ chosen (rows_changed f (chosen s))
  rows-alike f (t.select d x r u w o l g v k m) = refl
  rows-alike f (t.combination by all a b o l) = refl

  places-alike : (is : List PositionalItem) (s : t.Statement)
      → chosen (ordered_by_places is s) ≡ chosen (ordered_by_places is (chosen s))
  places-alike is (t.select d x r u w o l g v k m) = refl
  places-alike is (t.combination by all a b o l) = refl

  selected-alike : (x : t.Expr) (s : t.Statement) → chosen (selected x s) ≡ chosen (selected x (chosen s))
  selected-alike x =
      changed-alike (λ c. record c { selection = (false, x); form = columns_as_selected c.form }) (λ c. refl)

  nulled_in-alike : (k : t.Form) (c : Clauses)
      → choosing e (nulled_in k c) ≡ choosing e (nulled_in k (choosing e c))
  nulled_in-alike (t.unboxed l) c = refl
  nulled_in-alike (t.boxed d n) c = refl

  distinct-alike : (u : t.Distinct) (s : t.Statement)
      → chosen (changed (λ c. record c { distinct = u }) s) ≡ chosen (changed (λ c. record c { distinct = u }) (chosen s))
  distinct-alike u = changed-alike (λ c. record c { distinct = u }) (λ c. refl)

  filtered-alike : (by : Logic) (x : t.Expr) (s : t.Statement)
      → chosen (changed (λ c. record c { condition = t.an_expr (beside by c.condition x) }) s)
      ≡ chosen (changed (λ c. record c { condition = t.an_expr (beside by c.condition x) }) (chosen s))
  filtered-alike by x = changed-alike (λ c. record c { condition = t.an_expr (beside by c.condition x) }) (λ c. refl)

  locked_in-alike : (mode : LockMode) (k : t.Form) (c : Clauses)
      → choosing e (locked_in mode k c) ≡ choosing e (locked_in mode k (choosing e c))
  locked_in-alike mode (t.unboxed l) c = refl
  locked_in-alike mode (t.boxed d n) c = refl

  locked-alike : (mode : LockMode) (s : t.Statement) → chosen (locked mode s) ≡ chosen (locked mode (chosen s))
  locked-alike mode = changed-alike (λ c. locked_in mode c.form c) (λ c. locked_in-alike mode c.form c)

  modified_in-alike : (w : Modifier) (k : t.Form) (c : Clauses)
      → choosing e (modified_in w k c) ≡ choosing e (modified_in w k (choosing e c))
  modified_in-alike w (t.unboxed NoLockingClause) c = refl
  modified_in-alike w (t.unboxed (Locked mode _)) c = refl
  modified_in-alike w (t.boxed d n) c = refl

  modified-alike : (w : Modifier) (s : t.Statement) → chosen (modified w s) ≡ chosen (modified w (chosen s))
  modified-alike w = changed-alike (λ c. modified_in w c.form c) (λ c. modified_in-alike w c.form c)

  boxed_in-alike : (d : Dialect) (k : t.Form) (c : Clauses)
      → choosing e (boxed_in d k c) ≡ choosing e (boxed_in d k (choosing e c))
  boxed_in-alike d (t.unboxed l) c = refl
  boxed_in-alike d (t.boxed b n) c = refl

  boxed-alike : (d : Dialect) (s : t.Statement) → chosen (boxed_for d s) ≡ chosen (boxed_for d (chosen s))
  boxed-alike d = changed-alike (λ c. boxed_in d c.form c) (λ c. boxed_in-alike d c.form c)

  ordered-alike : (is : t.Items) (s : t.Statement) → chosen (ordered is s) ≡ chosen (ordered is (chosen s))
  ordered-alike is = changed-alike (λ c. record c { order = t.order_by is }) (λ c. refl)

  ordered_then-alike : (is : t.Items) (s : t.Statement)
      → chosen (ordered_then is s) ≡ chosen (ordered_then is (chosen s))
  ordered_then-alike is =
      changed-alike (λ c. record c { order = t.order_by (items_then (items_of_order c.order) is) }) (λ c. refl)

  found_by-alike : (b : Bool) (o : t.Origin) (vs : List t.Expr) (c : Clauses)
      → choosing e (found_by b o vs c) ≡ choosing e (found_by b o vs (choosing e c))
  found_by-alike false o vs c = refl
  found_by-alike true o vs c = refl

  found_in-alike : (o : Option t.Origin) (vs : List t.Expr) (c : Clauses)
      → choosing e (found_in o vs c) ≡ choosing e (found_in o vs (choosing e c))
  found_in-alike None vs c = refl
  found_in-alike (Some o) vs c = found_by-alike (nat_eq (length (key_columns o)) (length vs)) o vs c

  found-alike : (vs : List t.Expr) (s : t.Statement) → chosen (found vs s) ≡ chosen (found vs (chosen s))
  found-alike vs =
      changed-alike (λ c. found_in (only_leaf c.source) vs c) (λ c. found_in-alike (only_leaf c.source) vs c)

  joined-alike : (schema : Declarations) (kind : JoinKind) (right : Side) (s : t.Statement)
      → chosen (joined schema kind right s) ≡ chosen (joined schema kind right (chosen s))
  joined-alike schema kind right =
      let f : t.Source → t.Source = λ left. (joined_by schema kind (alone left) right).source in
      changed-alike (λ c. resourced_by (from_map f c.source) c) (λ c. refl)

  plain-alike : (by : PlainCall) (s : t.Statement) → chosen (plain_made by s) ≡ chosen (plain_made by (chosen s))
  plain-alike plain.Distinct = distinct-alike t.distinct
  plain-alike plain.Count = selected-alike t.count_star
  plain-alike plain.Nullable = changed-alike (λ c. nulled_in c.form c) (λ c. nulled_in-alike c.form c)
  plain-alike plain.ForUpdate = locked-alike lock.ForUpdate
  plain-alike plain.ForNoKeyUpdate = locked-alike lock.ForNoKeyUpdate
  plain-alike plain.ForShare = locked-alike lock.ForShare
  plain-alike plain.ForKeyShare = locked-alike lock.ForKeyShare
  plain-alike plain.SkipLocked = modified-alike way.SkipLocked
  plain-alike plain.NoWait = modified-alike way.NoWait

  clause-alike : (by : ClauseCall) (x : t.Expr) (s : t.Statement)
      → chosen (clause_made by x s) ≡ chosen (clause_made by x (chosen s))
  clause-alike clause.DistinctOn x = distinct-alike (t.distinct_on x)
  clause-alike clause.GroupBy x = changed-alike (λ c. record c { group_by = t.an_expr x }) (λ c. refl)
  clause-alike clause.Select x = selected-alike x
  clause-alike clause.Filter x = filtered-alike And x
  clause-alike clause.OrFilter x = filtered-alike Or x
  clause-alike clause.Having x = changed-alike (λ c. record c { having = t.an_expr x }) (λ c. refl)

  -- ## A call that gives a selection

  replaced : (x : t.Expr) (s : t.Statement) → selected x s ≡ selected x (chosen s)
  replaced x (t.select d y r u w o l g v k m) = refl
  replaced x (t.combination by all a b o l) = refl

  -- ## All calls

  form-alike : (s : t.Statement) → form_of (chosen s) ≡ form_of s
  form-alike (t.select d x r u w o l g v k m) = refl
  form-alike (t.combination by all a b o l) = refl

  -- what the calls of `rest` make does not depend on the selection
  abbrev Blind : (t.Statement → Option t.Statement) → Type 0
  Blind rest = (s : t.Statement) → rest s ≡ rest (chosen s)

  passing : (rest : t.Statement → Option t.Statement) → Blind rest → (f : t.Statement → t.Statement)
      → ((s : t.Statement) → chosen (f s) ≡ chosen (f (chosen s))) → (s : t.Statement) → rest (f s) ≡ rest (f (chosen s))
  passing rest blind f alike s = blind (f s) ∙ (ap rest (alike s) ∙ sym (blind (f (chosen s))))

  -- a call that makes `f x` of a statement, where its names are found to be `x`, and that stands on some forms
  call-alike : {A : Type 0} (rest : t.Statement → Option t.Statement) (o : Option A) (f : A → t.Statement → t.Statement)
      (stands : Form → Bool) (s : t.Statement) → ((x : A) → rest (f x s) ≡ rest (f x (chosen s)))
      → then_rest rest o (λ x. f x s) (stands (form_of s))
      ≡ then_rest rest o (λ x. f x (chosen s)) (stands (form_of (chosen s)))
  call-alike rest o f stands s h =
      rest_alike rest o (λ x. f x s) (λ x. f x (chosen s)) (stands (form_of s)) h
      ∙ ap (λ form. then_rest rest o (λ x. f x (chosen s)) (stands form)) (sym (form-alike s))

  plain-blind : (rest : t.Statement → Option t.Statement) (by : PlainCall) (later : Bool)
      → by_or_later (plain_effect by) later ≡ true → (later ≡ true → Blind rest) → (s : t.Statement)
      → rest (plain_made by s) ≡ rest (plain_made by (chosen s))
  plain-blind rest plain.Count later h blind s = ap rest (replaced t.count_star s)
  plain-blind rest by later h blind s = passing rest (blind h) (plain_made by) (plain-alike by) s

  clause-blind : (rest : t.Statement → Option t.Statement) (by : ClauseCall) (x : t.Expr) (later : Bool)
      → by_or_later (clause_effect by) later ≡ true → (later ≡ true → Blind rest) → (s : t.Statement)
      → rest (clause_made by x s) ≡ rest (clause_made by x (chosen s))
  clause-blind rest clause.Select x later h blind s = ap rest (replaced x s)
  clause-blind rest by x later h blind s = passing rest (blind h) (clause_made by x) (clause-alike by x) s

  module _ (schema : Declarations) (d : Dialect) where
    call-blind : (c : Call) (cs : Calls) → by_or_later (effect_of c) (is_replaced cs) ≡ true
        → (is_replaced cs ≡ true → Blind (calls_in schema d cs)) → Blind (calls_in schema d (more_calls c cs))
    call-blind (plain by) cs h blind s =
        call-alike {A = Unit {0}} (calls_in schema d cs) (Some tt) (λ _. plain_made by) (λ f. plain_stands f by) s
        (λ _. plain-blind (calls_in schema d cs) by (is_replaced cs) h blind s)
    call-blind (clause by x) cs h blind s =
        call-alike (calls_in schema d cs) (expr_in schema d x) (clause_made by) (λ f. clause_stands f by) s
        (λ y. clause-blind (calls_in schema d cs) by y (is_replaced cs) h blind s)
    call-blind (join_with kind r on) cs h blind s =
        call-alike (calls_in schema d cs) (both side_of (source_in schema d r) (maybe_in schema d on))
        (joined schema kind) selects s
        (λ side. passing (calls_in schema d cs) (blind h) (joined schema kind side) (joined-alike schema kind side) s)
    call-blind (find es) cs h blind s =
        call-alike (calls_in schema d cs) (exprs_in schema d es) found is_unboxed s
        (λ all. passing (calls_in schema d cs) (blind h) (found all) (found-alike all) s)
    call-blind (order is) cs h blind s =
        call-alike (calls_in schema d cs) (items_in schema d is) (λ all. ordered (items_of all)) selects s
        (λ all. passing (calls_in schema d cs) (blind h) (ordered (items_of all)) (ordered-alike (items_of all)) s)
    call-blind (then_order_by is) cs h blind s =
        call-alike (calls_in schema d cs) (items_in schema d is) (λ all. ordered_then (items_of all)) selects s
        (λ all. passing (calls_in schema d cs) (blind h) (ordered_then (items_of all))
        (ordered_then-alike (items_of all)) s)
    call-blind (limit n) cs h blind s =
        call-alike (calls_in schema d cs) (Some n) limited (λ _. true) s
        (λ m. passing (calls_in schema d cs) (blind h) (limited m)
        (rows-alike (λ r. record r { limit_clause = Some m })) s)
    call-blind (offset n) cs h blind s =
        call-alike (calls_in schema d cs) (Some n) offset_by (λ _. true) s
        (λ m. passing (calls_in schema d cs) (blind h) (offset_by m)
        (rows-alike (λ r. record r { offset_clause = Some m })) s)
    call-blind (into_boxed given) cs h blind s =
        call-alike (calls_in schema d cs) (Some (unwrap_or given d)) boxed_for is_unboxed s
        (λ other. passing (calls_in schema d cs) (blind h) (boxed_for other) (boxed-alike other) s)
    call-blind (combine by all q) cs h blind s = absurd (false≢true h)
    call-blind (positional_order_by is) cs h blind s =
        call-alike (calls_in schema d cs) (Some is) ordered_by_places combines s
        (λ places. passing (calls_in schema d cs) (blind h) (ordered_by_places places) (places-alike places) s)

    calls-blind : (cs : Calls) → is_replaced cs ≡ true → Blind (calls_in schema d cs)
    calls-blind no_calls h s = absurd (false≢true h)
    calls-blind (more_calls c cs) h s = call-blind c cs h (calls-blind cs) s

module _ (schema : Declarations) (d : Dialect) where
  begun-alike : (cs : Calls) (o : Option t.Source) (b : Bool) → is_replaced cs ≡ b
      → (option_map (begun b) o >>= λ made. calls_in schema d cs made)
      ≡ (option_map simple o >>= λ made. calls_in schema d cs made)
  begun-alike cs None b h = refl
  begun-alike cs (Some r) false h = refl
  begun-alike cs (Some r) true h = sym (calls-blind t.count_star schema d cs h (simple r))

  -- the statement of a query, from what it begins with where its first selection is not made in vain
  pub query_alike : (start : Start) (cs : Calls)
      → statement_in schema d (query start cs)
      ≡ (started_in (is_replaced cs) schema d start >>= λ made. calls_in schema d cs made)
  query_alike (from r) cs = sym (begun-alike cs (source_in schema d r) (is_replaced cs) refl)
  query_alike (select x) cs = refl

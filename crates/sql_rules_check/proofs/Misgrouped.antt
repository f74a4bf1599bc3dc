-- Grouping, by a test of counts and of select statements by what their clauses hold.
use Rattle.std.proofs.Common.{◌≡◌, ◌⊎◌, List, [], ◌∷◌, ◌++◌, Bool, true, false, ◌&&◌, ◌||◌, inl, inr, refl, sym, ap, ◌∙◌}
use Rattle.std.specs.Prelude.{IsTrue}
use Rattle.std.specs.Bool.{Decides}
use Rattle.std.specs.List.{list_any}
use Rattle.std.proofs.lemmas.Bool.{false≢true}
use Rattle.std.proofs.lemmas.Bool.Decides.{Decides-and, Decides-or}
use Rattle.sql_schema.specs.Declarations.{Declarations}
use Rattle.sql_dialect.specs.declared.backend.Dialect.{Dialect}
use Rattle.sql_flat_law.specs.Rose.{Roses}
use Rattle.sql_flat_law.specs.Folds.{gathered_each}
use Rattle.sql_node.specs.Tree as t
use Rattle.sql_node.specs.Tree.{unboxed, boxed, Expr, column, value, list, count_star, nullable, unary, count, compared, joined, exists, single, among_values, among_rows, Items, no_items, more_items, MaybeExpr, no_expr, an_expr, Distinct, every, distinct, distinct_on, Order, no_order, order_by, Statement}
use Rattle.sql_rules.specs.Lists.{AnyOf}
use Rattle.sql_rules.specs.Rules.{Broken, CountsAggregate, HasAggregate, IsMisgrouped, IsUnboxed, PartBreaks, distinct_verdict, items_verdict, order_verdict}
use Rattle.sql_rules.specs.Scope.{AnyExpr, Clause, in_selection, in_where, in_group_by, in_having, View, Part, a_select, a_combination, Select, clauses, distinct_clause, item_clauses, maybe_clause, nodes, ons_of, order_clauses, own, parts, widest}
use Rattle.sql_rules.specs.Verdicts as v
use Rattle.sql_rules.specs.Verdicts.{mix, verdict}
use Rattle.sql_rules.specs.declared.rule.Rule.TheVariants as rule
use Rattle.sql_rules.proofs.Lists.{any_left, any_right}
use Rattle.sql_flat.specs.Flat.{flat_of, form_of}
use Rattle.sql_flat.specs.declared.kind.FlatKind.{FlatKind}
use Rattle.sql_flat.specs.declared.kind.FlatKind.TheVariants as K
use Rattle.sql_flat.specs.declared.kind.FlatNode.{FlatNode}
use Rattle.sql_flat.specs.declared.kind.Selecting.{Selecting}
use Rattle.sql_rules_check.specs.inside.Ahead.{any_ahead}
use Rattle.sql_rules_check.specs.inside.Grouping.{Sums, all_give, breaks, is_aggregate, is_none, is_unboxed, misgrouped, misgrouped_at, nothing_summed, own_at, own_passed, piece_of, select_breaks, summed}
use Rattle.sql_rules_check.specs.inside.Kids.{kids_of}
use Rattle.sql_rules_check.specs.inside.Known.{Known}
use Rattle.sql_rules_check.specs.inside.Views.{Views}
use Rattle.sql_rules_check.proofs.Absent.{Never, NoClause, NoCombination, NoSource, no-from, no-order, no-positions, of-any-expr, to-any-expr}
use Rattle.sql_rules_check.proofs.Decided.{decides-ahead, decides-rule}
use Rattle.sql_rules_check.proofs.GroupTurns.{misgrouped-same}
use Rattle.sql_rules_check.proofs.Groups as groups
use Rattle.sql_rules_check.proofs.Groups.{agrees, clause_any, counts, distinct_gives, group-held, group_of, order_gives, sums-held}
use Rattle.sql_rules_check.proofs.Seen as seen
use Rattle.sql_rules_check.proofs.SourceLeaves.{select_roses}

never : Decides false ⊥
never = (λ e. absurd (false≢true e), λ h. absurd h)

always : Decides true (Unit {0})
always = (λ e. tt, λ h. refl)

truth : (b : Bool) → Decides b (IsTrue b)
truth b = (λ e. e, λ h. h)

-- ---- what the test says of a select statement by its clauses

none-decides : (a : v.Verdict) → Decides (is_none a) (a ≡ v.NoVerdict)
none-decides v.No = (λ e. absurd (false≢true e), λ h. cc)
none-decides v.Yes = (λ e. absurd (false≢true e), λ h. cc)
none-decides v.Never = (λ e. absurd (false≢true e), λ h. cc)
none-decides v.NoVerdict = (λ e. refl, λ h. refl)

unboxed-decides : (f : t.Form) → Decides (is_unboxed (form_of f)) (IsUnboxed f)
unboxed-decides (unboxed l) = always
unboxed-decides (boxed d n) = never

first-any : (m : MaybeExpr) → Decides (clause_any false m) (HasAggregate m)
first-any no_expr = never
first-any (an_expr e) = truth (v.holds_aggregate e)

then-any : {P : Type 0} (b : Bool) (m : MaybeExpr) → Decides b P → Decides (clause_any b m) (P ⊎ HasAggregate m)
then-any b no_expr d = (λ e. inl (d.0 e), λ h. elim h [ inl p ↦ d.1 p | inr q ↦ absurd q ])
then-any b (an_expr e) d = Decides-or b (v.holds_aggregate e) d (truth (v.holds_aggregate e))

module _ (s : Select) where
  abbrev kids : Roses FlatKind
  kids = select_roses s.selection s.source s.distinctness s.where_by s.order s.group_by s.having_by

  -- by the rule's verdicts
  abbrev rule_sums : Sums
  rule_sums = record {
    selected = verdict s.group_by s.selection;
    distinct = distinct_verdict s.group_by s.distinctness;
    ordered = order_verdict s.group_by s.order;
    aggregate = clause_any (clause_any false s.where_by) s.group_by;
  }

  breaks-decides : Decides (breaks (form_of s.form) rule_sums) (IsMisgrouped s)
  breaks-decides =
      let a = verdict s.group_by s.selection in
      let d = distinct_verdict s.group_by s.distinctness in
      let o = order_verdict s.group_by s.order in
      let boxless = is_unboxed (form_of s.form) in
      Decides-or rule_sums.aggregate
      ((is_none a || is_none d) || (boxless && (is_none (mix a o) || is_none (mix a d))))
      (then-any (clause_any false s.where_by) s.group_by (first-any s.where_by))
      (Decides-or (is_none a || is_none d) (boxless && (is_none (mix a o) || is_none (mix a d)))
      (Decides-or (is_none a) (is_none d) (none-decides a) (none-decides d))
      (Decides-and boxless (is_none (mix a o) || is_none (mix a d)) (unboxed-decides s.form)
      (Decides-or (is_none (mix a o)) (is_none (mix a d)) (none-decides (mix a o)) (none-decides (mix a d)))))

  same-breaks : all_give (group_of s.group_by) (groups.own s.selection) ≡ verdict s.group_by s.selection
      → distinct_gives (group_of s.group_by) s.distinctness ≡ distinct_verdict s.group_by s.distinctness
      → order_gives (group_of s.group_by) s.order ≡ order_verdict s.group_by s.order
      → select_breaks (form_of s.form) (kids_of piece_of kids) ≡ breaks (form_of s.form) rule_sums
  same-breaks p q r =
      let g = group-held s.selection s.source s.distinctness s.where_by s.order s.group_by s.having_by in
      let sums =
      sums-held (group_of s.group_by) s.selection s.source s.distinctness s.where_by s.order s.group_by s.having_by in
      ap (breaks (form_of s.form))
      (ap (λ m. summed m nothing_summed (kids_of piece_of kids)) g ∙ sums
      ∙ (λ i. record {
        selected = p i;
        distinct = q i;
        ordered = r i;
        aggregate = clause_any (clause_any false s.where_by) s.group_by;
      }))

-- ---- an aggregate is counted, or the verdicts are the rule's

abbrev Counts : Clause → Type 0
Counts c = AnyOf CountsAggregate (nodes c.expr)

distinct-agrees : (g : MaybeExpr) (w : View) (u : Distinct)
    → AnyOf Counts (distinct_clause w u) ⊎ (distinct_gives (group_of g) u ≡ distinct_verdict g u)
distinct-agrees g w every = inr refl
distinct-agrees g w distinct = inr refl
distinct-agrees g w (distinct_on e) = elim (agrees g e) [ inl h ↦ inl (inl h) | inr k ↦ inr k ]

items-agree : (g : MaybeExpr) (w : View) (is : Items)
    → AnyOf Counts (item_clauses w is) ⊎ (order_gives (group_of g) (order_by is) ≡ items_verdict g is)
items-agree g w no_items = inr refl
items-agree g w (more_items e by is) =
    elim (agrees g e) [
      | inl h ↦ inl (inl h)
      | inr p ↦ elim (items-agree g w is) [ inl h ↦ inl (inr h) | inr q ↦ inr (λ i. mix (p i) (q i)) ]
    ]

order-agrees : (g : MaybeExpr) (w : View) (o : Order)
    → AnyOf Counts (order_clauses w o) ⊎ (order_gives (group_of g) o ≡ order_verdict g o)
order-agrees g w no_order = inr refl
order-agrees g w (order_by is) = items-agree g w is

module _ (outer : View) (s : Select) where
  abbrev sight : View
  sight = own s

  abbrev having : List Clause
  having = maybe_clause in_having sight s.having_by ++ order_clauses sight s.order

  abbrev group : List Clause
  group = maybe_clause in_group_by sight s.group_by ++ having

  abbrev after : List Clause
  after = maybe_clause in_where (widest s.form s.source outer) s.where_by ++ group

  abbrev selection : Clause
  selection = record { place = in_selection; view = sight; expr = s.selection }

  of-distinct : AnyOf Counts (distinct_clause sight s.distinctness) → AnyOf Counts (clauses outer s)
  of-distinct h = any_left Counts (distinct_clause sight s.distinctness) (selection ∷ (ons_of s.source ++ after)) h

  of-selection : AnyOf CountsAggregate (nodes s.selection) → AnyOf Counts (clauses outer s)
  of-selection h =
      any_right Counts (distinct_clause sight s.distinctness) (selection ∷ (ons_of s.source ++ after)) (inl h)

  of-order : AnyOf Counts (order_clauses sight s.order) → AnyOf Counts (clauses outer s)
  of-order h =
      any_right Counts (distinct_clause sight s.distinctness) (selection ∷ (ons_of s.source ++ after))
      (inr (any_right Counts (ons_of s.source) after
      (any_right Counts (maybe_clause in_where (widest s.form s.source outer) s.where_by) group
      (any_right Counts (maybe_clause in_group_by sight s.group_by) having
      (any_right Counts (maybe_clause in_having sight s.having_by) (order_clauses sight s.order) h)))))

  sums-are : AnyOf Counts (clauses outer s)
      ⊎ (select_breaks (form_of s.form) (kids_of piece_of (kids s)) ≡ breaks (form_of s.form) (rule_sums s))
  sums-are =
      elim (agrees s.group_by s.selection) [
        | inl h ↦ inl (of-selection h)
        | inr p ↦ elim (distinct-agrees s.group_by sight s.distinctness) [
          | inl h ↦ inl (of-distinct h)
          | inr q ↦ elim (order-agrees s.group_by sight s.order) [
            | inl h ↦ inl (of-order h)
            | inr r ↦ inr (same-breaks s p q r)
          ]
        ]
      ]

-- ---- the rule

-- what is said of a count, and of a select statement, by the tests themselves
abbrev Counted : View → FlatKind → Roses FlatKind → Type 0
Counted w K.Count ts = IsTrue (list_any is_aggregate (gathered_each own_at own_passed ts))
Counted w _ ts = ⊥

abbrev Misgroups : View → Views → Selecting → Roses FlatKind → Type 0
Misgroups w u s ts = IsTrue (select_breaks s.form (kids_of piece_of ts))

node-decides : (w : View) (k : FlatKind) (x : Known)
    → Decides (misgrouped k x.kids) (seen.of_kind Counted NoClause Never Never Misgroups NoCombination NoSource w k x)
node-decides w K.Count x = truth (list_any is_aggregate (gathered_each own_at own_passed x.kids))
node-decides w (K.Select s) x = truth (select_breaks s.form (kids_of piece_of x.kids))
node-decides w _ x = never

to-count : (w : View) (e : Expr) → seen.OfExpr Counted NoClause Never Never Misgroups NoCombination NoSource w e
    → CountsAggregate e
to-count w (count e) h = sym (counts e) ∙ h
to-count w _ h = h

of-count : (w : View) (e : Expr) → CountsAggregate e
    → seen.OfExpr Counted NoClause Never Never Misgroups NoCombination NoSource w e
of-count w (count e) h = counts e ∙ h
of-count w _ h = h

module _ (schema : Declarations) (d : Dialect) where
  abbrev Says : Part → Type 0
  Says = seen.PartOut Counted NoClause Never Never Misgroups NoCombination NoSource

  to-rule : (p : Part) → Says p → PartBreaks rule.Grouping schema d p
  to-rule (a_select outer s) (inl (inl h)) =
      inl (to-any-expr Counted Misgroups NoCombination NoSource (λ w. CountsAggregate) to-count outer s h)
  to-rule (a_select outer s) (inl (inr h)) =
      elim (sums-are outer s) [ inl c ↦ inl c | inr is ↦ inr ((breaks-decides s).0 (sym is ∙ h)) ]
  to-rule (a_select outer s) (inr (inl h)) = absurd (no-from Counted Misgroups NoCombination s.source h)
  to-rule (a_select outer s) (inr (inr h)) = absurd (no-order Counted Misgroups NoCombination NoSource s.order h)
  to-rule (a_combination c) (inl h) = h
  to-rule (a_combination c) (inr h) = no-positions Counted Misgroups NoCombination NoSource c.order h

  counted : (outer : View) (s : Select) → AnyExpr (λ w. CountsAggregate) outer s → Says (a_select outer s)
  counted outer s h =
      inl (inl (of-any-expr Counted Misgroups NoCombination NoSource (λ w. CountsAggregate) of-count outer s h))

  of-rule : (p : Part) → PartBreaks rule.Grouping schema d p → Says p
  of-rule (a_select outer s) (inl h) = counted outer s h
  of-rule (a_select outer s) (inr h) =
      elim (sums-are outer s) [ inl c ↦ counted outer s c | inr is ↦ inl (inr (is ∙ (breaks-decides s).1 h)) ]
  of-rule (a_combination c) h = absurd h

pub misgrouping : (s : Statement) (nodes : List FlatNode) (b : Bool) → nodes ≡ flat_of s
    → b ≡ any_ahead misgrouped_at 0 nodes → (schema : Declarations) (d : Dialect)
    → Decides b (Broken rule.Grouping schema d s)
misgrouping s nodes b is h schema d =
    decides-rule Counted NoClause Never Never Misgroups NoCombination NoSource (PartBreaks rule.Grouping schema d)
    (to-rule schema d) (of-rule schema d) (parts [] s) b
    (decides-ahead Counted NoClause Never Never Misgroups NoCombination NoSource misgrouped misgrouped_at
    misgrouped-same node-decides s nodes b is h)

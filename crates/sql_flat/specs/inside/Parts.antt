-- What a tree of nodes stands for, by its node's kind and what its children stand for.
use Rattle.std.specs.Prelude.{Option, None, Some, List, [], ◌∷◌, ◌++◌, Bool}
use Rattle.sql_schema.specs.declared.types.SqlType.{SqlType}
use Rattle.sql_pass.specs.declared.value.Value.{Value}
use Rattle.sql_leaf.specs.declared.position.PositionalItem.{PositionalItem}
use Rattle.sql_leaf.specs.declared.table_source.JoinKind.{JoinKind}
use Rattle.sql_node.specs.Tree as t
use Rattle.sql_node.specs.Tree.{Expr, column, value, list, count_star, nullable, unary, count, compared, joined, exists, single, Items, MaybeExpr, no_expr, an_expr, Source, of_table, of_alias, join, From, no_source, from, Distinct, every, distinct, distinct_on, Order, no_order, order_by, Statement, select, combination}
use Rattle.sql_node.specs.View.{Among, among_list, among_query, among_of, Item, exprs_of, items_of, maybe_of}
use Rattle.sql_flat.specs.declared.kind.Combining.{Combining}
use Rattle.sql_flat.specs.declared.kind.FlatKind.{FlatKind}
use Rattle.sql_flat.specs.declared.kind.FlatKind.TheVariants as K
use Rattle.sql_flat.specs.declared.kind.Form.{Form}
use Rattle.sql_flat.specs.declared.kind.Form.TheVariants as form
use Rattle.sql_flat.specs.declared.kind.Selecting.{Selecting}
use Rattle.sql_flat.specs.declared.kind.Uniqueness.{Uniqueness}
use Rattle.sql_flat.specs.declared.kind.Uniqueness.TheVariants as unique

pub data Part : Type 0 where
  expr_part : Expr → Part
  -- a value of a list
  element_part : Value → Part
  values_part : SqlType → List Value → Part
  source_part : Source → Part
  on_part : Expr → Part
  from_part : Source → Part
  distinct_on_part : Expr → Part
  where_part : Expr → Part
  group_by_part : Expr → Part
  having_part : Expr → Part
  item_part : Item → Part
  order_part : Items → Part
  statement_part : Statement → Part
  position_part : PositionalItem → Part
  positions_part : List PositionalItem → Part
  -- of no statement
  unfit : Part

abbrev pub form_in : Form → t.Form
form_in (form.Unboxed l) = t.unboxed l
form_in (form.Boxed d n) = t.boxed d n

-- ---- children one by one

abbrev pub first : List Part → Part
first [] = unfit
first (p ∷ ps) = p

abbrev pub others : List Part → List Part
others [] = []
others (p ∷ ps) = ps

abbrev pub expr_of : Part → Option Expr
expr_of (expr_part e) = Some e
expr_of p = None

abbrev pub source_of : Part → Option Source
source_of (source_part s) = Some s
source_of p = None

abbrev pub statement_of : Part → Option Statement
statement_of (statement_part s) = Some s
statement_of p = None

-- what a membership looks in
abbrev pub among_in : Part → Option Among
among_in (values_part t vs) = Some (among_list t vs)
among_in (statement_part s) = Some (among_query s)
among_in p = None

abbrev pub on_of : Part → Option Expr
on_of (on_part e) = Some e
on_of p = None

abbrev pub positions_of : Part → Option (List PositionalItem)
positions_of (positions_part is) = Some is
positions_of p = None

-- ---- children of one kind

abbrev pub exprs_at : Part → List Expr
exprs_at (expr_part e) = e ∷ []
exprs_at p = []

abbrev pub exprs_in : List Part → List Expr
exprs_in [] = []
exprs_in (p ∷ ps) = exprs_at p ++ exprs_in ps

abbrev pub items_at : Part → List Item
items_at (item_part i) = i ∷ []
items_at p = []

abbrev pub items_in : List Part → List Item
items_in [] = []
items_in (p ∷ ps) = items_at p ++ items_in ps

abbrev pub values_at : Part → List Value
values_at (element_part v) = v ∷ []
values_at p = []

abbrev pub values_in : List Part → List Value
values_in [] = []
values_in (p ∷ ps) = values_at p ++ values_in ps

abbrev pub positions_at : Part → List PositionalItem
positions_at (position_part i) = i ∷ []
positions_at p = []

abbrev pub positions_in : List Part → List PositionalItem
positions_in [] = []
positions_in (p ∷ ps) = positions_at p ++ positions_in ps

-- ---- clauses

pub record Clauses : Type 0 where
  pub distinct_clause : Distinct
  pub selection : Option Expr
  pub from_clause : From
  pub where_clause : MaybeExpr
  pub group_by : MaybeExpr
  pub having : MaybeExpr
  pub order : Order

-- where no child is DISTINCT ON
abbrev pub plainly : Uniqueness → Distinct
plainly unique.Every = every
plainly unique.Distinct = distinct
plainly unique.DistinctOn = every

abbrev pub no_clauses : Uniqueness → Clauses
no_clauses u = record {
  distinct_clause = plainly u;
  selection = None;
  from_clause = no_source;
  where_clause = no_expr;
  group_by = no_expr;
  having = no_expr;
  order = no_order;
}

abbrev pub put_clause : Clauses → Part → Clauses
put_clause c (distinct_on_part e) = record c { distinct_clause = distinct_on e }
put_clause c (expr_part e) = record c { selection = Some e }
put_clause c (from_part s) = record c { from_clause = from s }
put_clause c (where_part e) = record c { where_clause = an_expr e }
put_clause c (group_by_part e) = record c { group_by = an_expr e }
put_clause c (having_part e) = record c { having = an_expr e }
put_clause c (order_part is) = record c { order = order_by is }
put_clause c p = c

abbrev pub put_clauses : Clauses → List Part → Clauses
put_clauses c [] = c
put_clauses c (p ∷ ps) = put_clauses (put_clause c p) ps

-- ---- nodes

abbrev pub over_expr : FlatKind → Option Expr → Part
over_expr k None = unfit
over_expr K.Nullable (Some e) = expr_part (nullable e)
over_expr (K.Unary u) (Some e) = expr_part (unary u e)
over_expr K.Count (Some e) = expr_part (count e)
over_expr K.On (Some e) = on_part e
over_expr K.DistinctOn (Some e) = distinct_on_part e
over_expr K.Where (Some e) = where_part e
over_expr K.GroupBy (Some e) = group_by_part e
over_expr K.Having (Some e) = having_part e
over_expr (K.Item by) (Some e) = item_part (e, by)
over_expr k (Some e) = unfit

abbrev pub over_two : (Expr → Expr → Expr) → Option Expr → Option Expr → Part
over_two f None b = unfit
over_two f (Some a) None = unfit
over_two f (Some a) (Some b) = expr_part (f a b)

abbrev pub over_statement : (Statement → Part) → Option Statement → Part
over_statement f None = unfit
over_statement f (Some s) = f s

abbrev pub over_among : Bool → Option Expr → Option Among → Part
over_among n None a = unfit
over_among n (Some e) None = unfit
over_among n (Some e) (Some a) = expr_part (among_of n e a)

abbrev pub over_sources : JoinKind → Option Source → Option Source → Option Expr → Part
over_sources k None r on = unfit
over_sources k (Some l) None on = unfit
over_sources k (Some l) (Some r) on = source_part (join k l r (maybe_of on))

abbrev pub over_source : Option Source → Part
over_source None = unfit
over_source (Some s) = from_part s

abbrev pub over_sides : Combining → Option Statement → Option Statement → Option (List PositionalItem) → Part
over_sides c None b o = unfit
over_sides c (Some a) None o = unfit
over_sides c (Some a) (Some b) o = statement_part (combination c.combinator c.duplicates a b o c.rows)

-- nodes over three children at most
abbrev pub over_few : FlatKind → Part → Part → Part → Part
over_few (K.Column a c) p q r = expr_part (column (record { alias = a; table = c.table }) c.decl)
over_few (K.Value t v) p q r = expr_part (value t v)
over_few K.CountStar p q r = expr_part count_star
over_few (K.Compared by) p q r = over_two (compared by) (expr_of p) (expr_of q)
over_few (K.Joined by) p q r = over_two (joined by) (expr_of p) (expr_of q)
over_few K.Exists p q r = over_statement (λ s. expr_part (exists s)) (statement_of p)
over_few K.Single p q r = over_statement (λ s. expr_part (single s)) (statement_of p)
over_few (K.Among n v) p q r = over_among n (expr_of p) (among_in q)
over_few (K.Element t v) p q r = element_part v
over_few (K.Table s) p q r = source_part (of_table s.table s.only s.sample)
over_few (K.Alias a) p q r = source_part (of_alias a.name a.table)
over_few (K.Join k on) p q r = over_sources k (source_of p) (source_of q) (on_of r)
over_few K.From p q r = over_source (source_of p)
over_few (K.Combination c) p q r = over_sides c (statement_of p) (statement_of q) (positions_of r)
over_few K.Side p q r = over_statement statement_part (statement_of p)
over_few (K.Position i) p q r = position_part i
over_few k p q r = over_expr k (expr_of p)

-- the statement of clauses beside a selection, which is the default one or not
abbrev pub selected : Selecting → Bool × Expr → Clauses → Statement
selected s e c =
    select e.0 e.1 c.from_clause c.distinct_clause c.where_clause c.order s.rows c.group_by c.having (form_in s.form)
    s.marks

abbrev pub selected_part : Selecting → Option Expr → Clauses → Part
selected_part s None c = unfit
selected_part s (Some e) c = statement_part (selected s (s.default, e) c)

abbrev pub over_clauses : Selecting → Clauses → Part
over_clauses s c = selected_part s c.selection c

abbrev pub over_three : FlatKind → List Part → Part
over_three k ps = over_few k (first ps) (first (others ps)) (first (others (others ps)))

abbrev pub over : FlatKind → List Part → Part
over K.List ps = expr_part (list (exprs_of (exprs_in ps)))
over (K.Values t) ps = values_part t (values_in ps)
over K.OrderBy ps = order_part (items_of (items_in ps))
over K.Positions ps = positions_part (positions_in ps)
over (K.Select s) ps = over_clauses s (put_clauses (no_clauses s.unique) ps)
over k ps = over_three k ps

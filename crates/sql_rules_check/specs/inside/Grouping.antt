-- What the clauses of a select statement hold of columns and aggregates, and whether that breaks the rule of groups.
use Rattle.std.specs.Prelude.{ℕ, Bool, true, false, ◌&&◌, ◌||◌, if◌then◌else◌, List, [], ◌∷◌, Option, None, Some, option_map}
use Rattle.std.specs.List.{list_any}
use Rattle.sql_schema.specs.declared.declaration.ColumnDecl.{ColumnDecl}
use Rattle.sql_flat_law.specs.Rose.{Roses, node}
use Rattle.sql_flat_law.specs.Folds.{gathered, gathered_each}
use Rattle.sql_flat_law.specs.Forward.{gather}
use Rattle.sql_node.specs.Tree.{Origin}
use Rattle.sql_rules.specs.Verdicts as v
use Rattle.sql_rules.specs.Verdicts.{Field, holds_column, holds_key, mix}
use Rattle.sql_flat.specs.declared.kind.FlatKind.{FlatKind}
use Rattle.sql_flat.specs.declared.kind.FlatKind.TheVariants as K
use Rattle.sql_flat.specs.declared.kind.FlatNode.{FlatNode}
use Rattle.sql_flat.specs.declared.kind.Form.{Form}
use Rattle.sql_flat.specs.declared.kind.Form.TheVariants as form
use Rattle.sql_rules_check.specs.inside.Ahead.{gathered_behind, gathered_from}
use Rattle.sql_rules_check.specs.inside.Kids.{kids_behind, kids_of}
use Rattle.sql_rules_check.specs.inside.Lists.{kind_of, end_of}
use Rattle.sql_rules_check.specs.declared.grouping.Group.{Group}
use Rattle.sql_rules_check.specs.declared.grouping.Sums as declared
use Rattle.sql_rules_check.specs.declared.grouping.Verdict.{Verdict}
use Rattle.sql_rules_check.specs.declared.grouping.Verdict.TheVariants.{No, Yes, Never, NoVerdict}

abbrev pub verdict_of : Verdict → v.Verdict
verdict_of No = v.No
verdict_of Yes = v.Yes
verdict_of Never = v.Never
verdict_of NoVerdict = v.NoVerdict

-- ---- what is gathered below a clause

-- all nodes, but for what is counted, subselects and lists of values
abbrev pub own_at : FlatKind → List FlatKind
own_at k = k ∷ []

abbrev pub own_passed : FlatKind → Bool
own_passed K.Count = true
own_passed (K.Values t) = true
own_passed (K.Select s) = true
own_passed (K.Combination c) = true
own_passed _ = false

-- the columns of a GROUP BY that stand in lists for themselves, or under nullables
abbrev pub field_at : FlatKind → List Field
field_at (K.Column a c) = (record { alias = a; table = c.table }, c.decl) ∷ []
field_at _ = []

abbrev pub field_passed : FlatKind → Bool
field_passed K.List = false
field_passed K.Nullable = false
field_passed K.GroupBy = false
field_passed _ = true

abbrev pub own_from : ℕ → ℕ → List FlatNode → List FlatKind
own_from = gathered_from own_at own_passed

abbrev pub fields_from : ℕ → ℕ → List FlatNode → List Field
fields_from = gathered_from field_at field_passed

-- a clause, or a selection, by its top node
pub record Piece : Type 0 where
  pub kind : FlatKind
  pub own : List FlatKind
  pub fields : List Field

abbrev pub piece_at : ℕ → FlatNode → List FlatNode → Piece
piece_at i x xs = record {
  kind = x.kind;
  own = gather kind_of end_of own_at own_passed x.end i i (x ∷ xs);
  fields = gather kind_of end_of field_at field_passed x.end i i (x ∷ xs);
}

abbrev pub piece_of : FlatKind → Roses FlatKind → Piece
piece_of k ts = record {
  kind = k;
  own = gathered own_at own_passed (node k ts);
  fields = gathered field_at field_passed (node k ts);
}

-- ---- the columns of the GROUP BY

abbrev pub group_or : FlatKind → List Field → Option (List Field) → Option (List Field)
group_or K.GroupBy fs rest = Some fs
group_or _ fs rest = rest

abbrev pub group_in : List Piece → Option (List Field)
group_in [] = None
group_in (p ∷ ps) = group_or p.kind p.fields (group_in ps)

abbrev pub fields_by : List FlatNode → Option Group → Option (List Field)
fields_by nodes g = option_map (λ r. fields_from r.end r.start nodes) g

-- ---- verdicts; a count of an aggregate breaks the rule by itself

abbrev pub is_aggregate : FlatKind → Bool
is_aggregate K.CountStar = true
is_aggregate K.Count = true
is_aggregate _ = false

abbrev pub column_gives : Option (List Field) → Origin → ColumnDecl → v.Verdict
column_gives None o c = v.No
column_gives (Some fs) o c = if holds_column fs o c.name || holds_key fs o then v.Yes else v.NoVerdict

abbrev pub kind_gives : Option (List Field) → FlatKind → v.Verdict
kind_gives g (K.Column a c) = column_gives g (record { alias = a; table = c.table }) c.decl
kind_gives g K.CountStar = v.Yes
kind_gives g K.Count = v.Yes
kind_gives g _ = v.Never

abbrev pub all_give : Option (List Field) → List FlatKind → v.Verdict
all_give g [] = v.Never
all_give g (k ∷ ks) = mix (kind_gives g k) (all_give g ks)

-- of the selection, of DISTINCT ON and of ORDER BY, and whether an aggregate stands in WHERE or in GROUP BY
pub record Sums : Type 0 where
  pub selected : v.Verdict
  pub distinct : v.Verdict
  pub ordered : v.Verdict
  pub aggregate : Bool

abbrev pub nothing_summed : Sums
nothing_summed = record { selected = v.Never; distinct = v.Never; ordered = v.Never; aggregate = false }

abbrev pub sums_of : declared.Sums → Sums
sums_of s = record {
  selected = verdict_of s.selected;
  distinct = verdict_of s.distinct;
  ordered = verdict_of s.ordered;
  aggregate = s.aggregate;
}

abbrev pub adding : Option (List Field) → Sums → FlatKind → List FlatKind → Sums
adding g s K.DistinctOn ks = record s { distinct = mix s.distinct (all_give g ks) }
adding g s K.From ks = s
adding g s K.Where ks = record s { aggregate = s.aggregate || list_any is_aggregate ks }
adding g s K.GroupBy ks = record s { aggregate = s.aggregate || list_any is_aggregate ks }
adding g s K.Having ks = s
adding g s K.OrderBy ks = record s { ordered = mix s.ordered (all_give g ks) }
adding g s _ ks = record s { selected = mix s.selected (all_give g ks) }

abbrev pub summed : Option (List Field) → Sums → List Piece → Sums
summed g s [] = s
summed g s (p ∷ ps) = summed g (adding g s p.kind p.own) ps

-- ---- the test of a node

abbrev pub is_none : v.Verdict → Bool
is_none v.No = false
is_none v.Yes = false
is_none v.Never = false
is_none v.NoVerdict = true

abbrev pub is_unboxed : Form → Bool
is_unboxed (form.Unboxed l) = true
is_unboxed (form.Boxed d n) = false

abbrev pub breaks : Form → Sums → Bool
breaks f s =
    s.aggregate
    || ((is_none s.selected || is_none s.distinct)
    || (is_unboxed f && (is_none (mix s.selected s.ordered) || is_none (mix s.selected s.distinct))))

abbrev pub select_breaks : Form → List Piece → Bool
select_breaks f ps = breaks f (summed (group_in ps) nothing_summed ps)

abbrev pub misgrouped_by : FlatKind → List Piece → List FlatKind → Bool
misgrouped_by (K.Select s) ps ks = select_breaks s.form ps
misgrouped_by K.Count ps ks = list_any is_aggregate ks
misgrouped_by _ ps ks = false

abbrev pub misgrouped_at : ℕ → FlatNode → List FlatNode → Bool
misgrouped_at i x xs = misgrouped_by x.kind (kids_behind piece_at i x xs) (gathered_behind own_at own_passed i x xs)

abbrev pub misgrouped : FlatKind → Roses FlatKind → Bool
misgrouped k ts = misgrouped_by k (kids_of piece_of ts) (gathered_each own_at own_passed ts)

-- UnknownName, by a test of nodes.
use Rattle.std.proofs.Common.{◌≡◌, List, [], Bool, false, ◌&&◌, inl, inr, sym, subst}
use Rattle.std.specs.Bool.{Decides}
use Rattle.std.specs.List.{list_any}
use Rattle.std.proofs.lemmas.Bool.{false≢true}
use Rattle.std.proofs.lemmas.Bool.Decides.{Decides-and, Decides-not}
use Rattle.sql_schema.specs.Equality.{same_column}
use Rattle.sql_schema.specs.Declarations.{Declarations}
use Rattle.sql_dialect.specs.declared.backend.Dialect.{Dialect}
use Rattle.sql_flat_law.specs.Rose.{Roses}
use Rattle.sql_node.specs.Tree.{Origin, Expr, column, Source, of_table, of_alias, join, From, no_source, from, Statement}
use Rattle.sql_rules.specs.Lists.{AnyOf}
use Rattle.sql_rules.specs.Rules.{Broken, IsColumn, IsTable, IsUnknownColumn, PartBreaks}
use Rattle.sql_rules.specs.Scope.{View, Part, a_select, a_combination, origins, origins_of, parts}
use Rattle.sql_rules.specs.declared.rule.Rule.TheVariants as rule
use Rattle.sql_rules.proofs.Lists.{any_left, any_right}
use Rattle.sql_rules.proofs.Loops.{any_split}
use Rattle.sql_rules.proofs.Tests.{column-any, table-any}
use Rattle.sql_flat.specs.Flat.{flat_of}
use Rattle.sql_flat.specs.declared.kind.FlatKind.{FlatKind}
use Rattle.sql_flat.specs.declared.kind.FlatKind.TheVariants as K
use Rattle.sql_flat.specs.declared.kind.FlatNode.{FlatNode}
use Rattle.sql_rules_check.specs.inside.Known.{Known}
use Rattle.sql_rules_check.specs.inside.Sites.{is_declared, is_unknown}
use Rattle.sql_rules_check.proofs.Absent.{Never, NoClause, NoCombination, NoSelect, no-order, no-positions, of-any-expr, to-any-expr}
use Rattle.sql_rules_check.proofs.Decided.{decides-nodes, decides-rule}
use Rattle.sql_rules_check.proofs.Seen as seen
use Rattle.sql_rules_check.proofs.SourceLeaves.{origins-join}

never : Decides false ⊥
never = (λ e. absurd (false≢true e), λ h. absurd h)

module _ (schema : Declarations) where
  abbrev UnknownColumn : View → FlatKind → Roses FlatKind → Type 0
  UnknownColumn v (K.Column a c) ts = ¬ (IsTable schema c.table × IsColumn c.table c.decl)
  UnknownColumn v _ ts = ⊥

  abbrev UnknownTable : FlatKind → Type 0
  UnknownTable (K.Table t) = ¬ IsTable schema t.table
  UnknownTable (K.Alias a) = ¬ IsTable schema a.table
  UnknownTable _ = ⊥

  abbrev of_kind : View → FlatKind → Known → Type 0
  of_kind = seen.of_kind UnknownColumn NoClause Never Never NoSelect NoCombination UnknownTable

  pub unknown-decides : (v : View) (k : FlatKind) (w : Known) → Decides (is_unknown schema k) (of_kind v k w)
  unknown-decides v (K.Column a c) w =
      let declared = is_declared schema c.table in
      let own = list_any (λ d. same_column d c.decl) c.table.columns in
      Decides-not (declared && own)
      (Decides-and declared own (table-any c.table schema.tables) (column-any c.decl c.table.columns))
  unknown-decides v (K.Table t) w = Decides-not (is_declared schema t.table) (table-any t.table schema.tables)
  unknown-decides v (K.Alias a) w = Decides-not (is_declared schema a.table) (table-any a.table schema.tables)
  unknown-decides v _ w = never

  to-column : (v : View) (e : Expr)
      → seen.OfExpr UnknownColumn NoClause Never Never NoSelect NoCombination UnknownTable v e
      → IsUnknownColumn schema e
  to-column v (column o c) h = h
  to-column v _ h = absurd h

  of-column : (v : View) (e : Expr) → IsUnknownColumn schema e
      → seen.OfExpr UnknownColumn NoClause Never Never NoSelect NoCombination UnknownTable v e
  of-column v (column o c) h = h
  of-column v _ h = absurd h

  abbrev IsUnknown : Origin → Type 0
  IsUnknown o = ¬ IsTable schema o.table

  to-leaf : (f : Source) → seen.OfSource UnknownColumn NoClause Never Never NoSelect NoCombination UnknownTable f
      → AnyOf IsUnknown (origins f)
  to-leaf (of_table t only sample) h = inl h
  to-leaf (of_alias a t) h = inl h
  to-leaf (join k l r on) (inl h) = absurd h
  to-leaf (join k l r on) (inr (inl h)) =
      subst (AnyOf IsUnknown) (sym (origins-join k l r on)) (any_left IsUnknown (origins l) (origins r) (to-leaf l h))
  to-leaf (join k l r on) (inr (inr h)) =
      subst (AnyOf IsUnknown) (sym (origins-join k l r on)) (any_right IsUnknown (origins l) (origins r) (to-leaf r h))

  of-leaf : (f : Source) → AnyOf IsUnknown (origins f)
      → seen.OfSource UnknownColumn NoClause Never Never NoSelect NoCombination UnknownTable f
  of-leaf (of_table t only sample) (inl h) = h
  of-leaf (of_table t only sample) (inr h) = absurd h
  of-leaf (of_alias a t) (inl h) = h
  of-leaf (of_alias a t) (inr h) = absurd h
  of-leaf (join k l r on) h =
      elim (any_split IsUnknown (origins l) (origins r) (subst (AnyOf IsUnknown) (origins-join k l r on) h)) [
        | inl p ↦ inr (inl (of-leaf l p))
        | inr q ↦ inr (inr (of-leaf r q))
      ]

  to-leaves : (f : From) → seen.OfFrom UnknownColumn NoClause Never Never NoSelect NoCombination UnknownTable f
      → AnyOf IsUnknown (origins_of f)
  to-leaves no_source h = h
  to-leaves (from f) h = to-leaf f h

  of-leaves : (f : From) → AnyOf IsUnknown (origins_of f)
      → seen.OfFrom UnknownColumn NoClause Never Never NoSelect NoCombination UnknownTable f
  of-leaves no_source h = h
  of-leaves (from f) h = of-leaf f h

  module _ (d : Dialect) where
    to-rule : (p : Part) → seen.PartOut UnknownColumn NoClause Never Never NoSelect NoCombination UnknownTable p
        → PartBreaks rule.UnknownName schema d p
    to-rule (a_select outer s) (inl (inl h)) =
        inr (to-any-expr UnknownColumn NoSelect NoCombination UnknownTable (λ v. IsUnknownColumn schema)
        to-column outer s h)
    to-rule (a_select outer s) (inl (inr h)) = absurd h
    to-rule (a_select outer s) (inr (inl h)) = inl (to-leaves s.source h)
    to-rule (a_select outer s) (inr (inr h)) =
        absurd (no-order UnknownColumn NoSelect NoCombination UnknownTable s.order h)
    to-rule (a_combination c) (inl h) = h
    to-rule (a_combination c) (inr h) =
        no-positions UnknownColumn NoSelect NoCombination UnknownTable c.order h

    of-rule : (p : Part) → PartBreaks rule.UnknownName schema d p
        → seen.PartOut UnknownColumn NoClause Never Never NoSelect NoCombination UnknownTable p
    of-rule (a_select outer s) (inl h) = inr (inl (of-leaves s.source h))
    of-rule (a_select outer s) (inr h) =
        inl (inl (of-any-expr UnknownColumn NoSelect NoCombination UnknownTable (λ v. IsUnknownColumn schema)
        of-column outer s h))
    of-rule (a_combination c) h = absurd h

pub unknown : (s : Statement) (nodes : List FlatNode) (b : Bool) (schema : Declarations) → nodes ≡ flat_of s
    → b ≡ list_any (λ x. is_unknown schema x.kind) nodes → (d : Dialect)
    → Decides b (Broken rule.UnknownName schema d s)
unknown s nodes b schema is h d =
    decides-rule (UnknownColumn schema) NoClause Never Never NoSelect NoCombination (UnknownTable schema)
    (PartBreaks rule.UnknownName schema d) (to-rule schema d) (of-rule schema d) (parts [] s) b
    (decides-nodes (UnknownColumn schema) NoClause Never Never NoSelect NoCombination
    (UnknownTable schema) (is_unknown schema) (unknown-decides schema)
    s nodes b is h)

-- A table that policies don't cover, by a test of nodes.
use Rattle.std.proofs.Common.{◌≡◌, List, [], ◌∷◌, Bool, true, false, not, ◌&&◌, map, inl, inr, sym, subst}
use Rattle.std.specs.Bool.{Decides}
use Rattle.std.specs.List.{list_any}
use Rattle.std.proofs.lemmas.Bool.{false≢true}
use Rattle.std.proofs.lemmas.Bool.Decides.{Decides-and, Decides-like, Decides-not}
use Rattle.sql_schema.specs.Equality.{same_table}
use Rattle.sql_schema.specs.declared.declaration.TableDecl.{TableDecl}
use Rattle.sql_node.specs.Tree.{Origin, Expr, column, Source, of_table, of_alias, join, From, no_source, from, Statement}
use Rattle.sql_origin.proofs.OriginLaws.{table-decides}
use Rattle.sql_rules.specs.Lists.{AnyOf}
use Rattle.sql_rules.specs.Scope.{View, Part, a_select, a_combination, origins, origins_of, parts}
use Rattle.sql_rules.proofs.Lists.{any_left, any_right}
use Rattle.sql_rules.proofs.Loops.{any-decides, any_map, any_split, map_any}
use Rattle.sql_flat.specs.Flat.{flat_of}
use Rattle.sql_flat.specs.declared.kind.FlatKind.{FlatKind}
use Rattle.sql_flat.specs.declared.kind.FlatKind.TheVariants as K
use Rattle.sql_flat.specs.declared.kind.FlatNode.{FlatNode}
use Rattle.sql_rules_check.specs.inside.Known.{Known}
use Rattle.sql_rules_check.proofs.Absent.{Never, NoClause, NoCombination, NoExpr, NoSelect, no-any-expr, no-order, no-positions}
use Rattle.sql_rules_check.proofs.Decided.{decides-nodes, decides-rule}
use Rattle.sql_rules_check.proofs.Seen as seen
use Rattle.sql_rules_check.proofs.SourceLeaves.{origins-join}
use Rattle.sql_guard_law.specs.Policies as seen_by
use Rattle.sql_guard.specs.Closed.{IsCovered, ReadsUncovered, is_redeclared}
use Rattle.sql_guard.specs.Trees.{policy_tree}
use Rattle.sql_guard.specs.declared.policy.Policy.{Policy}
use Rattle.sql_guard.specs.inside.Kinds.{is_covered, is_uncovered}

itself : (b : Bool) → Decides b (b ≡ true)
itself b = (λ h. h, λ h. h)

never : Decides false ⊥
never = (λ e. absurd (false≢true e), λ h. absurd h)

no-node : (Z : FlatKind → Type 0) (v : View) (e : Expr)
    → seen.OfExpr NoExpr NoClause Never Never NoSelect NoCombination Z v e → ⊥
no-node Z v (column o c) h = h
no-node Z v _ h = h

module _ (qs : List Policy) where
  abbrev IsNamed : TableDecl → seen_by.Policy → Type 0
  IsNamed t q = q.table ≡ t

  abbrev IsAgain : TableDecl → seen_by.Policy → Type 0
  IsAgain t q = is_redeclared q.table t ≡ true

  named : (t : TableDecl)
      → Decides (list_any (λ (q : Policy). same_table q.table t) qs) (AnyOf (IsNamed t) (map policy_tree qs))
  named t =
      Decides-like _ (map_any (IsNamed t) policy_tree qs) (any_map (IsNamed t) policy_tree qs)
      (any-decides (λ (q : Policy). IsNamed t (policy_tree q)) (λ (q : Policy). same_table q.table t)
      (λ (q : Policy). table-decides q.table t) qs)

  again : (t : TableDecl)
      → Decides (list_any (λ (q : Policy). is_redeclared q.table t) qs) (AnyOf (IsAgain t) (map policy_tree qs))
  again t =
      Decides-like _ (map_any (IsAgain t) policy_tree qs) (any_map (IsAgain t) policy_tree qs)
      (any-decides (λ (q : Policy). IsAgain t (policy_tree q)) (λ (q : Policy). is_redeclared q.table t)
      (λ (q : Policy). itself (is_redeclared q.table t)) qs)

  covered-decides : (t : TableDecl) → Decides (is_covered qs t) (IsCovered (map policy_tree qs) t)
  covered-decides t =
      Decides-and (list_any (λ (q : Policy). same_table q.table t) qs)
      (not (list_any (λ (q : Policy). is_redeclared q.table t) qs)) (named t)
      (Decides-not (list_any (λ (q : Policy). is_redeclared q.table t) qs) (again t))

  abbrev IsOpen : Origin → Type 0
  IsOpen o = ¬ IsCovered (map policy_tree qs) o.table

  abbrev OpenTable : FlatKind → Type 0
  OpenTable (K.Table t) = ¬ IsCovered (map policy_tree qs) t.table
  OpenTable (K.Alias a) = ¬ IsCovered (map policy_tree qs) a.table
  OpenTable _ = ⊥

  open-decides : (v : View) (k : FlatKind) (w : Known)
      → Decides (is_uncovered qs k) (seen.of_kind NoExpr NoClause Never Never NoSelect NoCombination OpenTable v k w)
  open-decides v (K.Table t) w = Decides-not (is_covered qs t.table) (covered-decides t.table)
  open-decides v (K.Alias a) w = Decides-not (is_covered qs a.table) (covered-decides a.table)
  open-decides v _ w = never

  to-leaf : (f : Source) → seen.OfSource NoExpr NoClause Never Never NoSelect NoCombination OpenTable f
      → AnyOf IsOpen (origins f)
  to-leaf (of_table t only sample) h = inl h
  to-leaf (of_alias a t) h = inl h
  to-leaf (join k l r on) (inl h) = absurd h
  to-leaf (join k l r on) (inr (inl h)) =
      subst (AnyOf IsOpen) (sym (origins-join k l r on)) (any_left IsOpen (origins l) (origins r) (to-leaf l h))
  to-leaf (join k l r on) (inr (inr h)) =
      subst (AnyOf IsOpen) (sym (origins-join k l r on)) (any_right IsOpen (origins l) (origins r) (to-leaf r h))

  of-leaf : (f : Source) → AnyOf IsOpen (origins f)
      → seen.OfSource NoExpr NoClause Never Never NoSelect NoCombination OpenTable f
  of-leaf (of_table t only sample) (inl h) = h
  of-leaf (of_table t only sample) (inr h) = absurd h
  of-leaf (of_alias a t) (inl h) = h
  of-leaf (of_alias a t) (inr h) = absurd h
  of-leaf (join k l r on) h =
      elim (any_split IsOpen (origins l) (origins r) (subst (AnyOf IsOpen) (origins-join k l r on) h)) [
        | inl p ↦ inr (inl (of-leaf l p))
        | inr q ↦ inr (inr (of-leaf r q))
      ]

  to-leaves : (f : From) → seen.OfFrom NoExpr NoClause Never Never NoSelect NoCombination OpenTable f
      → AnyOf IsOpen (origins_of f)
  to-leaves no_source h = h
  to-leaves (from f) h = to-leaf f h

  of-leaves : (f : From) → AnyOf IsOpen (origins_of f)
      → seen.OfFrom NoExpr NoClause Never Never NoSelect NoCombination OpenTable f
  of-leaves no_source h = h
  of-leaves (from f) h = of-leaf f h

  to-part : (p : Part) → seen.PartOut NoExpr NoClause Never Never NoSelect NoCombination OpenTable p
      → ReadsUncovered (map policy_tree qs) p
  to-part (a_select outer s) (inl (inl h)) =
      absurd (no-any-expr NoExpr NoSelect NoCombination OpenTable (no-node OpenTable) outer s h)
  to-part (a_select outer s) (inl (inr h)) = absurd h
  to-part (a_select outer s) (inr (inl h)) = to-leaves s.source h
  to-part (a_select outer s) (inr (inr h)) = absurd (no-order NoExpr NoSelect NoCombination OpenTable s.order h)
  to-part (a_combination c) (inl h) = h
  to-part (a_combination c) (inr h) = no-positions NoExpr NoSelect NoCombination OpenTable c.order h

  of-part : (p : Part) → ReadsUncovered (map policy_tree qs) p
      → seen.PartOut NoExpr NoClause Never Never NoSelect NoCombination OpenTable p
  of-part (a_select outer s) h = inr (inl (of-leaves s.source h))
  of-part (a_combination c) h = absurd h

pub uncovered-decides : (qs : List Policy) (s : Statement) (nodes : List FlatNode) (b : Bool) → nodes ≡ flat_of s
    → b ≡ list_any (λ x. is_uncovered qs x.kind) nodes
    → Decides b (AnyOf (ReadsUncovered (map policy_tree qs)) (parts [] s))
uncovered-decides qs s nodes b is h =
    decides-rule NoExpr NoClause Never Never NoSelect NoCombination (OpenTable qs) (ReadsUncovered (map policy_tree qs))
    (to-part qs) (of-part qs) (parts [] s) b
    (decides-nodes NoExpr NoClause Never Never NoSelect NoCombination (OpenTable qs) (is_uncovered qs) (open-decides qs) s
    nodes b is h)

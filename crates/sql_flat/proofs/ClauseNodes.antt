-- The nodes of a clause that may be absent, before those that follow.
use Rattle.std.proofs.Common.{List, append-nil, subst, ◌∙◌}
use Rattle.sql_node.specs.Tree.{MaybeExpr, no_expr, an_expr, From, no_source, from, Distinct, every, distinct, distinct_on}
use Rattle.sql_flat_law.specs.Building.{Adds, adds}
use Rattle.sql_flat_law.specs.Rose.{Roses, none}
use Rattle.sql_flat_law.proofs.Adding.{adds-more}
use Rattle.sql_flat.specs.Flat.{distinct_roses, flat_node, from_roses, maybe_roses}
use Rattle.sql_flat.specs.declared.kind.FlatKind.{FlatKind}
use Rattle.sql_flat.specs.declared.kind.FlatNode.{FlatNode}

after-none : {old mid new : List FlatNode} {rest : Roses FlatKind} → Adds flat_node old none mid
    → Adds flat_node mid rest new → Adds flat_node old rest new
after-none {old} {mid} {new} {rest} (adds h) b = subst (λ l. Adds flat_node l rest new) (h ∙ append-nil old) b

pub adds-maybe : (k : FlatKind) (w : MaybeExpr) {rest : Roses FlatKind} {old mid new : List FlatNode}
    → Adds flat_node old (maybe_roses k w none) mid → Adds flat_node mid rest new
    → Adds flat_node old (maybe_roses k w rest) new
adds-maybe k no_expr a b = after-none a b
adds-maybe k (an_expr e) a b = adds-more a b

pub adds-from : (f : From) {rest : Roses FlatKind} {old mid new : List FlatNode}
    → Adds flat_node old (from_roses f none) mid → Adds flat_node mid rest new
    → Adds flat_node old (from_roses f rest) new
adds-from no_source a b = after-none a b
adds-from (from s) a b = adds-more a b

pub adds-distinct : (u : Distinct) {rest : Roses FlatKind} {old mid new : List FlatNode}
    → Adds flat_node old (distinct_roses u none) mid → Adds flat_node mid rest new
    → Adds flat_node old (distinct_roses u rest) new
adds-distinct every a b = after-none a b
adds-distinct distinct a b = after-none a b
adds-distinct (distinct_on e) a b = adds-more a b

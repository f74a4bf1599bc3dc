-- What is known within a node: what its clauses see, and its children.
use Rattle.sql_flat_law.specs.Rose.{Roses}
use Rattle.sql_rules.specs.Scope.{View}
use Rattle.sql_flat.specs.declared.kind.FlatKind.{FlatKind}
use Rattle.sql_rules_check.specs.inside.Views.{Views, below}

pub record Known : Type 0 where
  pub clause : View
  pub condition : View
  pub kids : Roses FlatKind

abbrev pub views : Known → Views
views v = record { clause = v.clause; condition = v.condition }

abbrev pub over_kids : Views → Roses FlatKind → Known
over_kids v ts = record { clause = v.clause; condition = v.condition; kids = ts }

abbrev pub known_below : Known → FlatKind → Roses FlatKind → Known
known_below v k ts = over_kids (below (views v) k ts) ts

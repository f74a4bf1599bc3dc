-- The loop from the first node to the last.
use Rattle.std.specs.Prelude.{Bool, ℕ, ◌+◌, List, [], ◌∷◌, Option, None, Some, map, drop}
use Rattle.sql_flat_law.specs.Around.{entered, top, walk}
use Rattle.sql_flat_law.specs.Folds.{Site}
use Rattle.sql_flat_law.specs.Forward.{gather}
use Rattle.sql_flat_law.specs.Opened as stack
use Rattle.sql_flat_law.specs.Seen.{seen}
use Rattle.sql_flat_law.specs.declared.opened.Opened.{Opened}
use Rattle.sql_origin.specs.Borrowed.{origin_of}
use Rattle.sql_rules.specs.Scope.{View}
use Rattle.sql_flat.specs.declared.kind.FlatKind.{FlatKind}
use Rattle.sql_flat.specs.declared.kind.FlatNode.{FlatNode}
use Rattle.sql_rules_check.specs.inside.Lists.{kind_of, end_of}
use Rattle.sql_rules_check.specs.inside.Views.{Views, nothing, leaf_at, is_passed, within, keeps}
use Rattle.sql_rules_check.specs.declared.scope.Known.{Known}

abbrev pub views_of : Known → Views
views_of k = record { clause = map origin_of k.clause.items; condition = map origin_of k.condition.items }

-- from the innermost on
abbrev pub opens : List (Opened Known) → List (ℕ × Views)
opens os = seen views_of (stack.opens os)

abbrev pub option_list : {X : Type 0} → Option X → List X
option_list None = []
option_list (Some x) = x ∷ []

-- the leaves from one index to another
abbrev pub leaves_from : ℕ → ℕ → List FlatNode → View
leaves_from e i nodes = gather kind_of end_of leaf_at is_passed e i i (drop i nodes)

abbrev pub reads : Views → ℕ → FlatNode → List FlatNode → Views
reads v i x xs = within v x.kind (gather kind_of end_of leaf_at is_passed x.end (i + 1) (i + 1) xs)

abbrev pub around : List (ℕ × Views) → Views
around = top kind_of end_of nothing keeps reads

abbrev pub entered_at : Bool → ℕ → Views → List (ℕ × Views) → List (ℕ × Views)
entered_at = entered kind_of end_of nothing keeps reads

abbrev pub walked : List (ℕ × Views) → ℕ → List FlatNode → List (Site Views FlatKind)
walked = walk kind_of end_of nothing keeps reads

-- What is compared of the elements of DISTINCT ON and of an order: their nodes as words, in writing order.
use Rattle.std.specs.Prelude.{ℕ, ◌+◌, ◌==◌, Bool, true, false, not, ◌&&◌, ◌||◌, cond, if◌then◌else◌, List, [], ◌∷◌, ◌++◌, map}
use Rattle.std.proofs.Common.{ltb}
use Rattle.sql_flat_law.specs.Opened.{innermost, still_open}
use Rattle.sql_flat_law.specs.Rose.{Rose, node, Roses, none, more}
use Rattle.sql_flat.specs.declared.kind.FlatKind.{FlatKind}
use Rattle.sql_flat.specs.declared.kind.FlatKind.TheVariants as K
use Rattle.sql_flat.specs.declared.kind.FlatNode.{FlatNode}
use Rattle.sql_flat.specs.declared.kind.Form.{Form}
use Rattle.sql_flat.specs.declared.kind.Form.TheVariants as form
use Rattle.sql_flat.specs.declared.kind.Selecting.{Selecting}
use Rattle.sql_flat.specs.declared.kind.Uniqueness.{Uniqueness}
use Rattle.sql_flat.specs.declared.kind.Uniqueness.TheVariants as unique
use Rattle.sql_key.specs.Blank.{blank_kind}
use Rattle.sql_key.specs.inside.Swept.{is_element}
use Rattle.sql_rules_check.specs.inside.Kids.{kids_behind, kids_from, kids_of}
use Rattle.sql_rules_check.specs.inside.Shapes.{same_kind}
use Rattle.sql_rules_check.specs.declared.order.Clause.{Clause}
use Rattle.sql_rules_check.specs.declared.order.Clause.TheVariants as clause
use Rattle.sql_rules_check.specs.declared.order.Standing.{Standing}
use Rattle.sql_rules_check.specs.declared.order.Standing.TheVariants.{Over, Within}
use Rattle.sql_rules_check.specs.declared.order.Token.{Token}

pub record Word : Type 0 where
  pub kind : FlatKind
  pub standing : Standing

-- ---- the words of a tree

abbrev pub is_nullable : FlatKind → Bool
is_nullable K.Nullable = true
is_nullable _ = false

-- a list, or an item of an order
abbrev pub is_group : FlatKind → Bool
is_group K.List = true
is_group (K.Item by) = true
is_group _ = false

-- how the children of a node stand
abbrev pub below : Standing → FlatKind → Standing
below (Over n) k = if is_nullable k then Over (n + 1) else (if is_group k then Over n else Within 1)
below (Within d) k = if is_element k then Within d else Within (d + 1)

-- whether a node is no word
abbrev pub is_silent : Standing → FlatKind → Bool
is_silent (Over n) k = is_nullable k || is_group k
is_silent (Within d) k = is_element k

abbrev pub word_at : Standing → FlatKind → List Word
word_at s k = if is_silent s k then [] else record { kind = blank_kind k; standing = s } ∷ []

abbrev mutual
  pub words : Standing → Rose FlatKind → List Word
  words s (node k ts) = word_at s k ++ words_each (below s k) ts

  pub words_each : Standing → Roses FlatKind → List Word
  words_each s none = []
  words_each s (more t ts) = words s t ++ words_each s ts

-- a child of a select statement, with the words of its elements
abbrev pub clause_of : FlatKind → Roses FlatKind → FlatKind × List Word
clause_of k ts = (k, words_each (Over 0) ts)

-- the words of the first child of the kind
abbrev pub chosen_words : (FlatKind → Bool) → List (FlatKind × List Word) → List Word
chosen_words chosen [] = []
chosen_words chosen (p ∷ ps) = cond (chosen p.0) p.1 (chosen_words chosen ps)

abbrev pub first_words : (FlatKind → Bool) → Roses FlatKind → List Word
first_words chosen ts = chosen_words chosen (kids_of clause_of ts)

-- ---- the same of a list of nodes, turn by turn, with a stack of open nodes' ends and how their children stand

abbrev pub Nest : Type 0
Nest = List (ℕ × Standing)

abbrev pub standing_in : Nest → Standing
standing_in = innermost (Over 0)

abbrev pub entered : FlatNode → Nest → Nest
entered x σ = (x.end, below (standing_in σ) x.kind) ∷ σ

abbrev pub visited : FlatNode → (Nest → List Word) → Nest → List Word
visited x behind σ = word_at (standing_in σ) x.kind ++ behind (entered x σ)

-- from the index i to the end e
abbrev pub words_from : Nest → ℕ → ℕ → List FlatNode → List Word
words_from σ e i [] = []
words_from σ e i (x ∷ xs) = cond (ltb i e) (visited x (λ τ. words_from τ e (i + 1) xs) (still_open i σ)) []

abbrev pub clause_at : ℕ → FlatNode → List FlatNode → FlatKind × List Word
clause_at i x xs = (x.kind, words_from [] x.end (i + 1) xs)

-- of the children that stand from the index i to the end e
abbrev pub clause_words : (FlatKind → Bool) → ℕ → ℕ → List FlatNode → List Word
clause_words chosen e i nodes = chosen_words chosen (kids_from clause_at e i nodes)

-- ---- two lists of words

abbrev pub same_standing : Standing → Standing → Bool
same_standing (Over n) (Over m) = n == m
same_standing (Over n) (Within d) = false
same_standing (Within d) (Over n) = false
same_standing (Within c) (Within d) = c == d

abbrev pub same_word : Word → Word → Bool
same_word v w = same_standing v.standing w.standing && same_kind v.kind w.kind

abbrev pub is_inner : Standing → Bool
is_inner (Over n) = false
is_inner (Within d) = true

-- whether the first word is not that of an element
abbrev pub begins_inner : List Word → Bool
begins_inner [] = false
begins_inner (w ∷ ws) = is_inner w.standing

-- whether an element of the one differs from that at its index in the other: two words differ, or it ends in one alone
abbrev pub clash : List Word → List Word → Bool
clash [] ws = begins_inner ws
clash (v ∷ vs) [] = is_inner v.standing
clash (v ∷ vs) (w ∷ ws) = not (same_word v w) || clash vs ws

-- ---- a select statement

abbrev pub is_distinct_on : FlatKind → Bool
is_distinct_on K.DistinctOn = true
is_distinct_on _ = false

abbrev pub is_order_by : FlatKind → Bool
is_order_by K.OrderBy = true
is_order_by _ = false

abbrev pub is_clause : Clause → FlatKind → Bool
is_clause clause.Distinct = is_distinct_on
is_clause clause.Order = is_order_by

abbrev pub is_unboxed : Form → Bool
is_unboxed (form.Unboxed l) = true
is_unboxed (form.Boxed d n) = false

abbrev pub has_distinct_on : Uniqueness → Bool
has_distinct_on unique.Every = false
has_distinct_on unique.Distinct = false
has_distinct_on unique.DistinctOn = true

abbrev pub is_ordered : Selecting → Bool
is_ordered s = is_unboxed s.form && has_distinct_on s.unique

abbrev pub disordered_by : FlatKind → List Word → List Word → Bool
disordered_by (K.Select s) vs ws = is_ordered s && clash vs ws
disordered_by _ vs ws = false

abbrev pub disordered : FlatKind → Roses FlatKind → Bool
disordered k ts = disordered_by k (first_words is_distinct_on ts) (first_words is_order_by ts)

abbrev pub words_behind : (FlatKind → Bool) → ℕ → FlatNode → List FlatNode → List Word
words_behind chosen i x xs = chosen_words chosen (kids_behind clause_at i x xs)

abbrev pub disordered_at : ℕ → FlatNode → List FlatNode → Bool
disordered_at i x xs = disordered_by x.kind (words_behind is_distinct_on i x xs) (words_behind is_order_by i x xs)

-- ---- what the loops hold

abbrev pub word_of : Token → Word
word_of t = record { kind = blank_kind t.kind.now; standing = t.standing }

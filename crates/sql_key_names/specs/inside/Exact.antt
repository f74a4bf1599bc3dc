-- Keys that the order by names does not tell apart have the same names, and are one but for the rest of their declarations.
use Rattle.std.proofs.Common.{◌≡◌, ℕ, true, List, [], ◌∷◌, map, refl, sym, ap, ◌∙◌}
use Rattle.std.proofs.lemmas.Bool.{false≢true}
use Rattle.std.specs.declared.cmp.Ordering.{Ordering}
use Rattle.std.specs.declared.cmp.Ordering.TheVariants.{Equal}
use Rattle.std.specs.Ordering.{on, then_cmp, nat_cmp, eq_by_cmp, is_eq, ordering_then}
use Rattle.std.specs.Cmp.{Equal-is, first_so, second_so, tied_then}
use Rattle.std.specs.Cmp.Lexicographic.{same_text, texts_ties}
use Rattle.sql_flat.specs.declared.kind.FlatKind.{FlatKind}
use Rattle.sql_flat.specs.declared.kind.FlatKind.TheVariants as K
use Rattle.sql_flat.specs.declared.kind.FlatNode.{FlatNode}
use Rattle.sql_flat.specs.contracts.kind.FlatKindOrd.TheImpl as kind_ord
use Rattle.sql_key.proofs.ExactNodes.{ordered-key}
use Rattle.sql_key_names.specs.inside.Named.{blanked, column_name, key_cmp, kind_cmp, named, named_node, node_cmp, renamed, table_name, text_cmp}

-- both of two comparisons tie
both-tie : {A : Type 0} (R S : A → A → Ordering) (a b : A) → eq_by_cmp (then_cmp R S) a b ≡ true
    → (eq_by_cmp R a b ≡ true) × (eq_by_cmp S a b ≡ true)
both-tie R S a b h =
    let e = tied_then (R a b) (S a b) ∙ h in
    (first_so (is_eq (R a b)) (is_eq (S a b)) e, second_so (is_eq (R a b)) (is_eq (S a b)) e)

text-ties : (a b : List ℕ) → eq_by_cmp text_cmp a b ≡ true → a ≡ b
text-ties a b h = same_text a b (sym (texts_ties a b ∙ h))

abbrev alone : FlatKind → List FlatNode
alone k = (record { kind = k; end = 0 }) ∷ []

abbrev first-kind : List FlatNode → FlatKind
first-kind [] = K.List
first-kind (n ∷ ns) = n.kind

kind-ties : (a b : FlatKind) → eq_by_cmp (kind_ord.ghosts).cmp a b ≡ true → a ≡ b
kind-ties a b h =
    let e : (kind_ord.ghosts).cmp a b ≡ Equal = (Equal-is ((kind_ord.ghosts).cmp a b)).0 h in
    let one : alone a ≡ alone b =
    (ordered-key (alone a) (alone b)).0 (ap (λ o. ordering_then (ordering_then o Equal) Equal) e) in
    ap first-kind one

-- names over names
again : (t c u d : List ℕ) (k : FlatKind) → renamed t c (renamed u d k) ≡ renamed t c k
again t c u d (K.Column a x) = refl
again t c u d (K.Table s) = refl
again t c u d (K.Alias a) = refl
again t c u d _ = refl

same-named : (a b : FlatKind) → eq_by_cmp kind_cmp a b ≡ true → named a ≡ named b
same-named a b h =
    let one = both-tie (on blanked (kind_ord.ghosts).cmp) (then_cmp (on table_name text_cmp) (on column_name text_cmp)) a b h in
    let two = both-tie (on table_name text_cmp) (on column_name text_cmp) a b one.1 in
    let blank = kind-ties (blanked a) (blanked b) one.0 in
    let table = text-ties (table_name a) (table_name b) two.0 in
    let column = text-ties (column_name a) (column_name b) two.1 in
    sym (again (table_name a) (column_name a) [] [] a)
    ∙ (λ i. renamed (table i) (column i) (blank i))
    ∙ again (table_name b) (column_name b) [] [] b

abbrev head-of : List ℕ → ℕ
head-of [] = 0
head-of (x ∷ xs) = x

number-ties : (m n : ℕ) → eq_by_cmp nat_cmp m n ≡ true → m ≡ n
number-ties m n h =
    ap head-of
    (text-ties (m ∷ []) (n ∷ []) (ap (λ o. is_eq (ordering_then o Equal)) ((Equal-is (nat_cmp m n)).0 h)))

pub same-node : (a b : FlatNode) → eq_by_cmp node_cmp a b ≡ true → named_node a ≡ named_node b
same-node a b h =
    let both = both-tie (on (λ (n : FlatNode). n.kind) kind_cmp) (on (λ (n : FlatNode). n.end) nat_cmp) a b h in
    let kind = same-named a.kind b.kind both.0 in
    let end = number-ties a.end b.end both.1 in
    λ i. record { kind = kind i; end = end i }

pub same-names : (a b : List FlatNode) → eq_by_cmp key_cmp a b ≡ true → map named_node a ≡ map named_node b
same-names [] [] h = refl
same-names [] (n ∷ ns) h = absurd (false≢true h)
same-names (m ∷ ms) [] h = absurd (false≢true h)
same-names (m ∷ ms) (n ∷ ns) h =
    let e = tied_then (node_cmp m n) (key_cmp ms ns) ∙ h in
    let node = same-node m n (first_so (is_eq (node_cmp m n)) (is_eq (key_cmp ms ns)) e) in
    let rest = same-names ms ns (second_so (is_eq (node_cmp m n)) (is_eq (key_cmp ms ns)) e) in
    λ i. node i ∷ rest i

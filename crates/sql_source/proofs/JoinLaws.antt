-- The leftmost leaf, joins made inner ones, and that a declared relation always gives a condition.
use Rattle.std.proofs.Common.{◌≡◌, ℕ, Bool, true, false, ◌||◌, not, cond, if◌then◌else◌, List, [], ◌∷◌, ◌++◌, map, Option, Some, None, refl, ap, sym, ◌∙◌, subst}
use Rattle.std.specs.List.{find, list_any}
use Rattle.std.specs.Str.{bytes_eq}
use Rattle.std.specs.Cmp.{first_so, second_so}
use Rattle.std.specs.Option.{IsSome, is_some, option_map}
use Rattle.std.proofs.lemmas.Bool.{and_from, or_parts}
use Rattle.std.proofs.lemmas.List.{map-append}
use Rattle.sql_schema.specs.Columns.{column_named, column_of, table_named}
use Rattle.sql_schema.specs.Declarations.{Declarations}
use Rattle.sql_schema.specs.Refusals.{any_two, bases_agree, is_bad_joinable, least_refusal, refers, relate_alike, single_column}
use Rattle.sql_schema.specs.declared.declaration.ColumnDecl.{ColumnDecl}
use Rattle.sql_schema.specs.declared.declaration.JoinableDecl.{JoinableDecl}
use Rattle.sql_schema.specs.declared.declaration.TableDecl.{TableDecl}
use Rattle.sql_schema.proofs.ExactTypes.{exact-text}
use Rattle.sql_schema.proofs.RefusalLaws.{none-refused}
use Rattle.sql_leaf.specs.declared.table_source.JoinKind.{JoinKind}
use Rattle.sql_leaf.specs.declared.table_source.JoinKind.TheVariants.{Inner, LeftOuter}
use Rattle.sql_node.specs.Tree.{Origin, Source, of_table, of_alias, join}
use Rattle.sql_source.specs.Joins.{all_inner, equal_by, equal_keys, is_declared, is_the, on_relation, refers_from, related_on, relation}
use Rattle.sql_origin.specs.Leaves.{Leaf, leaves, leftmost, in_right_side, unpadded}
use Rattle.sql_schema.proofs.EqualityLaws.{exact-table}

-- the leftmost leaf of a join is that of its left side
pub leftmost-append : {o : Origin} (xs ys : List Leaf) → leftmost xs ≡ Some o → leftmost (xs ++ ys) ≡ Some o
leftmost-append [] ys h = cc
leftmost-append (x ∷ xs) ys h = h

pub ruleset joins = (leftmost-append)

-- ---- inner joins pad nothing

unpadded-right : (k : JoinKind) (ls : List Leaf)
    → map (in_right_side Inner) (map unpadded ls) ≡ map unpadded (map (in_right_side k) ls)
unpadded-right k [] = refl
unpadded-right Inner (l ∷ ls) = ap (λ x. unpadded l ∷ x) (unpadded-right Inner ls)
unpadded-right LeftOuter (l ∷ ls) = ap (λ x. unpadded l ∷ x) (unpadded-right LeftOuter ls)

pub inner-leaves : (s : Source) → leaves (all_inner s) ≡ map unpadded (leaves s)
inner-leaves (of_table t only sample) = refl
inner-leaves (of_alias a t) = refl
inner-leaves (join k l r on) =
    let p = inner-leaves l in
    let q = inner-leaves r in
    (λ i. p i ++ map (in_right_side Inner) (q i)) ∙ ap (λ x. map unpadded (leaves l) ++ x) (unpadded-right k (leaves r))
    ∙ sym (map-append unpadded (leaves l) (map (in_right_side k) (leaves r)))

-- ---- declared relations

-- what is found passes p, and not q where nothing passes that
found-first : {X : Type 0} (p q : X → Bool) (y : X) (ys : List X) (x : X)
    → (find p ys ≡ Some x → list_any q ys ≡ false → (p x ≡ true) × (q x ≡ false)) → (b : Bool) → p y ≡ b
    → cond b (Some y) (find p ys) ≡ Some x → (q y || list_any q ys) ≡ false → (p x ≡ true) × (q x ≡ false)
found-first p q y ys x later true t e h =
    let same : y ≡ x = cc in
    (subst (λ z. p z ≡ true) same t, subst (λ z. q z ≡ false) same (or_parts (q y) (list_any q ys) h).0)
found-first p q y ys x later false t e h = later e (or_parts (q y) (list_any q ys) h).1

found-passes : {X : Type 0} (p q : X → Bool) (xs : List X) (x : X) → find p xs ≡ Some x → list_any q xs ≡ false
    → (p x ≡ true) × (q x ≡ false)
found-passes p q [] x e h = cc
found-passes p q (y ∷ ys) x e h = found-first p q y ys x (found-passes p q ys x) (p y) refl e h

-- the schema knows a declared table by its name
named : (s : Declarations) (t : TableDecl) (name : List ℕ) → is_declared s t ≡ true → bytes_eq name t.name ≡ true
    → table_named s.tables name ≡ Some t
named s t name d n = ap (table_named s.tables) (exact-text name t.name n) ∙ by_look_up (table_named s.tables t.name) d
  where
    by_look_up : (o : Option TableDecl) → is_the t o ≡ true → o ≡ Some t
    by_look_up None h = cc
    by_look_up (Some u) h = ap Some (sym (exact-table t u h))

-- a relation that refers has both columns
columns-stand : (child parent : Origin) (c p : Option ColumnDecl) → bases_agree c p ≡ true
    → IsSome (equal_keys child.alias (option_map (λ d. column_of child.table d) c) parent.alias
    (option_map (λ d. column_of parent.table d) p))
columns-stand child parent None p h = cc
columns-stand child parent (Some c) None h = cc
columns-stand child parent (Some c) (Some p) h = refl

not-false : (b : Bool) → not b ≡ false → b ≡ true
not-false true h = refl
not-false false h = cc

-- `child.key = parent.key` stands where a relation that isn't bad goes from the one to the other
stands : (s : Declarations) (child parent : Origin) (j : JoinableDecl) → is_bad_joinable s.tables j ≡ false
    → is_declared s child.table ≡ true → is_declared s parent.table ≡ true
    → refers_from child.table parent.table j ≡ true → IsSome (equal_by j.key child parent)
stands s child parent j b c p r =
    let one =
    named s child.table j.child c
    (first_so (bytes_eq j.child child.table.name) (bytes_eq j.parent parent.table.name) r) in
    let other =
    named s parent.table j.parent p
    (second_so (bytes_eq j.child child.table.name) (bytes_eq j.parent parent.table.name) r) in
    let refers_so =
    not-false (refers (table_named s.tables j.child) (table_named s.tables j.parent) j.key)
    (or_parts (bytes_eq j.child j.parent)
    (not (refers (table_named s.tables j.child) (table_named s.tables j.parent) j.key)) b).1 in
    columns-stand child parent (column_named child.table.columns j.key)
    (single_column parent.table.primary_key parent.table.columns)
    (ap (λ o. refers o (Some parent.table) j.key) (sym one)
    ∙ ap (λ o. refers (table_named s.tables j.child) o j.key) (sym other) ∙ refers_so)

pub has-condition : (s : Declarations) (a b : Origin) → least_refusal s ≡ None → is_declared s a.table ≡ true
    → is_declared s b.table ≡ true → IsSome (relation s a.table b.table) → IsSome (related_on s a b)
has-condition s a b sound c d r =
    ap (λ x. is_some (if x then on_relation a b (relation s a.table b.table) else None))
    (and_from (is_declared s a.table) (is_declared s b.table) c d)
    ∙ by_relation (relation s a.table b.table) refl r
  where
    bad_none : list_any (is_bad_joinable s.tables) s.joinables ≡ false
    bad_none =
        (or_parts (list_any (is_bad_joinable s.tables) s.joinables) (any_two relate_alike s.joinables)
        (none-refused s sound).relate_well).0

    by_direction : (j : JoinableDecl) → is_bad_joinable s.tables j ≡ false → (e : Bool)
        → refers_from a.table b.table j ≡ e → (e || refers_from b.table a.table j) ≡ true
        → IsSome (if e then equal_by j.key a b else equal_by j.key b a)
    by_direction j n true e h = stands s a b j n c d e
    by_direction j n false e h = stands s b a j n d c h

    by_relation : (o : Option JoinableDecl) → relation s a.table b.table ≡ o → IsSome o → IsSome (on_relation a b o)
    by_relation None e h = cc
    by_relation (Some j) e h =
        let f =
        found-passes (λ j. refers_from a.table b.table j || refers_from b.table a.table j)
        (is_bad_joinable s.tables) s.joinables j e bad_none in
        by_direction j f.1 (refers_from a.table b.table j) refl f.0

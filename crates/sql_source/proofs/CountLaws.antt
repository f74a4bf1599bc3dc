-- Counts, leaf by leaf and side by side.
use Rattle.std.proofs.Common.{◌≡◌, ℕ, suc, zero, ◌+◌, Bool, true, false, cond, Option, List, map, refl, ap, sym, ◌∙◌, zero-add, suc-add, add-suc, add_comm, add_assoc}
use Rattle.std.specs.List.{count_by}
use Rattle.std.proofs.lemmas.List.Folds.{fold-map}
use Rattle.std.proofs.lemmas.List.Sums.{sum_by-append}
use Rattle.sql_schema.specs.declared.declaration.TableDecl.{TableDecl}
use Rattle.sql_leaf.specs.declared.table_source.JoinKind.{JoinKind}
use Rattle.sql_leaf.specs.declared.table_source.JoinKind.TheVariants.{Inner, LeftOuter}
use Rattle.sql_leaf.specs.declared.table_source.Tablesample.{Tablesample}
use Rattle.sql_node.specs.Tree.{Origin, Source, of_table, of_alias, join, MaybeExpr}
use Rattle.sql_source.specs.Counts.{appearances, cut, number, once_if, sum_of}
use Rattle.sql_origin.specs.Leaves.{Leaf, leaves, in_right_side}
use Rattle.sql_origin.specs.Origins.{a_table, an_alias, same_origin}
use Rattle.sql_source.specs.declared.count.Count.{Count}
use Rattle.sql_source.specs.declared.count.Count.TheVariants.{Never, Once, MoreThanOnce}

-- two and more are one count, whatever is added
many-left : (m n : ℕ) → cut (suc (suc m) + n) ≡ MoreThanOnce
many-left m n = ap cut (suc-add (suc m) n ∙ ap suc (suc-add m n))

many-right : (m n : ℕ) → cut (m + suc (suc n)) ≡ MoreThanOnce
many-right m n = ap cut (add-suc m (suc n) ∙ ap suc (add-suc m n))

-- a count is its number, cut
pub cut-number : (c : Count) → cut (number c) ≡ c
cut-number Never = refl
cut-number Once = refl
cut-number MoreThanOnce = refl

-- a sum is cut as its parts are
pub cut-sum : (m n : ℕ) → cut (m + n) ≡ sum_of (cut m) (cut n)
cut-sum zero n = ap cut (zero-add n) ∙ sym (ap cut (zero-add (number (cut n))) ∙ cut-number (cut n))
cut-sum (suc zero) zero = refl
cut-sum (suc zero) (suc zero) = refl
cut-sum (suc zero) (suc (suc n)) = many-right 1 n
cut-sum (suc (suc m)) n = many-left m n ∙ sym (many-left 0 (number (cut n)))

-- paddings count for nothing
same_count : (o : Origin) (k : JoinKind) (ls : List Leaf)
    → count_by (λ l. same_origin o l.origin) (map (in_right_side k) ls) ≡ count_by (λ l. same_origin o l.origin) ls
same_count o Inner ls = fold-map (λ n l. n + cond (same_origin o l.origin) 1 0) (in_right_side Inner) 0 ls
same_count o LeftOuter ls = fold-map (λ n l. n + cond (same_origin o l.origin) 1 0) (in_right_side LeftOuter) 0 ls

pub appearances-join : (o : Origin) (k : JoinKind) (l r : Source) (on : MaybeExpr)
    → appearances o (join k l r on) ≡ sum_of (appearances o l) (appearances o r)
unfolding appearances
appearances-join o k l r on =
    ap cut
    (sum_by-append (λ l. cond (same_origin o l.origin) 1 0) (leaves l) (map (in_right_side k) (leaves r))
    ∙ ap (λ n. count_by (λ l. same_origin o l.origin) (leaves l) + n) (same_count o k (leaves r)))
    ∙ cut-sum (count_by (λ l. same_origin o l.origin) (leaves l)) (count_by (λ l. same_origin o l.origin) (leaves r))

one : (b : Bool) → cut (0 + cond b 1 0) ≡ once_if b
one true = refl
one false = refl

pub appearances-table : (o : Origin) (t : TableDecl) (only : Bool) (sample : Option Tablesample)
    → appearances o (of_table t only sample) ≡ once_if (same_origin o (a_table t))
unfolding appearances
appearances-table o t only sample = one (same_origin o (a_table t))

pub appearances-alias : (o : Origin) (a : List ℕ) (t : TableDecl)
    → appearances o (of_alias a t) ≡ once_if (same_origin o (an_alias a t))
unfolding appearances
appearances-alias o a t = one (same_origin o (an_alias a t))

pub ruleset counts = (appearances-join, appearances-table, appearances-alias)

pub sum-commutative : (a b : Count) → sum_of a b ≡ sum_of b a
sum-commutative a b = ap cut (add_comm (number a) (number b))

pub sum-associative : (a b c : Count) → sum_of (sum_of a b) c ≡ sum_of a (sum_of b c)
sum-associative a b c =
    ap (λ x. sum_of (sum_of a b) x) (sym (cut-number c)) ∙ sym (cut-sum (number a + number b) (number c))
    ∙ ap cut (add_assoc (number a) (number b) (number c)) ∙ cut-sum (number a) (number b + number c)
    ∙ ap (λ x. sum_of x (sum_of b c)) (cut-number a)

pub sum-unit : (a : Count) → sum_of Never a ≡ a
sum-unit a = ap cut (zero-add (number a)) ∙ cut-number a

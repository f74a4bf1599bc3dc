-- What the dialect has, from what it does not lack.
use Rattle.std.proofs.Common.{◌≡◌, ◌≢◌, ◌≤◌, ℤ, List, [], ◌∷◌, Option, Some, None, Bool, true, false, IsTrue, refl, inl, inr}
use Rattle.sql_schema.specs.declared.declaration.TableDecl.{TableDecl}
use Rattle.sql_dialect.specs.declared.backend.Dialect.{Dialect}
use Rattle.sql_dialect.specs.declared.backend.Dialect.TheVariants.{Pg, Mysql, Sqlite, Bracket}
use Rattle.sql_grammar.specs.Fits.{OnPg, FitsOnly, FitsLock}
use Rattle.sql_leaf.specs.declared.limit_offset.LimitOffsetClause.{LimitOffsetClause}
use Rattle.sql_leaf.specs.declared.locking.LockMode.TheVariants.{ForUpdate, ForNoKeyUpdate, ForShare, ForKeyShare}
use Rattle.sql_leaf.specs.declared.locking.LockingClause.{LockingClause}
use Rattle.sql_leaf.specs.declared.locking.LockingClause.TheVariants.{NoLockingClause, LockingClause as Locked}
use Rattle.sql_leaf.specs.declared.position.PositionalItem.{PositionalItem}
use Rattle.sql_leaf.specs.declared.table_source.Tablesample.{Tablesample}
use Rattle.sql_node.specs.Tree.{Form, unboxed, boxed, of_table}
use Rattle.sql_normal.specs.Filled.{lock_in}
use Rattle.sql_normal.specs.inside.HasText.{AreCounted, is_boxed, PageHasText, SampleHasText, PlacesHaveText}
use Rattle.sql_normal.specs.Words.{lock_of}
use Rattle.sql_rules.specs.Counted.{OrderIsCounted}
use Rattle.sql_rules.specs.Lists.{Each}
use Rattle.sql_rules.specs.Rules.{IsNotPg, IsMysql, IsUnboxed, IsOffsetAlone, LacksLock, LacksForm, HasTableMarks}

some_none : {X : Type 0} (x : X) → Path (Option X) (Some x) None → ⊥
some_none x e = cc

-- ## Pages

-- an offset that the dialect has a form for
has_page : (d : Dialect) (k : Form) (l o : Option ℤ) → (IsMysql d → IsUnboxed k → (l ≡ None) → (o ≢ None) → ⊥)
    → PageHasText d (is_boxed k) l o
has_page d k l None h = tt
has_page Pg k l (Some o) h = tt
has_page Mysql (unboxed x) None (Some o) h = h tt tt refl (λ e. some_none o e)
has_page Mysql (unboxed x) (Some l) (Some o) h = tt
has_page Mysql (boxed d n) l (Some o) h = tt
has_page Sqlite k l (Some o) h = tt
has_page Bracket k l (Some o) h = tt

pub page_has_text : (d : Dialect) (k : Form) (c : LimitOffsetClause) → ¬ (IsMysql d × (IsUnboxed k × IsOffsetAlone c))
    → PageHasText d (is_boxed k) c.limit_clause c.offset_clause
page_has_text d k c h = has_page d k c.limit_clause c.offset_clause (λ m u l o. h (m, (u, (l, o))))

-- ## Locks

lock_fits : (d : Dialect) (k : LockingClause) → ¬ LacksLock d k → FitsLock d (lock_of k)
lock_fits d NoLockingClause h = tt
lock_fits Pg (Locked ForUpdate w) h = tt
lock_fits Pg (Locked ForNoKeyUpdate w) h = tt
lock_fits Pg (Locked ForShare w) h = tt
lock_fits Pg (Locked ForKeyShare w) h = tt
lock_fits Mysql (Locked ForUpdate w) h = tt
lock_fits Mysql (Locked ForNoKeyUpdate w) h = h tt
lock_fits Mysql (Locked ForShare w) h = tt
lock_fits Mysql (Locked ForKeyShare w) h = h tt
lock_fits Sqlite (Locked m w) h = absurd (h tt)
lock_fits Bracket (Locked m w) h = absurd (h tt)

pub form_fits : (d : Dialect) (k : Form) → ¬ LacksForm d k → FitsLock d (lock_in k)
form_fits d (unboxed l) h = lock_fits d l h
form_fits d (boxed e n) h = tt

-- ## ONLY and samples

only_fits : (d : Dialect) (only : Bool) → (IsNotPg d → ¬ IsTrue only) → FitsOnly d only
only_fits d false h = tt
only_fits Pg true h = tt
only_fits Mysql true h = h tt refl
only_fits Sqlite true h = h tt refl
only_fits Bracket true h = h tt refl

sample_fits : (d : Dialect) (s : Option Tablesample) → (IsNotPg d → ¬ (s ≢ None)) → SampleHasText d s
sample_fits d None h = tt
sample_fits Pg (Some s) h = tt
sample_fits Mysql (Some s) h = h tt (λ e. some_none s e)
sample_fits Sqlite (Some s) h = h tt (λ e. some_none s e)
sample_fits Bracket (Some s) h = h tt (λ e. some_none s e)

pub table_has_text : (d : Dialect) (t : TableDecl) (only : Bool) (s : Option Tablesample)
    → (IsNotPg d → ¬ HasTableMarks (of_table t only s)) → FitsOnly d only × SampleHasText d s
table_has_text d t only s h = (only_fits d only (λ n o. h n (inl o)), sample_fits d s (λ n o. h n (inr o)))

-- DISTINCT ON
pub on_pg : (d : Dialect) → ¬ IsNotPg d → OnPg d
on_pg Pg h = tt
on_pg Mysql h = h tt
on_pg Sqlite h = h tt
on_pg Bracket h = h tt

-- ## Combinations

pub supported : (b : Bool) → ¬ (b ≡ false) → IsTrue b
supported true h = refl
supported false h = absurd (h refl)

are_counted : (ps : List PositionalItem) → Each (λ p. p.column.0 ≤ 4294967295) ps → AreCounted ps
are_counted [] h = tt
are_counted (p ∷ ps) h = (h.0, are_counted ps h.1)

pub places_have_text : (o : Option (List PositionalItem)) → ¬ (o ≡ Some []) → OrderIsCounted o → PlacesHaveText o
places_have_text None h r = tt
places_have_text (Some []) h r = h refl
places_have_text (Some (p ∷ ps)) h r = are_counted (p ∷ ps) r

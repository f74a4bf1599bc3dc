-- A boxed statement has the pieces of the statement as it stands, where rules are broken by neither.
use Rattle.std.proofs.Common.{◌≡◌, ◌≢◌, ℤ, Bool, true, false, List, ◌++◌, Option, None, Some, ◌||◌, refl, ap, sym, ◌∙◌, inl, inr}
use Rattle.std.specs.Prelude.{IsTrue, codes}
use Rattle.std.proofs.lemmas.List.{append-nil}
use Rattle.sql_schema.specs.Declarations.{Declarations}
use Rattle.sql_dialect.specs.declared.backend.Dialect.{Dialect}
use Rattle.sql_dialect.specs.declared.backend.Dialect.TheVariants.{Pg, Mysql, Sqlite, Bracket}
use Rattle.sql_pass.specs.Pieces.{Piece, Text, one}
use Rattle.sql_leaf.specs.Limits.{limit_offset_pieces}
use Rattle.sql_leaf.specs.declared.locking.LockingClause.TheVariants.{NoLockingClause, LockingClause as Locked}
use Rattle.sql_leaf.specs.declared.marks.Marks.{Marks}
use Rattle.sql_leaf.specs.Words.{group_by}
use Rattle.sql_node.specs.Pieces.{pieces, expr_pieces, from_pieces, distinct_pieces, maybe_pieces, order_pieces}
use Rattle.sql_node.specs.Tree.{Form, unboxed, boxed}
use Rattle.sql_shape.specs.Ids.{has_id}
use Rattle.sql_select.specs.Changes.{boxed_for}
use Rattle.sql_select.specs.Clauses.{Clauses, statement_of}
use Rattle.sql_rules.specs.Rules.{Accepted, IsMysql, misuse}
use Rattle.sql_rules.specs.declared.rule.Rule.TheVariants as R

or_true : (a b : Bool) → IsTrue b → IsTrue (a || b)
or_true true b h = refl
or_true false b h = h

-- a lock that is dropped leaves a mark that is a misuse
dropped_is_misuse : (m : Marks) → IsTrue (misuse (record m { boxed_lock = true }))
dropped_is_misuse m =
    or_true m.no_source _ (or_true m.find_source _ (or_true m.second_lock _ (or_true m.no_lock _ refl)))

some-none : (z : ℤ) → Some z ≢ None
some-none z h = cc

same_page : (d : Dialect) (l o : Option ℤ) → ¬ (IsMysql d × ((l ≡ None) × (o ≢ None)))
    → limit_offset_pieces d true l o ≡ limit_offset_pieces d false l o
same_page d None None h = refl
same_page Pg None (Some o) h = refl
same_page Mysql None (Some o) h = absurd (h (tt, (refl, some-none o)))
same_page Sqlite None (Some o) h = refl
same_page Bracket None (Some o) h = refl
same_page d (Some l) None h = refl
same_page d (Some l) (Some o) h = refl

-- the pieces of a statement, where these stand behind its order
abbrev ended : Dialect → Clauses → List Piece → List Piece
ended d c end =
    one (Text (codes "SELECT "))
    ++ (distinct_pieces d c.distinct
    ++ (expr_pieces d c.selection.1
    ++ (from_pieces d c.source
    ++ (maybe_pieces d (codes " WHERE ") c.condition
    ++ (maybe_pieces d group_by c.group_by
    ++ (maybe_pieces d (codes " HAVING ") c.having ++ (order_pieces d c.order ++ end)))))))

in_form : (schema : Declarations) (d : Dialect) (c : Clauses) (form : Form)
    → Accepted schema d (statement_of (record c { form = form }))
    → Accepted schema d (boxed_for d (statement_of (record c { form = form })))
    → pieces d (boxed_for d (statement_of (record c { form = form })))
    ≡ pieces d (statement_of (record c { form = form }))
in_form schema d c (unboxed NoLockingClause) before after =
    ap (ended d c)
    (same_page d c.rows.limit_clause c.rows.offset_clause (λ h. before R.Unsupported
    (inl (inr (inr (h.0, (tt, h.1))))))
    ∙ sym (append-nil _))
in_form schema d c (unboxed (Locked m w)) before after =
    absurd (after R.Incompatible (inl (inl (dropped_is_misuse c.marks))))
in_form schema d c (boxed e n) before after = refl

pub boxed_pieces : (schema : Declarations) (d : Dialect) (c : Clauses) → Accepted schema d (statement_of c)
    → Accepted schema d (boxed_for d (statement_of c))
    → pieces d (boxed_for d (statement_of c)) ≡ pieces d (statement_of c)
boxed_pieces schema d c = in_form schema d c c.form

no_id : (d : Dialect) (c : Clauses) (form : Form)
    → has_id (boxed_for d (statement_of (record c { form = form }))) ≡ false
no_id d c (unboxed l) = refl
no_id d c (boxed e n) = refl

pub boxed_has_no_id : (d : Dialect) (c : Clauses) → has_id (boxed_for d (statement_of c)) ≡ false
boxed_has_no_id d c = no_id d c c.form

-- What is known of a text after a part of it: the tables of the leaves so far, and what the paths so far stand for. The next leaf has the
-- number of the tables so far.
use Rattle.std.specs.Prelude.{ℕ, ◌+◌, List, [], ◌∷◌, ◌++◌, length, map, Option, None, Some}
use Rattle.sql_grammar.specs.MarkTree as t
use Rattle.sql_grammar.specs.MarkTree.{Name}
use Rattle.sql_schema.specs.declared.declaration.TableDecl.{TableDecl}
use Rattle.sql_read_tree.specs.View.{Ordered}
use Rattle.sql_audit_resolution.specs.Leaves as l
use Rattle.sql_audit_resolution.specs.Leaves.{Backwards, Level}
use Rattle.sql_audit_resolution.specs.Meant.{name_at, meaning}
use Rattle.sql_audit_resolution.specs.Uses as u
use Rattle.sql_audit_resolution.specs.Uses.{Use}
use Rattle.sql_audit_resolution.specs.declared.column_use.Meaning.{Meaning}

pub record Known : Type 0 where
  pub tables : List (Option Name)
  pub meanings : List Meaning

unfoldable pub after : List TableDecl → Known → List Backwards → (ℕ → List Use) → Known
after ts k tables uses = record {
  tables = k.tables ++ map (name_at ts) tables;
  meanings = k.meanings ++ map (meaning ts) (uses (length k.tables));
}

unfoldable pub after_expression : List TableDecl → List Level → Known → t.Expression → Known
after_expression ts ls k e = after ts k (l.tables_expression e) (λ n. u.uses_expression ls n e)

unfoldable pub after_source : List TableDecl → Known → t.Source → Known
after_source ts k s = after ts k (l.tables_source s) (λ n. u.uses_source n s)

unfoldable pub after_maybe : List TableDecl → List Level → Known → t.MaybeExpression → Known
after_maybe ts ls k e = after ts k (l.tables_maybe e) (λ n. u.uses_maybe ls n e)

unfoldable pub after_from : List TableDecl → Known → t.MaybeSource → Known
after_from ts k s = after ts k (l.tables_from s) (λ n. u.uses_from n s)

unfoldable pub after_distinct : List TableDecl → List Level → Known → t.Distinctness → Known
after_distinct ts ls k d = after ts k (l.tables_distinct d) (λ n. u.uses_distinct ls n d)

unfoldable pub after_query : List TableDecl → List Level → Known → t.Query → Known
after_query ts ls k q = after ts k (l.tables_query q) (λ n. u.uses_query ls n q)

-- ## Lists, one element after the other

abbrev pub after_list : List TableDecl → List Level → Known → List t.Expression → Known
after_list ts ls k [] = k
after_list ts ls k (e ∷ es) = after_list ts ls (after_expression ts ls k e) es

abbrev pub after_items : List TableDecl → List Level → Known → List Ordered → Known
after_items ts ls k [] = k
after_items ts ls k (i ∷ is) = after_items ts ls (after_expression ts ls k i.0) is

-- ## The parts of a query that are lists; a combination has none

unfoldable pub after_selected : List TableDecl → List Level → Known → t.Query → Known
after_selected ts ls k (t.Select d es f w g h o p k2) =
    after ts k (l.tables_expressions es) (λ n. u.uses_expressions ls n es)
after_selected ts ls k (t.Combined a by all b o p) = k

unfoldable pub after_grouped : List TableDecl → List Level → Known → t.Query → Known
after_grouped ts ls k (t.Select d es f w g h o p k2) = after ts k (l.tables_group g) (λ n. u.uses_group ls n g)
after_grouped ts ls k (t.Combined a by all b o p) = k

unfoldable pub after_ordered : List TableDecl → List Level → Known → t.Query → Known
after_ordered ts ls k (t.Select d es f w g h o p k2) = after ts k (l.tables_order o) (λ n. u.uses_order ls n o)
after_ordered ts ls k (t.Combined a by all b o p) = k

-- the leaves that a select statement's own clauses see, where its first leaf has number n
abbrev pub own_level : ℕ → t.Query → Level
own_level n (t.Select d es f w g h o p k2) =
    l.leaves_from (n + length (l.tables_distinct d) + length (l.tables_expressions es)) f
own_level n (t.Combined a by all b o p) = []

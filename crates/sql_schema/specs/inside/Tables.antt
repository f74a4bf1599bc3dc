-- The order of tables, by their names in one text and then by their columns' types and lengths; and of columns.
use Rattle.std.specs.Prelude.{◌≡◌, ℕ, true, List}
use Rattle.std.proofs.Common.{sym, ap, ◌∙◌}
use Rattle.std.specs.declared.cmp.Ordering.{Ordering}
use Rattle.std.specs.Ordering.{on, then_cmp, nat_cmp, eq_by_cmp, is_eq}
use Rattle.std.specs.Option.{option_cmp}
use Rattle.std.specs.Cmp.{IsTotalOrder, first_so, second_so, tied_then, then_total, on_total, nat_cmp_total}
use Rattle.std.specs.Cmp.Lexicographic.{slice_cmp, same_text, texts_ties, on_texts, options_total, lists_total}
use Rattle.std.specs.Hash.{HashWrites, str}
use Rattle.sql_schema.specs.declared.declaration.ColumnDecl.{ColumnDecl}
use Rattle.sql_schema.specs.declared.declaration.TableDecl.{TableDecl}
use Rattle.sql_schema.specs.Columns.{DeclaredColumn}
use Rattle.sql_schema.specs.inside.Spelled.{table_text, same-name}
use Rattle.sql_schema.specs.contracts.types.SqlTypeOrd.TheImpl as type_ord
use Rattle.sql_schema.specs.contracts.types.SqlTypeOrd.TheImpl.Laws.{total-law}

abbrev pub text_cmp : List ℕ → List ℕ → Ordering
text_cmp = slice_cmp nat_cmp

abbrev pub column_cmp : ColumnDecl → ColumnDecl → Ordering
column_cmp =
    then_cmp
    (then_cmp (then_cmp (on (λ c. c.name) text_cmp) (on (λ c. c.sql_name) text_cmp))
    (on (λ c. c.ty) (type_ord.ghosts).cmp))
    (on (λ c. c.max_length) (option_cmp nat_cmp))

-- by types and lengths alone
abbrev pub sized_cmp : ColumnDecl → ColumnDecl → Ordering
sized_cmp = then_cmp (on (λ c. c.ty) (type_ord.ghosts).cmp) (on (λ c. c.max_length) (option_cmp nat_cmp))

-- by all names, and then by the columns' types and lengths
abbrev pub table_cmp : TableDecl → TableDecl → Ordering
table_cmp = then_cmp (on table_text text_cmp) (on (λ t. t.columns) (slice_cmp sized_cmp))

-- first by the table
abbrev pub declared_cmp : DeclaredColumn → DeclaredColumn → Ordering
declared_cmp = then_cmp (on (λ c. c.table) table_cmp) (on (λ c. c.decl) column_cmp)

-- what a table feeds a hash: its name
abbrev pub table_hash : TableDecl → HashWrites
table_hash t = str t.name

-- and a column: its own name
abbrev pub column_hash : DeclaredColumn → HashWrites
column_hash c = str c.decl.name

-- ---- the laws of the comparisons

columns_total : IsTotalOrder column_cmp
columns_total =
    then_total
    (then_total (then_total (on_texts (λ c. c.name)) (on_texts (λ c. c.sql_name))) (on_total (λ c. c.ty) total-law))
    (on_total (λ c. c.max_length) (options_total nat_cmp_total))

sizes_total : IsTotalOrder sized_cmp
sizes_total = then_total (on_total (λ c. c.ty) total-law) (on_total (λ c. c.max_length) (options_total nat_cmp_total))

pub tables_total : IsTotalOrder table_cmp
tables_total = then_total (on_texts table_text) (on_total (λ t. t.columns) (lists_total sizes_total))

pub declared_total : IsTotalOrder declared_cmp
declared_total = then_total (on_total (λ c. c.table) tables_total) (on_total (λ c. c.decl) columns_total)

first_tied : {A : Type 0} (R S : A → A → Ordering) (a b : A) → eq_by_cmp (then_cmp R S) a b ≡ true
    → eq_by_cmp R a b ≡ true
first_tied R S a b h = first_so (is_eq (R a b)) (is_eq (S a b)) (tied_then (R a b) (S a b) ∙ h)

pub same_hash : (a b : TableDecl) → eq_by_cmp table_cmp a b ≡ true → table_hash a ≡ table_hash b
same_hash a b h =
    let c = first_tied (on table_text text_cmp) (on (λ t. t.columns) (slice_cmp sized_cmp)) a b h in
    let d = same_text (table_text a) (table_text b) (sym (texts_ties (table_text a) (table_text b) ∙ c)) in
    ap str (same-name a b d)

abbrev by_column_name : ColumnDecl → ColumnDecl → Ordering
by_column_name = on (λ c. c.name) text_cmp

abbrev by_column_names : ColumnDecl → ColumnDecl → Ordering
by_column_names = then_cmp by_column_name (on (λ c. c.sql_name) text_cmp)

abbrev by_column_type : ColumnDecl → ColumnDecl → Ordering
by_column_type = then_cmp by_column_names (on (λ c. c.ty) (type_ord.ghosts).cmp)

pub same_column_hash : (a b : DeclaredColumn) → eq_by_cmp declared_cmp a b ≡ true → column_hash a ≡ column_hash b
same_column_hash a b h =
    let c =
    second_so (is_eq (table_cmp a.table b.table)) (is_eq (column_cmp a.decl b.decl))
    (tied_then (table_cmp a.table b.table) (column_cmp a.decl b.decl) ∙ h) in
    let d = first_tied by_column_type (on (λ c. c.max_length) (option_cmp nat_cmp)) a.decl b.decl c in
    let e = first_tied by_column_names (on (λ c. c.ty) (type_ord.ghosts).cmp) a.decl b.decl d in
    let f = first_tied by_column_name (on (λ c. c.sql_name) text_cmp) a.decl b.decl e in
    ap str (same_text a.decl.name b.decl.name (sym (texts_ties a.decl.name b.decl.name ∙ f)))

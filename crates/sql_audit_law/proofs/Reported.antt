-- The text of a statement that breaks no rule has a report, each column with its own source.
use Rattle.std.proofs.Common.{◌≡◌, ℕ, zero, ◌+◌, List, [], ◌∷◌, ◌++◌, map, Bool, true, false, Option, None, Some, refl, sym, ap, ◌∙◌, inl, inr, ◌⊎◌, subst, arith, is_none}
use Rattle.std.proofs.lemmas.Bool.{false≢true}
use Rattle.std.specs.Prelude.{slice_get, option_map}
use Rattle.std.specs.List.{list_any}
use Rattle.sql_dialect.specs.declared.backend.Dialect.{Dialect}
use Rattle.sql_schema.specs.Declarations.{Declarations}
use Rattle.sql_schema.specs.Equality.{same_table, same_column}
use Rattle.sql_schema.specs.Refusals as refusals
use Rattle.sql_schema.specs.Refusals.{any_two, tables_clash}
use Rattle.sql_schema.specs.declared.declaration.ColumnDecl.{ColumnDecl}
use Rattle.sql_schema.specs.declared.declaration.TableDecl.{TableDecl}
use Rattle.sql_schema.proofs.EqualityLaws.{equal-columns, equal-tables}
use Rattle.sql_schema.proofs.RefusalLaws.{none-refused}
use Rattle.sql_grammar.specs.MarkTree.{Name, Query}
use Rattle.sql_grammar.specs.Numbering.{mark_of, each_query}
use Rattle.sql_grammar.specs.Reading.{OnlyReading}
use Rattle.sql_pass.specs.Pieces.{text_of}
use Rattle.sql_pass.specs.declared.value.Bound.{Bound}
use Rattle.sql_node.specs.Pieces.{pieces}
use Rattle.sql_node.specs.Tree.{Origin, Expr, column, Statement}
use Rattle.sql_normal.specs.Filled.{filled, normal}
use Rattle.sql_normal.specs.inside.HasText.{HasText}
use Rattle.sql_rules.specs.Counted.{PlacesAreCounted}
use Rattle.sql_rules.specs.Lists.{AnyOf, Each}
use Rattle.sql_rules.specs.Names.{IsNamed}
use Rattle.sql_rules.specs.Rules.{IsTable, IsColumn, IsUnknownColumn, PartBreaks, Broken, Accepted}
use Rattle.sql_rules.specs.Scope.{View, Part, a_select, a_combination, parts, Clause, clauses, own, nodes, EachExprIn}
use Rattle.sql_rules.specs.declared.rule.Rule.TheVariants as R
use Rattle.sql_rules_law.proofs.Lists.{each_not, each_both, each_map, each_apply, any_or_none}
use Rattle.sql_rules_law.proofs.Naming.{names_one_leaf}
use Rattle.sql_rules_law.proofs.ReadLaws as read
use Rattle.sql_rules_law.proofs.TextLaws.{has_text}
use Rattle.sql_audit_resolution.specs.Leaves as l
use Rattle.sql_audit_resolution.specs.Meant.{name_at, meaning, path_of_table, table_at}
use Rattle.sql_audit_resolution.specs.Uses as u
use Rattle.sql_audit_resolution.specs.declared.column_use.ColumnUse.{ColumnUse}
use Rattle.sql_audit_resolution.specs.declared.column_use.Meaning.{Meaning}
use Rattle.sql_audit_resolution.specs.declared.column_use.Meaning.TheVariants.{Nothing, Several, Column}
use Rattle.sql_audit.specs.Report.{tables_of, meanings_of, is_nothing, is_several, settled_refusal, IsReport, IsReported}
use Rattle.sql_audit.specs.declared.report.AuditReport.{AuditReport}
use Rattle.sql_audit_law.specs.Own.{sources, columns_in, IsOwnReport}
use Rattle.sql_audit_law.proofs.Found.{table-found}
use Rattle.sql_audit_law.proofs.Known.{known-query}
use Rattle.sql_audit_law.proofs.Marks.{tables-query, uses-query}
use Rattle.sql_audit_law.proofs.Places as p
use Rattle.sql_audit_law.proofs.Places.{places}
use Rattle.sql_audit_law.proofs.Sought.{IsKnown}
use Rattle.sql_audit_law.proofs.Standing.{AreAt}
use Rattle.sql_audit_law.proofs.Uses.{Fine, FineClause, FinePart, query-uses}

-- ## What the rules give

true_or_not : (b : Bool) → (b ≡ true) ⊎ ¬ (b ≡ true)
true_or_not true = inl refl
true_or_not false = inr (λ h. false≢true h)

decided : {P : Type 0} → P ⊎ ¬ P → ¬ ¬ P → P
decided (inl p) h = p
decided (inr n) h = absurd (h n)

same-table-or-other : (a b : TableDecl) → (a ≡ b) ⊎ ¬ (a ≡ b)
same-table-or-other a b =
    elim (true_or_not (same_table a b)) [
      | inl h ↦ inl ((equal-tables a b).0 h)
      | inr n ↦ inr (λ e. n ((equal-tables a b).1 e))
    ]

same-column-or-other : (a b : ColumnDecl) → (a ≡ b) ⊎ ¬ (a ≡ b)
same-column-or-other a b =
    elim (true_or_not (same_column a b)) [
      | inl h ↦ inl ((equal-columns a b).0 h)
      | inr n ↦ inr (λ e. n ((equal-columns a b).1 e))
    ]

table-or-not : (schema : Declarations) (t : TableDecl) → IsTable schema t ⊎ ¬ IsTable schema t
table-or-not schema t = any_or_none (λ s. s ≡ t) (λ s. same-table-or-other s t) schema.tables

column-or-not : (t : TableDecl) (c : ColumnDecl) → IsColumn t c ⊎ ¬ IsColumn t c
column-or-not t c = any_or_none (λ d. d ≡ c) (λ d. same-column-or-other d c) t.columns

fine-node : (schema : Declarations) (v : View) (e : Expr) → ¬ IsUnknownColumn schema e → IsNamed v e
    → Fine schema.tables v e
fine-node schema v (column o c) unknown named = (
  named,
  decided (table-or-not schema o.table) (λ n. unknown (λ h. n h.0)),
  decided (column-or-not o.table c) (λ n. unknown (λ h. n h.1)),
)
fine-node schema v _ unknown named = tt

fine-part : (schema : Declarations) (d : Dialect) (part : Part) → ¬ PartBreaks R.UnknownName schema d part
    → EachExprIn IsNamed part → FinePart schema.tables part
fine-part schema d (a_select outer s) unknown named =
    let cs = clauses outer s in (
      each_both (λ (c : Clause). ¬ AnyOf (IsUnknownColumn schema) (nodes c.expr))
          (λ (c : Clause). Each (IsNamed c.view) (nodes c.expr)) (FineClause schema.tables)
          (λ c known names. each_both (λ e. ¬ IsUnknownColumn schema e) (IsNamed c.view) (Fine schema.tables c.view)
          (fine-node schema c.view) (nodes c.expr) (each_not (IsUnknownColumn schema) (nodes c.expr) known) names)
          cs
          (each_not (λ (c : Clause). AnyOf (IsUnknownColumn schema) (nodes c.expr)) cs (λ h. unknown (inr h))) named,
      each_map (λ (o : Origin). ¬ ¬ IsTable schema o.table) (IsKnown schema.tables)
          (λ (o : Origin) n. decided (table-or-not schema o.table) n) (own s)
          (each_not (λ (o : Origin). ¬ IsTable schema o.table) (own s) (λ h. unknown (inl h))),
    )
fine-part schema d (a_combination c) unknown named = tt

fine-parts : (schema : Declarations) (d : Dialect) (s : Statement) → Accepted schema d s
    → Each (FinePart schema.tables) (parts [] s)
fine-parts schema d s h =
    let ps : List Part = parts [] s in
    each_both (λ part. ¬ PartBreaks R.UnknownName schema d part) (EachExprIn IsNamed) (FinePart schema.tables)
    (fine-part schema d) ps (each_not (PartBreaks R.UnknownName schema d) ps (h R.UnknownName))
    (names_one_leaf schema d s (h R.UnknownName) (h R.Ambiguous) (h R.NameClash) (h R.NotInScope))

-- ## Names

abbrev name_of : Origin → Name
name_of o = o.table.name

names-known : (ts : List TableDecl) → any_two tables_clash ts ≡ false → (os : List Origin) → Each (IsKnown ts) os
    → map (name_at ts) (places os) ≡ map Some (map name_of os)
names-known ts apart [] k = refl
names-known ts apart (o ∷ os) k =
    ap (λ (t : Option TableDecl). option_map (λ (s : TableDecl). s.name) t ∷ map (name_at ts) (places os))
    (table-found ts apart o.table k.0)
    ∙ ap (λ ns. Some (name_of o) ∷ ns) (names-known ts apart os k.1)

no-none : (ns : List Name) → list_any is_none (map Some ns) ≡ false
no-none [] = refl
no-none (n ∷ ns) = no-none ns

no-nothing : (us : List ColumnUse) → list_any is_nothing (map Column us) ≡ false
no-nothing [] = refl
no-nothing (c ∷ us) = no-nothing us

no-several : (us : List ColumnUse) → list_any is_several (map Column us) ≡ false
no-several [] = refl
no-several (c ∷ us) = no-several us

none-settled : (ns : List Name) (us : List ColumnUse) → settled_refusal (map Some ns) (map Column us) ≡ None
none-settled ns us = rw (no-none ns, no-nothing us, no-several us) refl

all-at : (os : List Origin) → AreAt os zero os
all-at os = λ k o e.
    let z : zero + k ≡ k = omega arith in
    ap (slice_get os) z ∙ e

-- ## The report

pub reported : (schema : Declarations) (d : Dialect) (s : Statement) → refusals.least_refusal schema ≡ None
    → PlacesAreCounted s → Accepted schema d s
    → (r : AuditReport) × IsReported d schema.tables (text_of d 0 (pieces d s)) r × IsOwnReport d s r
reported schema d s sound counted h =
    let ts = schema.tables in
    let os = sources d s in
    let good = none-refused schema sound in
    let text : HasText d s = has_text schema d s counted (h R.EmptyList) (h R.NoRelation) (h R.TypeMismatch) (h R.Unsupported) in
    let fine = fine-parts schema d s h in
    let st = query-uses ts good.tables_differ good.columns_differ os d [] [] zero s text refl (all-at os) fine in
    let tables : tables_of ts (normal d s) ≡ map Some (map name_of os) =
    ap (map (name_at ts)) (tables-query (λ (n : ℕ) (v : Bound). mark_of d n) 0 (filled d s) ∙ p.query-tables d s text)
    ∙ names-known ts good.tables_differ os (known-query ts d [] s fine) in
    let meanings : meanings_of ts (normal d s) ≡ map Column st.0 =
    ap (map (meaning ts)) (uses-query (λ (n : ℕ) (v : Bound). mark_of d n) [] 0 0 (filled d s)) ∙ st.1 in
    let none : settled_refusal (tables_of ts (normal d s)) (meanings_of ts (normal d s)) ≡ None =
    ap (λ ns. settled_refusal ns (meanings_of ts (normal d s))) tables
    ∙ ap (settled_refusal (map Some (map name_of os))) meanings ∙ none-settled (map name_of os) st.0 in (
      record { tables = map name_of os; uses = st.0 },
      (normal d s, read.only schema d s counted h, none, (tables, meanings)),
      (refl, st.2),
    )

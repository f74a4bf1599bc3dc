-- The form that each kind of statement has, and the calls that stand on it.
use Rattle.std.proofs.Common.{◌≡◌, true, false, Option, None, Some, refl}
use Rattle.sql_node.proofs.Trees.{statement-of_Select, statement-of_Boxed, statement-of_Combination, select_statement-out, boxed_select_statement-out, combination_clause-out}
use Rattle.sql_node.specs.View.{select_statement_tree, boxed_select_statement_tree, combination_clause_tree}
use Rattle.sql_node.specs.declared.boxed.BoxedSelectStatement.{BoxedSelectStatement}
use Rattle.sql_node.specs.declared.combination.CombinationClause.{CombinationClause}
use Rattle.sql_node.specs.declared.statement.SelectStatement.{SelectStatement}
use Rattle.sql_build_syntax.specs.Forms.{plain_stands, clause_stands}
use Rattle.sql_build_syntax.specs.declared.call.ClauseCall.{ClauseCall}
use Rattle.sql_build_syntax.specs.declared.call.ClauseCall.TheVariants as clause
use Rattle.sql_build_syntax.specs.declared.call.PlainCall.{PlainCall}
use Rattle.sql_build_syntax.specs.declared.call.PlainCall.TheVariants as plain
use Rattle.sql_build_syntax.specs.declared.form.Form.TheVariants as form
use Rattle.sql_build.specs.Made.{form_of}
use Rattle.sql_build.specs.Named.{only_where}

pub select_form : (s : SelectStatement) → form_of (select_statement_tree s) ≡ form.Select
select_form s = rw (select_statement-out s) refl

pub boxed_form : (s : BoxedSelectStatement) → form_of (boxed_select_statement_tree s) ≡ form.Boxed
boxed_form s = rw (boxed_select_statement-out s) refl

pub combination_form : (c : CombinationClause) → form_of (combination_clause_tree c) ≡ form.Combination
combination_form c = rw (combination_clause-out c) refl

pub every_plain_stands : (c : PlainCall) → plain_stands form.Select c ≡ true
every_plain_stands plain.Distinct = refl
every_plain_stands plain.Count = refl
every_plain_stands plain.Nullable = refl
every_plain_stands plain.ForUpdate = refl
every_plain_stands plain.ForNoKeyUpdate = refl
every_plain_stands plain.ForShare = refl
every_plain_stands plain.ForKeyShare = refl
every_plain_stands plain.SkipLocked = refl
every_plain_stands plain.NoWait = refl

pub no_plain_stands : (c : PlainCall) → plain_stands form.Combination c ≡ false
no_plain_stands plain.Distinct = refl
no_plain_stands plain.Count = refl
no_plain_stands plain.Nullable = refl
no_plain_stands plain.ForUpdate = refl
no_plain_stands plain.ForNoKeyUpdate = refl
no_plain_stands plain.ForShare = refl
no_plain_stands plain.ForKeyShare = refl
no_plain_stands plain.SkipLocked = refl
no_plain_stands plain.NoWait = refl

pub every_clause_stands : (c : ClauseCall) → clause_stands form.Select c ≡ true
every_clause_stands clause.DistinctOn = refl
every_clause_stands clause.GroupBy = refl
every_clause_stands clause.Select = refl
every_clause_stands clause.Filter = refl
every_clause_stands clause.OrFilter = refl
every_clause_stands clause.Having = refl

pub no_clause_stands : (c : ClauseCall) → clause_stands form.Combination c ≡ false
no_clause_stands clause.DistinctOn = refl
no_clause_stands clause.GroupBy = refl
no_clause_stands clause.Select = refl
no_clause_stands clause.Filter = refl
no_clause_stands clause.OrFilter = refl
no_clause_stands clause.Having = refl

pub ruleset standing = (statement-of_Select, statement-of_Boxed, statement-of_Combination, select_form, boxed_form, combination_form, every_plain_stands, no_plain_stands, every_clause_stands, no_clause_stands)

pub always : {A : Type 0} (o : Option A) → only_where o true ≡ o
always None = refl
always (Some x) = refl

-- The words of the contracts that this crate passes on, a line for each file of definitions: `Rattle.hardieflax.specs.Compiled.{IsBuilt}`.
-- Schemas.
pub use Rattle.sql_schema.specs.Columns
pub use Rattle.sql_schema.specs.Declarations
pub use Rattle.sql_schema.specs.Equality
pub use Rattle.sql_schema.specs.Refusals
pub use Rattle.sql_schema.specs.Relations
pub use Rattle.sql_schema.specs.Together
pub use Rattle.sql_schema.specs.declared.declaration.ColumnDecl
pub use Rattle.sql_schema.specs.declared.declaration.JoinableDecl
pub use Rattle.sql_schema.specs.declared.declaration.TableDecl
pub use Rattle.sql_schema.specs.declared.error.SchemaError
pub use Rattle.sql_schema.specs.declared.types.Base
pub use Rattle.sql_schema.specs.declared.types.SqlType
-- Dialects.
pub use Rattle.sql_dialect.specs.Built as BuilderText
pub use Rattle.sql_dialect.specs.Names as MarkerNames
pub use Rattle.sql_dialect.specs.Quote
pub use Rattle.sql_dialect.specs.Supports
pub use Rattle.sql_dialect.specs.Syntax
pub use Rattle.sql_dialect.specs.Written
pub use Rattle.sql_dialect.specs.declared.backend.Dialect
pub use Rattle.sql_dialect.specs.declared.builder.BindError
pub use Rattle.sql_dialect.specs.declared.combination.Combinator
pub use Rattle.sql_dialect.specs.declared.combination.DuplicateRule
-- Pieces and passes.
pub use Rattle.sql_pass.specs.Bounds
pub use Rattle.sql_pass.specs.Bytes
pub use Rattle.sql_pass.specs.Collected
pub use Rattle.sql_pass.specs.Held
pub use Rattle.sql_pass.specs.Parts
pub use Rattle.sql_pass.specs.Paths
pub use Rattle.sql_pass.specs.Pieces
pub use Rattle.sql_pass.specs.Walks
pub use Rattle.sql_pass.specs.declared.collect.BindType
pub use Rattle.sql_pass.specs.declared.collect.CollectError
pub use Rattle.sql_pass.specs.declared.value.Bound
pub use Rattle.sql_pass.specs.declared.value.Value
-- Statements as plain trees, and what they are written as.
pub use Rattle.sql_node.specs.Pieces as StatementPieces
pub use Rattle.sql_node.specs.Tree
pub use Rattle.sql_node.specs.View
pub use Rattle.sql_leaf.specs.Limits
pub use Rattle.sql_leaf.specs.Locks
pub use Rattle.sql_leaf.specs.Marking
pub use Rattle.sql_leaf.specs.Operators
pub use Rattle.sql_leaf.specs.Positions
pub use Rattle.sql_leaf.specs.Sources
pub use Rattle.sql_leaf.specs.Words as StatementWords
pub use Rattle.sql_leaf.specs.declared.alias.Alias
pub use Rattle.sql_leaf.specs.declared.limit_offset.LimitOffsetClause
pub use Rattle.sql_leaf.specs.declared.locking.LockMode
pub use Rattle.sql_leaf.specs.declared.locking.LockingClause
pub use Rattle.sql_leaf.specs.declared.locking.Modifier
pub use Rattle.sql_leaf.specs.declared.marks.Marks
pub use Rattle.sql_leaf.specs.declared.operator.Comparison
pub use Rattle.sql_leaf.specs.declared.operator.Logic
pub use Rattle.sql_leaf.specs.declared.operator.Unary
pub use Rattle.sql_leaf.specs.declared.position.Direction
pub use Rattle.sql_leaf.specs.declared.position.OrderColumn
pub use Rattle.sql_leaf.specs.declared.position.PositionalItem
pub use Rattle.sql_leaf.specs.declared.table_source.JoinKind
pub use Rattle.sql_leaf.specs.declared.table_source.TableSource
pub use Rattle.sql_leaf.specs.declared.table_source.TablesampleMethod
-- Sources and calls.
pub use Rattle.sql_expr.specs.Calls
pub use Rattle.sql_expr.specs.Joining
pub use Rattle.sql_origin.specs.Borrowed as BorrowedOrigins
pub use Rattle.sql_source.specs.Counts
pub use Rattle.sql_source.specs.Fields
pub use Rattle.sql_source.specs.Joins as SourceJoins
pub use Rattle.sql_origin.specs.Leaves
pub use Rattle.sql_origin.specs.Origins
pub use Rattle.sql_source.specs.Samples
pub use Rattle.sql_source.specs.Selections
pub use Rattle.sql_source.specs.declared.count.Count
pub use Rattle.sql_select.specs.Changes
pub use Rattle.sql_select.specs.Clauses
pub use Rattle.sql_select.specs.Finding
pub use Rattle.sql_select.specs.Joins
pub use Rattle.sql_select.specs.Parts as StatementParts
pub use Rattle.sql_select.specs.Simple
-- Raw queries and debug lines.
pub use Rattle.sql_raw.specs.Boxed as BoxedRaw
pub use Rattle.sql_raw.specs.Debug
pub use Rattle.sql_raw.specs.Raw
pub use Rattle.sql_raw.specs.Shown
-- Flat lists, shapes, ids and keys.
pub use Rattle.sql_flat.specs.Flat as FlatLists
pub use Rattle.sql_flat.specs.declared.kind.FlatKind
pub use Rattle.sql_flat.specs.declared.kind.FlatNode
pub use Rattle.sql_flat_law.specs.Rose
pub use Rattle.sql_shape.specs.Ids
pub use Rattle.sql_key.specs.Keys
pub use Rattle.sql_shape.specs.Shape
-- Texts and their readings.
pub use Rattle.sql_grammar.specs.Examples as GrammarExamples
pub use Rattle.sql_grammar.specs.Fits
pub use Rattle.sql_grammar.specs.Grammar
pub use Rattle.sql_grammar.specs.Kinds
pub use Rattle.sql_grammar.specs.MarkTree
pub use Rattle.sql_grammar.specs.Numbering
pub use Rattle.sql_grammar.specs.Reading
pub use Rattle.sql_grammar.specs.Spelling
pub use Rattle.sql_grammar.specs.Text
pub use Rattle.sql_grammar.specs.Token
pub use Rattle.sql_grammar.specs.Tokens
pub use Rattle.sql_grammar.specs.Tree as GrammarTree
pub use Rattle.sql_grammar.specs.Values as PlaceValues
pub use Rattle.sql_normal.specs.Examples as ReadingExamples
pub use Rattle.sql_normal.specs.Filled
pub use Rattle.sql_normal.specs.inside.HasText
-- Rules.
pub use Rattle.sql_rules.specs.Counted
pub use Rattle.sql_rules.specs.Lists as RuleLists
pub use Rattle.sql_rules.specs.Names
pub use Rattle.sql_rules.specs.Rules
pub use Rattle.sql_rules.specs.Safety
pub use Rattle.sql_rules.specs.Scope
pub use Rattle.sql_rules.specs.Texts as RuleTexts
pub use Rattle.sql_rules.specs.Types
pub use Rattle.sql_rules.specs.Verdicts
pub use Rattle.sql_rules.specs.declared.rule.Rule
-- The laws of accepted statements: whether values fit, shapes without lengths, and the examples.
pub use Rattle.sql_rules_law.specs.Blank
pub use Rattle.sql_rules_law.specs.Examples as LawExamples
pub use Rattle.sql_rules_law.specs.Fitting
pub use Rattle.sql_rules_law.specs.Lengths
pub use Rattle.sql_rules_law.specs.Paths as ColumnPaths
-- The answer of `compile`.
pub use Rattle.sql_check.specs.Compiled
pub use Rattle.sql_check.specs.Fused
pub use Rattle.sql_flat_text.specs.Steps
pub use Rattle.sql_check.specs.Errors
pub use Rattle.sql_check.specs.declared.built.Built
pub use Rattle.sql_check.specs.declared.error.CompileError
pub use Rattle.sql_rules_check.specs.declared.names.Names as KnownNames
-- The contents of a statement cache.
pub use Rattle.sql_rows.specs.Calls as CacheCalls
pub use Rattle.sql_rows.specs.Entries
pub use Rattle.sql_rows.specs.Sound
pub use Rattle.sql_rows.specs.declared.cache.RequestKey
-- The answers of statements.
pub use Rattle.sql_rows_meaning.specs.Answers
pub use Rattle.sql_rows_meaning.specs.Beside as CountedBeside
pub use Rattle.sql_rows_meaning.specs.Counted as CountedAnswers
pub use Rattle.sql_rows_meaning.specs.DistinctOn
pub use Rattle.sql_rows_meaning.specs.Example as AnswerExample
pub use Rattle.sql_rows_meaning.specs.Fitting as AnswerFitting
pub use Rattle.sql_rows_meaning.specs.Frames
pub use Rattle.sql_rows_meaning.specs.Groups as AnswerGroups
pub use Rattle.sql_rows_meaning.specs.LastWriter
pub use Rattle.sql_rows_meaning.specs.Needed
pub use Rattle.sql_rows_meaning.specs.Rows
pub use Rattle.sql_rows_meaning.specs.Ungrouped as UngroupedAnswers
pub use Rattle.sql_rows_meaning.specs.Values
pub use Rattle.sql_rows_meaning.specs.Worked as WorkedAnswers
-- Statements restricted to one tenant, or guarded by policies.
pub use Rattle.sql_guard_law.specs.Guarded as GuardedStatements
pub use Rattle.sql_guard_law.specs.Policies
pub use Rattle.sql_guard_law.specs.Restricted
pub use Rattle.sql_guard_law.specs.Tenant
pub use Rattle.sql_guard_law.specs.Worked as WorkedRestriction
pub use Rattle.sql_guard.specs.Closed as ClosedTables
pub use Rattle.sql_guard.specs.Misread as MisreadPredicates
pub use Rattle.sql_guard.specs.Refused
pub use Rattle.sql_guard.specs.Trees as PolicyTrees
pub use Rattle.sql_guard.specs.declared.error.RestrictError
pub use Rattle.sql_guard.specs.declared.policy.Policy
-- The results of the reader.
pub use Rattle.sql_read.specs.Seen as ReadTrees
pub use Rattle.sql_read.specs.declared.error.ReadError
pub use Rattle.sql_read_tree.specs.Counts as TreeCounts
pub use Rattle.sql_read_tree.specs.Path as TreePaths
pub use Rattle.sql_read_tree.specs.View as TreeViews
-- The report of the audit of a text.
pub use Rattle.sql_audit.specs.Report as AuditReports
pub use Rattle.sql_audit.specs.declared.error.AuditError
pub use Rattle.sql_audit.specs.declared.report.AuditReport
pub use Rattle.sql_audit_law.specs.Own as OwnReports
pub use Rattle.sql_audit_resolution.specs.declared.column_use.ColumnUse
-- Queries as documents write them, and the statements that they stand for.
pub use Rattle.sql_build.specs.Built as QueryStatements
pub use Rattle.sql_build_depth.specs.Depth as QueryDepth
pub use Rattle.sql_build_depth.specs.Leaves as QueryLeaves
pub use Rattle.sql_build_depth.specs.declared.depth.TheConstants as DepthConstants
pub use Rattle.sql_build_syntax.specs.Forms as SyntaxForms
pub use Rattle.sql_build_syntax.specs.Tree as SyntaxTree
pub use Rattle.sql_build_syntax.specs.View as SyntaxViews
pub use Rattle.sql_build_syntax.specs.declared.form.Form as SyntaxForm
-- The effects of the program on its source and its sink.
pub use Rattle.sql_tool_run.specs.Command as Commands
pub use Rattle.sql_tool_run.specs.Limits as CommandLimits
pub use Rattle.sql_tool_run.specs.Run as Runs
pub use Rattle.sql_tool_run.specs.Status as Statuses
pub use Rattle.sql_tool_run.specs.declared.command.Command
pub use Rattle.sql_tool_run.specs.declared.status.Status
pub use Rattle.sql_tool_document.specs.Documents
pub use Rattle.sql_tool_document.specs.Giving
pub use Rattle.sql_tool_document.specs.declared.refusal.Refusal
pub use Rattle.sql_tool_generate.specs.Summary
pub use Rattle.sql_tool_build.specs.Output
pub use Rattle.sql_tool_build.specs.Shared as SharedIds
pub use Rattle.sql_tool_read.specs.Line as ReadingLines
pub use Rattle.sql_tool_stream.specs.Causes
pub use Rattle.sql_tool_stream.specs.Memory as MemoryStreams
pub use Rattle.sql_tool_stream.specs.Reading as StreamReading

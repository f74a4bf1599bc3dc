-- The name of each variant, and which variants say that a dialect has what they speak of.
use Rattle.std.specs.Prelude.{ℕ, Bool, true, false, List, codes}
use Rattle.sql_dialect.specs.declared.markers.OnConflictClause.{OnConflictClause}
use Rattle.sql_dialect.specs.declared.markers.OnConflictClause.TheVariants.{DoesNotSupportOnConflictClause}
use Rattle.sql_dialect.specs.declared.markers.ReturningClause.{ReturningClause}
use Rattle.sql_dialect.specs.declared.markers.ReturningClause.TheVariants.{PgLikeReturningClause, DoesNotSupportReturningClause}
use Rattle.sql_dialect.specs.declared.markers.InsertWithDefaultKeyword.{InsertWithDefaultKeyword}
use Rattle.sql_dialect.specs.declared.markers.InsertWithDefaultKeyword.TheVariants.{IsoSqlDefaultKeyword, DoesNotSupportDefaultKeyword}
use Rattle.sql_dialect.specs.declared.markers.BatchInsertSupport.{BatchInsertSupport}
use Rattle.sql_dialect.specs.declared.markers.BatchInsertSupport.TheVariants.{DoesNotSupportBatchInsert, PostgresLikeBatchInsertSupport}
use Rattle.sql_dialect.specs.declared.markers.ConcatClause.{ConcatClause}
use Rattle.sql_dialect.specs.declared.markers.ConcatClause.TheVariants.{ConcatWithPipesClause}
use Rattle.sql_dialect.specs.declared.markers.DefaultValueClauseForInsert.{DefaultValueClauseForInsert}
use Rattle.sql_dialect.specs.declared.markers.DefaultValueClauseForInsert.TheVariants.{AnsiDefaultValueClause}
use Rattle.sql_dialect.specs.declared.markers.WindowFrameClauseGroupSupport.{WindowFrameClauseGroupSupport}
use Rattle.sql_dialect.specs.declared.markers.WindowFrameClauseGroupSupport.TheVariants.{NoGroupWindowFrameUnit, IsoGroupWindowFrameUnit}
use Rattle.sql_dialect.specs.declared.markers.AggregateFunctionExpressions.{AggregateFunctionExpressions}
use Rattle.sql_dialect.specs.declared.markers.AggregateFunctionExpressions.TheVariants.{NoAggregateFunctionExpressions, PostgresLikeAggregateFunctionExpressions}
use Rattle.sql_dialect.specs.declared.markers.WindowFrameExclusionSupport.{WindowFrameExclusionSupport}
use Rattle.sql_dialect.specs.declared.markers.WindowFrameExclusionSupport.TheVariants.{FrameExclusionSupport, NoFrameFrameExclusionSupport}
use Rattle.sql_dialect.specs.declared.markers.BuiltInWindowFunctionRequireOrder.{BuiltInWindowFunctionRequireOrder}
use Rattle.sql_dialect.specs.declared.markers.BuiltInWindowFunctionRequireOrder.TheVariants.{NoOrderRequired}

abbrev pub on_conflict_clause : OnConflictClause → List ℕ
on_conflict_clause DoesNotSupportOnConflictClause = codes "DoesNotSupportOnConflictClause"

abbrev pub returning_clause : ReturningClause → List ℕ
returning_clause PgLikeReturningClause = codes "PgLikeReturningClause"
returning_clause DoesNotSupportReturningClause = codes "DoesNotSupportReturningClause"

abbrev pub has_returning_clause : ReturningClause → Bool
has_returning_clause PgLikeReturningClause = true
has_returning_clause DoesNotSupportReturningClause = false

abbrev pub insert_with_default_keyword : InsertWithDefaultKeyword → List ℕ
insert_with_default_keyword IsoSqlDefaultKeyword = codes "IsoSqlDefaultKeyword"
insert_with_default_keyword DoesNotSupportDefaultKeyword = codes "DoesNotSupportDefaultKeyword"

abbrev pub has_insert_with_default_keyword : InsertWithDefaultKeyword → Bool
has_insert_with_default_keyword IsoSqlDefaultKeyword = true
has_insert_with_default_keyword DoesNotSupportDefaultKeyword = false

abbrev pub batch_insert_support : BatchInsertSupport → List ℕ
batch_insert_support DoesNotSupportBatchInsert = codes "DoesNotSupportBatchInsert"
batch_insert_support PostgresLikeBatchInsertSupport = codes "PostgresLikeBatchInsertSupport"

abbrev pub has_batch_insert_support : BatchInsertSupport → Bool
has_batch_insert_support DoesNotSupportBatchInsert = false
has_batch_insert_support PostgresLikeBatchInsertSupport = true

abbrev pub concat_clause : ConcatClause → List ℕ
concat_clause ConcatWithPipesClause = codes "ConcatWithPipesClause"

abbrev pub default_value_clause_for_insert : DefaultValueClauseForInsert → List ℕ
default_value_clause_for_insert AnsiDefaultValueClause = codes "AnsiDefaultValueClause"

abbrev pub window_frame_clause_group_support : WindowFrameClauseGroupSupport → List ℕ
window_frame_clause_group_support NoGroupWindowFrameUnit = codes "NoGroupWindowFrameUnit"
window_frame_clause_group_support IsoGroupWindowFrameUnit = codes "IsoGroupWindowFrameUnit"

abbrev pub aggregate_function_expressions : AggregateFunctionExpressions → List ℕ
aggregate_function_expressions NoAggregateFunctionExpressions = codes "NoAggregateFunctionExpressions"
aggregate_function_expressions PostgresLikeAggregateFunctionExpressions =
    codes "PostgresLikeAggregateFunctionExpressions"

abbrev pub window_frame_exclusion_support : WindowFrameExclusionSupport → List ℕ
window_frame_exclusion_support FrameExclusionSupport = codes "FrameExclusionSupport"
window_frame_exclusion_support NoFrameFrameExclusionSupport = codes "NoFrameFrameExclusionSupport"

abbrev pub built_in_window_function_require_order : BuiltInWindowFunctionRequireOrder → List ℕ
built_in_window_function_require_order NoOrderRequired = codes "NoOrderRequired"

-- A statement that begins with its source (diesel, `AsQuery`).
use Rattle.std.specs.Prelude.{true}
use Rattle.sql_node.specs.Tree.{Statement, from, Source}
use Rattle.sql_source.specs.Selections.{default_list}
use Rattle.sql_select.specs.Clauses.{bare}

-- the default selection of the source
abbrev pub simple : Source → Statement
simple s = bare true (default_list s) (from s)

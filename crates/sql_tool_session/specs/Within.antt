-- Which of the requests of a call are answered: those before the first one whose statement nests deeper than the program builds.
use Rattle.std.specs.Prelude.{◌<◌, List, Bool, length, nat_le, take_while}
use Rattle.sql_build_depth.specs.Depth.{query_depth}
use Rattle.sql_build_depth.specs.declared.depth.TheConstants.{MAX_DEPTH}
use Rattle.sql_tool_document.specs.Documents.{Request}

-- whether the statement nests no deeper than that
abbrev pub fits : Request → Bool
fits r = nat_le (query_depth r.query) MAX_DEPTH

-- the requests before the first one that nests too deep, all where none does
abbrev pub before_too_deep : List Request → List Request
before_too_deep rs = take_while fits rs

-- one of them nests too deep: those before it are not all
abbrev pub HasTooDeep : List Request → Type 0
HasTooDeep rs = length (before_too_deep rs) < length rs

use Rattle.std.proofs.Common.{◌≡◌, ℕ, List, ◌++◌, map, take, option_map}
use Rattle.sql_schema.specs.Declarations.{Declarations}
use Rattle.sql_tool_document.specs.Trees.{request_tree}
use Rattle.sql_tool_guard.specs.Trees.{tenant_tree}
use Rattle.sql_tool_session.specs.Session.{Asked, HasAnswered, asked_for}
use Rattle.sql_tool_session.proofs.session.Session.lines.Given as goal

-- the session has answered the requests so far, by the lines so far
abbrev pub invariant-loop-request : goal.invariant-loop-request
invariant-loop-request l =
    (l.self.terms ≡ l.initial.self.terms)
    × ((schema : Declarations) (asked : List Asked) (text : List ℕ) → HasAnswered schema asked text l.initial.self
    → HasAnswered schema
    (asked ++ asked_for (option_map tenant_tree l.tenant) (map request_tree (take l.request-index l.requests)))
    (text ++ l.lines.items) l.self)

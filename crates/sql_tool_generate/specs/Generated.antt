-- The generated requests, numbered from 0.
use Rattle.std.specs.Prelude.{ℕ, zero, suc, List, [], ◌∷◌, ◌++◌}
use Rattle.sql_tool_build.specs.Judgement.{made}
use Rattle.sql_tool_build.specs.Output.{StatementRequest}
use Rattle.sql_tool_series.specs.Generated.{dialect_of, form_of, statement_with}

-- the request of this number
abbrev pub request : ℕ → StatementRequest
request i =
    record { dialect = dialect_of i; statement = made (statement_with (form_of i) (dialect_of i) i) }

-- the requests of the first numbers, so many
abbrev pub generated : ℕ → List StatementRequest
generated zero = []
generated (suc n) = generated n ++ request n ∷ []

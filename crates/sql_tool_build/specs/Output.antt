-- The output: a line of JSON for each request.
use Rattle.std.specs.Prelude.{◌≡◌, ℕ, List, [], ◌∷◌, ◌++◌, map, Option}
use Rattle.serde_json.specs.Written.{compact_text}
use Rattle.sql_schema.specs.Declarations.{Declarations}
use Rattle.sql_dialect.specs.declared.backend.Dialect.{Dialect}
use Rattle.sql_build.specs.Built.{statement_in}
use Rattle.sql_tool_document.specs.Documents.{Request, Document}
use Rattle.sql_tool_build.specs.Objects.{line_object}
use Rattle.sql_tool_build.specs.Ids.{RequestShape, request_shape, IsId}
use Rattle.sql_tool_build.specs.Judgement.{Judgement, Judges, Made, made_of}

-- a dialect, and a statement, where there is one
pub record StatementRequest : Type 0 where
  pub dialect : Dialect
  pub statement : Made

-- the statement that a request's query makes over the schema
abbrev pub statement_request : Declarations → Request → StatementRequest
statement_request schema r = record { dialect = r.dialect; statement = made_of (statement_in schema r.dialect r.query) }

abbrev pub statement_requests : Document → List StatementRequest
statement_requests d = map (statement_request d.schema) d.requests

-- what a line says of a request
pub record Line : Type 0 where
  pub dialect : Dialect
  pub judgement : Judgement
  pub id : Option ℕ

abbrev pub line_shape : Line → Option RequestShape
line_shape l = request_shape l.dialect l.judgement

-- the line of a request after requests of these shapes
pub record IsLine (schema : Declarations) (earlier : List (Option RequestShape)) (r : StatementRequest) (l : Line) : Type 0 where
  pub dialect : l.dialect ≡ r.dialect
  pub judged : Judges schema r.dialect r.statement l.judgement
  pub id : IsId (earlier ++ line_shape l ∷ []) (line_shape l) l.id

-- a line for each request, in order, after requests of these shapes
abbrev pub AreLines : Declarations → List (Option RequestShape) → List StatementRequest → List Line → Type 0
AreLines schema earlier [] [] = Unit {0}
AreLines schema earlier [] (l ∷ ls) = ⊥
AreLines schema earlier (r ∷ rs) [] = ⊥
AreLines schema earlier (r ∷ rs) (l ∷ ls) =
    IsLine schema earlier r l × AreLines schema (earlier ++ line_shape l ∷ []) rs ls

-- compact JSON, and a newline
unfoldable pub line_text : Line → List ℕ
line_text l = compact_text (line_object l.dialect l.id l.judgement) ++ 10 ∷ []

abbrev pub lines_text : List Line → List ℕ
lines_text [] = []
lines_text (l ∷ ls) = line_text l ++ lines_text ls

-- The text is a line for each request of the document, in order: with the name of its refusal, or with the text and the values
-- of its statement, which are read as that.
abbrev pub IsOutput : Document → List ℕ → Type 0
IsOutput d text = (ls : List Line) × AreLines d.schema [] (statement_requests d) ls × (text ≡ lines_text ls)

-- The text is a prefix of the lines of the document's first requests.
abbrev pub IsOutputPrefix : Document → List ℕ → Type 0
IsOutputPrefix d text =
    (rs later : List StatementRequest) × (statement_requests d ≡ rs ++ later)
    × ((ls : List Line) × AreLines d.schema [] rs ls × ((rest : List ℕ) × (lines_text ls ≡ text ++ rest)))

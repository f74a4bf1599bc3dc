-- Rows by which the definitions can be compared with their words, and what DISTINCT leaves.
use Rattle.std.specs.Prelude.{◌≡◌, ◌↔◌, ⊤, ℕ, pos, negsuc, true, false, List, [], ◌∷◌, ◌++◌, Some, map, codes, IsPermutation}
use Rattle.sql_dialect.specs.declared.combination.Combinator.TheVariants.{Union, Intersect, Except}
use Rattle.sql_dialect.specs.declared.combination.DuplicateRule.TheVariants.{All, Distinct}
use Rattle.sql_schema.specs.declared.types.SqlType.{SqlType}
use Rattle.sql_pass.specs.declared.value.Value.TheVariants as V
use Rattle.sql_leaf.specs.declared.position.Direction.{Direction}
use Rattle.sql_leaf.specs.declared.position.Direction.TheVariants as direction
use Rattle.sql_leaf.specs.declared.operator.Comparison.TheVariants.{Eq, Lt}
use Rattle.sql_leaf.specs.declared.operator.Logic.TheVariants.{And, Or}
use Rattle.sql_rules.specs.Lists.{Each}
use Rattle.sql_rows_meaning.specs.Answers.{Line, is_keyed, first_of_each}
use Rattle.sql_rows_meaning.specs.Fitting.{RowFits}
use Rattle.sql_rows_meaning.specs.Rows.{Row, NullPlaces, as_greatest, as_least, same_row, row_before, IsOrdered, page, combined}
use Rattle.sql_rows_meaning.specs.Values.{compared_value, joined_value, not_value, any_value}

-- what operators, orders, cuts and combinations give: each is computed by the definitions
pub record AreWorked : Type 0 where
  pub null_equals_null : compared_value Eq V.Null V.Null ≡ V.Null
  pub null_below : compared_value Lt (V.Integer (pos 1)) V.Null ≡ V.Null
  pub by_value : compared_value Lt (V.Integer (negsuc 0)) (V.Integer (pos 0)) ≡ V.Bool true
  pub false_before_true : compared_value Lt (V.Bool false) (V.Bool true) ≡ V.Bool true
  pub by_bytes : compared_value Lt (V.Text (codes "Z")) (V.Text (codes "a")) ≡ V.Bool true
  pub prefix_first : compared_value Lt (V.Text (codes "a")) (V.Text (codes "ab")) ≡ V.Bool true
  pub false_and_null : joined_value And (V.Bool false) V.Null ≡ V.Bool false
  pub true_and_null : joined_value And (V.Bool true) V.Null ≡ V.Null
  pub null_or_true : joined_value Or V.Null (V.Bool true) ≡ V.Bool true
  pub false_or_null : joined_value Or (V.Bool false) V.Null ≡ V.Null
  pub not_null : not_value V.Null ≡ V.Null
  pub null_in_nothing : any_value V.Null [] ≡ V.Bool false
  pub one_in_null_and_one : any_value (V.Integer (pos 1)) (V.Null ∷ (V.Integer (pos 1) ∷ [])) ≡ V.Bool true
  pub two_in_null_and_one : any_value (V.Integer (pos 2)) (V.Null ∷ (V.Integer (pos 1) ∷ [])) ≡ V.Null
  pub falling : row_before as_least (direction.Desc ∷ []) (V.Text (codes "b") ∷ []) (V.Text (codes "a") ∷ []) ≡ true
  pub second_item : row_before as_least (direction.Desc ∷ (direction.Asc ∷ [])) (V.Bool true ∷ (V.Integer (pos 1) ∷ []))
      (V.Bool true ∷ (V.Integer (pos 2) ∷ [])) ≡ true
  pub greatest_falling : row_before as_greatest (direction.Desc ∷ []) (V.Null ∷ []) (V.Bool true ∷ []) ≡ true
  pub greatest_rising : row_before as_greatest (direction.None ∷ []) (V.Null ∷ []) (V.Bool true ∷ []) ≡ false
  pub least_falling : row_before as_least (direction.Desc ∷ []) (V.Null ∷ []) (V.Bool true ∷ []) ≡ false
  pub least_rising : row_before as_least (direction.Asc ∷ []) (V.Null ∷ []) (V.Bool true ∷ []) ≡ true
  pub negative_limit : page {A = ℕ} (record { limit_clause = Some (negsuc 0); offset_clause = Some (negsuc 4) })
      (1 ∷ (2 ∷ (3 ∷ []))) ≡ 1 ∷ (2 ∷ (3 ∷ []))
  pub second_of_three : page {A = ℕ} (record { limit_clause = Some (pos 1); offset_clause = Some (pos 1) })
      (1 ∷ (2 ∷ (3 ∷ []))) ≡ 2 ∷ []
  pub union_all : combined Union All 2 3 ≡ 5
  pub union_one : combined Union Distinct 2 3 ≡ 1
  pub intersect_all : combined Intersect All 2 3 ≡ 2
  pub intersect_none : combined Intersect Distinct 0 3 ≡ 0
  pub except_all : combined Except All 3 2 ≡ 1
  pub except_below : combined Except All 2 3 ≡ 0
  pub except_one : combined Except Distinct 3 0 ≡ 1
  pub except_none : combined Except Distinct 3 1 ≡ 0

-- ---- DISTINCT

-- no two of them have one key
abbrev pub AreApart : (Line → Row) → List Line → Type 0
AreApart key [] = ⊤
AreApart key (line ∷ lines) = (is_keyed key (key line) lines ≡ false) × AreApart key lines

-- one line, any, of each key, in any order
pub record IsOneOfEach (key : Line → Row) (lines chosen : List Line) : Type 0 where
  pub rest : List Line
  pub order : IsPermutation lines (chosen ++ rest)
  pub apart : AreApart key chosen
  pub covered : Each (λ line. is_keyed key (key line) chosen ≡ true) rest

-- To put lines into any order and leave the first of each key is to leave any one of each key, in any order.
abbrev pub FirstIsAny : Type 0
FirstIsAny =
    (key : Line → Row) (lines chosen : List Line)
    → IsOneOfEach key lines chosen
    ↔ ((shuffled : List Line) × IsPermutation lines shuffled × (first_of_each key [] shuffled ≡ chosen))

-- no line of its key comes before it
abbrev pub IsFirst : NullPlaces → List Direction → List Line → Line → Type 0
IsFirst places items lines c =
    Each (λ l. same_row c.key l.key ≡ true → row_before places items l.order c.order ≡ false) lines

-- Of lines in an order DISTINCT ON leaves the first by that order of each key, and these are in that order: where the values of
-- each item are of one type.
abbrev pub FirstIsLeft : Type 0
FirstIsLeft =
    (places : NullPlaces) (items : List Direction) (types : List SqlType) (lines : List Line)
    → Each (λ l. RowFits types l.order) lines → IsOrdered places items (map (λ l. l.order) lines)
    → IsOrdered places items (map (λ l. l.order) (first_of_each (λ l. l.key) [] lines))
    × Each (IsFirst places items lines) (first_of_each (λ l. l.key) [] lines)

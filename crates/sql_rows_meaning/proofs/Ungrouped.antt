-- Where nothing is grouped or counted, each row that is taken is a group by itself.
use Rattle.std.proofs.Common.{◌≡◌, ◌↔◌, Bool, false, List, [], ◌∷◌, map, refl, sym, ap, subst, ◌∙◌}
use Rattle.std.specs.List.{AllZip}
use Rattle.std.proofs.lemmas.Bool.{false≢true}
use Rattle.sql_node.specs.Tree.{Expr, no_expr, an_expr, Distinct, Order, Statement, select, combination}
use Rattle.sql_rows_meaning.specs.Answers.{Line, Gives, Holds, GroupedBy, KeyGives, OrderGives, Answers}
use Rattle.sql_rows_meaning.specs.Frames.{Database, Frame}
use Rattle.sql_rows_meaning.specs.Groups.{Group, alone, counts}
use Rattle.sql_rows_meaning.specs.Rows.{Row, NullPlaces, Filtered, none, kept, dropped}
use Rattle.sql_rows_meaning.specs.Ungrouped.{IsUngrouped, RowAnswers}

zip-alone : {B : Type 0} (R : Group → B → Type 0) (rows : List Frame) (lines : List B)
    → AllZip (λ row line. R (alone row) line) rows lines → AllZip R (map alone rows) lines
zip-alone R [] [] h = tt
zip-alone R [] (l ∷ lines) h = h
zip-alone R (f ∷ rows) [] h = h
zip-alone R (f ∷ rows) (l ∷ lines) h = (h.0, zip-alone R rows lines h.1)

alone-zip : {B : Type 0} (R : Group → B → Type 0) (rows : List Frame) (lines : List B)
    → AllZip R (map alone rows) lines → AllZip (λ row line. R (alone row) line) rows lines
alone-zip R [] [] h = tt
alone-zip R [] (l ∷ lines) h = h
alone-zip R (f ∷ rows) [] h = h
alone-zip R (f ∷ rows) (l ∷ lines) h = (h.0, alone-zip R rows lines h.1)

module _ (places : NullPlaces) (db : Database) where
  -- what each group gives
  abbrev pub GivesLine : Expr → Distinct → Order → Group → Line → Type 0
  GivesLine e u o group line =
      Gives places e db group line.shown × KeyGives places u db group line.key × OrderGives places o db group line.order

  pub all-kept : (groups : List Group) → Filtered (λ group t. Holds places no_expr db group t) groups groups
  all-kept [] = none
  all-kept (group ∷ groups) = kept refl (all-kept groups)

  pub kept-all : {groups left : List Group} → Filtered (λ group t. Holds places no_expr db group t) groups left
      → left ≡ groups
  kept-all none = refl
  kept-all (kept {x = x} t f) = ap (λ gs. x ∷ gs) (kept-all f)
  kept-all (dropped t f) = absurd (false≢true t)

  select-same : (default : Bool) (e : Expr) (u : Distinct) (o : Order) (counted : counts e u o ≡ false)
      (taken : List Frame) (lines : List Line)
      → ((groups left : List Group) × GroupedBy places no_expr (counts e u o) db taken groups
      × Filtered (λ group t. Holds places no_expr db group t) groups left × AllZip (GivesLine e u o) left lines)
      ↔ AllZip (λ row line. GivesLine e u o (alone row) line) taken lines
  select-same default e u o counted taken lines = (
    λ (groups, left, grouped, having, zip).
        let groups_are : groups ≡ map alone taken =
        subst (λ b. GroupedBy places no_expr b db taken groups) counted grouped in
        alone-zip (GivesLine e u o) taken lines
        (subst (λ gs. AllZip (GivesLine e u o) gs lines) (kept-all having ∙ groups_are) zip),
    λ zip. (
      map alone taken,
      map alone taken,
      subst (λ b. GroupedBy places no_expr b db taken (map alone taken)) (sym counted) refl,
      all-kept (map alone taken),
      zip-alone (GivesLine e u o) taken lines zip,
    ),
  )

pub ungrouped-same : (places : NullPlaces) (s : Statement) → IsUngrouped s → (db : Database) (outer : Frame)
    → (answer : List Row) → Answers places s db outer answer ↔ RowAnswers places s db outer answer
ungrouped-same places (select default e f u w o rows (an_expr g) h form marks) n db outer answer = absurd (n.1 tt)
ungrouped-same places (select default e f u w o rows no_expr (an_expr h) form marks) n db outer answer = absurd (n.2 tt)
ungrouped-same places (select default e f u w o rows no_expr no_expr form marks) n db outer answer = (
  λ a. (
    a.0,
    a.1,
    a.2,
    a.5,
    a.6,
    a.7,
    a.8,
    (select-same places db default e u o n.0 a.2 a.5).0 (a.3, a.4, a.9, a.10, a.11),
    a.12,
    a.13,
  ),
  λ a.
      let back = (select-same places db default e u o n.0 a.2 a.3).1 a.7 in
      (a.0, a.1, a.2, back.0, back.1, a.3, a.4, a.5, a.6, back.2, back.3, back.4, a.8, a.9),
)
ungrouped-same places (combination by all l r o rows) n db outer answer =
    let left = ungrouped-same places l n.0 db outer in
    let right = ungrouped-same places r n.1 db outer in (
      λ a. (a.0, a.1, a.2, (left a.0).0 a.3, (right a.1).0 a.4, a.5, a.6, a.7),
      λ a. (a.0, a.1, a.2, (left a.0).1 a.3, (right a.1).1 a.4, a.5, a.6, a.7),
    )

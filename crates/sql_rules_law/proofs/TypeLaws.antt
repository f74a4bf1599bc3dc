-- Statements of one id have columns of the same types: values do not matter where there is no list of values.
use Rattle.std.proofs.Common.{◌≡◌, true, IsTrue, refl, sym, ap, ◌∙◌}
use Rattle.std.proofs.lemmas.Bool.{false≢true}
use Rattle.sql_node.specs.Tree.{Statement}
use Rattle.sql_shape.specs.Ids.{id_tests, has_id}
use Rattle.sql_shape.specs.Shape.{null, nulls, shape}
use Rattle.sql_shape.proofs.IdLaws.{same-id}
use Rattle.sql_rules.specs.Types.{columns}
use Rattle.sql_rules_law.proofs.Agreeing.{statement-agrees}
use Rattle.sql_rules_law.proofs.Blind.{columns-same}

statement-types : (s : Statement) → has_id s ≡ true → columns (shape s) ≡ columns s
statement-types s h =
    ap columns
    (statement-agrees id_tests null null (λ t. nulls) (λ t xs. xs) (λ t x k. refl) (λ t xs k. absurd (false≢true k)) s h)
    ∙ columns-same null (λ t xs. xs) (λ t xs. refl) s

pub types : (a b : Statement) → shape a ≡ shape b → IsTrue (has_id a) → columns a ≡ columns b
types a b e h = sym (statement-types a h) ∙ ap columns e ∙ statement-types b (sym (same-id a b e) ∙ h)

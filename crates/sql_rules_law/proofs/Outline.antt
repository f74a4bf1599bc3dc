-- The outline of a statement: a plain value for each that fits, and the empty list for each list that fits; what does not fit
-- stays. Bound numbers become 0.
use Rattle.std.proofs.Common.{◌≡◌, ℤ, Bool, true, false, cond, if◌then◌else◌, List, [], refl, ap, ◌∙◌, sym}
use Rattle.sql_schema.specs.declared.types.Base.{Base}
use Rattle.sql_schema.specs.declared.types.Base.TheVariants as base
use Rattle.sql_schema.specs.declared.types.SqlType.{SqlType}
use Rattle.sql_pass.specs.declared.value.Value.{Value}
use Rattle.sql_pass.specs.declared.value.Value.TheVariants as V
use Rattle.sql_node.specs.Tree.{Expr, Statement}
use Rattle.sql_shape.specs.Shape.{change_expr, change, null, erased_expr}
use Rattle.sql_shape.proofs.Twice.{expr-twice, statement-twice}
use Rattle.sql_rules.specs.Types.{fits, all_fit}
use Rattle.sql_rules_law.specs.Fitting.{fit_tests, values_fit}
use Rattle.sql_rules_law.specs.Lengths.{shape_without_lengths}
use Rattle.sql_rules_law.proofs.Agreeing.{statement-agrees}

abbrev good_of : Base → Value
good_of base.SmallInt = V.SmallInt (ℤ.pos 0)
good_of base.Integer = V.Integer (ℤ.pos 0)
good_of base.BigInt = V.BigInt (ℤ.pos 0)
good_of base.Text = V.Text []
good_of base.Binary = V.Binary []
good_of base.Bool = V.Bool false

good-fits : (b : Base) (n : Bool) → fits (record { base = b; nullable = n }) (good_of b) ≡ true
good-fits base.SmallInt n = refl
good-fits base.Integer n = refl
good-fits base.BigInt n = refl
good-fits base.Text n = refl
good-fits base.Binary n = refl
good-fits base.Bool n = refl

-- a plain value, whatever the value
abbrev good : SqlType → Value → Value
good t x = good_of t.base

abbrev no_values : SqlType → List Value → List Value
no_values t xs = []

abbrev pub outline_value : SqlType → Value → Value
outline_value t x = if fits t x then good t x else x

abbrev pub outline_values : SqlType → List Value → List Value
outline_values t xs = if all_fit t xs then [] else xs

abbrev pub outline_expr : Expr → Expr
outline_expr = change_expr outline_value outline_values

abbrev pub outline : Statement → Statement
outline = change outline_value outline_values

-- what fits goes on to fit, and what does not goes on not to
pub outline-fits : (t : SqlType) (x : Value) → fits t (outline_value t x) ≡ fits t x
outline-fits t x = go (fits t x) refl
  where
    go : (b : Bool) → fits t x ≡ b → fits t (cond b (good t x) x) ≡ b
    go true e = good-fits t.base t.nullable
    go false e = e

pub outline-all-fit : (t : SqlType) (xs : List Value) → all_fit t (outline_values t xs) ≡ all_fit t xs
outline-all-fit t xs = go (all_fit t xs) refl
  where
    go : (b : Bool) → all_fit t xs ≡ b → all_fit t (cond b [] xs) ≡ b
    go true e = refl
    go false e = e

pub outline-shape : (e : Expr) → erased_expr (λ xs. []) (outline_expr e) ≡ erased_expr (λ xs. []) e
outline-shape = expr-twice outline_value null outline_values no_values

-- ## Where values fit, the outline has plain values alone

plain : (s : Statement) → values_fit s ≡ true → outline s ≡ change good no_values s
plain =
    statement-agrees fit_tests outline_value good outline_values no_values (λ t x k i. cond (k i) (good t x) x)
    (λ t xs k i. cond (k i) [] xs)

-- statements that are one but for values that fit, and for the lengths of lists, have one outline
pub one-outline : (a b : Statement) → shape_without_lengths a ≡ shape_without_lengths b → values_fit a ≡ true
    → values_fit b ≡ true → outline a ≡ outline b
one-outline a b h f g =
    plain a f
    ∙ sym (statement-twice null good no_values no_values a)
    ∙ ap (change good no_values) h
    ∙ statement-twice null good no_values no_values b
    ∙ sym (plain b g)

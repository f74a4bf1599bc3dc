-- Statements that are one but for values that fit break the same rules, and have columns of the same types.
use Rattle.std.proofs.Common.{◌≡◌, ◌↔◌, ◌<◌, Bool, false, true, cond, [], length, Some, None, inl, refl, sym, ap, ◌∙◌, subst}
use Rattle.sql_schema.specs.Declarations.{Declarations}
use Rattle.sql_dialect.specs.Written.{MAX_BINDS}
use Rattle.sql_dialect.specs.declared.backend.Dialect.{Dialect}
use Rattle.sql_pass.specs.Pieces.{values_of, text_of}
use Rattle.sql_node.specs.Pieces.{pieces}
use Rattle.sql_node.specs.Tree.{Expr, value, list, nullable, among_values, Exprs, no_exprs, more_exprs, Statement}
use Rattle.sql_shape.specs.Shape.{shape}
use Rattle.sql_shape.proofs.Twice.{same-loosely}
use Rattle.sql_rules.specs.Lists.{AnyOf, Each}
use Rattle.sql_rules.specs.Rules.{tops, IsIllTyped, IsIllTypedClause, PartBreaks, Broken, Accepted}
use Rattle.sql_rules.specs.Safety.{IsSafeIn, is_safe_in}
use Rattle.sql_rules.specs.Scope.{View, Part, a_select, a_combination, parts, Place, in_selection, in_distinct_on, in_on, in_where, in_group_by, in_having, in_order_by, Clause, clauses, nodes, nodes_of, flat, flat_of, EachExprIn}
use Rattle.sql_rules.specs.Types.{fits, all_fit, type_of, compared_type, columns}
use Rattle.sql_rules.specs.declared.rule.Rule.{Rule}
use Rattle.sql_rules.specs.declared.rule.Rule.TheVariants as R
use Rattle.sql_rules_law.specs.Fitting.{Fits, ValuesFit, values_fit}
use Rattle.sql_rules_law.specs.Lengths.{shape_without_lengths}
use Rattle.sql_rules_law.proofs.Blind.{columns-same}
use Rattle.sql_rules_law.proofs.Outline.{outline_value, outline_values, outline-fits, outline-all-fit, outline-shape, outline, one-outline}
use Rattle.sql_rules_law.proofs.FitLaws.{test}
use Rattle.sql_rules_law.proofs.Lists.{each_not, each_map, each_append, each_front, each_back, each_under}
use Rattle.sql_rules_law.proofs.OneText.{as_many, as_many-loosely, text-loosely, safe-loosely}
use Rattle.sql_rules_law.proofs.RulesLaws.{parts-iff}
use Rattle.sql_rules_law.proofs.SafeLaws.{says, test as safe-test}

-- ## Rules

outline-inside : (r : Rule) (schema : Declarations) (d : Dialect) (s : Statement)
    → AnyOf (PartBreaks r schema d) (parts [] (outline s)) ↔ AnyOf (PartBreaks r schema d) (parts [] s)
outline-inside = parts-iff outline_value outline_values outline-fits outline-all-fit outline-shape

inside : (r : Rule) (schema : Declarations) (d : Dialect) (a b : Statement)
    → shape_without_lengths a ≡ shape_without_lengths b → values_fit a ≡ true → values_fit b ≡ true
    → AnyOf (PartBreaks r schema d) (parts [] a) → AnyOf (PartBreaks r schema d) (parts [] b)
inside r schema d a b h f g k =
    (outline-inside r schema d b).0
    (subst (λ s. AnyOf (PartBreaks r schema d) (parts [] s)) (one-outline a b h f g)
    ((outline-inside r schema d a).1 k))

breaks : (r : Rule) (schema : Declarations) (d : Dialect) (a b : Statement)
    → shape_without_lengths a ≡ shape_without_lengths b → values_fit a ≡ true → values_fit b ≡ true
    → length (values_of (pieces d a)) ≡ length (values_of (pieces d b))
    → Broken r schema d a → Broken r schema d b
breaks R.TooManyBinds schema d a b h f g n k = (k.0, subst (λ m. MAX_BINDS < m) n k.1)
breaks r schema d a b h f g n k = inside r schema d a b h f g k

fit : (s : Statement) → ValuesFit s → values_fit s ≡ true
fit s = (test s).1

-- of one shape are statements of one shape without lengths
pub loosely : (a b : Statement) → shape a ≡ shape b → shape_without_lengths a ≡ shape_without_lengths b
loosely = same-loosely

pub rules : (schema : Declarations) (d : Dialect) (a b : Statement) → shape a ≡ shape b → ValuesFit a → ValuesFit b
    → (r : Rule) → Broken r schema d a ↔ Broken r schema d b
rules schema d a b h f g r = (
  breaks r schema d a b (loosely a b h) (fit a f) (fit b g) (as_many d a b h),
  breaks r schema d b a (loosely b a (sym h)) (fit b g) (fit a f) (as_many d b a (sym h)),
)

-- ## Types

pub types : (a b : Statement) → shape_without_lengths a ≡ shape_without_lengths b → ValuesFit a → ValuesFit b
    → columns a ≡ columns b
types a b h f g =
    sym (columns-same outline_value outline_values outline-all-fit a)
    ∙ ap columns (one-outline a b h (fit a f) (fit b g))
    ∙ columns-same outline_value outline_values outline-all-fit b

-- ## The values of a statement that is not ill-typed fit

not-false : (b : Bool) → ¬ (b ≡ false) → b ≡ true
not-false true h = refl
not-false false h = absurd (h refl)

fine : (v : View) (e : Expr) → ¬ IsIllTyped e → Fits v e
fine v (value t x) h = not-false (fits t x) h
fine v (among_values n e t xs) h =
    not-false (all_fit t xs) (λ k. h (λ i. cond (k i) (compared_type (type_of e) (Some t)) None))
fine v _ h = tt

abbrev AllFit : View → Expr → Type 0
AllFit v e = Each (Fits v) (nodes e)

mutual
  flat-fit : (v : View) (e : Expr) → Each (AllFit v) (flat e) → AllFit v e
  flat-fit v (list es) h = (tt, flats-fit v es h)
  flat-fit v (nullable e) h =
      (tt, flat-fit v e (each_map _ _ (λ x p. p.1) (flat e) (each_under (AllFit v) nullable (flat e) h)))
  flat-fit v _ h = h.0

  flats-fit : (v : View) (es : Exprs) → Each (AllFit v) (flat_of es) → Each (Fits v) (nodes_of es)
  flats-fit v no_exprs h = tt
  flats-fit v (more_exprs e es) h =
      each_append (Fits v) (nodes e) (nodes_of es) (flat-fit v e (each_front _ (flat e) (flat_of es) h))
      (flats-fit v es (each_back _ (flat e) (flat_of es) h))

tops-fit : (v : View) (p : Place) (e : Expr) → Each (AllFit v) (tops p e) → AllFit v e
tops-fit v in_selection e h = flat-fit v e h
tops-fit v in_distinct_on e h = flat-fit v e h
tops-fit v in_group_by e h = flat-fit v e h
tops-fit v in_on e h = h.0
tops-fit v in_where e h = h.0
tops-fit v in_having e h = h.0
tops-fit v in_order_by e h = h.0

clause-fit : (c : Clause) → ¬ IsIllTypedClause c → AllFit c.view c.expr
clause-fit c h =
    tops-fit c.view c.place c.expr
    (each_map _ _ (λ e k. each_map _ _ (fine c.view) (nodes e) (each_not IsIllTyped (nodes e) k)) (tops c.place c.expr)
    (each_not _ (tops c.place c.expr) (λ k. h (inl k))))

part-fit : (schema : Declarations) (d : Dialect) (p : Part) → ¬ PartBreaks R.TypeMismatch schema d p
    → EachExprIn Fits p
part-fit schema d (a_select outer s) h =
    each_map _ _ clause-fit (clauses outer s) (each_not _ (clauses outer s) (λ k. h (inl k)))
part-fit schema d (a_combination c) h = tt

pub accepted-fit : (schema : Declarations) (d : Dialect) (s : Statement) → Accepted schema d s → ValuesFit s
accepted-fit schema d s ok =
    each_map _ _ (part-fit schema d) (parts [] s)
    (each_not (PartBreaks R.TypeMismatch schema d) (parts [] s) (ok R.TypeMismatch))

-- ## Lengths

pub accepted : (schema : Declarations) (d : Dialect) (a b : Statement) → Accepted schema d a → IsSafeIn d a
    → shape_without_lengths a ≡ shape_without_lengths b → ValuesFit b → Accepted schema d b
accepted schema d a b ok s h g r k =
    ok r
    (breaks r schema d b a (sym h) (fit b g) (fit a (accepted-fit schema d a ok))
    (sym (as_many-loosely d a b h ((says d a).1 s))) k)

pub text : (d : Dialect) (a b : Statement) → IsSafeIn d a → shape_without_lengths a ≡ shape_without_lengths b
    → text_of d 0 (pieces d a) ≡ text_of d 0 (pieces d b)
text d a b s h = text-loosely d a b h ((says d a).1 s)

pub safe : (d : Dialect) (a b : Statement) → shape_without_lengths a ≡ shape_without_lengths b
    → is_safe_in d a ≡ is_safe_in d b
safe d a b h = safe-test d a ∙ safe-loosely d a b h ∙ sym (safe-test d b)

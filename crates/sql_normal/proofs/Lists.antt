-- Elements of lists: what has one has one in each form.
use Rattle.std.proofs.Common.{List, [], ◌∷◌, ◌++◌, inl, inr}
use Rattle.sql_dialect.specs.declared.backend.Dialect.{Dialect}
use Rattle.sql_node.specs.Pieces.{Written, alone, many, each, expr_parts, exprs_parts}
use Rattle.sql_node.specs.Tree.{Expr, list, nullable, Exprs, no_exprs, more_exprs}
use Rattle.sql_normal.specs.inside.HasText.{IsSingle, HasElement, SomeElement}

abbrev pub NotEmpty : {X : Type 0} → List X → Type 0
NotEmpty [] = ⊥
NotEmpty (x ∷ xs) = Unit {0}

some-front : {X : Type 0} (xs ys : List X) → NotEmpty xs → NotEmpty (xs ++ ys)
some-front [] ys h = absurd h
some-front (x ∷ xs) ys h = tt

some-back : {X : Type 0} (xs ys : List X) → NotEmpty ys → NotEmpty (xs ++ ys)
some-back [] ys h = h
some-back (x ∷ xs) ys h = tt

module _ (d : Dialect) where
  mutual
    pub has-parts : (e : Expr) → HasElement e → NotEmpty (each (expr_parts d e))
    has-parts (list es) h = some-parts es h
    has-parts (nullable e) h = has-parts e h
    has-parts _ h = tt

    some-parts : (es : Exprs) → SomeElement es → NotEmpty (exprs_parts d es)
    some-parts no_exprs h = absurd h
    some-parts (more_exprs e es) (inl h) = some-front (each (expr_parts d e)) (exprs_parts d es) (has-parts e h)
    some-parts (more_exprs e es) (inr h) = some-back (each (expr_parts d e)) (exprs_parts d es) (some-parts es h)

  abbrev pub IsAlone : Written → Type 0
  IsAlone (alone ps) = Unit {0}
  IsAlone (many pss) = ⊥

  pub is-alone : (e : Expr) → IsSingle e → IsAlone (expr_parts d e)
  is-alone (list es) h = absurd h
  is-alone (nullable e) h = is-alone e h
  is-alone _ h = tt

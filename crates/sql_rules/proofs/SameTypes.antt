-- `!=` on lists of types says that they are not one.
use Rattle.std.proofs.Common.{◌≡◌, Bool, true, not, List, Option, Some, None, refl, subst}
use Rattle.std.specs.Bool.{Decides}
use Rattle.std.specs.Cmp.Lexicographic.{pointwise}
use Rattle.std.specs.Option.{option_eq}
use Rattle.std.proofs.lemmas.Bool.Decides.{Decides-at, Decides-not}
use Rattle.std.proofs.lemmas.Slice.Eq.{slice_eq-Decides}
use Rattle.sql_schema.specs.Equality.{same_type}
use Rattle.sql_schema.proofs.Exact.{exact-option}
use Rattle.sql_schema.proofs.ExactTypes.{exact-type}
use Rattle.sql_schema.specs.contracts.types.SqlTypeEq.TheImpl.Laws.{laws-law}
use Rattle.sql_schema.specs.declared.types.SqlType.{SqlType}

itself : (t : Option SqlType) → option_eq same_type t t ≡ true
itself None = refl
itself (Some t) = laws-law.refl t

one-type : (a b : Option SqlType) → Decides (option_eq same_type a b) (a ≡ b)
one-type a b = (exact-option exact-type a b, λ e. subst (λ t. option_eq same_type a t ≡ true) e (itself a))

pub types-differ : (r : Bool) (xs ys : List (Option SqlType)) → r ≡ not (pointwise (option_eq same_type) xs ys)
    → Decides r (xs ≡ ys → ⊥)
types-differ r xs ys e =
    Decides-at r (not (pointwise (option_eq same_type) xs ys)) e
    (Decides-not (pointwise (option_eq same_type) xs ys)
    (slice_eq-Decides one-type xs ys (pointwise (option_eq same_type) xs ys) refl))

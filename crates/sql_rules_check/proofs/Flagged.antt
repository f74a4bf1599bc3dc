-- Flags that say which rules are broken tell the first of these, and all.
use Rattle.std.proofs.Common.{◌≡◌, Bool, true, List, [], ◌∷◌, ◌++◌, Option, None, Some, inl, inr, subst}
use Rattle.std.specs.Bool.{Decides}
use Rattle.sql_schema.specs.Declarations.{Declarations}
use Rattle.sql_dialect.specs.declared.backend.Dialect.{Dialect}
use Rattle.sql_node.specs.Tree.{Statement}
use Rattle.sql_rules.specs.Lists.{Each, Selects}
use Rattle.sql_rules.specs.Rules.{Broken, PartBreaks}
use Rattle.sql_rules.specs.Scope.{Part, a_select, a_combination, parts}
use Rattle.sql_rules.specs.declared.rule.Rule.TheVariants as R
use Rattle.sql_rules.proofs.Loops.{any_each}
use Rattle.sql_rules_check.specs.First.{IsFirst}

module _ {X : Type 0} (flag : X → Bool) (P : X → Type 0) where
  abbrev pub Tell : List X → Type 0
  Tell xs = Each (λ x. Decides (flag x) (P x)) xs

  abbrev IsUp : X → Type 0
  IsUp x = flag x ≡ true

  none-broken : (xs : List X) → Tell xs → Each (λ x. ¬ IsUp x) xs → Each (λ x. ¬ P x) xs
  none-broken [] t n = tt
  none-broken (x ∷ xs) t n = (λ p. n.0 (t.0.1 p), none-broken xs t.1 n.1)

  before : (xs ys : List X) → Tell (xs ++ ys) → Tell xs
  before [] ys t = tt
  before (x ∷ xs) ys t = (t.0, before xs ys t.1)

  behind : (xs ys : List X) → Tell (xs ++ ys) → Tell ys
  behind [] ys t = t
  behind (x ∷ xs) ys t = behind xs ys t.1

  pub first-broken : (xs : List X) (o : Option X) → Tell xs → IsFirst IsUp xs o → IsFirst P xs o
  first-broken xs None t h = none-broken xs t h
  first-broken xs (Some x) t (up, (front, rest, is, none)) =
      let u = subst Tell is t in
      ((behind front (x ∷ rest) u).0.0 up, (front, rest, is, none-broken front (before front (x ∷ rest) u) none))

  pub all-broken : (xs out : List X) → Tell xs → Selects IsUp xs out → Selects P xs out
  all-broken [] out t h = h
  all-broken (x ∷ xs) out t (inl (up, (more, is, rest))) = inl (t.0.0 up, (more, is, all-broken xs more t.1 rest))
  all-broken (x ∷ xs) out t (inr (n, rest)) = inr (λ p. n (t.0.1 p), all-broken xs out t.1 rest)

-- a name that the schema lacks breaks the rule in every dialect
module _ (schema : Declarations) (d e : Dialect) where
  elsewhere : (p : Part) → PartBreaks R.UnknownName schema d p → PartBreaks R.UnknownName schema e p
  elsewhere (a_select outer s) h = h
  elsewhere (a_combination c) h = h

  pub unknown-elsewhere : (s : Statement) → Broken R.UnknownName schema d s → Broken R.UnknownName schema e s
  unknown-elsewhere s = any_each (PartBreaks R.UnknownName schema d) (PartBreaks R.UnknownName schema e) elsewhere (parts [] s)

-- There is one answer.
use Rattle.std.proofs.Common.{◌≡◌, List, [], ◌∷◌, ◌++◌, map, Some, refl, sym, subst, ◌∙◌}
use Rattle.sql_schema.specs.Declarations.{Declarations}
use Rattle.sql_dialect.specs.declared.backend.Dialect.{Dialect}
use Rattle.sql_node.specs.Tree.{Statement}
use Rattle.sql_rules.specs.Lists.{Each}
use Rattle.sql_rules.specs.Rules.{Broken}
use Rattle.sql_rules.specs.declared.rule.Rule.{Rule}
use Rattle.sql_check.specs.Compiled.{IsBuilt, IsLeast}
use Rattle.sql_check.specs.declared.built.Built.{Built}

-- of two elements of a list for which P holds, and for none before them, both are the first
first-is-one : (P : Rule → Type 0) (f g : List Rule) (a b : Rule) (r s : List Rule) → f ++ a ∷ r ≡ g ++ b ∷ s
    → Each (λ q. ¬ P q) f → Each (λ q. ¬ P q) g → P a → P b → a ≡ b
first-is-one P [] [] a b r s e ef eg pa pb = cc
first-is-one P [] (y ∷ g) a b r s e ef eg pa pb = let same : a ≡ y = cc in absurd (eg.0 (subst P same pa))
first-is-one P (x ∷ f) [] a b r s e ef eg pa pb = let same : b ≡ x = cc in absurd (ef.0 (subst P same pb))
first-is-one P (x ∷ f) (y ∷ g) a b r s e ef eg pa pb =
    let rest : f ++ a ∷ r ≡ g ++ b ∷ s = cc in first-is-one P f g a b r s rest ef.1 eg.1 pa pb

pub least-is-one : (schema : Declarations) (d : Dialect) (s : Statement) (a b : Rule) → IsLeast a schema d s
    → IsLeast b schema d s → a ≡ b
least-is-one schema d s a b first second =
    let (f, r, cut, none) = first.before in
    let (g, t, cut-again, none-again) = second.before in
    first-is-one (λ q. Broken q schema d s) f g a b r t (sym cut ∙ cut-again) none none-again first.broken second.broken

pub one-list : {X : Type 0} (xs ys : List X) → map Some xs ≡ map Some ys → xs ≡ ys
one-list [] [] h = refl
one-list [] (y ∷ ys) h = absurd (let e : map Some (y ∷ ys) ≡ [] = sym h in cc)
one-list (x ∷ xs) [] h = absurd (let e : map Some (x ∷ xs) ≡ [] = h in cc)
one-list (x ∷ xs) (y ∷ ys) h =
    let head : x ≡ y = cc in
    let rest : map Some xs ≡ map Some ys = cc in
    let tail = one-list xs ys rest in
    λ i. head i ∷ tail i

pub built-is-one : (schema : Declarations) (d : Dialect) (s : Statement) (a b : Built) → IsBuilt schema d s a
    → IsBuilt schema d s b → a ≡ b
built-is-one schema d s a b first second =
    let types = one-list a.sql_types b.sql_types (first.sql_types ∙ sym second.sql_types) in
    λ i. record {
      sql = (first.sql ∙ sym second.sql) i;
      binds = (first.binds ∙ sym second.binds) i;
      sql_types = types i;
      safe = (first.safe ∙ sym second.safe) i;
      id = (first.id ∙ sym second.id) i;
    }

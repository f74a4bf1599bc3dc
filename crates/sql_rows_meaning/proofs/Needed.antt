-- The example keeps the rules, and without its nullable it breaks one.
use Rattle.std.proofs.Common.{◌≡◌, ◌<◌, ℕ, true, false, List, [], ◌∷◌, ◌++◌, None, codes, length, refl, sym, inl, inr, subst, arith}
use Rattle.sql_schema.specs.Refusals.{least_refusal}
use Rattle.sql_dialect.specs.declared.backend.Dialect.{Dialect}
use Rattle.sql_dialect.specs.declared.backend.Dialect.TheVariants.{Pg, Mysql, Sqlite, Bracket}
use Rattle.sql_pass.specs.Pieces.{one, values_of}
use Rattle.sql_node.specs.Pieces.{pieces}
use Rattle.sql_node.specs.Tree.{Statement}
use Rattle.sql_origin.specs.Origins.{a_table}
use Rattle.sql_rules.specs.Lists.{AnyPair}
use Rattle.sql_rules.specs.Rules.{Accepted, Broken, Clash}
use Rattle.sql_rules.specs.declared.rule.Rule.{Rule}
use Rattle.sql_rules.specs.declared.rule.Rule.TheVariants as R
use Rattle.sql_rows_meaning.specs.Example.{users, posts, blog, statement, bare_statement, first, second}
use Rattle.sql_rows_meaning.specs.Needed.{ExampleIsAccepted, RuleIsNeeded}
use Rattle.sql_rows_meaning.proofs.Example.{example}

declared : least_refusal blog ≡ None
unfolding least_refusal
declared = refl

-- neither has values
no-values : (d : Dialect) → length (values_of (pieces d statement)) ≡ 0
unfolding one
no-values Pg = refl
no-values Mysql = refl
no-values Sqlite = refl
no-values Bracket = refl

no-bare-values : (d : Dialect) → length (values_of (pieces d bare_statement)) ≡ 0
unfolding one
no-bare-values Pg = refl
no-bare-values Mysql = refl
no-bare-values Sqlite = refl
no-bare-values Bracket = refl

few : (d : Dialect) (s : Statement) → length (values_of (pieces d s)) ≡ 0
    → 4294967295 < length (values_of (pieces d s)) → ⊥
few d s e l = let k : 4294967295 < 0 = subst (λ n. 4294967295 < n) e l in omega arith

-- ---- neither name is the end of the other

one-suffix : (a b : List ℕ) (front : List (List ℕ)) → a ∷ [] ≡ front ++ (b ∷ []) → a ≡ b
one-suffix a b [] e = cc
one-suffix a b (f ∷ []) e = absurd cc
one-suffix a b (f ∷ (g ∷ fs)) e = absurd cc

posts-users : codes "posts" ≡ codes "users" → ⊥
posts-users e = grind arith

no-clash : Clash (a_table users) (a_table posts) → ⊥
no-clash (differ, inl (front, e)) = posts-users (one-suffix (codes "posts") (codes "users") front e)
no-clash (differ, inr (front, e)) = posts-users (sym (one-suffix (codes "users") (codes "posts") front e))

no-pair-clashes : AnyPair Clash (a_table users ∷ (a_table posts ∷ [])) → ⊥
no-pair-clashes (inl (inl h)) = no-clash h
no-pair-clashes (inl (inr h)) = h
no-pair-clashes (inr (inl h)) = h
no-pair-clashes (inr (inr h)) = h

-- ---- the rules

accepted : (d : Dialect) → Accepted blog d statement
accepted d R.UnknownName = λ h. grind arith
accepted d R.Incompatible = λ h. grind arith
accepted d R.EmptyList = λ h. grind arith
accepted d R.NoRelation = λ h. grind arith
accepted d R.Ambiguous = λ h. grind arith
accepted d R.NotTogether = λ h. grind arith
accepted d R.NameClash = λ h. elim h [ inl p ↦ no-pair-clashes p | inr n ↦ n ]
accepted d R.NotInScope = λ h. grind arith
accepted d R.TypeMismatch = λ h. grind arith
accepted d R.NeedsNullable = λ h. grind arith
accepted d R.Grouping = λ h. grind arith
accepted d R.InvalidDistinctOrder = λ h. grind arith
accepted d R.Unsupported = λ h. grind arith
accepted d R.TooManyBinds = λ h. few d statement (no-values d) h.1

pub accepted_example : ExampleIsAccepted
accepted_example =
    record { declared = declared; conforms = grind arith; accepted = accepted; uncounted = λ h. grind arith }

alone : (d : Dialect) (r : Rule) → Broken r blog d bare_statement → r ≡ R.NeedsNullable
alone d R.UnknownName h = absurd (grind arith)
alone d R.Incompatible h = absurd (grind arith)
alone d R.EmptyList h = absurd (grind arith)
alone d R.NoRelation h = absurd (grind arith)
alone d R.Ambiguous h = absurd (grind arith)
alone d R.NotTogether h = absurd (grind arith)
alone d R.NameClash h = absurd (elim h [ inl p ↦ no-pair-clashes p | inr n ↦ n ])
alone d R.NotInScope h = absurd (grind arith)
alone d R.TypeMismatch h = absurd (grind arith)
alone d R.NeedsNullable h = refl
alone d R.Grouping h = absurd (grind arith)
alone d R.InvalidDistinctOrder h = absurd (grind arith)
alone d R.Unsupported h = absurd (grind arith)
alone d R.TooManyBinds h = absurd (few d bare_statement (no-bare-values d) h.1)

broken : (d : Dialect) → Broken R.NeedsNullable blog d bare_statement
broken d = inl (inl (tt, inr (inl (inr (inl (refl, refl)), λ h. grind arith))))

no-null : false ≡ true → ⊥
no-null e = grind arith

-- nullable has the value of its operand, so the answers are those of the example
pub needed : RuleIsNeeded
needed =
    record {
      alone = λ d r. (alone d r, λ e. subst (λ q. Broken q blog d bare_statement) (sym e) (broken d));
      uncounted = λ h. grind arith;
      types = refl;
      unfit = λ places.
          (first ∷ (second ∷ []), (example places (first ∷ (second ∷ []))).1 (inl refl), λ h. no-null h.1.0.1.0);
    }

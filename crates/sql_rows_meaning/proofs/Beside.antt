-- A boxed statement that counts in its order alone answers NULL over no rows.
use Rattle.std.proofs.Common.{◌≡◌, ◌<◌, pos, true, false, [], ◌∷◌, length, refl, subst, arith}
use Rattle.std.proofs.lemmas.List.Sorted.{IsPermutation-refl}
use Rattle.sql_dialect.specs.declared.backend.Dialect.{Dialect}
use Rattle.sql_dialect.specs.declared.backend.Dialect.TheVariants.{Pg, Mysql, Sqlite, Bracket}
use Rattle.sql_pass.specs.Pieces.{one, values_of}
use Rattle.sql_pass.specs.declared.value.Value.TheVariants as V
use Rattle.sql_node.specs.Pieces.{pieces}
use Rattle.sql_rules.specs.Rules.{Accepted}
use Rattle.sql_rules.specs.declared.rule.Rule.TheVariants as R
use Rattle.sql_rows_meaning.specs.Beside.{counted_beside, ExceptionIsNeeded, null_row}
use Rattle.sql_rows_meaning.specs.Example.{blog}
use Rattle.sql_rows_meaning.proofs.Functional.{is-Filtered, permutation-whole}

no-values : (d : Dialect) → length (values_of (pieces d (counted_beside d))) ≡ 0
unfolding one
no-values Pg = refl
no-values Mysql = refl
no-values Sqlite = refl
no-values Bracket = refl

few : (d : Dialect) → 4294967295 < length (values_of (pieces d (counted_beside d))) → ⊥
few d l = let k : 4294967295 < 0 = subst (λ n. 4294967295 < n) (no-values d) l in omega arith

accepted : (d : Dialect) → Accepted blog d (counted_beside d)
accepted d R.UnknownName = λ h. grind arith
accepted d R.Incompatible = λ h. grind arith
accepted d R.EmptyList = λ h. grind arith
accepted d R.NoRelation = λ h. grind arith
accepted d R.Ambiguous = λ h. grind arith
accepted d R.NotTogether = λ h. grind arith
accepted d R.NameClash = λ h. grind arith
accepted d R.NotInScope = λ h. grind arith
accepted d R.TypeMismatch = λ h. grind arith
accepted d R.NeedsNullable = λ h. grind arith
accepted d R.Grouping = λ h. grind arith
accepted d R.InvalidDistinctOrder = λ h. grind arith
accepted d R.Unsupported = λ h. grind arith
accepted d R.TooManyBinds = λ h. few d h.1

no-null : false ≡ true → ⊥
no-null e = grind arith

pub beside : ExceptionIsNeeded
beside = record {
  accepted = accepted;
  types = λ d. refl;
  conforms = grind arith;
  answer = λ d places. (
    [],
    [],
    [],
    [] ∷ [],
    [] ∷ [],
    record { shown = null_row; key = []; order = V.BigInt (pos 0) ∷ [] } ∷ [],
    permutation-whole false _ _ (IsPermutation-refl []),
    is-Filtered (λ row t. t ≡ true) (λ x. true) (λ x. refl) [],
    permutation-whole false _ _ (IsPermutation-refl []),
    refl,
    is-Filtered (λ row t. t ≡ true) (λ x. true) (λ x. refl) _,
    ((refl, refl, (V.BigInt (pos 0), [], refl, refl, refl)), tt),
    λ k d h l. absurd (omega arith),
    refl,
  );
  unfit = λ h. no-null h.0.0;
}

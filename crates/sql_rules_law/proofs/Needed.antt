-- A value that does not fit, and lists of two lengths on MySQL.
use Rattle.std.proofs.Common.{◌≡◌, ◌≢◌, ◌<◌, pos, List, length, IsTrue, inl, inr, refl, ap, subst, arith}
use Rattle.sql_dialect.specs.declared.backend.Dialect.{Dialect}
use Rattle.sql_dialect.specs.declared.backend.Dialect.TheVariants.{Pg, Mysql, Sqlite, Bracket}
use Rattle.sql_pass.specs.Pieces.{one, text_of, values_of}
use Rattle.sql_pass.specs.declared.value.Value.{Value}
use Rattle.sql_pass.specs.declared.value.Value.TheVariants.{Integer, Null}
use Rattle.sql_node.specs.Pieces.{pieces}
use Rattle.sql_node.specs.Tree.{Statement}
use Rattle.sql_shape.specs.Shape.{shape}
use Rattle.sql_rules.specs.Rules.{Accepted, Broken}
use Rattle.sql_rules.specs.Types.{all_fit}
use Rattle.sql_rules.specs.declared.rule.Rule.TheVariants as R
use Rattle.sql_normal.specs.Examples.{whole_number}
use Rattle.sql_rules_law.specs.Examples.{one_table, one_value, two_values, users_among, users_where_id}
use Rattle.sql_rules_law.specs.Fitting.{ValuesFit}
use Rattle.sql_rules_law.specs.Lengths.{shape_without_lengths}

abbrev fitting : Statement
fitting = users_where_id (Integer (pos 1))

abbrev misfit : Statement
misfit = users_where_id Null

pub one_shape : shape fitting ≡ shape misfit
one_shape = refl

one-value : (d : Dialect) → length (values_of (pieces d fitting)) ≡ 1
unfolding one
one-value Pg = refl
one-value Mysql = refl
one-value Sqlite = refl
one-value Bracket = refl

few-values : (d : Dialect) → 4294967295 < length (values_of (pieces d fitting)) → ⊥
few-values d l = let k : 4294967295 < 1 = subst (λ n. 4294967295 < n) (one-value d) l in omega arith

pub fits : (d : Dialect) → Accepted one_table d fitting
fits d R.UnknownName = λ h. grind arith
fits d R.Incompatible = λ h. grind arith
fits d R.EmptyList = λ h. grind arith
fits d R.NoRelation = λ h. grind arith
fits d R.Ambiguous = λ h. grind arith
fits d R.NotTogether = λ h. grind arith
fits d R.NameClash = λ h. grind arith
fits d R.NotInScope = λ h. grind arith
fits d R.TypeMismatch = λ h. grind arith
fits d R.NeedsNullable = λ h. grind arith
fits d R.Grouping = λ h. grind arith
fits d R.InvalidDistinctOrder = λ h. grind arith
fits d R.Unsupported = λ h. grind arith
fits d R.TooManyBinds = λ h. few-values d h.1

-- the value is the third expression of the second clause, WHERE
pub misfits : (d : Dialect) → Broken R.TypeMismatch one_table d misfit
misfits d = inl (inl (inr (inl (inl (inl (inr (inr (inl refl))))))))

pub one_but_for_lengths : shape_without_lengths (users_among one_value)
    ≡ shape_without_lengths (users_among two_values)
one_but_for_lengths = refl

-- the selection has two expressions, WHERE the membership and its column
list-fits : (xs : List Value) → IsTrue (all_fit whole_number xs) → ValuesFit (users_among xs)
list-fits xs h = (((tt, (tt, tt)), ((h, (tt, tt)), tt)), tt)

pub lists_fit : ValuesFit (users_among one_value) × ValuesFit (users_among two_values)
lists_fit = (list-fits one_value refl, list-fits two_values refl)

pub other_text : text_of Mysql 0 (pieces Mysql (users_among one_value))
    ≢ text_of Mysql 0 (pieces Mysql (users_among two_values))
unfolding one
other_text h =
    let k : length (text_of Mysql 0 (pieces Mysql (users_among one_value)))
    ≡ length (text_of Mysql 0 (pieces Mysql (users_among two_values))) = ap length h in
    omega (arith, k)

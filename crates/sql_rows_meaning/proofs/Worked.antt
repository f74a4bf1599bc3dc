-- Rows that compute.
use Rattle.std.proofs.Common.{refl}
use Rattle.sql_rows_meaning.specs.Values.{compared_value, joined_value, not_value, any_value}
use Rattle.sql_rows_meaning.specs.Worked.{AreWorked}

pub worked : AreWorked
unfolding compared_value joined_value not_value any_value
worked = record {
  null_equals_null = refl;
  null_below = refl;
  by_value = refl;
  false_before_true = refl;
  by_bytes = refl;
  prefix_first = refl;
  false_and_null = refl;
  true_and_null = refl;
  null_or_true = refl;
  false_or_null = refl;
  not_null = refl;
  null_in_nothing = refl;
  one_in_null_and_one = refl;
  two_in_null_and_one = refl;
  falling = refl;
  second_item = refl;
  greatest_falling = refl;
  greatest_rising = refl;
  least_falling = refl;
  least_rising = refl;
  negative_limit = refl;
  second_of_three = refl;
  union_all = refl;
  union_one = refl;
  intersect_all = refl;
  intersect_none = refl;
  except_all = refl;
  except_below = refl;
  except_one = refl;
  except_none = refl;
}

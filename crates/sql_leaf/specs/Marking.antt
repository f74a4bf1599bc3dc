-- The marks that calls leave.
use Rattle.std.specs.Prelude.{false}
use Rattle.sql_leaf.specs.declared.marks.Marks.{Marks}

abbrev pub unmarked : Marks
unmarked =
    record {
      no_source = false;
      find_source = false;
      key_count = false;
      second_lock = false;
      no_lock = false;
      boxed_lock = false;
    }

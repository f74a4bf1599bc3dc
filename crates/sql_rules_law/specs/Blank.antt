-- A statement's pieces without its values.
use Rattle.std.specs.Prelude.{List, map}
use Rattle.sql_pass.specs.Pieces.{Piece, Bind, ValueOnly}
use Rattle.sql_pass.specs.declared.value.Bound.{Bound}
use Rattle.sql_pass.specs.declared.value.Bound.TheVariants.{Value as OneValue, List as ManyValues}
use Rattle.sql_pass.specs.declared.value.Value.{Value}
use Rattle.sql_pass.specs.declared.value.Value.TheVariants.{Null}
use Rattle.sql_shape.specs.Shape.{nulls}

-- without values, where `many` says what stands for a list of them
module _ (many : List Value → List Value) where
  abbrev pub erased_bound : Bound → Bound
  erased_bound (OneValue t v) = OneValue t Null
  erased_bound (ManyValues t vs) = ManyValues t (many vs)

  abbrev pub erased_piece : Piece → Piece
  erased_piece (Bind b) = Bind (erased_bound b)
  erased_piece (ValueOnly b) = ValueOnly (erased_bound b)
  erased_piece p = p

  abbrev pub erased_pieces : List Piece → List Piece
  erased_pieces ps = map erased_piece ps

-- NULL for the value, and for each value of a list
abbrev pub blank_bound : Bound → Bound
blank_bound = erased_bound nulls

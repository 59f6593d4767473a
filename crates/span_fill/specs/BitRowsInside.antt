-- The fields of rows of bits.
use Rattle.std.specs.Prelude.{◌≡◌, ◌*◌, ◌≤◌, length}
use Rattle.span_fill.specs.BitRows.{BitRowsState, word_limit}
use Rattle.span_fill.specs.declared.bit_rows.BitRows.TheInside.{Inside}

-- what callers see of the fields
abbrev pub bit_rows_state : Inside → BitRowsState
bit_rows_state a = record { rows = a.rows; columns = a.columns; stride = a.stride; words = a.words.items }

-- there are enough words for the rows, and in each row for the columns
pub record IsBitRows (a : Inside) : Type 0 where
  pub words : length a.words.items ≡ word_limit
  pub rows : a.rows * a.stride ≤ word_limit
  pub columns : a.columns ≤ 64 * a.stride

-- Rows of bits, a bit for each column.
use Rattle.std.specs.Prelude.{◌≡◌, ◌≢◌, ◌==◌, ℕ, ◌+◌, ◌*◌, ◌/◌, ◌%◌, ◌<◌, ◌≤◌, Bool, ◌&&◌, ◌||◌, List, nat_le, nat_lt, not, slice_index_or}
use Rattle.std.specs.Int.{bit_at, div_ceil}

-- the number of rows and columns, the words with their bits, and the number of words in a row
pub record BitRowsState : Type 0 where
  pub rows : ℕ
  pub columns : ℕ
  pub stride : ℕ
  pub words : List ℕ

-- there are this many rows and columns
pub record HasSize (state : BitRowsState) (rows columns : ℕ) : Type 0 where
  pub row_count : state.rows ≡ rows
  pub column_count : state.columns ≡ columns

-- the bit of column x in row i is set; a word has the bits of 64 columns
unfoldable pub has_bit : BitRowsState → ℕ → ℕ → Bool
has_bit state x i = bit_at (slice_index_or state.words (i * state.stride + x / 64) 0) (x % 64) == 1

-- the number of words
abbrev pub word_limit : ℕ
word_limit = 32768

-- there are enough words for this many rows and columns
abbrev pub has_capacity : ℕ → ℕ → Bool
has_capacity rows columns = nat_le (rows * div_ceil columns 64) word_limit

-- the bits of the row from column `from` to before `to` are set, and the others are unchanged
abbrev pub SetsBits : ℕ → ℕ → ℕ → BitRowsState → BitRowsState → Type 0
SetsBits row from to old new =
    (x i : ℕ) → x < old.columns → i < old.rows → has_bit new x i ≡ (has_bit old x i || (i == row && (nat_le from x && nat_lt x to)))

-- the bits of the row from column `from` to before `to` are cleared, and the others are unchanged
abbrev pub ClearsBits : ℕ → ℕ → ℕ → BitRowsState → BitRowsState → Type 0
ClearsBits row from to old new =
    (x i : ℕ) → x < old.columns → i < old.rows → has_bit new x i ≡ (has_bit old x i && not (i == row && (nat_le from x && nat_lt x to)))

-- of the row's bits those stay that are set in the other row too, and the other rows are unchanged
pub record KeepsCommon (row other : ℕ) (old new : BitRowsState) : Type 0 where
  pub common : (x : ℕ) → x < old.columns → has_bit new x row ≡ (has_bit old x row && has_bit old x other)
  pub others : (x i : ℕ) → x < old.columns → i < old.rows → i ≢ row → has_bit new x i ≡ has_bit old x i

-- the bits of the row that is `distance` rows further on are joined to each of the first rows, and the other rows are
-- unchanged
pub record JoinsRows (rows distance : ℕ) (old new : BitRowsState) : Type 0 where
  pub joined : (x i : ℕ) → x < old.columns → i < rows → has_bit new x i ≡ (has_bit old x i || has_bit old x (i + distance))
  pub others : (x i : ℕ) → x < old.columns → rows ≤ i → has_bit new x i ≡ has_bit old x i

-- x is the first column from `from` to before `to` whose bit in row i is `bit`, or `to` if there is none
pub record IsNext (state : BitRowsState) (bit : Bool) (i from to x : ℕ) : Type 0 where
  pub low : from ≤ x
  pub high : x ≤ to
  pub none_before : (a : ℕ) → from ≤ a → a < x → has_bit state a i ≡ not bit
  pub found : x < to → has_bit state x i ≡ bit

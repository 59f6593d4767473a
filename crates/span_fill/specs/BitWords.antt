-- Bits of words, by their numbers: a word has 64 bits.
use Rattle.std.specs.Prelude.{◌≡◌, ◌==◌, ℕ, ◌+◌, ◌/◌, ◌%◌, ◌<◌, ◌≤◌, Bool, List, bit_and, bit_or, not, slice_index_or}
use Rattle.std.specs.Int.{bit_at}

-- the bit with this number is set; a word has 64 bits
unfoldable pub word_bit : List ℕ → ℕ → Bool
word_bit words number = bit_at (slice_index_or words (number / 64) 0) (number % 64) == 1

-- word k, joined with the word that is `ahead` words further on
abbrev pub joined_word : List ℕ → ℕ → ℕ → ℕ
joined_word words ahead k = bit_or (slice_index_or words k 0) (slice_index_or words (k + ahead) 0)

-- the bits that are set in word a and in word b
abbrev pub in_both : List ℕ → ℕ → ℕ → ℕ
in_both words a b = bit_and (slice_index_or words a 0) (slice_index_or words b 0)

-- n is the first number from `from` to before `to` whose bit is `bit`, or `to` if there is none
pub record IsNextBit (words : List ℕ) (bit : Bool) (from to n : ℕ) : Type 0 where
  pub low : from ≤ n
  pub high : n ≤ to
  pub none_before : (m : ℕ) → from ≤ m → m < n → word_bit words m ≡ not bit
  pub found : n < to → word_bit words n ≡ bit

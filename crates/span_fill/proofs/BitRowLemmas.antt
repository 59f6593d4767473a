-- Bits of rows, by their numbers in all words.
use Rattle.std.proofs.Common.{◌≡◌, ℕ, ◌+◌, ◌-◌, ◌*◌, ◌/◌, ◌%◌, ◌<◌, ◌≤◌, Bool, true, false, ◌&&◌, ◌||◌, ◌==◌, not, inl, inr, nat_le, nat_lt, List, slice_index, arith, refl, ap, sym, ◌∙◌}
use Rattle.std.proofs.lemmas.Bool.{and_left, and_right, cases_order, eq-eqb, le-ltb, lt-leb, ne_eqb}
use Rattle.std.proofs.lemmas.Bool.Decides.{nat_tests}
use Rattle.std.proofs.lemmas.Nat.{mul-le}
use Rattle.std.proofs.lemmas.Nat.Bits.{bit_at-zero}
use Rattle.span_fill.specs.BitWords.{IsNextBit, in_both, joined_word, word_bit}
use Rattle.span_fill.specs.BitRows.{BitRowsState, ClearsBits, IsNext, JoinsRows, KeepsCommon, SetsBits, has_bit}
use Rattle.span_fill.proofs.BitWordLemmas.{is_set, set_in_and, set_in_or}

-- a row ends where the next begins
row_after : (i row stride : ℕ) → i < row → i * stride + stride ≤ row * stride
row_after i row stride h = let next = mul-le (i + 1) stride row stride (omega arith) (omega arith) in omega (arith, next)

-- the words of a column in a row
word_in_rows : (x i rows columns stride : ℕ) → columns ≤ 64 * stride → x < columns → i < rows → i * stride + x / 64 < rows * stride
word_in_rows x i rows columns stride fits within below = let next = row_after i rows stride below in omega (arith, next)

-- the number of a bit
numbered : (state : BitRowsState) (x i : ℕ) → has_bit state x i ≡ word_bit state.words (64 * (i * state.stride) + x)
unfolding has_bit word_bit
numbered state x i =
    let n = i * state.stride in
    let at : (64 * n + x) / 64 ≡ n + x / 64 = omega arith in
    let bit : (64 * n + x) % 64 ≡ x % 64 = omega arith in
    rw (at, bit) refl

-- of words that are 0 no bit is set
pub none_is_set : (state : BitRowsState) (count : ℕ) → state.columns ≤ 64 * state.stride → count ≡ state.rows * state.stride
    → ((k : ℕ) → 0 ≤ k → k < count → slice_index state.words k ≡ 0)
    → (x i : ℕ) → x < state.columns → i < state.rows → has_bit state x i ≡ false
unfolding has_bit
none_is_set state count fits is zero x i within below =
    let inside = word_in_rows x i state.rows state.columns state.stride fits within below in
    ap (λ word. is_set word (x % 64)) (zero (i * state.stride + x / 64) (omega arith) (rw is inside)) ∙ ap (λ bit. bit == 1) (bit_at-zero (x % 64))

-- rows of the same size that have other words
abbrev pub with_words : BitRowsState → List ℕ → BitRowsState
with_words state words = record { rows = state.rows; columns = state.columns; stride = state.stride; words = words }

module _ (x i row from to stride : ℕ) (inside : x < 64 * stride) (within : to ≤ 64 * stride) where
  abbrev start : ℕ
  start = 64 * (row * stride)

  abbrev number : ℕ
  number = 64 * (i * stride) + x

  -- the bits of a row lie together
  in_row : (nat_le (start + from) number && nat_lt number (start + to)) ≡ (i == row && (nat_le from x && nat_lt x to))
  in_row = elim (cases_order i row) [
    | inl same ↦
        let there : (i == row) ≡ true = eq-eqb i row same in
        let base : i * stride ≡ row * stride = ap (λ k. k * stride) same in
        rw (there, base) (grind (arith, nat_tests))
    | inr (inl above) ↦
        let apart : (i == row) ≡ false = ne_eqb i row (omega arith) in
        let next = row_after i row stride above in
        rw apart (and_left (nat_le (start + from) number) (nat_lt number (start + to)) (lt-leb (start + from) number (omega (arith, next))))
    | inr (inr below) ↦
        let apart : (i == row) ≡ false = ne_eqb i row (omega arith) in
        let next = row_after row i stride below in
        rw apart (and_right (nat_le (start + from) number) (nat_lt number (start + to)) (le-ltb number (start + to) (omega (arith, next))))
  ]

-- the bits of a row are set
pub row_is_set : (old : BitRowsState) (given new : List ℕ) (row from to first : ℕ) → old.columns ≤ 64 * old.stride → to ≤ old.columns → given ≡ old.words → first ≡ 64 * (row * old.stride)
    → ((n : ℕ) → word_bit new n ≡ (word_bit given n || (nat_le (first + from) n && nat_lt n (first + to))))
    → SetsBits row from to old (with_words old new)
row_is_set old given new row from to first fits within is at bits x i inside below =
    let n = 64 * (i * old.stride) + x in
    numbered (with_words old new) x i
    ∙ bits n
    ∙ ap (λ (words : List ℕ). word_bit words n || (nat_le (first + from) n && nat_lt n (first + to))) is
    ∙ ap (λ k. word_bit old.words n || (nat_le (k + from) n && nat_lt n (k + to))) at
    ∙ ap (λ t. word_bit old.words n || t) (in_row x i row from to old.stride (omega arith) (omega arith))
    ∙ ap (λ t. t || (i == row && (nat_le from x && nat_lt x to))) (sym (numbered old x i))

-- the bits of a row are cleared
pub row_is_cleared : (old : BitRowsState) (given new : List ℕ) (row from to first : ℕ) → old.columns ≤ 64 * old.stride → to ≤ old.columns → given ≡ old.words → first ≡ 64 * (row * old.stride)
    → ((n : ℕ) → word_bit new n ≡ (word_bit given n && not (nat_le (first + from) n && nat_lt n (first + to))))
    → ClearsBits row from to old (with_words old new)
row_is_cleared old given new row from to first fits within is at bits x i inside below =
    let n = 64 * (i * old.stride) + x in
    numbered (with_words old new) x i
    ∙ bits n
    ∙ ap (λ (words : List ℕ). word_bit words n && not (nat_le (first + from) n && nat_lt n (first + to))) is
    ∙ ap (λ k. word_bit old.words n && not (nat_le (k + from) n && nat_lt n (k + to))) at
    ∙ ap (λ t. word_bit old.words n && not t) (in_row x i row from to old.stride (omega arith) (omega arith))
    ∙ ap (λ t. t && not (i == row && (nat_le from x && nat_lt x to))) (sym (numbered old x i))

-- of two rows the words lie apart
pub rows_are_apart : (row other stride : ℕ) → other * stride < row * stride → other * stride + stride ≤ row * stride
rows_are_apart row other stride h = elim (cases_order other row) [
  | inl same ↦ let e : other * stride ≡ row * stride = ap (λ k. k * stride) same in absurd (omega arith)
  | inr (inl above) ↦ row_after other row stride above
  | inr (inr below) ↦ let next = row_after row other stride below in absurd (omega (arith, next))
]

-- the bits of a row stay that are set in another row
pub row_is_common : (old : BitRowsState) (given new : List ℕ) (row other : ℕ) → old.columns ≤ 64 * old.stride → given ≡ old.words
    → ((k : ℕ) → k < old.stride → slice_index new (row * old.stride + k) ≡ in_both given (row * old.stride + k) (other * old.stride + k))
    → ((k : ℕ) → k < row * old.stride → slice_index new k ≡ slice_index given k)
    → ((k : ℕ) → row * old.stride + old.stride ≤ k → slice_index new k ≡ slice_index given k)
    → KeepsCommon row other old (with_words old new)
unfolding has_bit
row_is_common old given new row other fits is common before after = record {
  common = λ x inside.
      let own = row * old.stride + x / 64 in
      let others = other * old.stride + x / 64 in
      ap (λ word. is_set word (x % 64)) (common (x / 64) (omega arith))
      ∙ set_in_and (slice_index given own) (slice_index given others) (x % 64)
      ∙ ap (λ (words : List ℕ). is_set (slice_index words own) (x % 64) && is_set (slice_index words others) (x % 64)) is;
  others = λ x i inside below apart.
      let at = i * old.stride + x / 64 in
      let same : slice_index new at ≡ slice_index given at = elim (cases_order i row) [
        | inl equal ↦ absurd (apart equal)
        | inr (inl above) ↦ let next = row_after i row old.stride above in before at (omega (arith, next))
        | inr (inr beyond) ↦ let next = row_after row i old.stride beyond in after at (omega (arith, next))
      ] in
      ap (λ word. is_set word (x % 64)) same ∙ ap (λ (words : List ℕ). is_set (slice_index words at) (x % 64)) is;
}

-- rows further on lie further on
pub rows_are_there : (rows distance all stride : ℕ) → rows + distance ≤ all → rows * stride + distance * stride ≤ all * stride
rows_are_there rows distance all stride h = let most = mul-le (rows + distance) stride all stride h (omega arith) in omega (arith, most)

-- rows are joined to others
pub rows_are_joined : (old : BitRowsState) (given new : List ℕ) (rows distance : ℕ) → old.columns ≤ 64 * old.stride → given ≡ old.words
    → ((k : ℕ) → k < rows * old.stride → slice_index new k ≡ joined_word given (distance * old.stride) k)
    → ((k : ℕ) → rows * old.stride ≤ k → slice_index new k ≡ slice_index given k)
    → JoinsRows rows distance old (with_words old new)
unfolding has_bit
rows_are_joined old given new rows distance fits is joined others = record {
  joined = λ x i inside below.
      let at = i * old.stride + x / 64 in
      let ahead : at + distance * old.stride ≡ (i + distance) * old.stride + x / 64 = omega arith in
      ap (λ word. is_set word (x % 64)) (joined at (word_in_rows x i rows old.columns old.stride fits inside below))
      ∙ set_in_or (slice_index given at) (slice_index given (at + distance * old.stride)) (x % 64)
      ∙ ap (λ k. is_set (slice_index given at) (x % 64) || is_set (slice_index given k) (x % 64)) ahead
      ∙ ap (λ (words : List ℕ). is_set (slice_index words at) (x % 64) || is_set (slice_index words ((i + distance) * old.stride + x / 64)) (x % 64)) is;
  others = λ x i inside above.
      let at = i * old.stride + x / 64 in
      let least = mul-le rows old.stride i old.stride above (omega arith) in
      ap (λ word. is_set word (x % 64)) (others at (omega (arith, least))) ∙ ap (λ (words : List ℕ). is_set (slice_index words at) (x % 64)) is;
}

-- the next bit in all words is the next of the row
pub next_in_row : (state : BitRowsState) (given : List ℕ) (bit : Bool) (row from to first n : ℕ) → given ≡ state.words → first ≡ 64 * (row * state.stride)
    → IsNextBit given bit (first + from) (first + to) n → IsNext state bit row from to (n - first)
next_in_row state given bit row from to first n is at next =
    let low = next.low in
    let high = next.high in
    let bit_at_column = λ (x : ℕ). numbered state x row ∙ ap (λ k. word_bit state.words (k + x)) (sym at) ∙ ap (λ (words : List ℕ). word_bit words (first + x)) (sym is) in
    record {
      low = omega arith;
      high = omega arith;
      none_before = λ a above below. bit_at_column a ∙ next.none_before (first + a) (omega arith) (omega arith);
      found = λ within.
          let same : first + (n - first) ≡ n = omega arith in
          bit_at_column (n - first) ∙ ap (λ k. word_bit given k) same ∙ next.found (omega arith);
    }

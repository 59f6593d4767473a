-- Runs of up to 64 bits, set in one word or in two.
use Rattle.std.proofs.Common.{◌≡◌, ℕ, ◌+◌, ◌-◌, ◌*◌, ◌/◌, ◌%◌, ◌^◌, ◌<◌, ◌≤◌, ◌&&◌, ◌||◌, ◌==◌, inl, inr, nat_le, nat_lt, List, length, bit_or, slice_index_or, slice_set, arith, ap, sym, ◌∙◌}
use Rattle.std.proofs.lemmas.Bool.{and_left, cases_lt, le-leb, le-ltb, lt-leb, lt-ltb}
use Rattle.std.proofs.lemmas.Bool.Decides.{nat_tests}
use Rattle.std.proofs.lemmas.Nat.{div-add-mod', pow_pos}
use Rattle.std.proofs.lemmas.Nat.Bits.{bit_at-zero, bit_at_cat_high, bit_at_cat_low, bit_at_ones, bit_at_ones_above, ones_shr}
use Rattle.std.proofs.Math.Bool.{or_assoc}
use Rattle.std.proofs.Math.ListN.{length-set}
use Rattle.span_fill.specs.BitWords.{word_bit}
use Rattle.span_fill.proofs.BitWordLemmas.{is_set, word_joined}

-- the first bits of a word
set_in_ones : (count bit : ℕ) → is_set (2 ^ count - 1) bit ≡ nat_lt bit count
set_in_ones count bit = elim (cases_lt bit count) [
  | inl below ↦ ap (λ n. n == 1) (bit_at_ones count bit below) ∙ sym (lt-ltb bit count below)
  | inr above ↦ ap (λ n. n == 1) (bit_at_ones_above count bit above) ∙ sym (le-ltb bit count above)
]

-- the bits of a word, moved up
set_in_moved : (word by bit : ℕ) → is_set (word * 2 ^ by) bit ≡ (nat_le by bit && is_set word (bit - by))
set_in_moved word by bit =
    let all = word * 2 ^ by in
    let same : all ≡ all + 0 = omega arith in
    elim (cases_lt bit by) [
      | inl below ↦
          ap (λ n. is_set n bit) same
          ∙ ap (λ n. n == 1) (bit_at_cat_low word by 0 bit below ∙ bit_at-zero bit)
          ∙ sym (and_left (nat_le by bit) (is_set word (bit - by)) (lt-leb by bit below))
      | inr there ↦
          ap (λ n. is_set n bit) same
          ∙ ap (λ n. n == 1) (bit_at_cat_high word by 0 bit (pow_pos by) there)
          ∙ ap (λ t. t && is_set word (bit - by)) (sym (le-leb by bit there))
    ]

-- the bits of a number that are those of a word
set_in_low : (number bit : ℕ) → bit < 64 → is_set (number % 18446744073709551616) bit ≡ is_set number bit
set_in_low number bit within =
    sym (ap (λ n. n == 1) (bit_at_cat_low (number / 18446744073709551616) 64 (number % 18446744073709551616) bit within))
    ∙ ap (λ n. is_set n bit) (div-add-mod' number 18446744073709551616)

-- a run of ones, from the first bit on
ones_are : (count : ℕ) → count ≤ 64 → 18446744073709551615 / 2 ^ (64 - count) ≡ 2 ^ count - 1
ones_are count limit =
    let width : 64 - (64 - count) ≡ count = omega arith in
    ones_shr 64 (64 - count) (omega arith) ∙ ap (λ n. 2 ^ n - 1) width

-- the part of a run in its first word, and what is left for the next one
abbrev pub first_part : ℕ → ℕ → ℕ
first_part from count = 18446744073709551615 / 2 ^ (64 - count) * 2 ^ from % 18446744073709551616

abbrev pub second_part : ℕ → ℕ → ℕ
second_part from count = 18446744073709551615 / 2 ^ (64 - count) / 2 ^ (64 - from)

moved_below : (from count bit : ℕ) → (nat_le from bit && nat_lt (bit - from) count) ≡ (nat_le from bit && nat_lt bit (from + count))
moved_below from count bit = grind (arith, nat_tests)

set_in_first : (from count bit : ℕ) → count ≤ 64 → bit < 64 → is_set (first_part from count) bit ≡ (nat_le from bit && nat_lt bit (from + count))
set_in_first from count bit limit within =
    set_in_low (18446744073709551615 / 2 ^ (64 - count) * 2 ^ from) bit within
    ∙ set_in_moved (18446744073709551615 / 2 ^ (64 - count)) from bit
    ∙ ap (λ n. nat_le from bit && is_set n (bit - from)) (ones_are count limit)
    ∙ ap (λ t. nat_le from bit && t) (set_in_ones count (bit - from))
    ∙ moved_below from count bit

set_in_second : (from count bit : ℕ) → count ≤ 64 → 64 < from + count → from < 64 → is_set (second_part from count) bit ≡ nat_lt bit (from + count - 64)
set_in_second from count bit limit more within =
    let width : count - (64 - from) ≡ from + count - 64 = omega arith in
    ap (λ n. is_set (n / 2 ^ (64 - from)) bit) (ones_are count limit)
    ∙ ap (λ n. is_set n bit) (ones_shr count (64 - from) (omega arith) ∙ ap (λ n. 2 ^ n - 1) width)
    ∙ set_in_ones (from + count - 64) bit

in_one_word : (from count n : ℕ) → from % 64 + count ≤ 64 → (n / 64 == from / 64 && (nat_le (from % 64) (n % 64) && nat_lt (n % 64) (from % 64 + count))) ≡ (nat_le from n && nat_lt n (from + count))
in_one_word from count n fits = grind (arith, nat_tests)

in_two_words : (from count n : ℕ) → count ≤ 64 → 64 < from % 64 + count
    → ((n / 64 == from / 64 && (nat_le (from % 64) (n % 64) && nat_lt (n % 64) (from % 64 + count))) || (n / 64 == from / 64 + 1 && nat_lt (n % 64) (from % 64 + count - 64))) ≡ (nat_le from n && nat_lt n (from + count))
in_two_words from count n limit more = grind (arith, nat_tests)

module _ (words : List ℕ) (from count n : ℕ) (some : 1 ≤ count) (limit : count ≤ 64) (within : from + count ≤ 64 * length words) where
  abbrev started : List ℕ
  started = slice_set words (from / 64) (bit_or (slice_index_or words (from / 64) 0) (first_part (from % 64) count))

  set_in_started : word_bit started n ≡ (word_bit words n || (n / 64 == from / 64 && (nat_le (from % 64) (n % 64) && nat_lt (n % 64) (from % 64 + count))))
  set_in_started =
      word_joined words (from / 64) (first_part (from % 64) count) n (omega arith)
      ∙ ap (λ t. word_bit words n || (n / 64 == from / 64 && t)) (set_in_first (from % 64) count (n % 64) limit (omega arith))

  pub run_in_one_word : from % 64 + count ≤ 64 → word_bit started n ≡ (word_bit words n || (nat_le from n && nat_lt n (from + count)))
  run_in_one_word fits = set_in_started ∙ ap (λ t. word_bit words n || t) (in_one_word from count n fits)

  pub run_in_two_words : 64 < from % 64 + count
      → word_bit (slice_set started (from / 64 + 1) (bit_or (slice_index_or started (from / 64 + 1) 0) (second_part (from % 64) count))) n ≡ (word_bit words n || (nat_le from n && nat_lt n (from + count)))
  run_in_two_words more =
      let first = n / 64 == from / 64 && (nat_le (from % 64) (n % 64) && nat_lt (n % 64) (from % 64 + count)) in
      let second = n / 64 == from / 64 + 1 && nat_lt (n % 64) (from % 64 + count - 64) in
      word_joined started (from / 64 + 1) (second_part (from % 64) count) n (omega (arith, length-set {A = ℕ}))
      ∙ ap (λ t. word_bit started n || (n / 64 == from / 64 + 1 && t)) (set_in_second (from % 64) count (n % 64) limit more (omega arith))
      ∙ ap (λ t. t || second) set_in_started
      ∙ or_assoc (word_bit words n) first second
      ∙ ap (λ t. word_bit words n || t) (in_two_words from count n limit more)

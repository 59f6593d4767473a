-- Bits of words: masks that set several at once, and the first that is set.
use Rattle.std.proofs.Common.{◌≡◌, ℕ, ◌+◌, ◌-◌, ◌*◌, ◌/◌, ◌%◌, ◌^◌, ◌<◌, ◌≤◌, ◌≢◌, Bool, true, false, ◌&&◌, ◌||◌, ◌==◌, not, inl, inr, nat_le, nat_lt, List, length, bit_and, bit_or, cond, max, min, slice_index_or, slice_set, arith, ap, sym, ◌∙◌}
use Rattle.std.specs.Int.{w64, bit_at, bit_not, trailing_zeros}
use Rattle.std.proofs.lemmas.Bool.{and_from, cases_eq, cases_lt, eq-eqb, le-leb, lt-leb, ne_eqb, or_right}
use Rattle.std.proofs.lemmas.Bool.Decides.{nat_tests}
use Rattle.std.proofs.lemmas.List.{get_or-set_other, get_or-set_same}
use Rattle.std.proofs.lemmas.Nat.{shr-shr, shr_le}
use Rattle.std.proofs.lemmas.Nat.Bits.{bit_at-lt, bit_at-trailing_zeros, bit_at-zero, bit_at_above, bit_at_and, bit_at_mask_below, bit_at_mask_inside, bit_at_not, bit_at_ones, bit_at_ones_above, bit_at_or, ones_shl, ones_shr}
use Rattle.std.proofs.Math.Bool.{or-false}
use Rattle.span_fill.specs.BitWords.{IsNextBit, word_bit}

-- a bit, as a test
abbrev pub is_set : ℕ → ℕ → Bool
is_set word bit = bit_at word bit == 1

either : (p q : ℕ) → p < 2 → q < 2 → (max p q == 1) ≡ (p == 1 || q == 1)
either p q h k = grind (arith, nat_tests)

both : (p q : ℕ) → p < 2 → q < 2 → (min p q == 1) ≡ (p == 1 && q == 1)
both p q h k = grind (arith, nat_tests)

pub set_in_or : (a b bit : ℕ) → is_set (bit_or a b) bit ≡ (is_set a bit || is_set b bit)
set_in_or a b bit = ap (λ n. n == 1) (bit_at_or a b bit) ∙ either (bit_at a bit) (bit_at b bit) (bit_at-lt a bit) (bit_at-lt b bit)

pub set_in_and : (a b bit : ℕ) → is_set (bit_and a b) bit ≡ (is_set a bit && is_set b bit)
set_in_and a b bit = ap (λ n. n == 1) (bit_at_and a b bit) ∙ both (bit_at a bit) (bit_at b bit) (bit_at-lt a bit) (bit_at-lt b bit)

-- the bits from one on
abbrev pub head_mask : ℕ → ℕ
head_mask from = 18446744073709551615 * 2 ^ from % 18446744073709551616

-- the bits up to one
abbrev pub tail_mask : ℕ → ℕ
tail_mask last = 18446744073709551615 / 2 ^ (63 - last)

pub set_in_head : (from bit : ℕ) → from < 64 → bit < 64 → is_set (head_mask from) bit ≡ nat_le from bit
set_in_head from bit h k = elim (cases_lt bit from) [
  | inl below ↦
      ap (λ n. is_set n bit) (ones_shl 64 from (omega arith)) ∙ ap (λ n. n == 1) (bit_at_mask_below from 64 bit below) ∙ sym (lt-leb from bit below)
  | inr there ↦
      ap (λ n. is_set n bit) (ones_shl 64 from (omega arith)) ∙ ap (λ n. n == 1) (bit_at_mask_inside from 64 bit there k) ∙ sym (le-leb from bit there)
]

pub set_in_tail : (last bit : ℕ) → last < 64 → is_set (tail_mask last) bit ≡ nat_le bit last
set_in_tail last bit h =
    let width : 64 - (63 - last) ≡ last + 1 = omega arith in
    let mask = ones_shr 64 (63 - last) (omega arith) ∙ ap (λ n. 2 ^ n - 1) width in
    elim (cases_lt last bit) [
      | inl above ↦ ap (λ n. is_set n bit) mask ∙ ap (λ n. n == 1) (bit_at_ones_above (last + 1) bit (omega arith)) ∙ sym (lt-leb bit last above)
      | inr there ↦ ap (λ n. is_set n bit) mask ∙ ap (λ n. n == 1) (bit_at_ones (last + 1) bit (omega arith)) ∙ sym (le-leb bit last there)
    ]

-- a word to which a mask is joined
pub word_joined : (words : List ℕ) (at mask n : ℕ) → at < length words → word_bit (slice_set words at (bit_or (slice_index_or words at 0) mask)) n ≡ (word_bit words n || (n / 64 == at && is_set mask (n % 64)))
unfolding word_bit
word_joined words at mask n within = elim (cases_eq (n / 64) at) [
  | inl same ↦
      let joined = bit_or (slice_index_or words at 0) mask in
      let there : (n / 64 == at) ≡ true = eq-eqb (n / 64) at same in
      rw there
      (ap (λ k. is_set (slice_index_or (slice_set words at joined) k 0) (n % 64)) same
      ∙ ap (λ word. is_set word (n % 64)) (get_or-set_same words at joined 0 within)
      ∙ set_in_or (slice_index_or words at 0) mask (n % 64)
      ∙ ap (λ k. is_set (slice_index_or words k 0) (n % 64) || is_set mask (n % 64)) (sym same))
  | inr apart ↦
      let joined = bit_or (slice_index_or words at 0) mask in
      let not_there : (n / 64 == at) ≡ false = ne_eqb (n / 64) at apart in
      rw not_there
      (ap (λ word. is_set word (n % 64)) (get_or-set_other words at (n / 64) joined 0 apart)
      ∙ sym (or-false (is_set (slice_index_or words (n / 64) 0) (n % 64))))
]

-- the bits of one word
pub within_word : (from last n : ℕ) → from / 64 ≡ last / 64 → (n / 64 == from / 64 && (nat_le (from % 64) (n % 64) && nat_le (n % 64) (last % 64))) ≡ (nat_le from n && nat_le n last)
within_word from last n same = grind (arith, nat_tests)

pub first_word : (from last n : ℕ) → from / 64 < last / 64 → n / 64 ≤ from / 64 → (n / 64 == from / 64 && nat_le (from % 64) (n % 64)) ≡ (nat_le from n && nat_le n last)
first_word from last n apart below = grind (arith, nat_tests)

pub last_word : (from last n : ℕ) → from / 64 < last / 64 → last / 64 ≤ n / 64 → (n / 64 == last / 64 && nat_le (n % 64) (last % 64)) ≡ (nat_le from n && nat_le n last)
last_word from last n apart above = grind (arith, nat_tests)

module _ (words : List ℕ) (from last n : ℕ) (order : from ≤ last) (within : last < 64 * length words) where
  -- the bits from one of a word to another
  abbrev pub mask : ℕ
  mask = bit_and (head_mask (from % 64)) (tail_mask (last % 64))

  pub set_in_mask : is_set mask (n % 64) ≡ (nat_le (from % 64) (n % 64) && nat_le (n % 64) (last % 64))
  set_in_mask =
      set_in_and (head_mask (from % 64)) (tail_mask (last % 64)) (n % 64)
      ∙ ap (λ t. t && is_set (tail_mask (last % 64)) (n % 64)) (set_in_head (from % 64) (n % 64) (omega arith) (omega arith))
      ∙ ap (λ t. nat_le (from % 64) (n % 64) && t) (set_in_tail (last % 64) (n % 64) (omega arith))

  -- bits of one word
  pub one_word : from / 64 ≡ last / 64 → word_bit (slice_set words (from / 64) (bit_or (slice_index_or words (from / 64) 0) mask)) n ≡ (word_bit words n || (nat_le from n && nat_le n last))
  one_word same =
      word_joined words (from / 64) mask n (omega arith)
      ∙ ap (λ t. word_bit words n || (n / 64 == from / 64 && t)) set_in_mask
      ∙ ap (λ t. word_bit words n || t) (within_word from last n same)

  abbrev headed : List ℕ
  headed = slice_set words (from / 64) (bit_or (slice_index_or words (from / 64) 0) (head_mask (from % 64)))

  set_in_headed : word_bit headed n ≡ (word_bit words n || (n / 64 == from / 64 && nat_le (from % 64) (n % 64)))
  set_in_headed =
      word_joined words (from / 64) (head_mask (from % 64)) n (omega arith)
      ∙ ap (λ t. word_bit words n || (n / 64 == from / 64 && t)) (set_in_head (from % 64) (n % 64) (omega arith) (omega arith))

  module _ (apart : from / 64 < last / 64) (filled : List ℕ) (long : length filled ≡ length words) where
    abbrev tailed : List ℕ
    tailed = slice_set filled (last / 64) (bit_or (slice_index_or filled (last / 64) 0) (tail_mask (last % 64)))

    set_in_tailed : word_bit tailed n ≡ (word_bit filled n || (n / 64 == last / 64 && nat_le (n % 64) (last % 64)))
    set_in_tailed =
        word_joined filled (last / 64) (tail_mask (last % 64)) n (omega arith)
        ∙ ap (λ t. word_bit filled n || (n / 64 == last / 64 && t)) (set_in_tail (last % 64) (n % 64) (omega arith))

    same_word : slice_index_or filled (n / 64) 0 ≡ slice_index_or headed (n / 64) 0 → word_bit filled n ≡ word_bit headed n
    unfolding word_bit
    same_word e = ap (λ word. is_set word (n % 64)) e

    in_first : n / 64 ≤ from / 64 → slice_index_or filled (n / 64) 0 ≡ slice_index_or headed (n / 64) 0 → word_bit tailed n ≡ (word_bit words n || (nat_le from n && nat_le n last))
    in_first below e =
        let no : (n / 64 == last / 64) ≡ false = ne_eqb _ _ (omega arith) in
        set_in_tailed
        ∙ ap (λ t. word_bit filled n || (t && nat_le (n % 64) (last % 64))) no
        ∙ or-false (word_bit filled n)
        ∙ same_word e ∙ set_in_headed
        ∙ ap (λ t. word_bit words n || t) (first_word from last n apart below)

    in_last : last / 64 ≤ n / 64 → slice_index_or filled (n / 64) 0 ≡ slice_index_or headed (n / 64) 0 → word_bit tailed n ≡ (word_bit words n || (nat_le from n && nat_le n last))
    in_last above e =
        let no : (n / 64 == from / 64) ≡ false = ne_eqb _ _ (omega arith) in
        let kept = same_word e ∙ set_in_headed ∙ ap (λ t. word_bit words n || (t && nat_le (from % 64) (n % 64))) no ∙ or-false (word_bit words n) in
        set_in_tailed ∙ ap (λ t. t || (n / 64 == last / 64 && nat_le (n % 64) (last % 64))) kept
        ∙ ap (λ t. word_bit words n || t) (last_word from last n apart above)

    full_word : slice_index_or filled (n / 64) 0 ≡ 18446744073709551615 → word_bit filled n ≡ true
    unfolding word_bit
    full_word e = ap (λ word. is_set word (n % 64)) e ∙ ap (λ bit. bit == 1) (bit_at_ones 64 (n % 64) (omega arith))

    in_between : from / 64 < n / 64 → n / 64 < last / 64 → slice_index_or filled (n / 64) 0 ≡ 18446744073709551615 → word_bit tailed n ≡ (word_bit words n || (nat_le from n && nat_le n last))
    in_between above below e =
        let there : (nat_le from n && nat_le n last) ≡ true = and_from _ _ (le-leb from n (omega arith)) (le-leb n last (omega arith)) in
        set_in_tailed
        ∙ ap (λ t. t || (n / 64 == last / 64 && nat_le (n % 64) (last % 64))) (full_word e)
        ∙ sym (or_right (word_bit words n) (nat_le from n && nat_le n last) there)

    -- bits of several
    pub several_words : ((k : ℕ) → k < from / 64 + 1 → slice_index_or filled k 0 ≡ slice_index_or headed k 0)
        → ((k : ℕ) → from / 64 + 1 ≤ k → k < last / 64 → slice_index_or filled k 0 ≡ 18446744073709551615)
        → ((k : ℕ) → last / 64 ≤ k → slice_index_or filled k 0 ≡ slice_index_or headed k 0)
        → word_bit tailed n ≡ (word_bit words n || (nat_le from n && nat_le n last))
    several_words first between after = elim (cases_lt (from / 64) (n / 64)) [
      | inr low ↦ in_first low (first (n / 64) (omega arith))
      | inl above ↦ elim (cases_lt (n / 64) (last / 64)) [
        | inl below ↦ in_between above below (between (n / 64) (omega arith) below)
        | inr high ↦ in_last high (after (n / 64) high)
      ]
    ]

-- up to before a number
pub before_end : (n to : ℕ) → 0 < to → nat_le n (to - 1) ≡ nat_lt n to
before_end n to h = grind (arith, nat_tests)

-- the word whose bits are set where those of a word are the bit that is looked for
abbrev pub wanted_bits : Bool → ℕ → ℕ
wanted_bits bit word = cond bit word (bit_not w64 word)

wanted_set : (bit : Bool) (word k : ℕ) → word < 2 ^ 64 → k < 64 → bit_at (wanted_bits bit word) k ≡ 1 → is_set word k ≡ bit
wanted_set true word k fits within e = ap (λ n. n == 1) e
wanted_set false word k fits within e =
    let p : bit_at word k ≡ 0 = omega (arith, bit_at_not w64 word k fits within, e, bit_at-lt word k) in
    ap (λ n. n == 1) p

wanted_clear : (bit : Bool) (word k : ℕ) → word < 2 ^ 64 → k < 64 → bit_at (wanted_bits bit word) k ≡ 0 → is_set word k ≡ not bit
wanted_clear true word k fits within e = ap (λ n. n == 1) e
wanted_clear false word k fits within e =
    let p : bit_at word k ≡ 1 = omega (arith, bit_at_not w64 word k fits within, e, bit_at-lt word k) in
    ap (λ n. n == 1) p

wanted_fits : (bit : Bool) (word : ℕ) → word < 2 ^ 64 → wanted_bits bit word < 2 ^ 64
wanted_fits true word fits = fits
wanted_fits false word fits = omega arith

-- what is left of a word's bits from one of them on
rest_bit : (word from k : ℕ) → bit_at (word / 2 ^ from) k ≡ bit_at word (from + k)
rest_bit word from k = ap (λ n. n % 2) (shr-shr word from k)

module _ (words : List ℕ) (bit : Bool) (at found : ℕ) (fits : slice_index_or words (at / 64) 0 < 2 ^ 64) (is : found ≡ wanted_bits bit (slice_index_or words (at / 64) 0)) where
  abbrev rest : ℕ
  rest = found / 2 ^ (at % 64)

  found_fits : found < 2 ^ 64
  found_fits = rw is (wanted_fits bit (slice_index_or words (at / 64) 0) fits)

  in_found : (k n : ℕ) → bit_at rest k ≡ n → bit_at (wanted_bits bit (slice_index_or words (at / 64) 0)) (at % 64 + k) ≡ n
  in_found k n e = ap (λ word. bit_at word (at % 64 + k)) (sym is) ∙ sym (rest_bit found (at % 64) k) ∙ e

  -- the number of a bit of the same word
  in_word : (k : ℕ) → at % 64 + k < 64 → ((at + k) / 64 ≡ at / 64) × ((at + k) % 64 ≡ at % 64 + k)
  in_word k h = (omega arith, omega arith)

  is_wanted : (k : ℕ) → at % 64 + k < 64 → bit_at rest k ≡ 1 → word_bit words (at + k) ≡ bit
  unfolding word_bit
  is_wanted k h e =
      let place = in_word k h in rw (place.0, place.1) (wanted_set bit (slice_index_or words (at / 64) 0) (at % 64 + k) fits h (in_found k 1 e))

  is_other : (k : ℕ) → at % 64 + k < 64 → bit_at rest k ≡ 0 → word_bit words (at + k) ≡ not bit
  unfolding word_bit
  is_other k h e =
      let place = in_word k h in rw (place.0, place.1) (wanted_clear bit (slice_index_or words (at / 64) 0) (at % 64 + k) fits h (in_found k 0 e))

  -- where nothing is left, none is there up to the word's end
  pub none_in_rest : rest ≡ 0 → (m : ℕ) → at ≤ m → m < at + (64 - at % 64) → word_bit words m ≡ not bit
  none_in_rest e m low high =
      let same : at + (m - at) ≡ m = omega arith in
      ap (λ n. word_bit words n) (sym same) ∙ is_other (m - at) (omega arith) (ap (λ n. bit_at n (m - at)) e ∙ bit_at-zero (m - at))

  module _ (some : rest ≢ 0) where
    abbrev count : ℕ
    count = trailing_zeros w64 rest

    abbrev lowest : (count < 64) × (bit_at rest count ≡ 1) × ((k : ℕ) → k < count → bit_at rest k ≡ 0)
    lowest = bit_at-trailing_zeros w64 rest (omega arith) (omega (arith, found_fits, shr_le found (at % 64)))

    first_in_word : at % 64 + count < 64
    first_in_word = elim (cases_lt (at % 64 + count) 64) [
      | inl within ↦ within
      | inr beyond ↦ let none = bit_at_above found 64 (at % 64 + count) found_fits beyond in absurd (omega (arith, sym lowest.1 ∙ rest_bit found (at % 64) count ∙ none))
    ]

    pub count_is_small : count < 64
    count_is_small = omega (arith, first_in_word)

    -- else the first is where the zeros end
    pub first_in_rest : (from to n : ℕ) → from ≤ at → at < to → ((m : ℕ) → from ≤ m → m < at → m < to → word_bit words m ≡ not bit) → n ≡ min to (at + count) → IsNextBit words bit from to n
    first_in_rest from to n low more before e = record {
      low = omega arith;
      high = omega arith;
      none_before = λ m above below.
          elim (cases_lt m at) [
            | inl passed ↦ before m above passed (omega arith)
            | inr there ↦
                let same : at + (m - at) ≡ m = omega arith in
                ap (λ k. word_bit words k) (sym same) ∙ is_other (m - at) (omega (arith, first_in_word)) (lowest.2 (m - at) (omega arith))
          ];
      found = λ within. let same : n ≡ at + count = omega arith in ap (λ k. word_bit words k) same ∙ is_wanted count first_in_word lowest.1;
    }

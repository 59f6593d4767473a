-- Bits of words that are cleared by masks.
use Rattle.std.proofs.Common.{◌≡◌, ℕ, ◌+◌, ◌-◌, ◌*◌, ◌/◌, ◌%◌, ◌<◌, ◌≤◌, Bool, true, false, ◌&&◌, ◌==◌, not, inl, inr, nat_le, List, length, bit_and, slice_index_or, slice_set, arith, refl, ap, sym, ◌∙◌}
use Rattle.std.specs.Int.{w64, bit_at}
use Rattle.std.proofs.lemmas.Bool.{and_from, and_right, cases_eq, cases_lt, eq-eqb, le-leb, ne_eqb}
use Rattle.std.proofs.lemmas.Bool.Decides.{nat_tests}
use Rattle.std.proofs.lemmas.List.{get_or-set_other, get_or-set_same}
use Rattle.std.proofs.lemmas.Nat.{and_le_l, shr_le}
use Rattle.std.proofs.lemmas.Nat.Bits.{bit_at-lt, bit_at-zero, bit_at_not}
use Rattle.span_fill.specs.BitWords.{word_bit}
use Rattle.span_fill.proofs.BitWordLemmas.{first_word, head_mask, is_set, last_word, mask, set_in_and, set_in_head, set_in_mask, set_in_tail, tail_mask, within_word}

and_no : (t : Bool) → (t && not false) ≡ t
and_no true = refl
and_no false = refl

other_bit : (p : ℕ) → p < 2 → (1 - p == 1) ≡ not (p == 1)
other_bit p h = grind (arith, nat_tests)

-- a bit of a word, and not of a mask
set_in_rest : (word mask bit : ℕ) → mask < 18446744073709551616 → bit < 64 → is_set (bit_and word (18446744073709551615 - mask)) bit ≡ (is_set word bit && not (is_set mask bit))
set_in_rest word mask bit fits within =
    set_in_and word (18446744073709551615 - mask) bit
    ∙ ap (λ t. is_set word bit && (t == 1)) (bit_at_not w64 mask bit fits within)
    ∙ ap (λ t. is_set word bit && t) (other_bit (bit_at mask bit) (bit_at-lt mask bit))

-- a word that loses the bits of a mask
pub word_cleared : (words : List ℕ) (at mask n : ℕ) → at < length words → mask < 18446744073709551616 → word_bit (slice_set words at (bit_and (slice_index_or words at 0) (18446744073709551615 - mask))) n ≡ (word_bit words n && not (n / 64 == at && is_set mask (n % 64)))
unfolding word_bit
word_cleared words at mask n within fits = elim (cases_eq (n / 64) at) [
  | inl same ↦
      let rest = bit_and (slice_index_or words at 0) (18446744073709551615 - mask) in
      let there : (n / 64 == at) ≡ true = eq-eqb (n / 64) at same in
      rw there
      (ap (λ k. is_set (slice_index_or (slice_set words at rest) k 0) (n % 64)) same
      ∙ ap (λ word. is_set word (n % 64)) (get_or-set_same words at rest 0 within)
      ∙ set_in_rest (slice_index_or words at 0) mask (n % 64) fits (omega arith)
      ∙ ap (λ k. is_set (slice_index_or words k 0) (n % 64) && not (is_set mask (n % 64))) (sym same))
  | inr apart ↦
      let rest = bit_and (slice_index_or words at 0) (18446744073709551615 - mask) in
      let not_there : (n / 64 == at) ≡ false = ne_eqb (n / 64) at apart in
      rw not_there
      (ap (λ word. is_set word (n % 64)) (get_or-set_other words at (n / 64) rest 0 apart)
      ∙ sym (and_no (is_set (slice_index_or words (n / 64) 0) (n % 64))))
]

head_fits : (from : ℕ) → head_mask from < 18446744073709551616
head_fits from = omega arith

tail_fits : (last : ℕ) → tail_mask last < 18446744073709551616
tail_fits last = let small = shr_le 18446744073709551615 (63 - last) in omega (arith, small)

module _ (words : List ℕ) (from last n : ℕ) (order : from ≤ last) (within : last < 64 * length words) where
  mask_fits : mask words from last n order within < 18446744073709551616
  mask_fits = let small = and_le_l (head_mask (from % 64)) (tail_mask (last % 64)) in omega (arith, small, head_fits (from % 64))

  -- bits of one word
  pub one_word_cleared : from / 64 ≡ last / 64 → word_bit (slice_set words (from / 64) (bit_and (slice_index_or words (from / 64) 0) (18446744073709551615 - mask words from last n order within))) n ≡ (word_bit words n && not (nat_le from n && nat_le n last))
  one_word_cleared same =
      word_cleared words (from / 64) (mask words from last n order within) n (omega arith) mask_fits
      ∙ ap (λ t. word_bit words n && not (n / 64 == from / 64 && t)) (set_in_mask words from last n order within)
      ∙ ap (λ t. word_bit words n && not t) (within_word from last n same)

  abbrev headed : List ℕ
  headed = slice_set words (from / 64) (bit_and (slice_index_or words (from / 64) 0) (18446744073709551615 - head_mask (from % 64)))

  set_in_headed : word_bit headed n ≡ (word_bit words n && not (n / 64 == from / 64 && nat_le (from % 64) (n % 64)))
  set_in_headed =
      word_cleared words (from / 64) (head_mask (from % 64)) n (omega arith) (head_fits (from % 64))
      ∙ ap (λ t. word_bit words n && not (n / 64 == from / 64 && t)) (set_in_head (from % 64) (n % 64) (omega arith) (omega arith))

  module _ (apart : from / 64 < last / 64) (cleared : List ℕ) (long : length cleared ≡ length words) where
    abbrev tailed : List ℕ
    tailed = slice_set cleared (last / 64) (bit_and (slice_index_or cleared (last / 64) 0) (18446744073709551615 - tail_mask (last % 64)))

    set_in_tailed : word_bit tailed n ≡ (word_bit cleared n && not (n / 64 == last / 64 && nat_le (n % 64) (last % 64)))
    set_in_tailed =
        word_cleared cleared (last / 64) (tail_mask (last % 64)) n (omega arith) (tail_fits (last % 64))
        ∙ ap (λ t. word_bit cleared n && not (n / 64 == last / 64 && t)) (set_in_tail (last % 64) (n % 64) (omega arith))

    same_word : slice_index_or cleared (n / 64) 0 ≡ slice_index_or headed (n / 64) 0 → word_bit cleared n ≡ word_bit headed n
    unfolding word_bit
    same_word e = ap (λ word. is_set word (n % 64)) e

    in_first : n / 64 ≤ from / 64 → slice_index_or cleared (n / 64) 0 ≡ slice_index_or headed (n / 64) 0 → word_bit tailed n ≡ (word_bit words n && not (nat_le from n && nat_le n last))
    in_first below e =
        let no : (n / 64 == last / 64) ≡ false = ne_eqb _ _ (omega arith) in
        set_in_tailed
        ∙ ap (λ t. word_bit cleared n && not (t && nat_le (n % 64) (last % 64))) no
        ∙ and_no (word_bit cleared n)
        ∙ same_word e ∙ set_in_headed
        ∙ ap (λ t. word_bit words n && not t) (first_word from last n apart below)

    in_last : last / 64 ≤ n / 64 → slice_index_or cleared (n / 64) 0 ≡ slice_index_or headed (n / 64) 0 → word_bit tailed n ≡ (word_bit words n && not (nat_le from n && nat_le n last))
    in_last above e =
        let no : (n / 64 == from / 64) ≡ false = ne_eqb _ _ (omega arith) in
        let kept = same_word e ∙ set_in_headed ∙ ap (λ t. word_bit words n && not (t && nat_le (from % 64) (n % 64))) no ∙ and_no (word_bit words n) in
        set_in_tailed ∙ ap (λ t. t && not (n / 64 == last / 64 && nat_le (n % 64) (last % 64))) kept
        ∙ ap (λ t. word_bit words n && not t) (last_word from last n apart above)

    empty_word : slice_index_or cleared (n / 64) 0 ≡ 0 → word_bit cleared n ≡ false
    unfolding word_bit
    empty_word e = ap (λ word. is_set word (n % 64)) e ∙ ap (λ bit. bit == 1) (bit_at-zero (n % 64))

    in_between : from / 64 < n / 64 → n / 64 < last / 64 → slice_index_or cleared (n / 64) 0 ≡ 0 → word_bit tailed n ≡ (word_bit words n && not (nat_le from n && nat_le n last))
    in_between above below e =
        let there : (nat_le from n && nat_le n last) ≡ true = and_from _ _ (le-leb from n (omega arith)) (le-leb n last (omega arith)) in
        set_in_tailed
        ∙ ap (λ t. t && not (n / 64 == last / 64 && nat_le (n % 64) (last % 64))) (empty_word e)
        ∙ sym (and_right (word_bit words n) (not (nat_le from n && nat_le n last)) (ap not there))

    -- bits of several
    pub several_words_cleared : ((k : ℕ) → k < from / 64 + 1 → slice_index_or cleared k 0 ≡ slice_index_or headed k 0)
        → ((k : ℕ) → from / 64 + 1 ≤ k → k < last / 64 → slice_index_or cleared k 0 ≡ 0)
        → ((k : ℕ) → last / 64 ≤ k → slice_index_or cleared k 0 ≡ slice_index_or headed k 0)
        → word_bit tailed n ≡ (word_bit words n && not (nat_le from n && nat_le n last))
    several_words_cleared first between after = elim (cases_lt (from / 64) (n / 64)) [
      | inr low ↦ in_first low (first (n / 64) (omega arith))
      | inl above ↦ elim (cases_lt (n / 64) (last / 64)) [
        | inl below ↦ in_between above below (between (n / 64) (omega arith) below)
        | inr high ↦ in_last high (after (n / 64) high)
      ]
    ]

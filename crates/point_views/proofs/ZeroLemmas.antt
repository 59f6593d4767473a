-- Numbers of zeros, and counts behind zeros.
use Rattle.std.proofs.Common.{◌≡◌, ◌≢◌, ℕ, zero, suc, ◌+◌, ◌-◌, ◌*◌, ◌/◌, ◌<◌, ◌≤◌, List, [], ◌∷◌, length, take, drop, get_or, sum, refl, sym, ap, subst, ◌∙◌, inl, inr, arith}
use Rattle.std.proofs.lemmas.Bool.{cases_lt}
use Rattle.std.proofs.lemmas.List.{get_or-drop, length-drop, take_rest}
use Rattle.std.proofs.Math.Nat.{mul-zero}
use Rattle.byteorder.specs.Endian.{little_from, little_number}
use Rattle.point_views.specs.Numbers.{number_size, unsigned_number}
use Rattle.point_views.specs.Counts.{all_counts_in, counts_in}
use Rattle.point_views.specs.PassedOver.{after_zeros}
use Rattle.point_views.proofs.ItemLemmas.{drop_next}
use Rattle.point_views.specs.declared.numbers.NumberWidth.{NumberWidth}
use Rattle.point_views.specs.declared.numbers.NumberWidth.TheVariants.{Short, Long}

-- the number of zeros is 0
number_of_zeros : (n i : ℕ) (bytes : List ℕ) → ((k : ℕ) → k < i + n → get_or bytes k 0 ≡ 0) → little_from i n bytes ≡ 0
number_of_zeros zero i bytes zeros = refl
number_of_zeros (suc n) i bytes zeros =
    let first = zeros i (omega arith) in
    let rest = number_of_zeros n (suc i) bytes (λ k low. zeros k (omega arith)) in
    rw (first, rest) refl

-- and where it is 0 there are zeros
zeros_of_number : (n i : ℕ) (bytes : List ℕ) → little_from i n bytes ≡ 0 → (k : ℕ) → i ≤ k → k < i + n → get_or bytes k 0 ≡ 0
zeros_of_number zero i bytes none k from to = absurd (omega arith)
zeros_of_number (suc n) i bytes none k from to =
    let first : get_or bytes i 0 ≡ 0 = omega arith in
    let rest : little_from (suc i) n bytes ≡ 0 = omega arith in
    elim (cases_lt i k) [
      | inl above ↦ zeros_of_number n (suc i) bytes rest k (omega arith) (omega arith)
      | inr same ↦ let at : k ≡ i = omega arith in rw at first
    ]

-- a word of zeros behind zeros
pub zeros_with_word : (count : ℕ) (bytes : List ℕ) → ((k : ℕ) → k < count → get_or bytes k 0 ≡ 0) → little_number 8 (drop count bytes) ≡ 0 → (k : ℕ) → k < count + 8 → get_or bytes k 0 ≡ 0
zeros_with_word count bytes zeros none k low =
    elim (cases_lt k count) [
      | inl before ↦ zeros k before
      | inr after ↦
          let place : k ≡ count + (k - count) = omega arith in
          rw place (sym (get_or-drop count bytes (k - count) 0) ∙ zeros_of_number 8 0 (drop count bytes) none (k - count) (omega arith) (omega arith))
    ]

-- a count that has a byte above 0 isn't 0
number_above : (n place : ℕ) (bytes : List ℕ) → place < n → get_or bytes place 0 ≢ 0 → little_number n bytes ≢ 0
number_above n place bytes within above none = above (zeros_of_number n 0 bytes none place (omega arith) (omega arith))

-- counts that begin with one that isn't 0 are kept
keeps : (count : ℕ) (counts : List ℕ) → count ≢ 0 → after_zeros (count ∷ counts) ≡ count ∷ counts
keeps zero counts above = absurd (above refl)
keeps (suc n) counts above = refl

-- the counts behind `passed` counts of zeros, of which the next has a byte above 0
counts_after : (width : NumberWidth) (n passed : ℕ) (bytes : List ℕ) → passed ≤ n → ((k : ℕ) → k < number_size width * passed → get_or bytes k 0 ≡ 0) → (passed < n → unsigned_number width (drop (number_size width * passed) bytes) ≢ 0) → after_zeros (counts_in width n bytes) ≡ counts_in width (n - passed) (drop (number_size width * passed) bytes)
counts_after width zero zero bytes within zeros next = refl
counts_after width (suc n) zero bytes within zeros next =
    let all : suc n - 0 ≡ suc n = omega arith in
    let above : unsigned_number width bytes ≢ 0 = rw mul-zero at (next (omega arith)) in
    rw (mul-zero (number_size width), all) (keeps (unsigned_number width bytes) (counts_in width n (drop (number_size width) bytes)) above)
counts_after width zero (suc passed) bytes within zeros next = absurd (omega arith)
counts_after width (suc n) (suc passed) bytes within zeros next =
    let size = number_size width in
    let first : unsigned_number width bytes ≡ 0 = number_of_zeros size 0 bytes (λ k low. zeros k (omega arith)) in
    let others = λ (k : ℕ) (low : k < size * passed). get_or-drop size bytes k 0 ∙ zeros (size + k) (omega arith) in
    let later : passed < n → unsigned_number width (drop (size * passed) (drop size bytes)) ≢ 0 = λ more. rw (drop_next size passed bytes) (next (omega arith)) in
    let rest = counts_after width n passed (drop size bytes) (omega arith) others later in
    let left : suc n - suc passed ≡ n - passed = omega arith in
    rw (first, left, ← drop_next size passed bytes) rest

-- the byte above 0 behind zeros, where the counts before it are dropped
above_after : (start zeros : ℕ) (bytes : List ℕ) → start ≤ zeros → get_or bytes zeros 0 ≢ 0 → get_or (drop start bytes) (zeros - start) 0 ≢ 0
above_after start zeros bytes within above =
    let place : start + (zeros - start) ≡ zeros = omega arith in
    rw (get_or-drop start bytes (zeros - start) 0, place) above

-- so all counts in bytes, behind the counts that lie in the zeros at their front
dropped_zeros : (width : NumberWidth) (count : ℕ) (bytes : List ℕ) → count ≤ length bytes → ((k : ℕ) → k < count → get_or bytes k 0 ≡ 0) → (count < length bytes → get_or bytes count 0 ≢ 0) → all_counts_in width (drop (number_size width * (count / number_size width)) bytes) ≡ after_zeros (all_counts_in width bytes)
dropped_zeros Short count bytes within zeros next =
    let passed = count / 2 in
    let left : length (drop (2 * passed) bytes) / 2 ≡ length bytes / 2 - passed = rw length-drop (omega arith) in
    let above : passed < length bytes / 2 → unsigned_number Short (drop (2 * passed) bytes) ≢ 0 =
    λ more. number_above 2 (count - 2 * passed) (drop (2 * passed) bytes) (omega arith) (above_after (2 * passed) count bytes (omega arith) (next (omega arith))) in
    rw left (sym (counts_after Short (length bytes / 2) passed bytes (omega arith) (λ k low. zeros k (omega arith)) above))
dropped_zeros Long count bytes within zeros next =
    let passed = count / 4 in
    let left : length (drop (4 * passed) bytes) / 4 ≡ length bytes / 4 - passed = rw length-drop (omega arith) in
    let above : passed < length bytes / 4 → unsigned_number Long (drop (4 * passed) bytes) ≢ 0 =
    λ more. number_above 4 (count - 4 * passed) (drop (4 * passed) bytes) (omega arith) (above_after (4 * passed) count bytes (omega arith) (next (omega arith))) in
    rw left (sym (counts_after Long (length bytes / 4) passed bytes (omega arith) (λ k low. zeros k (omega arith)) above))

pub counts_after_zeros : (width : NumberWidth) (count start : ℕ) (bytes : List ℕ) → start ≡ number_size width * (count / number_size width) → count ≤ length bytes → ((k : ℕ) → k < count → get_or bytes k 0 ≡ 0) → (count < length bytes → get_or bytes count 0 ≢ 0) → all_counts_in width (take (length bytes - start) (drop start bytes)) ≡ after_zeros (all_counts_in width bytes)
counts_after_zeros width count start bytes starts within zeros next =
    let after : drop start bytes ≡ drop (number_size width * (count / number_size width)) bytes = ap (λ k. drop k bytes) starts in
    ap (all_counts_in width) (take_rest bytes start ∙ after) ∙ dropped_zeros width count bytes within zeros next

-- Words of which only the bits stay that others have too.
use Rattle.std.proofs.Common.{◌≡◌, ℕ, ◌+◌, ◌<◌, ◌≤◌, inl, inr, List, length, bit_and, slice_index, slice_index_or, slice_set, arith, ap, sym, ◌∙◌}
use Rattle.std.proofs.lemmas.Bool.{cases_eq, cases_lt}
use Rattle.std.proofs.lemmas.List.{get_or-set_other, get_or-set_same}
use Rattle.span_fill.specs.BitWords.{in_both}

-- the first words are done, and the others are what they were
pub record AreCommonSoFar (old new : List ℕ) (from other at : ℕ) : Type 0 where
  pub common : (k : ℕ) → k < at → slice_index new (from + k) ≡ in_both old (from + k) (other + k)
  pub below : (k : ℕ) → k < from → slice_index new k ≡ slice_index old k
  pub above : (k : ℕ) → from + at ≤ k → slice_index new k ≡ slice_index old k

-- one more word
pub common_with_one_more : (old now : List ℕ) (from other at count : ℕ) → AreCommonSoFar old now from other at
    → from + at < length now → at < count → (other < from → other + count ≤ from)
    → AreCommonSoFar old (slice_set now (from + at) (bit_and (slice_index_or now (from + at) 0) (slice_index_or now (other + at) 0))) from other (at + 1)
common_with_one_more old now from other at count so_far within more apart =
    let word = bit_and (slice_index_or now (from + at) 0) (slice_index_or now (other + at) 0) in
    let own = so_far.above (from + at) (omega arith) in
    let others : slice_index_or now (other + at) 0 ≡ slice_index_or old (other + at) 0 = elim (cases_lt other from) [
      | inl before ↦ let ends = apart before in so_far.below (other + at) (omega arith)
      | inr after ↦ so_far.above (other + at) (omega arith)
    ] in
    record {
      common = λ k below.
          elim (cases_eq k at) [
            | inl same ↦
                ap (λ n. slice_index_or (slice_set now (from + at) word) (from + n) 0) same
                ∙ get_or-set_same now (from + at) word 0 within
                ∙ ap (λ w. bit_and w (slice_index_or now (other + at) 0)) own
                ∙ ap (λ w. bit_and (slice_index_or old (from + at) 0) w) others
                ∙ ap (λ n. in_both old (from + n) (other + n)) (sym same)
            | inr passed ↦ get_or-set_other now (from + at) (from + k) word 0 (λ e. passed (omega arith)) ∙ so_far.common k (omega arith)
          ];
      below = λ k before. get_or-set_other now (from + at) k word 0 (λ e. absurd (omega arith)) ∙ so_far.below k before;
      above = λ k after. get_or-set_other now (from + at) k word 0 (λ e. absurd (omega arith)) ∙ so_far.above k (omega arith);
    }

-- Choosing bits by a table.
use Rattle.std.proofs.Common.{◌≡◌, ℕ, zero, suc, ◌+◌, ◌*◌, ◌%◌, ◌<◌, min, ◌∙◌, arith}
use Rattle.std.specs.Int.{bit_at}
use Rattle.std.specs.Int.RustNames.{bit_and, bit_xor}
use Rattle.std.proofs.lemmas.Nat.Bits.{bit_at-lt, bit_at-zero, bit_at_and, bit_at_ones, bit_at_xor}
use Rattle.raster_ops.proofs.BitLemmas.{four}

-- eight times one bit
pub eightfold : (b k : ℕ) → b < 2 → k < 8 → bit_at (b * 255) k ≡ b
eightfold zero k h l = bit_at-zero k
eightfold (suc zero) k h l = bit_at_ones 8 k l
eightfold (suc (suc b)) k h l = absurd (omega arith)

-- what two bits choose of four others
abbrev chosen : (a b c d p s : ℕ) → ℕ
chosen a b c d p s = ((a + min s ((a + b) % 2)) % 2 + min p (((a + c) % 2 + min s (((a + b) % 2 + (c + d) % 2) % 2)) % 2)) % 2

module _ (a b c d : ℕ) (h : a < 2) (i : b < 2) (k : c < 2) (l : d < 2) where
  choose_none : chosen a b c d 0 0 ≡ a
  choose_none = omega arith

  choose_source : chosen a b c d 0 1 ≡ b
  choose_source = omega arith

  choose_pattern : chosen a b c d 1 0 ≡ c
  choose_pattern = omega arith

  choose_both : chosen a b c d 1 1 ≡ d
  choose_both = omega arith

-- of four bytes that are eight times a bit each, two others choose those of a table
module _ (table none source pattern both : ℕ)
    (of_none : (k : ℕ) → k < 8 → bit_at none k ≡ bit_at table 0)
    (of_source : (k : ℕ) → k < 8 → bit_at source k ≡ bit_at table 2)
    (of_pattern : (k : ℕ) → k < 8 → bit_at pattern k ≡ bit_at table 4)
    (of_both : (k : ℕ) → k < 8 → bit_at both k ≡ bit_at table 6) where
  bits_of_choice : (p s k : ℕ) → bit_at (bit_xor (bit_xor none (bit_and s (bit_xor none source))) (bit_and p (bit_xor (bit_xor none pattern) (bit_and s (bit_xor (bit_xor none source) (bit_xor pattern both)))))) k ≡ chosen (bit_at none k) (bit_at source k) (bit_at pattern k) (bit_at both k) (bit_at p k) (bit_at s k)
  bits_of_choice p s k = simp (bit_at_xor, bit_at_and)

  pub choice : (p s k : ℕ) → k < 8 → bit_at (bit_xor (bit_xor none (bit_and s (bit_xor none source))) (bit_and p (bit_xor (bit_xor none pattern) (bit_and s (bit_xor (bit_xor none source) (bit_xor pattern both)))))) k ≡ bit_at table (4 * bit_at p k + 2 * bit_at s k)
  choice p s k l =
      let a = bit_at-lt none k in
      let b = bit_at-lt source k in
      let c = bit_at-lt pattern k in
      let d = bit_at-lt both k in
      bits_of_choice p s k
      ∙ four (λ p s. chosen (bit_at none k) (bit_at source k) (bit_at pattern k) (bit_at both k) p s ≡ bit_at table (4 * p + 2 * s))
      (choose_none _ _ _ _ a b c d ∙ of_none k l)
      (choose_source _ _ _ _ a b c d ∙ of_source k l)
      (choose_pattern _ _ _ _ a b c d ∙ of_pattern k l)
      (choose_both _ _ _ _ a b c d ∙ of_both k l)
      (bit_at p k) (bit_at s k) (bit_at-lt p k) (bit_at-lt s k)

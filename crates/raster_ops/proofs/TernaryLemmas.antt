-- Ternary raster operations bit by bit.
use Rattle.std.proofs.Common.{◌≡◌, ℕ, zero, suc, ◌+◌, ◌*◌, ◌/◌, ◌%◌, ◌^◌, ◌<◌, min, map, sum, false, not, eqb, refl, ap, sym, ◌∙◌, arith}
use Rattle.std.specs.Int.{bit_at}
use Rattle.std.specs.Int.RustNames.{bit_and, bit_xor}
use Rattle.std.specs.List.{list_any}
use Rattle.std.proofs.lemmas.Bool.{agree_below_at, eqb-true, not-false, or_parts}
use Rattle.std.proofs.lemmas.Nat.{and_le_l, shr-shr, xor_lt}
use Rattle.std.proofs.lemmas.Nat.Bits.{bit_at-lt, bit_at_and, bit_at_xor}
use Rattle.mapping.specs.Mixes.{mixed_by, mixed_part_by}
use Rattle.mapping.specs.declared.geometry.Colour.{Colour}
use Rattle.raster_ops.proofs.BitLemmas.{four, kept_and_flipped, places, same_sum, spread}
use Rattle.raster_ops.proofs.ColourLemmas.{same_parts}
use Rattle.raster_ops.specs.Bytes.{HasBytes}
use Rattle.raster_ops.specs.RasterOps.{mixed_part}
use Rattle.raster_ops.specs.Selectors.{IsSelector, selected, selected_colour}
use Rattle.raster_ops.specs.declared.selector.Selector.{Selector}
use Rattle.raster_ops.specs.TernaryOps.{bit_pairs, table_bit, ternary_bit, ternary_colour, ternary_part, uses_pattern, uses_source}

-- a bit of half a number is the next one of the number
next_bit : (n k : ℕ) → bit_at (n / 2) k ≡ bit_at n (k + 1)
next_bit n k =
    let last : 1 + k ≡ k + 1 = omega arith in
    ap (λ (q : ℕ). q % 2) (shr-shr n 1 k ∙ ap (λ (p : ℕ). n / 2 ^ p) last)

-- Bits that are kept where the table has two things for a 0 and a 1, and flipped where it has a 1 for a 0, are those of the operation.
module _ (table pattern source keep flip : ℕ) (keep_below : keep < 256) (flip_below : flip < 256)
    (kept : (k : ℕ) → k < 8 → bit_at keep k ≡ bit_at (bit_xor (table / 2) table) (4 * bit_at pattern k + 2 * bit_at source k))
    (flipped : (k : ℕ) → k < 8 → bit_at flip k ≡ bit_at table (4 * bit_at pattern k + 2 * bit_at source k)) where
  mix_bit : (old k : ℕ) → k < 8 → bit_at (mixed_part_by keep flip old) k ≡ table_bit table (bit_at pattern k) (bit_at source k) (bit_at old k)
  mix_bit old k h =
      let n = 4 * bit_at pattern k + 2 * bit_at source k in
      let first : n ≡ n + 0 = omega arith in
      bit_at_xor (bit_and keep old) flip k
      ∙ ap (λ (b : ℕ). (b + bit_at flip k) % 2) (bit_at_and keep old k ∙ ap (λ (b : ℕ). min b (bit_at old k)) (kept k h ∙ bit_at_xor (table / 2) table n ∙ ap (λ (b : ℕ). (b + bit_at table n) % 2) (next_bit table n)))
      ∙ ap (λ (b : ℕ). (min ((bit_at table (n + 1) + bit_at table n) % 2) (bit_at old k) + b) % 2) (flipped k h)
      ∙ kept_and_flipped (λ o. table_bit table (bit_at pattern k) (bit_at source k) o) (bit_at table n) (bit_at table (n + 1)) (bit_at old k)
      (bit_at-lt table n) (bit_at-lt table (n + 1)) (bit_at-lt old k) (ap (λ (p : ℕ). bit_at table p) first) refl

  mix_part : (old : ℕ) → mixed_part_by keep flip old ≡ ternary_part table pattern source old
  mix_part old =
      let below : mixed_part_by keep flip old < 256 = xor_lt 8 (bit_and keep old) flip (omega (arith, and_le_l keep old, keep_below)) flip_below in
      spread (mixed_part_by keep flip old) below
      ∙ same_sum (λ k. bit_at (mixed_part_by keep flip old) k * 2 ^ k) (λ k. ternary_bit table pattern source old k) (λ k h. ap (λ (b : ℕ). b * 2 ^ k) (mix_bit old k h))

-- The colours that two such selectors choose are the mix of the operation.
pub selected_mix : (table : ℕ) (keep flip : Selector) (pattern source old : Colour) → IsSelector keep (bit_xor (table / 2) table) → IsSelector flip table → HasBytes (selected_colour keep pattern source) → HasBytes (selected_colour flip pattern source) → mixed_by (record { keep = selected_colour keep pattern source; flip = selected_colour flip pattern source }) old ≡ ternary_colour table pattern source old
selected_mix table keep flip p s old kept flipped below beneath =
    same_parts _ _
    (mix_part table p.r s.r (selected keep p.r s.r) (selected flip p.r s.r) below.r beneath.r (λ k h. kept.each p.r s.r k h) (λ k h. flipped.each p.r s.r k h) old.r)
    (mix_part table p.g s.g (selected keep p.g s.g) (selected flip p.g s.g) below.g beneath.g (λ k h. kept.each p.g s.g k h) (λ k h. flipped.each p.g s.g k h) old.g)
    (mix_part table p.b s.b (selected keep p.b s.b) (selected flip p.b s.b) below.b beneath.b (λ k h. kept.each p.b s.b k h) (λ k h. flipped.each p.b s.b k h) old.b)

-- no test of two bits tells two functions apart, so they are the same on each two bits
unused : (f g : ℕ → ℕ → ℕ) → list_any (λ pair. not (eqb (f pair.0 pair.1) (g pair.0 pair.1))) bit_pairs ≡ false → (a b : ℕ) → a < 2 → b < 2 → f a b ≡ g a b
unused f g h =
    let first = or_parts (not (eqb (f 0 0) (g 0 0))) _ h in
    let second = or_parts (not (eqb (f 0 1) (g 0 1))) _ first.1 in
    let third = or_parts (not (eqb (f 1 0) (g 1 0))) _ second.1 in
    let fourth = or_parts (not (eqb (f 1 1) (g 1 1))) _ third.1 in
    four (λ a b. f a b ≡ g a b)
    (eqb-true _ _ (not-false _ first.0))
    (eqb-true _ _ (not-false _ second.0))
    (eqb-true _ _ (not-false _ third.0))
    (eqb-true _ _ (not-false _ fourth.0))

-- a function of a bit that is the same at 0 and at 1 is the same at each two bits
same_at : (f : ℕ → ℕ) → f 0 ≡ f 1 → (a b : ℕ) → a < 2 → b < 2 → f a ≡ f b
same_at f e a b h k = four (λ a b. f a ≡ f b) refl e (sym e) refl a b h k

module _ (table : ℕ) where
  part_without_source : uses_source table ≡ false → (p s t o : ℕ) → ternary_part table p s o ≡ ternary_part table p t o
  part_without_source h p s t o =
      same_sum (λ k. ternary_bit table p s o k) (λ k. ternary_bit table p t o k)
      (λ k l. ap (λ (b : ℕ). b * 2 ^ k) (same_at (λ b. table_bit table (bit_at p k) b (bit_at o k))
      (unused (λ a b. table_bit table a 0 b) (λ a b. table_bit table a 1 b) h (bit_at p k) (bit_at o k) (bit_at-lt p k) (bit_at-lt o k))
      (bit_at s k) (bit_at t k) (bit_at-lt s k) (bit_at-lt t k)))

  part_without_pattern : uses_pattern table ≡ false → (p q s o : ℕ) → ternary_part table p s o ≡ ternary_part table q s o
  part_without_pattern h p q s o =
      same_sum (λ k. ternary_bit table p s o k) (λ k. ternary_bit table q s o k)
      (λ k l. ap (λ (b : ℕ). b * 2 ^ k) (same_at (λ b. table_bit table b (bit_at s k) (bit_at o k))
      (unused (λ a b. table_bit table 0 a b) (λ a b. table_bit table 1 a b) h (bit_at s k) (bit_at o k) (bit_at-lt s k) (bit_at-lt o k))
      (bit_at p k) (bit_at q k) (bit_at-lt p k) (bit_at-lt q k)))

  pub without_source : (p s t o : Colour) → uses_source table ≡ false → ternary_colour table p s o ≡ ternary_colour table p t o
  without_source p s t o h =
      same_parts _ _ (part_without_source h p.r s.r t.r o.r) (part_without_source h p.g s.g t.g o.g) (part_without_source h p.b s.b t.b o.b)

  pub without_pattern : (p q s o : Colour) → uses_pattern table ≡ false → ternary_colour table p s o ≡ ternary_colour table q s o
  without_pattern p q s o h =
      same_parts _ _ (part_without_pattern h p.r q.r s.r o.r) (part_without_pattern h p.g q.g s.g o.g) (part_without_pattern h p.b q.b s.b o.b)

-- bits that are those of a byte make it
copied : (f : ℕ → ℕ) (byte : ℕ) → ((k : ℕ) → f k ≡ bit_at byte k) → byte < 256 → sum (map (λ k. f k * 2 ^ k) places) ≡ byte
copied f byte same h =
    same_sum (λ k. f k * 2 ^ k) (λ k. bit_at byte k * 2 ^ k) (λ k l. ap (λ (b : ℕ). b * 2 ^ k) (same k)) ∙ sym (spread byte h)

-- the table 0xCC has the source's bit, and 0xF0 the pattern's
source_bit : (o p s : ℕ) → o < 2 → p < 2 → s < 2 → table_bit 0xcc p s o ≡ s
source_bit zero p s h k l = four (λ p s. table_bit 0xcc p s 0 ≡ s) refl refl refl refl p s k l
source_bit (suc zero) p s h k l = four (λ p s. table_bit 0xcc p s 1 ≡ s) refl refl refl refl p s k l
source_bit (suc (suc o)) p s h k l = absurd (omega arith)

pattern_bit : (o p s : ℕ) → o < 2 → p < 2 → s < 2 → table_bit 0xf0 p s o ≡ p
pattern_bit zero p s h k l = four (λ p s. table_bit 0xf0 p s 0 ≡ p) refl refl refl refl p s k l
pattern_bit (suc zero) p s h k l = four (λ p s. table_bit 0xf0 p s 1 ≡ p) refl refl refl refl p s k l
pattern_bit (suc (suc o)) p s h k l = absurd (omega arith)

pub copied_source : (p s o : ℕ) → s < 256 → ternary_part 0xcc p s o ≡ s
copied_source p s o h = copied (λ k. table_bit 0xcc (bit_at p k) (bit_at s k) (bit_at o k)) s (λ k. source_bit (bit_at o k) (bit_at p k) (bit_at s k) (bit_at-lt o k) (bit_at-lt p k) (bit_at-lt s k)) h

pub copied_pattern : (p s o : ℕ) → p < 256 → ternary_part 0xf0 p s o ≡ p
copied_pattern p s o h = copied (λ k. table_bit 0xf0 (bit_at p k) (bit_at s k) (bit_at o k)) p (λ k. pattern_bit (bit_at o k) (bit_at p k) (bit_at s k) (bit_at-lt o k) (bit_at-lt p k) (bit_at-lt s k)) h

-- a pen's colour is copied by the table of R2_COPYPEN, 12
pub copied_pen : (p o : ℕ) → p < 256 → mixed_part 12 p o ≡ p
copied_pen p o h = copied (λ k. bit_at 12 (2 * bit_at p k + bit_at o k)) p (λ k. four (λ p o. bit_at 12 (2 * p + o) ≡ p) refl refl refl refl (bit_at p k) (bit_at o k) (bit_at-lt p k) (bit_at-lt o k)) h

-- the tests of a table's bits by shifting it
pub two_apart : (t : ℕ) → t < 256 → not (eqb (bit_and (bit_xor t (t / 4)) 51) 0) ≡ uses_source t
two_apart t h = agree_below_at (λ t. not (eqb (bit_and (bit_xor t (t / 4)) 51) 0)) uses_source 256 t refl h

pub four_apart : (t : ℕ) → t < 256 → not (eqb (bit_and (bit_xor t (t / 16)) 15) 0) ≡ uses_pattern t
four_apart t h = agree_below_at (λ t. not (eqb (bit_and (bit_xor t (t / 16)) 15) 0)) uses_pattern 256 t refl h

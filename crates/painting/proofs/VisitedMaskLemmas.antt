-- Visited masks, by the bits of words.
use Rattle.std.proofs.Common.{◌≡◌, ℕ, ◌-◌, ◌*◌, ◌/◌, ◌%◌, ◌^◌, ◌<◌, ◌≤◌, Bool, true, false, ◌||◌, ◌==◌, ◌≢◌, inl, inr, nat_le, nat_lt, IsTrue, List, length, bit_or, slice_index_or, slice_set, arith, refl, ap, sym, ◌∙◌}
use Rattle.std.specs.Int.{w64, bit_at}
use Rattle.std.proofs.lemmas.Bool.{and_from, and_parts, eq-eqb, eqb-true, false≢true, leb-true, ltb-true, ne_eqb}
use Rattle.std.proofs.lemmas.Bool.Decides.{eqb_tells}
use Rattle.std.proofs.lemmas.List.{get_or-set_other, get_or-set_same}
use Rattle.std.proofs.lemmas.Nat.{div-add-mod', div-mul-add, mod-mul-add, mul-add-lt, mod_below}
use Rattle.std.proofs.lemmas.Nat.Bits.{bit_at_set_other, bit_at_set_same}
use Rattle.std.proofs.Math.Bool.{or-false, or-true}
use Rattle.mapping.specs.TestLaws.{same_test}
use Rattle.canvas.specs.Writing.{is_at}
use Rattle.span_fill.specs.Spans.{in_region, in_span}
use Rattle.painting.specs.VisitedMask.{VisitedMaskState, has_bit, is_taken, pixel_count, pixel_number, span_width, visited_mask_limit}
use Rattle.span_fill.specs.declared.span.Region.{Region}

-- the word of a bit
pub word_within : (n : ℕ) → n < visited_mask_limit → n / 64 < 16384
word_within n h = omega (arith, h)

-- a word in which a bit is set
abbrev pub with_bit_set : ℕ → ℕ → ℕ
with_bit_set word bit = bit_or word (1 * 2 ^ bit % 18446744073709551616)

set_same : (word bit : ℕ) → bit < 64 → bit_at (with_bit_set word bit) bit ≡ 1
set_same word bit h = bit_at_set_same w64 word bit h

set_other : (word bit other : ℕ) → bit < 64 → other ≢ bit → bit_at (with_bit_set word bit) other ≡ bit_at word other
set_other word bit other h ne = bit_at_set_other w64 word bit h other ne

-- words in which a bit is set
abbrev pub with_bit : List ℕ → ℕ → List ℕ
with_bit words n = slice_set words (n / 64) (with_bit_set (slice_index_or words (n / 64) 0) (n % 64))

-- numbers with the same word and the same bit are equal
same_number : (a b : ℕ) → a / 64 ≡ b / 64 → a % 64 ≡ b % 64 → a ≡ b
same_number a b h k = sym (div-add-mod' a 64) ∙ rw (h, k) (div-add-mod' b 64)

module _ (words : List ℕ) (n : ℕ) (long : length words ≡ 16384) (within : n < visited_mask_limit) where
  inside : n / 64 < length words
  inside = rw long (word_within n within)

  bit_within : n % 64 < 64
  bit_within = mod_below n 64 (omega arith)

  other_word : (m : ℕ) → m / 64 ≢ n / 64 → has_bit (with_bit words n) m ≡ (has_bit words m || m == n)
  other_word m ne =
      let kept = get_or-set_other words (n / 64) (m / 64) (with_bit_set (slice_index_or words (n / 64) 0) (n % 64)) 0 ne in
      let apart = ne_eqb m n (λ e. ne (ap (λ k. k / 64) e)) in
      ap (λ w. bit_at w (m % 64) == 1) kept ∙ sym (or-false (has_bit words m)) ∙ ap (λ b. has_bit words m || b) (sym apart)

  same_word : (m : ℕ) → m / 64 ≡ n / 64 → slice_index_or (with_bit words n) (m / 64) 0 ≡ with_bit_set (slice_index_or words (m / 64) 0) (n % 64)
  same_word m e = rw e (get_or-set_same words (n / 64) (with_bit_set (slice_index_or words (n / 64) 0) (n % 64)) 0 inside)

  other_bit : (m : ℕ) → m / 64 ≡ n / 64 → m % 64 ≢ n % 64 → has_bit (with_bit words n) m ≡ (has_bit words m || m == n)
  other_bit m e ne =
      let kept = same_word m e ∙ refl in
      let bit = set_other (slice_index_or words (m / 64) 0) (n % 64) (m % 64) bit_within ne in
      let apart = ne_eqb m n (λ same. ne (ap (λ k. k % 64) same)) in
      ap (λ w. bit_at w (m % 64) == 1) kept ∙ ap (λ b. b == 1) bit ∙ sym (or-false (has_bit words m)) ∙ ap (λ b. has_bit words m || b) (sym apart)

  that_bit : (m : ℕ) → m ≡ n → has_bit (with_bit words n) m ≡ (has_bit words m || m == n)
  that_bit m e =
      let kept = same_word m (ap (λ k. k / 64) e) in
      let bit = set_same (slice_index_or words (m / 64) 0) (n % 64) bit_within in
      let there : (m == n) ≡ true = rw e (eq-eqb n n refl) in
      ap (λ w. bit_at w (m % 64) == 1) kept ∙ rw (ap (λ k. k % 64) e) (ap (λ b. b == 1) bit) ∙ sym (or-true (has_bit words m)) ∙ ap (λ b. has_bit words m || b) (sym there)

  -- one more bit is set, and no other changes
  pub bit_is_set : (m : ℕ) → has_bit (with_bit words n) m ≡ (has_bit words m || m == n)
  bit_is_set m = elim (eqb_tells (m / 64) (n / 64)) [
    | inl word ↦
        elim (eqb_tells (m % 64) (n % 64)) [
          | inl bit ↦ that_bit m (same_number m n word.1 bit.1)
          | inr apart ↦ other_bit m word.1 apart.1
        ]
    | inr apart ↦ other_word m apart.1
  ]

-- the pixels of a region
pub record IsInside (region : Region) (x y : ℕ) : Type 0 where
  pub left : region.columns.from ≤ x
  pub right : x < region.columns.to
  pub top : region.rows.from ≤ y
  pub bottom : y < region.rows.to

pub inside_of : (region : Region) (x y : ℕ) → IsTrue (in_region region x y) → IsInside region x y
inside_of region x y h =
    let a = and_parts (in_span region.columns x) (in_span region.rows y) h in
    let b = and_parts (nat_le region.columns.from x) (nat_lt x region.columns.to) a.0 in
    let c = and_parts (nat_le region.rows.from y) (nat_lt y region.rows.to) a.1 in
    record { left = leb-true _ _ b.0; right = ltb-true _ _ b.1; top = leb-true _ _ c.0; bottom = ltb-true _ _ c.1 }

module _ (region : Region) (x y : ℕ) (i : IsInside region x y) where
  column_within : (x - region.columns.from) < span_width region.columns
  column_within = let a = i.left in let b = i.right in omega (arith, a, b)

  row_within : (y - region.rows.from) < span_width region.rows
  row_within = let a = i.top in let b = i.bottom in omega (arith, a, b)

  -- the numbers of a box's pixels
  pub number_within : pixel_number region x y < pixel_count region
  number_within = mul-add-lt (y - region.rows.from) (span_width region.columns) (x - region.columns.from) (span_width region.rows) row_within column_within

  column_of : pixel_number region x y % span_width region.columns ≡ x - region.columns.from
  column_of = mod-mul-add (y - region.rows.from) (span_width region.columns) (x - region.columns.from) column_within

  row_of : pixel_number region x y / span_width region.columns ≡ y - region.rows.from
  row_of = div-mul-add (y - region.rows.from) (span_width region.columns) (x - region.columns.from) column_within

-- they differ from pixel to pixel
module _ (region : Region) (x y a b : ℕ) (i : IsInside region x y) (j : IsInside region a b) (same : pixel_number region a b ≡ pixel_number region x y) where
  same_column : a ≡ x
  same_column =
      let e : (a - region.columns.from) ≡ (x - region.columns.from) = sym (column_of region a b j) ∙ ap (λ n. n % span_width region.columns) same ∙ column_of region x y i in
      let p = i.left in let q = j.left in omega (arith, e, p, q)

  same_row : b ≡ y
  same_row =
      let e : (b - region.rows.from) ≡ (y - region.rows.from) = sym (row_of region a b j) ∙ ap (λ n. n / span_width region.columns) same ∙ row_of region x y i in
      let p = i.top in let q = j.top in omega (arith, e, p, q)

-- a pixel is marked as visited, and no other changes
module _ (region : Region) (words new : List ℕ) (x y : ℕ) (inside : IsTrue (in_region region x y)) (bits : (m : ℕ) → has_bit new m ≡ (has_bit words m || m == pixel_number region x y)) where
  abbrev before : VisitedMaskState
  before = record { region = region; words = words }

  abbrev after : VisitedMaskState
  after = record { region = region; words = new }

  numbered : (a b : ℕ) → IsTrue (in_region region a b) → (pixel_number region a b == pixel_number region x y) ≡ is_at x y a b
  numbered a b there = same_test _ _
      (λ e.
      let same = eqb-true _ _ e in
      let i = inside_of region x y inside in
      let j = inside_of region a b there in
      and_from (a == x) (b == y) (eq-eqb a x (same_column region x y a b i j same)) (eq-eqb b y (same_row region x y a b i j same)))
      (λ e.
      let parts = and_parts (a == x) (b == y) e in
      let p = eqb-true a x parts.0 in
      let q = eqb-true b y parts.1 in
      eq-eqb _ _ (ap (λ k. pixel_number region k b) p ∙ ap (λ k. pixel_number region x k) q))

  no_pixel : (a b : ℕ) → in_region region a b ≡ false → is_at x y a b ≡ false
  no_pixel a b outside = same_test _ _
      (λ e.
      let parts = and_parts (a == x) (b == y) e in
      let p = eqb-true a x parts.0 in
      let q = eqb-true b y parts.1 in
      sym outside ∙ ap (λ k. in_region region k b) p ∙ ap (λ k. in_region region x k) q ∙ inside)
      (λ e. absurd (false≢true e))

  taken_by : (a b : ℕ) (within : Bool) → in_region region a b ≡ within → is_taken after a b ≡ (is_taken before a b || is_at x y a b)
  taken_by a b true e = rw e (bits (pixel_number region a b) ∙ ap (λ t. has_bit words (pixel_number region a b) || t) (numbered a b e))
  taken_by a b false e = rw e (sym (no_pixel a b e))

  pub is_taken_by : (a b : ℕ) → is_taken after a b ≡ (is_taken before a b || is_at x y a b)
  is_taken_by a b = taken_by a b (in_region region a b) refl

-- if no bit is set, no pixel is marked as visited
module _ (region : Region) (words : List ℕ) (clear : (n : ℕ) → n < pixel_count region → has_bit words n ≡ false) where
  abbrev all_clear : VisitedMaskState
  all_clear = record { region = region; words = words }

  untaken : (x y : ℕ) (within : Bool) → in_region region x y ≡ within → is_taken all_clear x y ≡ false
  untaken x y true e = rw e (clear (pixel_number region x y) (number_within region x y (inside_of region x y e)))
  untaken x y false e = rw e refl

  pub none_is_taken : (x y : ℕ) → is_taken all_clear x y ≡ false
  none_is_taken x y = untaken x y (in_region region x y) refl

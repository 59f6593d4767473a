-- A part of a row, changed: which pixels of the surface that is.
use Rattle.std.proofs.Common.{◌≡◌, ℕ, ◌+◌, ◌-◌, ◌*◌, ◌/◌, ◌%◌, ◌<◌, ◌≤◌, Bool, true, false, cond, eqb, leb, ltb, ◌&&◌, List, length, get_or, refl, sym, ap, ◌∙◌, subst, inl, inr, arith}
use Rattle.std.proofs.lemmas.Bool.{both_ways, and_parts, and_from, eqb-true, leb-true, ltb-true, eq-eqb, le-leb, lt-ltb, false_from_ne_true, cases_lt, cond-false}
use Rattle.std.proofs.lemmas.List.{same_lists}
use Rattle.std.proofs.lemmas.Nat.{div-add-mod', div-mul-add, mod-mul-add, row_fits}
use Rattle.mapping.specs.IndexLaws.{count_indexes-append, count_indexes_moved, count_indexes_none, length-map_indexed}
use Rattle.mapping.specs.declared.geometry.Colour.{Colour}
use Rattle.mapping.specs.Pixels.{count_indexes, count_pixels, repainted}
use Rattle.canvas.specs.CanvasState.{CanvasState}
use Rattle.canvas.specs.Writing.{Repaints, in_row_span}
use Rattle.canvas.proofs.PartLemmas.{length-with_part, part_before, part_after, part_here, with_part}
use Rattle.canvas.proofs.IndexLemmas.{count_same, get_or-map_indexed}

-- what it is to be in a span
pub span_parts : (y from to column row : ℕ) → in_row_span y from to column row ≡ true → (row ≡ y) × (from ≤ column) × (column < to)
span_parts y from to column row h =
    let outer = and_parts (eqb row y && leb from column) (ltb column to) h in
    let inner = and_parts (eqb row y) (leb from column) outer.0 in
    (eqb-true row y inner.0, leb-true from column inner.1, ltb-true column to outer.1)

pub span_from : (y from to column row : ℕ) → row ≡ y → from ≤ column → column < to → in_row_span y from to column row ≡ true
span_from y from to column row e a b = and_from _ _ (and_from _ _ (eq-eqb row y e) (le-leb from column a)) (lt-ltb column to b)

-- a part of row y of the rows from `first` on: from column `from` on, with so many columns
pub record IsPart (width first rows y from to : ℕ) : Type 0 where
  pub order : from ≤ to
  pub within : to ≤ width
  pub from_first : first ≤ y
  pub to_last : y < first + rows

module _ (width first rows y from to : ℕ) (part : IsPart width first rows y from to) where
  -- where the part begins in the list of colours
  abbrev pub start : ℕ
  start = (y - first) * width + from

  -- the part ends within the list of colours
  pub fits : start + (to - from) ≤ rows * width
  fits =
      let order = part.order in let within = part.within in let low = part.from_first in let high = part.to_last in
      let r : y - first < rows = omega arith in
      omega (arith, row_fits (y - first) width rows width r (omega arith))

  -- an index before the part, or behind it, is that of a pixel outside the span
  outside : (i : ℕ) → (start ≤ i → i < start + (to - from) → ⊥) → in_row_span y from to (i % width) (first + i / width) ≡ false
  outside i not_within =
      false_from_ne_true _ (λ h.
      let parts = span_parts y from to (i % width) (first + i / width) h in
      let row = parts.0 in let left = parts.1 in let right = parts.2 in
      let q : i / width ≡ y - first = omega (arith, row) in
      let place = div-add-mod' i width in
      let at : (y - first) * width + i % width ≡ i = subst (λ (n : ℕ). n * width + i % width ≡ i) q place in
      not_within (omega (arith, at, left, right)) (omega (arith, at, left, right)))

  -- the pixel at an index of the part
  pub column_of : (k : ℕ) → k < to - from → (start + k) % width ≡ from + k
  column_of k h =
      let within = part.within in
      let e : start + k ≡ (y - first) * width + (from + k) = omega arith in
      rw e (mod-mul-add (y - first) width (from + k) (omega arith))

  pub row_of : (k : ℕ) → k < to - from → first + (start + k) / width ≡ y
  row_of k h =
      let within = part.within in let low = part.from_first in
      let e : start + k ≡ (y - first) * width + (from + k) = omega arith in
      let q : (start + k) / width ≡ y - first = rw e (div-mul-add (y - first) width (from + k) (omega arith)) in
      omega (arith, q)

  module _ (t : ℕ → ℕ → Bool) (inside : (x row : ℕ) → t x row ≡ true → in_row_span y from to x row ≡ true) where
    -- the test at an index of the list of colours, and what becomes of the colour there
    abbrev at : ℕ → Bool
    at i = t (i % width) (first + i / width)

    abbrev changed : (ℕ → ℕ → Colour → Colour) → ℕ → Colour → Colour
    changed f i old = cond (at i) (f (i % width) (first + i / width) old) old

    -- outside the part the test fails
    fails : (i : ℕ) → (start ≤ i → i < start + (to - from) → ⊥) → at i ≡ false
    fails i not_within = false_from_ne_true _ (λ h. both_ways _ (outside i not_within) (inside _ _ h))

    -- within the part the pixel is that of its column in row y
    test_of : (k : ℕ) → k < to - from → at (start + k) ≡ t (from + k) y
    test_of k h = rw (column_of k h, row_of k h) refl

    changed_of : (f : ℕ → ℕ → Colour → Colour) (k : ℕ) (old : Colour) → k < to - from → changed f (start + k) old ≡ cond (t (from + k) y) (f (from + k) y old) old
    changed_of f k old h = rw (column_of k h, row_of k h) refl

    -- so many pixels pass the test
    pub count_part : count_pixels t width first rows ≡ count_indexes (λ k. t (from + k) y) 0 (to - from)
    count_part =
        let n = to - from in
        let rest = rows * width - (start + n) in
        let within = fits in
        let all : rows * width ≡ start + (n + rest) = omega arith in
        let first_cut = count_indexes-append at 0 start (n + rest) in
        let second_cut = count_indexes-append at (0 + start) n rest in
        let before = count_indexes_none at 0 start (λ i a b. fails i (λ c d. omega arith)) in
        let after = count_indexes_none at (0 + start + n) rest (λ i a b. fails i (λ c d. omega arith)) in
        let here : 0 + start ≡ start + 0 = omega arith in
        let moved : count_indexes at (0 + start) n ≡ count_indexes (λ k. at (start + k)) 0 n = ap (λ (i : ℕ). count_indexes at i n) here ∙ count_indexes_moved at (λ k. at (start + k)) start 0 n (λ k. refl) in
        let same = count_same (λ k. at (start + k)) (λ k. t (from + k) y) 0 n (λ i a b. test_of i (omega arith)) in
        ap (λ (m : ℕ). count_indexes at 0 m) all ∙ omega (arith, first_cut, second_cut, before, after, moved, same)

    module _ (f : ℕ → ℕ → Colour → Colour) (old made : List Colour) (whole : length old ≡ rows * width) (long : length made ≡ to - from) where
      -- the list of colours with the part's in place of what was there
      abbrev put : List Colour
      put = with_part start made old

      within_list : start + length made ≤ length old
      within_list = let within = fits in omega arith

      module _ (each : (k : ℕ) (d : Colour) → k < to - from → get_or made k d ≡ cond (t (from + k) y) (f (from + k) y (get_or old (start + k) d)) (get_or old (start + k) d)) where
        -- each colour is what the repainted list has
        put_within : (k : ℕ) (d : Colour) → k < to - from → get_or put (start + k) d ≡ changed f (start + k) (get_or old (start + k) d)
        put_within k d h =
            let e : start + k - start ≡ k = omega arith in
            part_here start made old within_list (start + k) d (omega arith) (omega arith)
            ∙ ap (λ (i : ℕ). get_or made i d) e ∙ each k d h ∙ sym (changed_of f k (get_or old (start + k) d) h)

        put_each : (k : ℕ) (d : Colour) → get_or put k d ≡ changed f k (get_or old k d)
        put_each k d = elim (cases_lt k start) [
          | inl a ↦ part_before start made old within_list k d a ∙ sym (cond-false (at k) _ (get_or old k d) (fails k (λ b c. omega arith)))
          | inr a ↦ elim (cases_lt k (start + (to - from))) [
            | inl b ↦
                let e : start + (k - start) ≡ k = omega arith in
                subst (λ (i : ℕ). get_or put i d ≡ changed f i (get_or old i d)) e (put_within (k - start) d (omega arith))
            | inr b ↦ part_after start made old within_list k d (omega arith) ∙ sym (cond-false (at k) _ (get_or old k d) (fails k (λ c e. omega arith)))
          ]
        ]

        pub part_repainted : put ≡ repainted t f width first old
        part_repainted =
            same_lists put _ (length-with_part start made old within_list ∙ sym (length-map_indexed (changed f) 0 old)) (λ k d h.
            let e : 0 + k ≡ k = omega arith in
            put_each k d ∙ sym (get_or-map_indexed (changed f) 0 old k d (omega (arith, length-with_part start made old within_list, h)) ∙ ap (λ (i : ℕ). changed f i (get_or old k d)) e))

-- A call that puts other colours in place of a part's does what it says, if it counts the writes.
pub wrote_part :
    (y from to : ℕ) (t : ℕ → ℕ → Bool) (f : ℕ → ℕ → Colour → Colour) (old new : CanvasState) (made : List Colour)
    → (part : IsPart old.width old.first old.rows y from to)
    → ((x row : ℕ) → t x row ≡ true → in_row_span y from to x row ≡ true)
    → length old.colours ≡ old.rows * old.width
    → length made ≡ to - from
    → ((k : ℕ) (d : Colour) → k < to - from → get_or made k d ≡ cond (t (from + k) y) (f (from + k) y (get_or old.colours (start old.width old.first old.rows y from to part + k) d)) (get_or old.colours (start old.width old.first old.rows y from to part + k) d))
    → new.colours ≡ with_part (start old.width old.first old.rows y from to part) made old.colours
    → new.writes ≡ old.writes + count_indexes (λ k. t (from + k) y) 0 (to - from)
    → new.width ≡ old.width → new.first ≡ old.first → new.rows ≡ old.rows → new.most ≡ old.most
    → Repaints t f old new
wrote_part y from to t f old new made part inside whole long each colours writes w fi r m = record {
  colours = colours ∙ part_repainted old.width old.first old.rows y from to part t inside f old.colours made whole long each;
  writes = writes ∙ ap (λ (n : ℕ). old.writes + n) (sym (count_part old.width old.first old.rows y from to part t inside));
  width = w;
  first = fi;
  rows = r;
  most = m;
}

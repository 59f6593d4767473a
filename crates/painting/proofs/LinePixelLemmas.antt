-- A line's steps yield its pixels one after another.
use Rattle.std.proofs.Common.{◌≡◌, ℕ, suc, ◌+◌, ◌-◌, ◌*◌, ◌<◌, ◌≤◌, ℤ, pos, ◌+ℤ◌, ◌-ℤ◌, ◌*ℤ◌, ◌≤ℤ◌, Bool, true, false, not, ◌&&◌, nat_le, nat_lt, IsTrue, ◌⊎◌, inl, inr, arith, refl, ap, sym, ◌∙◌}
use Rattle.std.proofs.lemmas.Bool.{and_from, and_parts, le-leb, leb-true, lt-ltb, ltb-true, false_from_ne_true, not-true, not_from_false}
use Rattle.mapping.specs.TestLaws.{same_test}
use Rattle.mapping.specs.declared.geometry.Point.{Point}
use Rattle.canvas.specs.PixelSources.{GivesOne}
use Rattle.canvas.specs.Writing.{is_at}
use Rattle.canvas.specs.declared.pixel_source.PixelAt.{PixelAt}
use Rattle.std.proofs.lemmas.Int.{ints}
use Rattle.span_fill.specs.Numberings.{number_of}
use Rattle.span_fill.specs.Spans.{in_region, in_span}
use Rattle.span_fill.specs.Steps.{HasAllSteps, StepsState}
use Rattle.span_fill.specs.Strokes.{OnePixelForEachStep, on_line, step_at}
use Rattle.span_fill.specs.declared.line.Line.{Line}
use Rattle.span_fill.specs.declared.pixel.NumberedPixel.{NumberedPixel}
use Rattle.span_fill.specs.declared.span.Region.{Region}
use Rattle.painting.specs.LinePixels.{is_to_step, is_visible, place_on}

-- the number of a column or row, from a coordinate
abbrev natural : ℤ → ℕ
natural (pos n) = n
natural v = 0

-- a step has one pixel
pub one_pixel : OnePixelForEachStep → (line : Line) (a b c d : ℕ) → IsTrue (on_line line (pos a) (pos b)) → IsTrue (on_line line (pos c) (pos d)) → step_at line (pos a) (pos b) ≡ step_at line (pos c) (pos d) → (a ≡ c) × (b ≡ d)
one_pixel law line a b c d on there at =
    let step = law.each line (step_at line (pos c) (pos d)) (law.no_other line (pos c) (pos d) there) in
    let first = step.only (pos a) (pos b) on at in
    let second = step.only (pos c) (pos d) there refl in
    let same = sym first ∙ second in
    (ap (λ (p : Point). natural p.x) same, ap (λ (p : Point). natural p.y) same)

pub is_at_true : (x y column row : ℕ) → is_at x y column row ≡ true → (column ≡ x) × (row ≡ y)
is_at_true x y column row h = grind (arith)

pub is_at_from : (x y column row : ℕ) → column ≡ x → row ≡ y → is_at x y column row ≡ true
is_at_from x y column row h k = grind (arith)

-- a pixel of a remaining step
record IsToStep (steps : StepsState) (x y : ℕ) : Type 0 where
  pub on : on_line steps.line (pos x) (pos y) ≡ true
  pub inside : in_region steps.region x y ≡ true
  pub from : steps.next ≤ step_at steps.line (pos x) (pos y)
  pub to : step_at steps.line (pos x) (pos y) < steps.end

parts_of : (steps : StepsState) (x y : ℕ) → is_to_step steps x y ≡ true → IsToStep steps x y
parts_of steps x y h =
    let a = and_parts (on_line steps.line (pos x) (pos y)) _ h in
    let b = and_parts (in_region steps.region x y) _ a.1 in
    let c = and_parts (nat_le steps.next (step_at steps.line (pos x) (pos y))) _ b.1 in
    record { on = a.0; inside = b.0; from = leb-true _ _ c.0; to = ltb-true _ _ c.1 }

parts_from : (steps : StepsState) (x y : ℕ) → IsToStep steps x y → is_to_step steps x y ≡ true
parts_from steps x y p =
    and_from (on_line steps.line (pos x) (pos y)) _ p.on
    (and_from (in_region steps.region x y) _ p.inside
    (and_from (nat_le steps.next (step_at steps.line (pos x) (pos y))) _ (le-leb _ _ p.from) (lt-ltb _ _ p.to)))

cases_le : (n m : ℕ) → n ≤ m → (suc n ≤ m) ⊎ (m ≡ n)
cases_le n m h = grind (arith)

-- after the last step no pixel remains
pub none_to_step : (steps : StepsState) → steps.end ≤ steps.next → (x y : ℕ) → is_to_step steps x y ≡ false
none_to_step steps ended x y = false_from_ne_true (is_to_step steps x y) (λ h. let p = parts_of steps x y h in over _ _ _ p.from p.to ended)
  where
    over : (a s b : ℕ) → a ≤ s → s < b → b ≤ a → ⊥
    over a s b h k l = omega (arith, h, k, l)

module _ (law : OnePixelForEachStep) (old new : StepsState) (pixel : PixelAt) (on : on_line old.line (pos pixel.x) (pos pixel.y) ≡ true) (at : step_at old.line (pos pixel.x) (pos pixel.y) ≡ old.next) (inside : in_region old.region pixel.x pixel.y ≡ true) (more : old.next < old.end) (next : new.next ≡ suc old.next) (line : new.line ≡ old.line) (region : new.region ≡ old.region) (end : new.end ≡ old.end) where
  given_to_step : is_to_step old pixel.x pixel.y ≡ true
  given_to_step = parts_from old pixel.x pixel.y (record { on = on; inside = inside; from = omega (arith, at); to = omega (arith, at, more) })

  later : (x y : ℕ) → is_to_step new x y ≡ true → (is_to_step old x y && not (is_at pixel.x pixel.y x y)) ≡ true
  later x y h =
      let p = parts_of new x y h in
      let from = p.from in
      let to = p.to in
      let there : step_at new.line (pos x) (pos y) ≡ step_at old.line (pos x) (pos y) = ap (λ l. step_at l (pos x) (pos y)) line in
      let was = parts_from old x y (record {
        on = rw (← line) p.on;
        inside = rw (← region) p.inside;
        from = omega (arith, from, there, next);
        to = omega (arith, to, there, end);
      }) in
      and_from (is_to_step old x y) _ was (not_from_false _ (false_from_ne_true (is_at pixel.x pixel.y x y) (λ here.
      let same = is_at_true pixel.x pixel.y x y here in
      let now : step_at old.line (pos x) (pos y) ≡ old.next = rw (same.0, same.1) at in
      over from there next now)))
    where
      over : {a b c d : ℕ} → a ≤ b → b ≡ c → a ≡ suc d → c ≡ d → ⊥
      over h i j k = omega (arith, h, i, j, k)

  earlier : (x y : ℕ) → (is_to_step old x y && not (is_at pixel.x pixel.y x y)) ≡ true → is_to_step new x y ≡ true
  earlier x y h =
      let parts = and_parts (is_to_step old x y) _ h in
      let p = parts_of old x y parts.0 in
      let apart : is_at pixel.x pixel.y x y ≡ false = not-true _ parts.1 in
      let to = p.to in
      let there : step_at new.line (pos x) (pos y) ≡ step_at old.line (pos x) (pos y) = ap (λ l. step_at l (pos x) (pos y)) line in
      elim (cases_le old.next (step_at old.line (pos x) (pos y)) p.from) [
        | inl after ↦
            parts_from new x y (record {
              on = rw line p.on;
              inside = rw region p.inside;
              from = omega (arith, after, there, next);
              to = omega (arith, to, there, end);
            })
        | inr now ↦
            let same = one_pixel law old.line x y pixel.x pixel.y p.on on (now ∙ sym at) in
            absurd (differs _ (is_at_from pixel.x pixel.y x y same.0 same.1) apart)
      ]
    where
      differs : (b : Bool) → b ≡ true → b ≡ false → ⊥
      differs true h e = cc
      differs false h e = cc

  pub gives_step : pixel.place ≡ place_on old pixel.x pixel.y → GivesOne (place_on old) (is_to_step old) (is_to_step new) (old.end - old.next) (new.end - new.next) pixel
  gives_step place = record {
    given = given_to_step;
    place = place;
    others = λ x y. same_test _ _ (later x y) (earlier x y);
    less = omega (arith, next, end, more);
  }

-- if the steps are all that a line has in a region, they have each of its pixels there
pub all_to_step : (steps : StepsState) → HasAllSteps steps → (x y : ℕ) → is_to_step steps x y ≡ is_visible steps.region steps.line x y
all_to_step steps all x y = same_test _ _
    (λ h. let p = parts_of steps x y h in and_from (in_region steps.region x y) (on_line steps.line (pos x) (pos y)) p.inside p.on)
    (λ h.
    let a = and_parts (in_region steps.region x y) (on_line steps.line (pos x) (pos y)) h in
    parts_from steps x y (record { on = a.1; inside = a.0; from = all.from x y a.1 a.0; to = all.to x y a.1 a.0 }))

-- the region of the steps contains each remaining pixel
pub to_step_inside : (steps : StepsState) (x y : ℕ) → is_to_step steps x y ≡ true → in_region steps.region x y ≡ true
to_step_inside steps x y h = (parts_of steps x y h).inside

-- a region has no pixel above its first row
row_low : (region : Region) (x y : ℕ) → IsTrue (in_region region x y) → region.rows.from ≤ y
row_low region x y inside =
    let both = and_parts (in_span region.columns x) (in_span region.rows y) inside in
    leb-true _ _ (and_parts (nat_le region.rows.from y) (nat_lt y region.rows.to) both.1).0

-- the number of a pixel in a row of the canvas is its place
pub place_is : (steps : StepsState) (numbered : NumberedPixel) → steps.grid.first ≤ steps.region.rows.from → IsTrue (in_region steps.region numbered.pixel.x numbered.pixel.y) → numbered.number ≡ number_of steps.grid (pos numbered.pixel.x) (pos numbered.pixel.y)
    → (pos 0 ≤ℤ numbered.number) × ((place : ℕ) → pos place ≡ numbered.number → place ≡ place_on steps numbered.pixel.x numbered.pixel.y)
place_is steps numbered below inside number =
    let low = row_low steps.region numbered.pixel.x numbered.pixel.y inside in
    let rows : pos numbered.pixel.y -ℤ pos steps.grid.first ≡ pos (numbered.pixel.y - steps.grid.first) = omega (arith, ints, below, low) in
    let there : numbered.number ≡ pos ((numbered.pixel.y - steps.grid.first) * steps.grid.stride + numbered.pixel.x) = number ∙ ap (λ (r : ℤ). r *ℤ pos steps.grid.stride +ℤ pos numbered.pixel.x) rows in
    (omega (arith, ints, there), λ place same. omega (arith, ints, same, there))

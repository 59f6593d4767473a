-- The same on both axes.
use Rattle.std.proofs.Common.{◌≡◌, ℕ, ◌<◌, ℤ, true, false, ap, sym, subst, ◌∙◌, arith}
use Rattle.std.specs.Prelude.{if◌then◌else◌, IsTrue}
use Rattle.mapping.specs.TestLaws.{by_test}
use Rattle.mapping.specs.declared.geometry.Point.{Point}
use Rattle.span_fill.specs.declared.line.Line.{Line}
use Rattle.span_fill.specs.Strokes.{far, is_along, is_y_major, on_line, step_at, steps_of, HasStep, OnePixelForEachStep}
use Rattle.span_fill.proofs.StepLemmas.{along_each, along_only, along_within}

-- what a steep line has, and what another has
pub on_y_major : (line : Line) (x y : ℤ) → is_y_major line ≡ true → on_line line x y ≡ is_along line.from.y line.from.x line.to.y line.to.x y x
on_y_major line x y e = ap (λ b. if b then is_along line.from.y line.from.x line.to.y line.to.x y x else is_along line.from.x line.from.y line.to.x line.to.y x y) e

pub on_x_major : (line : Line) (x y : ℤ) → is_y_major line ≡ false → on_line line x y ≡ is_along line.from.x line.from.y line.to.x line.to.y x y
on_x_major line x y e = ap (λ b. if b then is_along line.from.y line.from.x line.to.y line.to.x y x else is_along line.from.x line.from.y line.to.x line.to.y x y) e

pub steps_y_major : (line : Line) → is_y_major line ≡ true → steps_of line ≡ far line.from.y line.to.y
steps_y_major line e = ap (λ b. if b then far line.from.y line.to.y else far line.from.x line.to.x) e

pub steps_x_major : (line : Line) → is_y_major line ≡ false → steps_of line ≡ far line.from.x line.to.x
steps_x_major line e = ap (λ b. if b then far line.from.y line.to.y else far line.from.x line.to.x) e

pub at_y_major : (line : Line) (x y : ℤ) → is_y_major line ≡ true → step_at line x y ≡ far line.from.y y
at_y_major line x y e = ap (λ b. if b then far line.from.y y else far line.from.x x) e

pub at_x_major : (line : Line) (x y : ℤ) → is_y_major line ≡ false → step_at line x y ≡ far line.from.x x
at_x_major line x y e = ap (λ b. if b then far line.from.y y else far line.from.x x) e

-- the point at a place
abbrev point_at : ℤ → ℤ → Point
point_at x y = record { x = x; y = y }

same_point : (u v x y : ℤ) → u ≡ x → v ≡ y → point_at u v ≡ point_at x y
same_point u v x y e f = ap (λ n. point_at n v) e ∙ ap (λ n. point_at x n) f

each_y_major : (line : Line) (step : ℕ) → is_y_major line ≡ true → step < steps_of line → HasStep line step
each_y_major line step e k =
    let there = along_each line.from.y line.from.x line.to.y line.to.x step (subst (λ (n : ℕ). step < n) (steps_y_major line e) k) in
    record {
      pixel = point_at there.v there.u;
      on = on_y_major line there.v there.u e ∙ there.on;
      at = at_y_major line there.v there.u e ∙ there.at;
      only = λ x y t s.
          let same = along_only line.from.y line.from.x line.to.y line.to.x there.u there.v y x there.on (sym (on_y_major line x y e) ∙ t) (there.at ∙ sym s ∙ at_y_major line x y e) in
          same_point there.v there.u x y same.1 same.0;
    }

each_x_major : (line : Line) (step : ℕ) → is_y_major line ≡ false → step < steps_of line → HasStep line step
each_x_major line step e k =
    let there = along_each line.from.x line.from.y line.to.x line.to.y step (subst (λ (n : ℕ). step < n) (steps_x_major line e) k) in
    record {
      pixel = point_at there.u there.v;
      on = on_x_major line there.u there.v e ∙ there.on;
      at = at_x_major line there.u there.v e ∙ there.at;
      only = λ x y t s.
          let same = along_only line.from.x line.from.y line.to.x line.to.y there.u there.v x y there.on (sym (on_x_major line x y e) ∙ t) (there.at ∙ sym s ∙ at_x_major line x y e) in
          same_point there.u there.v x y same.0 same.1;
    }

pub by_axis : {P : Type 0} (line : Line) → (is_y_major line ≡ true → P) → (is_y_major line ≡ false → P) → P
by_axis line f g = by_test (is_y_major line) f g

pub within_steps : (line : Line) (x y : ℤ) → IsTrue (on_line line x y) → step_at line x y < steps_of line
within_steps line x y t =
    by_axis line
    (λ (e : is_y_major line ≡ true).
    let within = along_within line.from.y line.from.x line.to.y line.to.x y x (sym (on_y_major line x y e) ∙ t) in
    omega (arith, within, at_y_major line x y e, steps_y_major line e))
    (λ (e : is_y_major line ≡ false).
    let within = along_within line.from.x line.from.y line.to.x line.to.y x y (sym (on_x_major line x y e) ∙ t) in
    omega (arith, within, at_x_major line x y e, steps_x_major line e))

pub line_law : OnePixelForEachStep
line_law = record {
  each = λ line step k. by_axis line (λ e. each_y_major line step e k) (λ e. each_x_major line step e k);
  no_other = within_steps;
}

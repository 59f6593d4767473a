-- A pixel's number in the box is that in rows as wide as the box, less that of the first pixel.
use Rattle.std.proofs.Common.{◌≡◌, ℕ, ◌+◌, ◌-◌, ◌*◌, ◌≤◌, ap, arith, ◌∙◌}
use native.Mathlib.Nat.{add-mul}
use Rattle.span_fill.specs.declared.span.Region.{Region}
use Rattle.painting.specs.VisitedMask.{VisitedMaskState, pixel_number, span_width}
use Rattle.painting.proofs.VisitedMaskLemmas.{IsInside, inside_of, number_within}
use Rattle.painting.proofs.visited_mask.VisitedMask.number_in.Goals as goal

-- a row further down
rows_apart : (y top columns : ℕ) → top ≤ y → y * columns ≡ (y - top) * columns + top * columns
rows_apart y top columns h =
    let e : y ≡ y - top + top = omega (arith, h) in
    ap (λ (n : ℕ). n * columns) e ∙ add-mul (y - top) top columns

module _ (region : Region) (columns start x y at : ℕ) (i : IsInside region x y) (wide : columns ≡ span_width region.columns) (first : start ≡ region.rows.from * columns + region.columns.from) (number : at ≡ y * columns + x) where
  start_before : start ≤ at
  start_before =
      let apart = rows_apart y region.rows.from columns i.top in
      let left = i.left in
      omega (arith, first, number, apart, left)

  number_is : at - start ≡ pixel_number region x y
  number_is =
      let apart = rows_apart y region.rows.from columns i.top in
      let left = i.left in
      let e : at - start ≡ (y - region.rows.from) * columns + (x - region.columns.from) = omega (arith, first, number, apart, left) in
      e ∙ ap (λ (n : ℕ). (y - region.rows.from) * n + (x - region.columns.from)) wide

pub returns-clause-number : goal.returns-clause-number
returns-clause-number c =
    let here = c.self.inside in
    let i = inside_of here.region c.args.x c.args.y (rw (← c.self.view_is) at c.requires) in
    number_is here.region here.columns here.start c.args.x c.args.y c.number_of.result i c.self.invariant.wide c.self.invariant.first c.number_of.ensures
    ∙ ap (λ (s : VisitedMaskState). pixel_number s.region c.args.x c.args.y) c.self.view_is

pub returns-clause-within : goal.returns-clause-within
returns-clause-within c =
    let here = c.self.inside in
    let i = inside_of here.region c.args.x c.args.y (rw (← c.self.view_is) at c.requires) in
    let number = number_is here.region here.columns here.start c.args.x c.args.y c.number_of.result i c.self.invariant.wide c.self.invariant.first c.number_of.ensures in
    let count = c.self.invariant.count in
    let within = number_within here.region c.args.x c.args.y i in
    omega (arith, number, count, within)

pub overflow_sub-result : goal.overflow_sub-result
overflow_sub-result c =
    let here = c.self.inside in
    let i = inside_of here.region c.args.x c.args.y (rw (← c.self.view_is) at c.requires) in
    start_before here.region here.columns here.start c.args.x c.args.y c.number_of.result i c.self.invariant.wide c.self.invariant.first c.number_of.ensures

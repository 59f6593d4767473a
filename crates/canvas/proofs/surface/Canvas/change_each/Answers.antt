use Rattle.std.proofs.Common.{ℕ, ◌+◌, ◌-◌, ◌*◌, arith, ap, refl, subst, sym, ◌∙◌}
use Rattle.canvas.specs.CanvasState.{CanvasState}
use Rattle.canvas.specs.PixelSources.{counted}
use Rattle.canvas.specs.Rows.{row_stride}
use Rattle.canvas.specs.Writing.{Repaints}
use Rattle.canvas.proofs.EachLemmas.{all_changed, gives_pixel, held_now, is_itself, none_changed, piece_changed, same_changed, sum_fits}
use Rattle.canvas.proofs.surface.Canvas.change_each.Goals as goal

pub loop-pixel-init : goal.loop-pixel-init
loop-pixel-init g c =
    record {
      whole = c.width.ensures.whole;
      changed = none_changed (g.P.PixelSource.to_come c.args.pixels.now) (g.C.PixelChange.made c.args.change) c.args.self.now c.width.ensures.whole;
      places = λ x y. refl;
      end = λ end h. h;
    }

pub change_at-requires-clause-held : goal.change_at-requires-clause-held
change_at-requires-clause-held g c =
    let inv = c.loop-pixel.invariant in
    let pixel = c.in-Pixel.pixel in
    held_now (g.P.PixelSource.to_come c.args.pixels.now) (g.C.PixelChange.made c.args.change) c.args.self.now inv.whole (g.P.PixelSource.to_come c.loop-pixel.pixels) (g.P.PixelSource.to_come c.step.new.self) _ c.loop-pixel.count c.loop-pixel.self inv.changed
    (gives_pixel _ _ _ _ _ pixel c.in-Pixel.ensures.pixel)
    c.requires.held pixel.x pixel.y (is_itself pixel.x pixel.y)

-- the canvas still has the width and the first row that the places are by
pub change_at-requires-clause-place : goal.change_at-requires-clause-place
change_at-requires-clause-place g c =
    let inv = c.loop-pixel.invariant in
    let pixel = c.in-Pixel.pixel in
    let written = inv.changed.written in
    c.in-Pixel.ensures.pixel.place ∙ inv.places pixel.x pixel.y ∙ c.requires.places pixel.x pixel.y
    ∙ ap (λ (first : ℕ). (pixel.y - first) * row_stride c.args.self.now.width + pixel.x) (sym written.first)
    ∙ ap (λ (width : ℕ). (pixel.y - c.loop-pixel.self.first) * row_stride width + pixel.x) (sym written.width)

pub overflow_add-count : goal.overflow_add-count
overflow_add-count g c =
    let inv = c.loop-pixel.invariant in
    let changed = piece_changed (g.P.PixelSource.to_come c.args.pixels.now) (g.C.PixelChange.made c.args.change) c.args.self.now inv.whole (g.P.PixelSource.to_come c.loop-pixel.pixels) (g.P.PixelSource.to_come c.step.new.self) _ c.loop-pixel.count c.loop-pixel.self inv.changed
    (gives_pixel _ _ _ _ _ c.in-Pixel.pixel c.in-Pixel.ensures.pixel)
    1 c.change_at.new.self c.change_at.ensures.count c.change_at.ensures.repaints in
    let fits = sum_fits _ _ _ _ c.args.self.now c.change_at.new.self changed c.requires.countable in
    omega (arith, fits)

pub loop-pixel-preserved-in-Pixel : goal.loop-pixel-preserved-in-Pixel
loop-pixel-preserved-in-Pixel g c =
    let inv = c.loop-pixel.invariant in
    record {
      whole = inv.whole;
      changed = piece_changed (g.P.PixelSource.to_come c.args.pixels.now) (g.C.PixelChange.made c.args.change) c.args.self.now inv.whole (g.P.PixelSource.to_come c.loop-pixel.pixels) (g.P.PixelSource.to_come c.step.new.self) _ c.loop-pixel.count c.loop-pixel.self inv.changed
          (gives_pixel _ _ _ _ _ c.in-Pixel.pixel c.in-Pixel.ensures.pixel)
          1 c.change_at.new.self c.change_at.ensures.count c.change_at.ensures.repaints;
      places = λ x y. c.in-Pixel.ensures.places x y ∙ inv.places x y;
      end = λ end h. inv.end end (c.in-Pixel.ensures.end end h);
    }

pub overflow_add-self : goal.overflow_add-self
overflow_add-self g c =
    let inv = c.loop-pixel.invariant in
    let fits = sum_fits (g.P.PixelSource.to_come c.args.pixels.now) (g.P.PixelSource.to_come c.loop-pixel.pixels) (g.C.PixelChange.made c.args.change) c.loop-pixel.count c.args.self.now c.loop-pixel.self inv.changed c.requires.countable in
    let same = ap (λ (canvas : CanvasState). canvas.writes) c.self-2.view_is in
    omega (arith, fits, same)

pub loop-pixel-preserved : goal.loop-pixel-preserved
loop-pixel-preserved g c =
    let inv = c.loop-pixel.invariant in
    record {
      whole = inv.whole;
      changed = same_changed (g.P.PixelSource.to_come c.args.pixels.now) (g.C.PixelChange.made c.args.change) c.args.self.now inv.whole (g.P.PixelSource.to_come c.loop-pixel.pixels) (g.P.PixelSource.to_come c.step.new.self) c.loop-pixel.count c.loop-pixel.self inv.changed c.in-Nothing.ensures.pixel.same;
      places = λ x y. c.in-Nothing.ensures.places x y ∙ inv.places x y;
      end = λ end h. inv.end end (c.in-Nothing.ensures.end end h);
    }

pub returns-clause-pixels : goal.returns-clause-pixels
returns-clause-pixels g c =
    let start = g.P.PixelSource.to_come c.args.pixels.now in
    let made = g.C.PixelChange.made c.args.change in
    let inv = c.loop-pixel.invariant in
    subst (λ (canvas : CanvasState). Repaints start (λ x y old. made old) c.args.self.now (counted c.loop-pixel.count canvas)) (sym c.self-2.view_is)
    (all_changed start made c.args.self.now inv.whole (g.P.PixelSource.to_come c.loop-pixel.pixels) c.loop-pixel.count c.loop-pixel.self inv.changed c.in-End.ensures.pixel)

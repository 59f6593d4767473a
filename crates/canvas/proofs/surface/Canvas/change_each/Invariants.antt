use Rattle.std.proofs.Common.{◌≡◌, ℕ}
use Rattle.canvas.specs.WritingLaws.{IsWhole}
use Rattle.canvas.proofs.EachLemmas.{HasChanged}
use Rattle.canvas.proofs.surface.Canvas.change_each.Given as goal

-- the pixels that aren't to come any more are written, and what the source ends as is what it ends as from the start
abbrev pub invariant-loop-pixel : goal.invariant-loop-pixel
invariant-loop-pixel g l = record {
  whole : IsWhole l.fn.self;
  changed : HasChanged (g.P.PixelSource.to_come l.fn.pixels) (g.P.PixelSource.to_come l.pixels) (g.C.PixelChange.made l.change) l.count l.fn.self l.self;
  places : (x y : ℕ) → g.P.PixelSource.places l.pixels x y ≡ g.P.PixelSource.places l.fn.pixels x y;
  end : (end : _) → g.P.PixelSource.ends_as l.pixels end → g.P.PixelSource.ends_as l.fn.pixels end;
}

abbrev pub decreases-loop-pixel : goal.decreases-loop-pixel
decreases-loop-pixel g l = g.P.PixelSource.measure l.pixels

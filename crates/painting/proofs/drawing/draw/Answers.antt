use Rattle.std.proofs.Common.{subst}
use Rattle.mapping.specs.PlacingLaws.{ShowsFrame}
use Rattle.mapping.specs.Surface.{Surface}
use Rattle.mapping.specs.declared.nib.Nib.{Nib}
use Rattle.span_fill.specs.WideStrokes.{widened}
use Rattle.dc_stack.specs.Clip.{placed_box}
use Rattle.dc_stack.specs.Draws.{IsPlacedDraw}
use Rattle.dc_stack.specs.MachineState.{HasNib, drawing_with}
use Rattle.preflight_cert.specs.MissedRowsLaws.{LiesOutside}
use Rattle.painting.proofs.LandedBoxLemmas.{shows}
use Rattle.painting.proofs.MissedLemmas.{missed_drawn}
use Rattle.painting.proofs.drawing.draw.Goals as goal

-- what lies outside the canvas's rows is already drawn
pub returns-then-misses_rows-clause-drawn : goal.returns-then-misses_rows-clause-drawn
returns-then-misses_rows-clause-drawn g c =
    let machine = c.args.machine.now in
    let canvas = c.args.canvas.now in
    let drawn = c.in-Some.drawn in
    let place = c.place.result in
    let placed : IsPlacedDraw machine.surface machine.painted drawn = rw c.in-Some.is at c.requires.placed in
    let shown : ShowsFrame machine.surface = subst ShowsFrame c.place.ensures (shows place) in
    let nib : HasNib machine.surface machine drawn = rw c.in-Some.is at c.requires.nib in
    let here = subst (λ (s : Surface). LiesOutside (widened drawn.nib (placed_box s drawn.bounds)) canvas.first canvas.rows) c.place.ensures (c.misses_rows.ensures.0 c.if-misses_rows.true) in
    let beside = subst (λ (n : Nib). LiesOutside (widened n (placed_box machine.surface drawn.bounds)) canvas.first canvas.rows) nib.is here in
    rw c.in-Some.is (missed_drawn c.missed_rows_law.ensures machine.surface (drawing_with machine drawn) drawn.bounds canvas shown c.whole_law.ensures.whole c.requires.held placed.least beside)

use Rattle.std.proofs.Common.{ap, sym, ◌≡◌}
use Rattle.canvas.specs.CanvasState.{CanvasState}
use Rattle.canvas.proofs.FieldLemmas.{whole_inside}
use Rattle.canvas.proofs.surface.Canvas.pixel_count.Goals as goal

pub returns : goal.returns
returns c =
    let width : c.self.inside.width ≡ c.args.self.now.width = ap (λ (s : CanvasState). s.width) c.self.view_is in
    rw (c.rows.ensures.rows, width) (sym (whole_inside c.self.inside _ c.self.view_is c.self.invariant))

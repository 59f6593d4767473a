use Rattle.std.proofs.Common.{subst, ◌≤◌}
use Rattle.canvas.specs.CanvasState.{CanvasState}
use Rattle.canvas.proofs.FieldLemmas.{whole_inside}
use Rattle.canvas.proofs.surface.Canvas.width.Goals as goal

pub returns-clause-whole : goal.returns-clause-whole
returns-clause-whole c = record {
  wide = subst (λ (s : CanvasState). 1 ≤ s.width) c.self.view_is c.self.invariant.wide.not_empty;
  whole = whole_inside c.self.inside _ c.self.view_is c.self.invariant;
}

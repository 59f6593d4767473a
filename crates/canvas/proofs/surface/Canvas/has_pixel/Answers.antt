use Rattle.canvas.proofs.FieldLemmas.{whole_inside}
use Rattle.canvas.proofs.surface.Canvas.has_pixel.Goals as goal

pub returns-then-self-y-clause-whole : goal.returns-then-self-y-clause-whole
returns-then-self-y-clause-whole c = whole_inside c.self.inside _ c.self.view_is c.self.invariant

pub returns-else-self-y-clause-whole : goal.returns-else-self-y-clause-whole
returns-else-self-y-clause-whole c = whole_inside c.self.inside _ c.self.view_is c.self.invariant

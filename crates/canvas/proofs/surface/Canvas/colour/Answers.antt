use Rattle.std.proofs.Common.{refl}
use Rattle.canvas.proofs.CallLemmas.{shown_colour}
use Rattle.canvas.proofs.FieldLemmas.{lies_inside}
use Rattle.canvas.proofs.surface.Canvas.colour.Goals as goal

pub returns : goal.returns
returns c =
    let inside = c.self.inside in
    let items = inside.colours.items in
    shown_colour c.args.x c.args.y c.place.result inside.stride _ c.args.self.now items c.self.view_is c.requires
    (lies_inside inside items c.self.invariant refl)
    c.place.ensures
    c.index.result.now c.index.ensures

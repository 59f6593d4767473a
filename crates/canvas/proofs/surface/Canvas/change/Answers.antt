use Rattle.std.proofs.Common.{◌<◌, ap, length, refl, ◌∙◌}
use Rattle.std.proofs.lemmas.List.{get_or_read}
use Rattle.canvas.proofs.CallLemmas.{place_within, wrote_pixel}
use Rattle.canvas.proofs.FieldLemmas.{lies_inside}
use Rattle.canvas.proofs.surface.Canvas.change.Goals as goal

pub returns-clause-repaints : goal.returns-clause-repaints
returns-clause-repaints g c =
    let inside = c.self.inside in
    let items = inside.colours.items in
    let lies = lies_inside inside items c.self.invariant refl in
    let held = place_within c.args.x c.args.y inside.stride _ c.args.self.now items c.self.view_is c.requires lies in
    let within : c.place-place.result < length items = rw c.place-place.ensures held in
    wrote_pixel c.args.x c.args.y c.place-place.result inside.stride _ c.args.self.now items c.self.view_is c.requires
    lies
    c.place-place.ensures
    _ _ c.of.result
    (λ d. c.of.ensures ∙ ap (g.C.PixelChange.made c.args.change) (get_or_read items c.place-place.result c.index.result.now within c.index.ensures d))
    refl refl refl refl refl refl

use Rattle.dc_stack.proofs.PlaneBoxLemmas.{point_plane_box}
use Rattle.dc_stack.proofs.piece_landing.point_box.Goals as goal

pub returns-in-Ok-clause-extent : goal.returns-in-Ok-clause-extent
returns-in-Ok-clause-extent c =
    rw (c.around.ensures, ← c.in-Ok.ensures.plane) (point_plane_box c.box_law.ensures c.in-Ok.plane c.in-Ok.ensures.on)

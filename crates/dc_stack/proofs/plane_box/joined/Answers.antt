use Rattle.dc_stack.proofs.PlaneBoxLemmas.{joined_plane_box}
use Rattle.dc_stack.proofs.plane_box.joined.Goals as goal

pub returns-in-Some-Some : goal.returns-in-Some-Some
returns-in-Some-Some c = λ points others first second.
    let both = c.in-Some-Some in
    joined_plane_box c.box_law.ensures both.first both.second c.joined.result points others (rw both.is-0 at first) (rw both.is-1 at second) c.joined.ensures

use Rattle.std.proofs.Common.{◌≡◌, true, false, rules}
use Rattle.point_views.specs.Polys.{lists_of}
use Rattle.dc_stack.specs.Path.{is_open}
use Rattle.dc_stack.proofs.AddingLemmas.{plays_polylines}
use Rattle.dc_stack.proofs.MarkingLemmas.{plays_polylines_apart}
use Rattle.dc_stack.proofs.machine.Machine.polyline.Goals as goal

pub returns-then-is_open-clause-plays : goal.returns-then-is_open-clause-plays
returns-then-is_open-clause-plays g c =
    let old = c.args.self.now in
    let begun : is_open old.state.path ≡ true = search rules in
    c.draw_nothing.ensures _ _ _ (plays_polylines old c.add_lists-added.new.self begun c.add_lists-added.result c.of.result (lists_of c.args.lists) (c.of.ensures.plane old.state.dc.map) c.of.ensures.page c.add_lists-added.ensures.adds)

pub returns-else-is_open-clause-plays : goal.returns-else-is_open-clause-plays
returns-else-is_open-clause-plays g c =
    let closed : is_open c.args.self.now.state.path ≡ false = search rules in
    plays_polylines_apart c.args.self.now c.draw_polylines.new.self closed _ (lists_of c.args.lists) c.draw_polylines.ensures.draws

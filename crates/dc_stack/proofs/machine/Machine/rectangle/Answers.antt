use Rattle.std.proofs.Common.{◌≡◌, true, false, rules}
use Rattle.dc_stack.specs.Path.{is_open}
use Rattle.dc_stack.proofs.AddingLemmas.{plays_rectangle}
use Rattle.dc_stack.proofs.MarkingLemmas.{plays_rectangle_apart}
use Rattle.dc_stack.proofs.machine.Machine.rectangle.Goals as goal

pub returns-then-is_open-clause-plays : goal.returns-then-is_open-clause-plays
returns-then-is_open-clause-plays g c =
    let old = c.args.self.now in
    let begun : is_open old.state.path ≡ true = search rules in
    c.draw_nothing.ensures _ _ _ (plays_rectangle old c.add_lists-added.new.self begun c.add_lists-added.result c.args.corners c.args.edges c.add_lists-added.ensures.adds)

pub returns-else-is_open-clause-plays : goal.returns-else-is_open-clause-plays
returns-else-is_open-clause-plays g c =
    let closed : is_open c.args.self.now.state.path ≡ false = search rules in
    plays_rectangle_apart c.args.self.now c.draw_rectangle.new.self closed _ c.args.corners c.args.edges c.draw_rectangle.ensures.draws

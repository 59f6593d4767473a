use Rattle.std.proofs.Common.{◌≡◌, refl, rules, ap, subst, ◌∙◌}
use Rattle.dc_stack.specs.Figures.{all_figures}
use Rattle.dc_stack.specs.GatheredPath.{path_in, path_of}
use Rattle.dc_stack.specs.Path.{finished_path, no_path}
use Rattle.dc_stack.specs.Pieces.{AllLandOn, figures_of}
use Rattle.dc_stack.specs.State.{State, with_path}
use Rattle.dc_stack.specs.declared.path.PathPhase.{PathPhase}
use Rattle.dc_stack.specs.declared.path.PathPhase.TheVariants.{Finished}
use Rattle.dc_stack.proofs.PaintingLemmas.{finished_figures, plays_painting, rejects_marking, rejects_painting}
use Rattle.dc_stack.proofs.machine.Machine.paint_path.Goals as goal

pub returns-in-None-clause-plays : goal.returns-in-None-clause-plays
returns-in-None-clause-plays g c =
    let pieces = c.self.inside.path.pieces.items in
    let phase : c.self.inside.path.phase ≡ Finished = search rules in
    let at : path_of c.self.inside.path ≡ finished_path (all_figures (figures_of pieces)) = ap (λ (p : PathPhase). path_in p pieces) phase in
    rw (← c.self.view_is) (rejects_painting _ _ c.args.painting pieces at c.in-None.ensures.many (record { state = refl; painted = refl; plane_extent = refl; needs = refl }))

pub returns-in-Err-clause-plays : goal.returns-in-Err-clause-plays
returns-in-Err-clause-plays g c =
    let pieces = c.self.inside.path.pieces.items in
    let phase : c.self.inside.path.phase ≡ Finished = search rules in
    let at : path_of c.self.inside.path ≡ finished_path (all_figures (figures_of pieces)) = ap (λ (p : PathPhase). path_in p pieces) phase in
    let marks = rw (← c.self.view_is) at c.in-Err.ensures.marks in
    rw (← c.self.view_is) (rejects_marking _ _ c.args.painting _ c.in-Some.count (all_figures (figures_of pieces)) at c.in-Some.ensures.count c.in-Some.ensures.few c.self.invariant.points.least _ marks)

pub returns-in-Ok-clause-plays : goal.returns-in-Ok-clause-plays
returns-in-Ok-clause-plays g c =
    let pieces = c.self.inside.path.pieces.items in
    let figures = all_figures (figures_of pieces) in
    let phase : c.self.inside.path.phase ≡ Finished = search rules in
    let at : path_of c.self.inside.path ≡ finished_path figures = ap (λ (p : PathPhase). path_in p pieces) phase in
    let borrowed = c.self-2.inside.path in
    let marks = rw (← c.self.view_is, ← c.self-2.view_is) at c.in-Ok.ensures.marks in
    let surface = rw (← c.self.view_is, ← c.self-2.view_is) at c.in-Ok.ensures.goes_on.surface in
    let same = finished_figures borrowed.phase borrowed.pieces.items figures (ap (λ (s : State). s.path) marks.state ∙ at) in
    rw (← c.self.view_is) (plays_painting _ _ c.args.painting _ c.in-Some.count figures at c.in-Some.ensures.count c.in-Some.ensures.few c.self.invariant.points.least
    _ _ borrowed.pieces.items same (rw c.borrow_pieces.ensures.path (ap (with_path no_path) marks.state)) c.borrow_pieces.ensures.painted refl (subst (λ s. AllLandOn s borrowed.pieces.items) surface c.self-2.invariant.points.pieces) marks)

use Rattle.std.proofs.Common.{ap, subst, sym, ◌∙◌}
use Rattle.mapping.specs.Surface.{FitsPlace}
use Rattle.mapping.specs.declared.geometry.Point.{Point}
use Rattle.mapping.specs.Boxes.{box_between, left_top_of, right_bottom_of}
use Rattle.dc_stack.specs.Figures.{box_corners}
use Rattle.dc_stack.specs.Projected.{projected}
use Rattle.painting.proofs.LandingLemmas.{corners_near}
use Rattle.painting.proofs.PieceLemmas.{projected_fits}
use Rattle.painting.proofs.path_moves.place_corners.Goals as goal

pub between-inside-requires-clause-first : goal.between-inside-requires-clause-first
between-inside-requires-clause-first c =
    let by = c.args.by in
    let first = c.at-first.ensures ∙ ap (projected by) c.left_top.ensures in
    subst FitsPlace (sym first) (projected_fits by (left_top_of c.args.corners) c.requires.first)

pub between-inside-requires-clause-second : goal.between-inside-requires-clause-second
between-inside-requires-clause-second c =
    let by = c.args.by in
    let second = c.at-second.ensures ∙ ap (projected by) c.right_bottom.ensures in
    subst FitsPlace (sym second) (projected_fits by (right_bottom_of c.args.corners) c.requires.second)

pub returns : goal.returns
returns c =
    let by = c.args.by in
    let first = c.at-first.ensures ∙ ap (projected by) c.left_top.ensures in
    let second = c.at-second.ensures ∙ ap (projected by) c.right_bottom.ensures in
    let inside = c.between-inside.ensures.value ∙ ap (λ (p : Point). box_between p c.at-second.result) first ∙ ap (λ (q : Point). box_between (projected by (left_top_of c.args.corners)) q) second in
    c.corners_of.ensures ∙ ap box_corners inside

pub invariant_of-result : goal.invariant_of-result
invariant_of-result c =
    let inside = c.between-inside.ensures in
    record { near = λ k d h. rw c.corners_of.ensures (corners_near c.between-inside.result inside.left inside.top inside.right inside.bottom k d (rw c.corners_of.ensures at h)) }

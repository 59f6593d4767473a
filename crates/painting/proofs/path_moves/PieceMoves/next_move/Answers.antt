use Rattle.std.proofs.Common.{◌≡◌, List, [], ◌∷◌, ◌++◌, map, append_assoc, sym, ap, ◌∙◌, arith, rules}
use Rattle.std.proofs.lemmas.Grind.{common_steps}
use Rattle.point_views.specs.Points.{points_of}
use Rattle.point_views.specs.Polys.{lists_of}
use Rattle.painting.specs.Moves.{moves_of_list, moves_of_lists}
use Rattle.painting.specs.MovesToCome.{end_left}
use Rattle.painting.specs.PlacedLines.{projected_list}
use Rattle.painting.specs.declared.moves.Move.{Move}
use Rattle.painting.specs.declared.moves.Move.TheVariants.{End}
use Rattle.painting.proofs.EmptyListLemmas.{after_lands, fewer_after, first_moves_after, no_moves_after}
use Rattle.painting.proofs.LandingLemmas.{first_list_lands, other_lists_land}
use Rattle.painting.proofs.path_moves.PieceMoves.next_move.Goals as goal

pub invariant_of-points : goal.invariant_of-points
invariant_of-points c =
    let moves = c.loop-step.self in
    let taken = c.in-Some-split_first in
    let after = lists_of c.after_empty.result in
    let land = after_lands moves.by after (lists_of moves.lists) c.after_empty.ensures moves.land in
    record { land = first_list_lands moves.by (points_of taken.points) (lists_of taken.rest) after taken.ensures.lists land }

pub invariant_of-self-in-loop-step : goal.invariant_of-self-in-loop-step
invariant_of-self-in-loop-step c =
    let moves = c.loop-step.self in
    let taken = c.in-Some-split_first in
    let after = lists_of c.after_empty.result in
    let land = after_lands moves.by after (lists_of moves.lists) c.after_empty.ensures moves.land in
    record { land = other_lists_land moves.by (points_of taken.points) (lists_of taken.rest) after taken.ensures.lists land }

pub loop-step-smaller : goal.loop-step-smaller
loop-step-smaller c =
    let taken = c.in-Some-split_first in
    fewer_after (points_of taken.points) (lists_of taken.rest) (lists_of c.after_empty.result) (lists_of c.loop-step.self.lists) taken.ensures.lists c.after_empty.ensures

pub loop-step-preserved : goal.loop-step-preserved
loop-step-preserved c =
    let moves = c.loop-step.self in
    let taken = c.in-Some-split_first in
    let all = moves_of_lists moves.verb (map (projected_list moves.by) (lists_of moves.lists)) in
    let others = moves_of_lists moves.verb (map (projected_list moves.by) (lists_of taken.rest)) in
    let list = moves_of_list moves.verb (projected_list moves.by (points_of taken.points)) in
    let first = first_moves_after moves.by moves.verb (points_of taken.points) (lists_of taken.rest) (lists_of c.after_empty.result) (lists_of moves.lists) taken.ensures.lists c.after_empty.ensures in
    ap (λ (them : List Move). them ++ (others ++ end_left moves.end)) c.new-self.ensures
    ∙ sym (append_assoc list others (end_left moves.end))
    ∙ ap (λ (them : List Move). them ++ end_left moves.end) (sym first)
    ∙ ap (λ (them : List Move). them ++ (all ++ end_left moves.end)) (sym c.in_default.ensures.next.0)
    ∙ c.loop-step.invariant

pub returns-in_err-end-clause-next : goal.returns-in_err-end-clause-next
returns-in_err-end-clause-next c =
    let moves = c.loop-step.self in
    let after = lists_of c.after_empty.result in
    let empty : after ≡ [] = first_of (search rules, grind (arith, common_steps)) in
    let none = no_moves_after moves.by moves.verb after (lists_of moves.lists) empty c.after_empty.ensures in
    let all = moves_of_lists moves.verb (map (projected_list moves.by) (lists_of moves.lists)) in
    let given = c.in_default.ensures.next in
    let was = c.in_err-end.was in
    let end = ap (λ (them : List Move). them ++ end_left moves.end) none ∙ ap end_left was in
    let left = λ (them : List Move). them ++ (all ++ end_left moves.end) in
    rw c.from_residual.ensures (sym c.loop-step.invariant ∙ ap left given.0 ∙ end, ap left given.1 ∙ end)

pub returns-in_default-split_first-clause-next : goal.returns-in_default-split_first-clause-next
returns-in_default-split_first-clause-next c =
    let moves = c.loop-step.self in
    let after = lists_of c.after_empty.result in
    let empty : after ≡ [] = first_of (search rules, grind (arith, common_steps)) in
    let none = no_moves_after moves.by moves.verb after (lists_of moves.lists) empty c.after_empty.ensures in
    let all = moves_of_lists moves.verb (map (projected_list moves.by) (lists_of moves.lists)) in
    let given = c.in_default.ensures.next in
    let old = ap (λ (them : List Move). them ++ (all ++ end_left moves.end)) given.0 ∙ ap (λ (them : List Move). them ++ end_left moves.end) none in
    let new = ap (λ (them : List Move). End c.in_ok-end.end ∷ (them ++ (all ++ []))) given.1 ∙ ap (λ (them : List Move). End c.in_ok-end.end ∷ (them ++ [])) none in
    let was = c.in_ok-end.was in
    sym c.loop-step.invariant ∙ old ∙ ap end_left was ∙ sym new

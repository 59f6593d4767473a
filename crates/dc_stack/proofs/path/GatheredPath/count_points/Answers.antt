use Rattle.std.proofs.Common.{◌<◌, suc, length, ap, arith, refl, sym, ◌∙◌}
use Rattle.dc_stack.specs.Drawing.{edge_limit}
use Rattle.dc_stack.specs.declared.piece.Piece.{Piece}
use Rattle.dc_stack.proofs.CountLemmas.{all_counted, counted_in_all, gathered_count, one_more_counted}
use Rattle.dc_stack.proofs.FigureLemmas.{plane_points}
use Rattle.dc_stack.proofs.path.GatheredPath.count_points.Goals as goal

pub loop-index-init : goal.loop-index-init
loop-index-init c = record { counted = refl; few = omega arith }

pub returns-then-more-count-clause-many : goal.returns-then-more-count-clause-many
unfolding edge_limit
returns-then-more-count-clause-many c =
    let pieces = c.args.self.now.pieces.items in
    let index = c.loop-index.index in
    let count = c.len-index-end.ensures in
    let before = c.loop-index-test.true in
    let within : index < length pieces = omega (arith, count, before) in
    let one = one_more_counted pieces index c.index.result.now within in
    let more = c.count_of-more.ensures ∙ ap (λ (piece : Piece). length (plane_points piece)) c.index.ensures in
    let first = counted_in_all pieces (suc index) in
    let all = gathered_count pieces in
    let counted = c.loop-index.invariant.counted in
    let past = c.if-more-count.true in
    let few = c.loop-index.invariant.few in
    omega (arith, one, more, first, all, counted, past, few)

pub returns-clause-count : goal.returns-clause-count
returns-clause-count c =
    let pieces = c.args.self.now.pieces.items in
    let count = c.len-index-end.ensures in
    let after = c.loop-index-test.false in
    c.loop-index.invariant.counted ∙ all_counted pieces c.loop-index.index (omega (arith, count, after)) ∙ sym (gathered_count pieces)

pub returns-clause-few : goal.returns-clause-few
unfolding edge_limit
returns-clause-few c = let counted = returns-clause-count c in let few = c.loop-index.invariant.few in omega (arith, counted, few)

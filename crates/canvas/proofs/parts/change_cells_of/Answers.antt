use Rattle.std.proofs.Common.{◌≡◌, ℕ, ◌+◌, eqb, ◌%◌, refl, length, ap, arith, sym, ◌∙◌}
use Rattle.std.proofs.lemmas.Bool.{cond-false}
use Rattle.std.specs.Int.{bit_at}
use Rattle.mapping.specs.IndexLaws.{count_indexes_most}
use Rattle.mapping.specs.Pixels.{is_cell}
use Rattle.canvas.proofs.CellLemmas.{count_stage_none, count_stage_set, count_stage_unset, stage, stage_apart, stage_none, stage_capacity, stage_set, stage_unset}
use Rattle.canvas.proofs.WritingLawLemmas.{either_one}
use Rattle.canvas.proofs.parts.change_cells_of.Goals as goal
use Rattle.canvas.proofs.parts.change_cells_of.Goals.{then-has_bit, else-has_bit}

pub loop-offset-init : goal.loop-offset-init
loop-offset-init g c = record {
  each = λ k d h. sym (cond-false _ _ _ (stage_none c.args.cells c.args.column k));
  count = sym (count_stage_none c.args.cells c.args.column (length c.args.part.now));
}

pub overflow_add-count : goal.overflow_add-count
overflow_add-count g c =
    let capacity = stage_capacity c.args.cells c.args.column c.loop-offset.offset (length c.loop-offset.part) in
    let before = c.loop-offset.invariant.count in
    let more = c.change_each_eighth-count.ensures.count in
    omega (arith, capacity, before, more)

pub loop-offset-preserved : goal.loop-offset-preserved
loop-offset-preserved g c =
    let cells = c.args.cells in
    let column = c.args.column in
    let offset = c.loop-offset.offset in
    let bit : is_cell cells (column + offset) ≡ c.has_bit.result = sym (c.has_bit.ensures ∙ ap (λ (i : ℕ). eqb (bit_at cells i) 1) c.rotated.ensures.place) in
    let long = c.if-has_bit.auto.part in
    elim c.if-has_bit.branch [
      | then-has_bit w ↦
          let here = bit ∙ w.if-has_bit.true in
          record {
            each = λ k d h. rw (w.part-is, w.change_each_eighth-count.ensures.colours k d (omega arith), c.loop-offset.invariant.each k d (omega arith), stage_set cells column offset k here)
                (either_one (stage cells column offset k) (eqb (k % 8) offset) (g.C.PixelChange.made c.args.change) _ (stage_apart cells column offset k));
            count = rw (w.count-is, long, w.change_each_eighth-count.ensures.count, c.loop-offset.invariant.count) (count_stage_set cells column offset (length c.loop-offset.part) here);
          }
      | else-has_bit w ↦
          let here = bit ∙ w.if-has_bit.false in
          record {
            each = λ k d h. rw (w.part-is, c.loop-offset.invariant.each k d (omega arith), stage_unset cells column offset k here) refl;
            count = rw (w.count-is, long, c.loop-offset.invariant.count) (count_stage_unset cells column offset (length c.loop-offset.part) here);
          }
    ]

pub returns-clause-most : goal.returns-clause-most
returns-clause-most g c =
    let counted = c.loop-offset.invariant.count in
    let long = c.loop-offset.auto.part in
    omega (arith, counted, long, count_indexes_most (stage c.args.cells c.args.column c.loop-offset.offset) 0 (length c.loop-offset.part))

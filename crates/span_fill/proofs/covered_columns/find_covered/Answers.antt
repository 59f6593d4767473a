-- A column whose bit is left was set in each row that was read, and each row of the region has one of these.
use Rattle.std.proofs.Common.{◌≡◌, ◌+◌, ◌-◌, ◌<◌, min, inl, inr, ap, arith, sym, ◌∙◌}
use Rattle.std.proofs.lemmas.Bool.{and_parts, cases_lt}
use Rattle.std.proofs.lemmas.Grind.{common_steps}
use Rattle.span_fill.specs.BitRows.{has_bit}
use Rattle.span_fill.specs.MaskCovers.{last_row}
use Rattle.span_fill.specs.MaskFrames.{depth_of}
use Rattle.span_fill.proofs.AnyLemmas.{any_same}
use Rattle.span_fill.proofs.CoverLemmas.{any_from}
use Rattle.span_fill.proofs.covered_columns.find_covered.Goals as goal

pub loop-row-preserved : goal.loop-row-preserved
loop-row-preserved c =
    let there = c.loop-row.invariant in
    let frame = c.args.frame in
    let columns = there.size.column_count ∙ c.requires.size.column_count in
    let rows = there.size.row_count ∙ c.requires.size.row_count in
    let last = c.last_row-last.ensures.row in
    let some = c.requires.some in
    let depth = c.depth-depth.ensures in
    let height = c.height-height.ensures.height in
    let more = c.loop-row-test.true in
    let least : c.min-read.result ≡ min c.loop-row.row (c.height-height.result - 1) = grind (arith, common_steps) in
    let within : c.min-read.result < last_row frame = omega (arith, least, height, some) in
    record {
      low = omega (arith, depth);
      same = λ x i wide below.
          c.keep_common.ensures.bits.others x i (rw columns wide) (omega (arith, rows, below)) (λ e. omega (arith, below, e, last)) ∙ there.same x i wide below;
      known = λ x y wide high near set.
          let common = c.keep_common.ensures.bits.common x (rw columns wide) in
          let parts = and_parts (has_bit c.loop-row.bits x c.last_row-last.result) (has_bit c.loop-row.bits x c.min-read.result) (sym common ∙ (ap (λ i. has_bit c.keep_common.new.self x i) last ∙ set)) in
          elim (cases_lt c.loop-row.row (y + depth_of frame)) [
            | inl reached ↦
                let place : y + (c.min-read.result - y) ≡ c.min-read.result = omega (arith, near, depth, least, high, height) in
                any_from (λ d. has_bit c.args.bits.now x (y + d)) (depth_of frame) (c.min-read.result - y) (omega (arith, reached, near, depth, place, least))
                (ap (λ i. has_bit c.args.bits.now x i) place ∙ (sym (there.same x c.min-read.result wide within) ∙ parts.1))
            | inr passed ↦ there.known x y wide high passed (ap (λ i. has_bit c.loop-row.bits x i) (sym last) ∙ parts.0)
          ];
      size = record { row_count = c.keep_common.ensures.size.row_count ∙ there.size.row_count; column_count = c.keep_common.ensures.size.column_count ∙ there.size.column_count };
    }

pub returns-clause-same : goal.returns-clause-same
returns-clause-same c = λ x y wide high.
    let some = c.requires.some in
    any_same (λ d. has_bit c.loop-row.bits x (y + d)) (λ d. has_bit c.args.bits.now x (y + d)) (depth_of c.args.frame) (λ d below. c.loop-row.invariant.same x (y + d) wide (omega (arith, high, below, some)))

pub returns-clause-known : goal.returns-clause-known
returns-clause-known c = λ x y wide high set.
    let some = c.requires.some in
    let depth = c.depth-depth.ensures in
    let height = c.height-height.ensures.height in
    let ended = c.loop-row-test.false in
    any_same (λ d. has_bit c.loop-row.bits x (y + d)) (λ d. has_bit c.args.bits.now x (y + d)) (depth_of c.args.frame) (λ d below. c.loop-row.invariant.same x (y + d) wide (omega (arith, high, below, some)))
    ∙ c.loop-row.invariant.known x y wide high (omega (arith, high, ended, depth, height)) set

pub returns-clause-size : goal.returns-clause-size
returns-clause-size c = c.loop-row.invariant.size

-- What is copied is the first colours, so all that is filled is like them.
use Rattle.std.proofs.Common.{length, ◌++◌, arith, sym, ap, get_or, ◌∙◌}
use Rattle.std.proofs.Math.ListN.{drop}
use Rattle.std.proofs.Math.ListN.{get_or-append}
use Rattle.std.proofs.lemmas.List.{length-append, length-take-le}
use Rattle.canvas.proofs.RepeatLemmas.{enough, repeated}
use Rattle.canvas.proofs.parts.repeat_first.Goals as goal

pub slice_bounds-copy_from_slice-end-in-loop-filled-2 : goal.slice_bounds-copy_from_slice-end-in-loop-filled-2
slice_bounds-copy_from_slice-end-in-loop-filled-2 c =
    let reach = c.loop-filled.invariant.reach in
    let front = c.split_at_mut-done.ensures.front_len in
    (enough c.min-count.result c.args.first c.split_at_mut-done.result.0.now c.split_at_mut-done.result.1.now c.min-count.ensures (omega (arith, reach, front))).0

pub slice_bounds-copy_from_slice-end-in-loop-filled-3 : goal.slice_bounds-copy_from_slice-end-in-loop-filled-3
slice_bounds-copy_from_slice-end-in-loop-filled-3 c =
    let reach = c.loop-filled.invariant.reach in
    let front = c.split_at_mut-done.ensures.front_len in
    sym (length-take-le c.min-count.result c.split_at_mut-done.result.0.now
    (enough c.min-count.result c.args.first c.split_at_mut-done.result.0.now c.split_at_mut-done.result.1.now c.min-count.ensures (omega (arith, reach, front))).0)

pub copy_from_slice-requires : goal.copy_from_slice-requires
copy_from_slice-requires c =
    let reach = c.loop-filled.invariant.reach in
    let front = c.split_at_mut-done.ensures.front_len in
    let both = enough c.min-count.result c.args.first c.split_at_mut-done.result.0.now c.split_at_mut-done.result.1.now c.min-count.ensures (omega (arith, reach, front)) in
    length-take-le c.min-count.result c.split_at_mut-done.result.1.now both.1 ∙ sym (length-take-le c.min-count.result c.split_at_mut-done.result.0.now both.0)

pub loop-filled-preserved : goal.loop-filled-preserved
loop-filled-preserved c =
    let there = c.loop-filled.invariant in
    let reach = there.reach in
    let done = c.split_at_mut-done.result.0.now in
    let rest = c.split_at_mut-done.result.1.now in
    let front = c.split_at_mut-done.ensures.front_len in
    let both = enough c.min-count.result c.args.first done rest c.min-count.ensures (omega (arith, reach, front)) in
    let few = both.1 in
    let whole = ap length (c.split_at_mut-done.ensures.value) in
    record {
      reach = omega (arith, reach);
      within = omega (arith, front, length-append done (c.copy_from_slice.new.self ++ drop c.min-count.result rest), length-append c.copy_from_slice.new.self (drop c.min-count.result rest), c.copy_from_slice.ensures.len, length-take-le c.min-count.result rest few);
      same = λ colour same k any below.
          repeated done c.copy_from_slice.new.self (drop c.min-count.result rest) c.min-count.result colour both.0 c.copy_from_slice.ensures.after
          (λ k any near. sym (get_or-append done rest any k near) ∙ (ap (λ all. get_or all k any) (sym c.split_at_mut-done.ensures.value) ∙ there.same colour same k any (omega (arith, near, front)))) k any (omega (arith, below, front));
    }

pub returns : goal.returns
returns c = λ colour same k any below.
    let ended = c.loop-filled-test.false in
    let long = c.loop-filled.auto.part in
    c.loop-filled.invariant.same colour same k any (omega (arith, below, ended, long))

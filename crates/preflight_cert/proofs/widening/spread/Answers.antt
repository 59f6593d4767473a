-- One entry more has been moved.
use Rattle.std.proofs.Common.{◌*◌, ◌-◌, arith, ◌∙◌}
use Rattle.preflight_cert.proofs.DraftLemmas.{prefix_less, moved_next}
use Rattle.preflight_cert.proofs.widening.spread.Goals as goal

pub loop-left-preserved : goal.loop-left-preserved
loop-left-preserved c =
    let left = c.loop-left.left in
    let old = c.loop-left.bytes in
    let start = c.args.bytes.now in
    let some = c.loop-left-test.true in
    let before = c.loop-left.invariant in
    let few = before.few in
    record {
      few = omega (arith, few);
      len = c.move_entry.ensures.len ∙ before.len;
      prefix = c.move_entry.ensures.prefix ∙ prefix_less (20 * (left - 1)) (20 * left) old start (omega arith) before.prefix;
      moved = λ entries after size single whole. moved_next left start old c.move_entry.new.bytes entries after some (omega (arith, few, size)) single whole
          before.prefix c.move_entry.ensures.after (before.moved entries after size single whole);
    }

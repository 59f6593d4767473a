-- One edge more.
use Rattle.std.proofs.Common.{arith}
use Rattle.span_fill.proofs.AdmitLemmas.{active_step, left_step}
use Rattle.span_fill.proofs.active_edges.admit.Goals as goal

pub loop-edge-preserved : goal.loop-edge-preserved
loop-edge-preserved c =
    let begins = c.in-Some.ensures in
    let within = begins.within in
    record {
      active = active_step c.args.row c.in-Some.edge c.loop-edge.active.items c.push_reserved.new.self.items _ _ _ begins.first begins.begins (rw c.active_at.ensures at c.push_reserved.ensures.items) c.loop-edge.invariant.active;
      left = left_step c.args.row c.in-Some.edge _ _ _ begins.first begins.waits c.loop-edge.invariant.left;
      within = omega arith;
      length = omega (arith, c.push_reserved.ensures.len);
      capacity = omega arith;
    }

-- One strip more.
use Rattle.std.proofs.Common.{pos, ◌+◌, ◌∙◌, ◌∷◌, [], ◌++◌, drop, arith}
use Rattle.std.proofs.lemmas.List.Elements.{All-push, All-rest, All-same}
use Rattle.span_fill.specs.StrokeRows.{IsActive, IsWaiting}
use Rattle.span_fill.proofs.StrokeLemmas.{have_moved}
use Rattle.span_fill.proofs.stroke_rows.enter.Goals as goal

pub loop-edge-preserved : goal.loop-edge-preserved
loop-edge-preserved c =
    let begins = c.in-Some.ensures in
    let within = begins.within in
    let there = c.loop-edge.invariant in
    record {
      active = All-same (IsActive c.args.nib (pos c.args.row) (pos 8192)) _ (c.loop-edge.active.items ++ c.in-Some.edge ∷ []) c.push_reserved.ensures.items
          (All-push (IsActive c.args.nib (pos c.args.row) (pos 8192)) c.loop-edge.active.items c.in-Some.edge there.active begins.active);
      waiting = All-rest (IsWaiting c.args.nib (pos c.args.row) (pos 8192)) c.in-Some.edge (drop (c.loop-edge.next + 1) c.args.waiting.now) (drop c.loop-edge.next c.args.waiting.now) begins.first there.waiting;
      have = λ x y.
          have_moved c.args.nib c.loop-edge.active.items _ (drop c.loop-edge.next c.args.waiting.now) (drop (c.loop-edge.next + 1) c.args.waiting.now) c.in-Some.edge x y c.push_reserved.ensures.items begins.first
          ∙ there.have x y;
      within = omega arith;
      length = omega (arith, c.push_reserved.ensures.len);
      capacity = omega arith;
    }

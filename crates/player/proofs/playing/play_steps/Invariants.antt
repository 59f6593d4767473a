use Rattle.std.proofs.Common.{◌≡◌, ◌+◌, ◌*◌, ◌≤◌, length}
use Rattle.canvas.specs.CanvasState.{image_of}
use Rattle.dc_stack.specs.MachineState.{GoesOn}
use Rattle.player.specs.After.{HasLines, HasCapacityForSteps}
use Rattle.preflight_cert.specs.Apply.{rows_after}
use Rattle.preflight_cert.specs.Drawings.{drawings_of}
use Rattle.painting.specs.Drawn.{HoldsRows, SameRows}
use Rattle.preflight_cert.specs.Stop.{broken_after, stopped}
use Rattle.preflight_cert.specs.Writes.{writes_of_drawings}
use Rattle.player.proofs.playing.play_steps.Given as goal

-- the rest of the run ends as the whole run does, and each step writes at most 2^27 pixels
abbrev pub invariant-loop-is_put : goal.invariant-loop-is_put
invariant-loop-is_put g l =
    let content = g.S.HasContent.content in
    let start = l.fn.machine.surface in
    record {
      few : l.canvas.writes + 134217728 * length (content l.source).steps ≤ l.fn.canvas.writes + 134217728 * length (content l.fn.source).steps;
      same_surface : l.machine.surface ≡ start;
      goes_on : GoesOn l.fn.machine l.machine;
      capacity : HasCapacityForSteps (content l.source) l.machine;
      same_capacity : l.drawings.rows.capacity ≡ l.fn.drawings.rows.capacity;
      lines : HasLines l.drawings.rows.capacity (content l.source) l.machine;
      held : HoldsRows l.canvas start;
      rows : SameRows l.fn.canvas l.canvas;
      fault : (content l.source).fault ≡ (content l.fn.source).fault;
      stops : stopped (content l.fn.source).steps (broken_after (length (content l.fn.source).steps) (content l.fn.source).fault) l.fn.machine.state start ≡ stopped (content l.source).steps (broken_after (length (content l.fn.source).steps) (content l.fn.source).fault) l.machine.state start;
      image : rows_after (drawings_of (content l.fn.source).steps l.fn.machine.state) start l.fn.canvas.first (image_of l.fn.canvas) ≡ rows_after (drawings_of (content l.source).steps l.machine.state) start l.canvas.first (image_of l.canvas);
      writes : l.fn.canvas.writes + writes_of_drawings (drawings_of (content l.fn.source).steps l.fn.machine.state) start l.fn.canvas.first l.fn.canvas.rows ≡ l.canvas.writes + writes_of_drawings (drawings_of (content l.source).steps l.machine.state) start l.canvas.first l.canvas.rows;
    }

abbrev pub decreases-loop-is_put : goal.decreases-loop-is_put
decreases-loop-is_put g l = length (g.S.HasContent.content l.source).steps

-- Memory for the needs of a content's remaining steps.
use Rattle.std.specs.Prelude.{◌⊎◌, ◌≤◌, ℕ}
use Rattle.draw_ops.specs.Content.{Content}
use Rattle.dc_stack.specs.Drawing.{edge_limit}
use Rattle.dc_stack.specs.MachineState.{MachineState}
use Rattle.preflight_cert.specs.After.{needs_after}
use Rattle.preflight_cert.specs.NeedLaws.{HasCapacityFor}

-- a row buffer can take the lines of each of these steps, or as many as any drawing may have
abbrev pub HasLines : ℕ → Content → MachineState → Type 0
HasLines capacity content m = edge_limit ≤ capacity ⊎ (needs_after content.steps m.state m.needs).edges ≤ capacity

-- a machine has the memory that these steps need
abbrev pub HasCapacityForSteps : Content → MachineState → Type 0
HasCapacityForSteps content m = HasCapacityFor (needs_after content.steps m.state m.needs) m

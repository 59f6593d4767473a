-- The windings so far and those of the other lines are those of all lines.
use Rattle.std.proofs.Common.{◌≡◌, ℕ, suc, ◌*◌, ◌<◌, ◌+ℤ◌, drop, length, take}
use Rattle.std.specs.List.{All}
use Rattle.mapping.specs.Limits.{IsWithin}
use Rattle.span_fill.specs.Windings.{total, winding}
use Rattle.span_fill.proofs.winding.wind_lines.Given as goal

abbrev pub invariant-loop-line : goal.invariant-loop-line
invariant-loop-line l = record {
  windings : (y : ℕ) → y < 8192 → total (take (suc y) l.changes) +ℤ winding (drop l.line-index l.lines) l.column y ≡ winding l.lines l.column y;
  few : All (IsWithin (2 * l.line-index)) l.changes;
  length : length l.changes ≡ length l.fn.changes;
}

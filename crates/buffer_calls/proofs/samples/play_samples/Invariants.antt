-- The target is the buffer as it is, without the header of its size.
use Rattle.std.proofs.Common.{length}
use Rattle.canvas.specs.Ppm.{header}
use Rattle.buffer_calls.proofs.samples.play_samples.Given as goal

abbrev pub ghosts-write_samples : goal.ghosts-write_samples
ghosts-write_samples a = record {
  start = a.samples.now;
  header_length = length (header a.surface.width a.surface.height);
}

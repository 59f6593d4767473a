use Rattle.std.proofs.Common.{arith}
use Rattle.std.proofs.lemmas.Result.{on_ok_weaker}
use Rattle.player.proofs.WriterLemmas.{rejected_by_writer, unless_written}
use Rattle.player.proofs.bands.play_bands_to.Goals as goal

pub returns-in-Ok-clause-refusal : goal.returns-in-Ok-clause-refusal
returns-in-Ok-clause-refusal g c = rejected_by_writer c.write_image.result c.write_image.ensures.refusal

pub returns-in-Ok-clause-unwritten : goal.returns-in-Ok-clause-unwritten
returns-in-Ok-clause-unwritten g c = unless_written _ c.write_image.result c.write_image.ensures.refusal

pub returns-in-Ok-clause-capacity : goal.returns-in-Ok-clause-capacity
returns-in-Ok-clause-capacity g c = on_ok_weaker c.write_image.result (λ h. omega (arith, h)) c.write_image.ensures.capacity

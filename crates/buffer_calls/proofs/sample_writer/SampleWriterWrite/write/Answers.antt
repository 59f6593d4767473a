-- What isn't written yet is still as it was at the start, and a full writer stays full.
use Rattle.std.proofs.Common.{◌-◌, ◌∙◌, arith}
use Rattle.buffer_calls.specs.Split.{rest_of}
use Rattle.buffer_calls.proofs.SplitLemmas.{still_kept}
use Rattle.buffer_calls.proofs.sample_writer.SampleWriterWrite.write.Goals as goal

pub invariant_of-self : goal.invariant_of-self
invariant_of-self g c =
    let writer = c.args.self.now in
    let old = writer.split in
    let new = c.accept-count.new.self in
    let next = c.accept-count.ensures.next in
    record {
      header = next.header ∙ writer.header;
      within = next.within;
      kept = still_kept writer.samples.now g.T.Target.start (rest_of new c.accept-count.new.samples) (old.written - old.header_length) (new.written - new.header_length) (omega (arith, next.header, next.written)) writer.kept next.rest;
      full = λ some. let whole = writer.full some in omega (arith, whole, next.header, next.written, next.within, next.size);
    }

-- The bytes come after those that the buffer has.
use Rattle.std.proofs.Common.{◌≡◌, ◌+◌, ◌-◌, ◌++◌, ℕ, take, drop, arith, subst}
use Rattle.std.proofs.lemmas.List.{length-take-le}
use Rattle.buffer_calls.proofs.SplitLemmas.{samples_more}
use Rattle.buffer_calls.proofs.split.Split.accept_samples.Goals as goal

pub returns-clause-text : goal.returns-clause-text
returns-clause-text c =
    let split = c.args.self.now in
    let samples = c.args.samples.now in
    let count = c.min-count.result in
    let bytes = take count c.args.bytes.now in
    let size = length-take-le count c.args.bytes.now (omega arith) in
    let header = length-take-le split.header_length split.header (omega arith) in
    let at = split.written - split.header_length in
    let put = subst (λ (n : ℕ). c.put.new.buffer ≡ take at samples ++ bytes ++ drop (at + n) samples) size c.put.ensures in
    samples_more (take split.header_length split.header) samples c.put.new.buffer bytes at split.written count (omega (arith, header)) (omega arith) size put

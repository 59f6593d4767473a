use Rattle.std.proofs.Common.{◌*◌, ap, ◌∙◌}
use Rattle.std.specs.Int.{bit_at}
use Rattle.std.proofs.lemmas.Nat.Bits.{bit_at-lt, shr_and_one}
use Rattle.raster_ops.proofs.SelectorLemmas.{eightfold}
use Rattle.raster_ops.proofs.selector.mask.Goals as goal

pub returns : goal.returns
returns c = λ k h.
    let t = c.args.table in
    let i = c.args.index in
    ap (λ b. bit_at (b * 255) k) (shr_and_one t i) ∙ eightfold (bit_at t i) k (bit_at-lt t i) h

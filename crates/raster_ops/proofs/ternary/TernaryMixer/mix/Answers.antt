use Rattle.std.proofs.Common.{subst}
use Rattle.raster_ops.specs.Bytes.{HasBytes}
use Rattle.raster_ops.proofs.TernaryLemmas.{selected_mix}
use Rattle.raster_ops.proofs.ternary.TernaryMixer.mix.Goals as goal

pub returns : goal.returns
returns c = λ old.
    let mixer = c.args.self.now in
    let keep = c.select_colour.ensures in
    let flip = c.select_colour-2.ensures in
    rw (keep.colour, flip.colour)
    (selected_mix mixer.op.table mixer.keep mixer.flip c.args.pattern c.args.source old mixer.keeps mixer.flips (subst HasBytes keep.colour keep.parts) (subst HasBytes flip.colour flip.parts))

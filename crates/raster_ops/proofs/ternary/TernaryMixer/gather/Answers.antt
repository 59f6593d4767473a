use Rattle.std.proofs.Common.{subst}
use Rattle.raster_ops.specs.Bytes.{HasBytes}
use Rattle.raster_ops.proofs.TernaryLemmas.{selected_mix}
use Rattle.raster_ops.proofs.ternary.TernaryMixer.gather.Goals as goal

pub returns-clause-mixes : goal.returns-clause-mixes
returns-clause-mixes c = λ x d e old low high.
    let mixer = c.args.self.now in
    let keep = c.select_row.ensures.colours x d low high in
    let flip = c.select_row-2.ensures.colours x e low high in
    rw (keep, flip)
    (selected_mix mixer.op.table mixer.keep mixer.flip _ _ old mixer.keeps mixer.flips (subst HasBytes keep (c.select_row.ensures.parts x d low high)) (subst HasBytes flip (c.select_row-2.ensures.parts x e low high)))

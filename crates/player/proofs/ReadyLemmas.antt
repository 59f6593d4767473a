-- What holds when all is ready for bands.
use Rattle.std.proofs.Common.{◌≡◌, ◌≤◌, ap, arith}
use Rattle.mapping.specs.Surface.{Surface}
use Rattle.preflight_cert.specs.declared.cleared.Cleared.{Cleared}
use Rattle.player.specs.ReadyBands.{IsReadyForBands}
use Rattle.player.specs.declared.band_plan.BandPlan.{BandPlan}
use Rattle.player.specs.declared.band_scratch.BandScratch.{BandScratch}

-- a plan within a certificate's bound has at most 8,192 rows
pub few_rows : (cleared : Cleared) (plan : BandPlan) (scratch : BandScratch) → IsReadyForBands cleared plan scratch → plan.height ≤ 8192
few_rows cleared plan scratch ready =
    let height : scratch.machine.surface.height ≡ plan.height = ap (λ (t : Surface). t.height) ready.surface in
    let within = ready.ready.within.height in
    let bound = cleared.certificate.high.within in
    omega (arith, height, within, bound)

-- When a machine and a canvas are ready to play a cleared file in bands.
use Rattle.std.specs.Prelude.{◌≡◌, ℕ, ◌-◌, ◌≤◌, min}
use Rattle.mapping.specs.Image.{blank}
use Rattle.canvas.specs.CanvasState.{CanvasState, image_of}
use Rattle.preflight_cert.specs.declared.cleared.Cleared.{Cleared}
use Rattle.player.specs.Bands.{plan_surface}
use Rattle.player.specs.Ready.{IsReadyToPlay}
use Rattle.player.specs.declared.band_plan.BandPlan.{BandPlan}
use Rattle.player.specs.declared.band_scratch.BandScratch.{BandScratch}

-- the machine plays the file on the plan's surface, and the canvas has memory for at least one of its rows
pub record IsReadyForBands (cleared : Cleared) (plan : BandPlan) (scratch : BandScratch) : Type 0 where
  pub ready : IsReadyToPlay cleared scratch.drawings.rows.capacity scratch.machine
  pub surface : scratch.machine.surface ≡ plan_surface cleared plan
  pub width : scratch.canvas.width ≡ plan.width
  pub some : 1 ≤ scratch.canvas.most

-- the canvas shows the rows of the band that begins at this row, in one colour
pub record IsBlankBand (plan : BandPlan) (first : ℕ) (canvas : CanvasState) : Type 0 where
  pub top : canvas.first ≡ first
  pub rows : canvas.rows ≡ min canvas.most (plan.height - first)
  pub image : image_of canvas ≡ blank plan.width canvas.rows plan.start

-- What holds at one size holds at each that is no larger.
use Rattle.std.proofs.Common.{◌≡◌, ◌≤◌, List, [], ◌∷◌, Option, None, refl, arith}
use Rattle.mapping.specs.PlacingLaws.{IsNoLarger, ShowsFrame}
use Rattle.mapping.specs.Surface.{Surface}
use Rattle.draw_ops.specs.Content.{StepValue}
use Rattle.dc_stack.specs.FaultLaws.{FaultLaws}
use Rattle.dc_stack.specs.Next.{next}
use Rattle.dc_stack.specs.State.{State}
use Rattle.preflight_cert.specs.DrawingBoxLaws.{DrawingBoxLaws}
use Rattle.preflight_cert.specs.Drawings.{NumberedDrawing}
use Rattle.preflight_cert.specs.Entries.{AreCovered, budget_of}
use Rattle.preflight_cert.specs.SizeLaws.{SizeLaws}
use Rattle.preflight_cert.specs.Stop.{Stop, end_of, stopped}
use Rattle.preflight_cert.specs.Writes.{writes_after}
use Rattle.preflight_cert.specs.declared.certificate_entry.Entry.{Entry}
use Rattle.preflight_cert.proofs.StopLemmas.{none_here, none_later}

-- faults and budgets from the larger surface to the smaller
module _ (faults : FaultLaws) (boxes : DrawingBoxLaws) (smaller larger : Surface) (shows : ShowsFrame larger) (no_larger : IsNoLarger smaller larger) where
  unstopped : (steps : List StepValue) (after : Option Stop) (state : State) → stopped steps after state larger ≡ None → stopped steps after state smaller ≡ None
  unstopped [] after state h = h
  unstopped (step ∷ steps) after state h =
      let here = faults.none_on_smaller step.operation state smaller larger shows no_larger (none_here _ _ _ h) in
      let rest = unstopped steps after (next step.operation state) (none_later _ _ _ h) in
      rw (here, rest) refl

  few : (drawings : List NumberedDrawing) (entries : List Entry) → AreCovered drawings entries larger → writes_after drawings smaller ≤ budget_of drawings entries larger
  few [] entries covered = omega arith
  few (one ∷ later) [] covered = absurd covered
  few (one ∷ later) (entry ∷ entries) covered =
      let first = boxes.drawing one.drawing entry.nib entry.bounds smaller larger shows no_larger covered.0.nib covered.0.box in
      let rest = few later entries covered.1 in omega (arith, first, rest)

pub size_laws : FaultLaws → DrawingBoxLaws → SizeLaws
size_laws faults boxes = record {
  unstopped = λ content state smaller larger shows no_larger h. unstopped faults boxes smaller larger shows no_larger content.steps (end_of content state) state h;
  few = λ drawings entries smaller larger shows no_larger covered. few faults boxes smaller larger shows no_larger drawings entries covered;
}

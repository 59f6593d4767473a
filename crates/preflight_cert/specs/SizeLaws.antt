-- What holds at one size holds at each that is no larger.
use Rattle.std.specs.Prelude.{◌≡◌, ◌≤◌, List, None}
use Rattle.mapping.specs.PlacingLaws.{IsNoLarger, ShowsFrame}
use Rattle.mapping.specs.Surface.{Surface}
use Rattle.draw_ops.specs.Content.{Content}
use Rattle.dc_stack.specs.State.{State}
use Rattle.preflight_cert.specs.Drawings.{NumberedDrawing}
use Rattle.preflight_cert.specs.Entries.{AreCovered, budget_of}
use Rattle.preflight_cert.specs.Stop.{stop_of}
use Rattle.preflight_cert.specs.Writes.{writes_after}
use Rattle.preflight_cert.specs.declared.certificate_entry.Entry.{Entry}

-- Records without a fault on a surface have none on one that is no larger, and drawings that entries cover write no
-- more pixels there than the entries' budget on the larger one.
pub record SizeLaws : Type 0 where
  pub unstopped :
      (content : Content) (state : State) (smaller larger : Surface) → ShowsFrame larger → IsNoLarger smaller larger
      → stop_of content state larger ≡ None → stop_of content state smaller ≡ None
  pub few :
      (drawings : List NumberedDrawing) (entries : List Entry) (smaller larger : Surface) → ShowsFrame larger → IsNoLarger smaller larger
      → AreCovered drawings entries larger → writes_after drawings smaller ≤ budget_of drawings entries larger

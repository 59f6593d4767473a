-- Where the records of a file stop.
use Rattle.std.specs.Prelude.{ℕ, List}
use Rattle.mapping.specs.Surface.{Surface}
use Rattle.draw_ops.specs.Content.{Content}
use Rattle.dc_stack.specs.State.{State, start_of}
use Rattle.meta_headers.specs.Headers.{OpenedValue}
use Rattle.meta_headers.specs.Opening.{HasContentOf, surface_for}
use Rattle.meta_headers.specs.declared.opened.FileFormat.{FileFormat}
use Rattle.preflight_cert.specs.Refusal.{ReportsStop}
use Rattle.preflight_cert.specs.Stop.{stop_of}
use Rattle.preflight_cert.specs.declared.refusal.Refusal.{Refusal}

-- the records of a file in some format have a content that stops, from a state on, and the error says where
pub record StopsRecords (format : FileFormat) (records : List ℕ) (state : State) (s : Surface) (r : Refusal) : Type 0 where
  pub content : Content
  pub of_records : HasContentOf format records content
  pub stops : ReportsStop (stop_of content state s) r

-- the records of an opened file stop, from the file's start on, on a surface of this size
abbrev pub StopsOpened : OpenedValue → List ℕ → ℕ → ℕ → Refusal → Type 0
StopsOpened o records width height r = StopsRecords o.format records (start_of o) (surface_for o width height) r

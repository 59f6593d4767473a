-- How playing changes a canvas.
use Rattle.std.specs.Prelude.{◌≡◌, ℕ, ◌+◌, List, None}
use Rattle.draw_ops.specs.Content.{Content}
use Rattle.canvas.specs.CanvasState.{CanvasState, image_of}
use Rattle.meta_headers.specs.Headers.{OpenedValue}
use Rattle.meta_headers.specs.Opening.{HasContentOf, surface_for}
use Rattle.meta_headers.specs.declared.opened.FileFormat.{FileFormat}
use Rattle.meta_headers.specs.declared.opened.Opened.{Opened}
use Rattle.dc_stack.specs.MachineState.{MachineState}
use Rattle.dc_stack.specs.State.{start_of}
use Rattle.preflight_cert.specs.Apply.{image_after, rows_after}
use Rattle.preflight_cert.specs.Drawings.{drawings_of}
use Rattle.preflight_cert.specs.Stop.{step_stop, stop_of}
use Rattle.preflight_cert.specs.Writes.{writes_after, writes_of_drawings}

-- all steps of the content were played from a machine's state, without a fault, and the canvas shows their drawings on
-- its rows
pub record PlaysContent (content : Content) (start : MachineState) (old new : CanvasState) : Type 0 where
  pub unstopped : step_stop content start.state start.surface ≡ None
  pub image : image_of new ≡ rows_after (drawings_of content.steps start.state) start.surface old.first (image_of old)
  pub writes : new.writes ≡ old.writes + writes_of_drawings (drawings_of content.steps start.state) start.surface old.first old.rows

-- a step of the content has a fault, or its records break
abbrev pub Stops : Content → MachineState → Type 0
Stops content start = step_stop content start.state start.surface ≡ None → ⊥

-- all records of a file in some format were played and drawn
pub record PlaysRecords (format : FileFormat) (records : List ℕ) (start : MachineState) (old new : CanvasState) : Type 0 where
  pub content : Content
  pub of_records : HasContentOf format records content
  pub plays : PlaysContent content start old new

-- all records of an opened file were played and drawn
abbrev pub PlaysFile : Opened → MachineState → CanvasState → CanvasState → Type 0
PlaysFile o start old new = PlaysRecords o.format o.records.now start old new

-- all records of an opened file were drawn from the file's start, without a fault
pub record PlaysOpened (o : OpenedValue) (records : List ℕ) (old new : CanvasState) : Type 0 where
  pub content : Content
  pub of_records : HasContentOf o.format records content
  pub unstopped : stop_of content (start_of o) (surface_for o old.width old.rows) ≡ None
  pub image : image_of new ≡ image_after (drawings_of content.steps (start_of o)) (surface_for o old.width old.rows) (image_of old)
  pub writes : new.writes ≡ old.writes + writes_after (drawings_of content.steps (start_of o)) (surface_for o old.width old.rows)

-- Playing in bands over one colour, and the text of all bands together.
use Rattle.std.specs.Prelude.{◌≡◌, ℕ, ◌+◌, ◌++◌, List, Option, Result, Err}
use Rattle.std.specs.Io.KnownBytes.{Appends}
use Rattle.mapping.specs.Image.{Image, blank}
use Rattle.mapping.specs.Surface.{Surface}
use Rattle.mapping.specs.declared.geometry.Colour.{Colour}
use Rattle.draw_ops.specs.Content.{Content}
use Rattle.draw_ops.specs.declared.fault.Fault.{Fault}
use Rattle.draw_ops.specs.declared.fault.Fault.TheVariants.{WriteFault}
use Rattle.draw_ops.specs.declared.rules.Rules.{Rules}
use Rattle.canvas.specs.CanvasState.{CanvasState, image_of}
use Rattle.canvas.specs.Ppm.{AppendsPrefix, header, ppm_text, raster}
use Rattle.meta_headers.specs.File.{IsOpenedFrom}
use Rattle.meta_headers.specs.Headers.{OpenedValue}
use Rattle.meta_headers.specs.OpenedOf.{opened_of}
use Rattle.meta_headers.specs.Opening.{HasContentOf}
use Rattle.dc_stack.specs.State.{start_of}
use Rattle.preflight_cert.specs.Apply.{rows_after}
use Rattle.preflight_cert.specs.Drawings.{drawings_of}
use Rattle.preflight_cert.specs.Run.{Run, shown}
use Rattle.preflight_cert.specs.Writes.{writes_of_drawings}
use Rattle.preflight_cert.specs.declared.cleared.Cleared.{Cleared}
use Rattle.player.specs.Ready.{surface_of_file}
use Rattle.player.specs.declared.band_plan.BandPlan.{BandPlan}

-- the text is the P6 text of the image that the run of a file under rules makes from the start image
pub record IsRunText (rules : Rules) (file : List ℕ) (width height : ℕ) (start : Image) (text : List ℕ) : Type 0 where
  pub image : Image
  pub run : Run rules file width height start (shown image)
  pub is_text : text ≡ ppm_text image

-- the text is that of the run of the cleared file, over one colour
abbrev pub IsClearedText : Cleared → ℕ → ℕ → Colour → List ℕ → Type 0
IsClearedText cleared width height start text =
    (file : List ℕ) → IsOpenedFrom file cleared.opened → IsRunText cleared.opened.rules file width height (blank width height start) text

-- the text of the run was written
pub record WritesRun (cleared : Cleared) (width height : ℕ) (start : Colour) (old new : Option (List ℕ)) : Type 0 where
  pub text : List ℕ
  pub of_run : IsClearedText cleared width height start text
  pub appended : Appends old new text

-- a prefix of the text of the run was written
pub record WritesRunPrefix (cleared : Cleared) (width height : ℕ) (start : Colour) (old new : Option (List ℕ)) : Type 0 where
  pub text : List ℕ
  pub of_run : IsClearedText cleared width height start text
  pub appended : AppendsPrefix old new text

-- the writer failed
abbrev pub IsWriteFault : Result ℕ Fault → Type 0
IsWriteFault result = result ≡ Err WriteFault

-- a prefix of the text of the run was written to a writer with these contents
abbrev pub WritesPrefixTo : {W : Type 0} → Cleared → ℕ → ℕ → Colour → (W → Option (List ℕ)) → W → W → Type 0
WritesPrefixTo cleared width height start contents old new = WritesRunPrefix cleared width height start (contents old) (contents new)

-- the image that the drawings of records make on some rows, over one colour
abbrev pub rows_played : OpenedValue → Content → Surface → Colour → ℕ → ℕ → Image
rows_played o content s start first rows = rows_after (drawings_of content.steps (start_of o)) s first (blank s.width rows start)

-- how many pixels of these rows the drawings of records write
abbrev pub row_writes : OpenedValue → Content → Surface → ℕ → ℕ → ℕ
row_writes o content s first rows = writes_of_drawings (drawings_of content.steps (start_of o)) s first rows

-- A band of rows was played over one colour: the canvas shows what the records draw there, and the writes were counted.
pub record PlaysBand (o : OpenedValue) (records : List ℕ) (s : Surface) (start : Colour) (first rows : ℕ) (old new : CanvasState) : Type 0 where
  pub image : (content : Content) → HasContentOf o.format records content → image_of new ≡ rows_played o content s start first rows
  pub writes : (content : Content) → HasContentOf o.format records content → new.writes ≡ old.writes + row_writes o content s first rows

-- the header and the rows before this one were written, played over one colour
abbrev pub HasWrittenRows : OpenedValue → List ℕ → Surface → Colour → ℕ → Option (List ℕ) → Option (List ℕ) → Type 0
HasWrittenRows o records s start rows old new =
    (content : Content) → HasContentOf o.format records content
    → Appends old new (header s.width s.height ++ raster (rows_played o content s start 0 rows).colours)

-- a prefix of the text of all rows was written
abbrev pub HasWrittenPrefix : OpenedValue → List ℕ → Surface → Colour → Option (List ℕ) → Option (List ℕ) → Type 0
HasWrittenPrefix o records s start old new =
    (content : Content) → HasContentOf o.format records content
    → AppendsPrefix old new (ppm_text (rows_played o content s start 0 s.height))

-- the number is that of the pixels written on these rows
abbrev pub HasCountedRows : OpenedValue → List ℕ → Surface → ℕ → ℕ → Type 0
HasCountedRows o records s rows writes = (content : Content) → HasContentOf o.format records content → writes ≡ row_writes o content s 0 rows

-- the surface of a plan, for a cleared file; a band of the plan was played, and the writes on its rows were counted
abbrev pub plan_surface : Cleared → BandPlan → Surface
plan_surface cleared plan = surface_of_file cleared plan.width plan.height

abbrev pub PlaysClearedBand : Cleared → BandPlan → ℕ → ℕ → CanvasState → CanvasState → Type 0
PlaysClearedBand cleared plan first rows old new =
    PlaysBand (opened_of cleared.opened) cleared.opened.records.now (plan_surface cleared plan) plan.start first rows old new

abbrev pub CountsRows : Cleared → BandPlan → ℕ → ℕ → Type 0
CountsRows cleared plan rows writes =
    HasCountedRows (opened_of cleared.opened) cleared.opened.records.now (plan_surface cleared plan) rows writes

-- the text of the run by a plan, its first rows, or a prefix was written to a writer with these contents
module _ {W : Type 0} where
  abbrev pub WritesPlan : Cleared → BandPlan → (W → Option (List ℕ)) → W → W → Type 0
  WritesPlan cleared plan contents old new = WritesRun cleared plan.width plan.height plan.start (contents old) (contents new)

  abbrev pub WritesPlanPrefix : Cleared → BandPlan → (W → Option (List ℕ)) → W → W → Type 0
  WritesPlanPrefix cleared plan contents old new = WritesPrefixTo cleared plan.width plan.height plan.start contents old new

  abbrev pub WritesRows : Cleared → BandPlan → ℕ → (W → Option (List ℕ)) → W → W → Type 0
  WritesRows cleared plan rows contents old new =
      HasWrittenRows (opened_of cleared.opened) cleared.opened.records.now (plan_surface cleared plan) plan.start rows (contents old) (contents new)

  abbrev pub WritesRowsPrefix : Cleared → BandPlan → (W → Option (List ℕ)) → W → W → Type 0
  WritesRowsPrefix cleared plan contents old new =
      HasWrittenPrefix (opened_of cleared.opened) cleared.opened.records.now (plan_surface cleared plan) plan.start (contents old) (contents new)

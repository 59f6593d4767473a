-- The run of a file under rules at a size, over an image.
use Rattle.std.specs.Prelude.{◌≡◌, ℕ, List, Option, Some, None, Err}
use Rattle.mapping.specs.Colours.{white_colour}
use Rattle.mapping.specs.Image.{Image, blank}
use Rattle.draw_ops.specs.declared.fault.Fault.{Fault}
use Rattle.draw_ops.specs.declared.fault.Fault.TheVariants.{Record}
use Rattle.draw_ops.specs.declared.record_fault.RecordFault.{RecordFault}
use Rattle.draw_ops.specs.declared.rules.Rules.{Rules}
use Rattle.draw_ops.specs.Content.{Content}
use Rattle.draw_ops.specs.ExactlyOne.{ExactlyOne}
use Rattle.preflight_cert.specs.Apply.{image_after}
use Rattle.preflight_cert.specs.Drawings.{drawings_of}
use Rattle.meta_headers.specs.File.{IsFile}
use Rattle.meta_headers.specs.Headers.{OpenedValue}
use Rattle.meta_headers.specs.Opening.{surface_for}
use Rattle.meta_headers.specs.OpeningRules.{opened_by}
use Rattle.dc_stack.specs.State.{start_of}
use Rattle.preflight_cert.specs.Stop.{stop_at, stop_of}
use Rattle.preflight_cert.specs.Writes.{writes_after}

-- a file opens, and its records stop by this fault, in the record with this number
pub record StopsInRecord (rules : Rules) (file : List ℕ) (width height number : ℕ) (fault : Fault) : Type 0 where
  pub headers : OpenedValue
  pub content : Content
  pub of_file : IsFile rules file headers content
  pub here : RecordFault
  pub in_record : fault ≡ Record here
  pub stops : stop_of content (start_of headers) (surface_for headers width height) ≡ Some (stop_at number here)

-- The run of a file under rules at a size is rejected with this fault, in the record with this number, or in none if the
-- file doesn't open, over any image.
abbrev pub Rejected : Rules → List ℕ → ℕ → ℕ → Option ℕ → Fault → Type 0
Rejected rules file width height None fault = opened_by rules file ≡ Err fault
Rejected rules file width height (Some number) fault = StopsInRecord rules file width height number fault

-- a file opens, its records don't stop, and after their steps the image is this one
pub record ShowsImage (rules : Rules) (file : List ℕ) (width height : ℕ) (image after : Image) : Type 0 where
  pub headers : OpenedValue
  pub content : Content
  pub of_file : IsFile rules file headers content
  pub unstopped : stop_of content (start_of headers) (surface_for headers width height) ≡ None
  pub shows : after ≡ image_after (drawings_of content.steps (start_of headers)) (surface_for headers width height) image

-- how a run ends: it shows an image, or is rejected by a fault, in a record or in none
pub data Outcome : Type 0 where
  shown : Image → Outcome
  rejected : Option ℕ → Fault → Outcome

-- The run of a file under rules at a size, over an image that should have that size, ends in this way: it shows the image
-- after the records' steps; or opening has the first fault, or else the steps of the records have it.
abbrev pub Run : Rules → List ℕ → ℕ → ℕ → Image → Outcome → Type 0
Run rules file width height image (shown after) = ShowsImage rules file width height image after
Run rules file width height image (rejected number fault) = Rejected rules file width height number fault

-- the white image of this size
abbrev pub white : ℕ → ℕ → Image
white width height = blank width height white_colour

-- How many pixels the run of a file under rules at a size writes: it opens, its records don't stop, and their steps write
-- this number.
pub record RunWrites (rules : Rules) (file : List ℕ) (width height writes : ℕ) : Type 0 where
  pub headers : OpenedValue
  pub content : Content
  pub of_file : IsFile rules file headers content
  pub unstopped : stop_of content (start_of headers) (surface_for headers width height) ≡ None
  pub count : writes ≡ writes_after (drawings_of content.steps (start_of headers)) (surface_for headers width height)

-- a run ends in only one way
abbrev pub RunEndsInOneWay : Type 0
RunEndsInOneWay = (rules : Rules) (file : List ℕ) (width height : ℕ) (image : Image) → ExactlyOne (Run rules file width height image)

-- a run over another image is rejected if this one is, with the same fault in the same record
abbrev pub RejectedOverAnyImage : Type 0
RejectedOverAnyImage =
    (rules : Rules) (file : List ℕ) (width height : ℕ) (image other : Image) (number : Option ℕ) (fault : Fault)
    → Run rules file width height image (rejected number fault) → Run rules file width height other (rejected number fault)

-- a run without a fault writes one number of pixels
abbrev pub WritesAreOne : Type 0
WritesAreOne =
    (rules : Rules) (file : List ℕ) (width height : ℕ) (image after : Image) → Run rules file width height image (shown after)
    → ExactlyOne (RunWrites rules file width height)

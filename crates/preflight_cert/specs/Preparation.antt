-- The certificate that is prepared for a file at a bound.
use Rattle.std.specs.Prelude.{◌≡◌, ℕ, Bool, true, false, ◌&&◌, ◌==◌, not, if◌then◌else◌, List, [], ◌∷◌, Option, None, Result, Ok, Err}
use Rattle.mapping.specs.Boxes.{IsBoundingBox}
use Rattle.std.specs.List.{list_all}
use Rattle.std.specs.Result.{ForOk}
use Rattle.mapping.specs.Limits.{is_surface_side}
use Rattle.mapping.specs.Surface.{Surface}
use Rattle.draw_ops.specs.Content.{Content}
use Rattle.draw_ops.specs.RuleSets.{is_print}
use Rattle.draw_ops.specs.declared.fault.Fault.{Fault}
use Rattle.draw_ops.specs.declared.fault.Fault.TheVariants.{BadBound}
use Rattle.draw_ops.specs.declared.rules.Rules.{Rules}
use Rattle.dc_stack.specs.Drawing.{drawing_nib, drawing_points}
use Rattle.dc_stack.specs.State.{start_of}
use Rattle.meta_headers.specs.Headers.{OpenedValue}
use Rattle.meta_headers.specs.Opening.{HasContentOf, record_bytes, surface_for}
use Rattle.meta_headers.specs.OpeningRules.{opened_by}
use Rattle.preflight_cert.specs.After.{file_needs}
use Rattle.preflight_cert.specs.Answer.{file_budget}
use Rattle.preflight_cert.specs.CertificateReading.{CertificateValue, read_certificate}
use Rattle.preflight_cert.specs.CertificateText.{certificate_text}
use Rattle.preflight_cert.specs.Drawings.{NumberedDrawing, drawings_of}
use Rattle.preflight_cert.specs.Run.{Rejected}
use Rattle.preflight_cert.specs.Stop.{stop_of}
use Rattle.preflight_cert.specs.declared.certificate_entry.Entry.{Entry}
use Rattle.preflight_cert.specs.declared.refusal.Refusal.{Refusal}
use Rattle.preflight_cert.specs.declared.version.Version.{Version}
use Rattle.preflight_cert.specs.declared.version.Version.TheVariants.{Mpc1, Mpc2}

-- an entry has the number of a drawing's record, the bounding box of the drawing's points, and its nib on a surface
pub record IsLeastEntry (entry : Entry) (one : NumberedDrawing) (s : Surface) : Type 0 where
  pub number : entry.number ≡ one.number
  pub box : IsBoundingBox entry.bounds (drawing_points one.drawing)
  pub nib : entry.nib ≡ drawing_nib one.drawing s

-- there is exactly one such entry for each drawing, in order
abbrev pub AreLeast : List NumberedDrawing → List Entry → Surface → Type 0
AreLeast [] [] s = Unit
AreLeast [] (entry ∷ entries) s = ⊥
AreLeast (one ∷ later) [] s = ⊥
AreLeast (one ∷ later) (entry ∷ entries) s = IsLeastEntry entry one s × AreLeast later entries s

-- each entry's nib is one pixel
abbrev pub have_single_pixels : List Entry → Bool
have_single_pixels entries = list_all (λ (entry : Entry). entry.nib.x == 1 && entry.nib.y == 1) entries

-- the version of a certificate with some entries: the first exactly if the profile is the core one and each nib is one
-- pixel
abbrev pub version_for : Rules → List Entry → Version
version_for rules entries = if not (is_print rules) && have_single_pixels entries then Mpc1 else Mpc2

-- The certificate that is prepared for a file's records at a bound: the bounding box and the nib of each drawing, the
-- most pixels that a run writes with these, and the records' needs.
pub record IsPrepared (c : CertificateValue) (o : OpenedValue) (content : Content) (width height : ℕ) : Type 0 where
  pub wide : c.max_width ≡ width
  pub high : c.max_height ≡ height
  pub version : c.version ≡ version_for o.rules c.entries
  pub entries : AreLeast (drawings_of content.steps (start_of o)) c.entries (surface_for o width height)
  pub writes : c.writes ≡ file_budget content o c
  pub needs : c.needs ≡ file_needs content o

-- the records of an opened file have a content that doesn't stop at the bound, and the bytes are the text of the
-- certificate for it, under the rules of the opening
pub record PreparesRecords (o : OpenedValue) (records : List ℕ) (width height : ℕ) (bytes : List ℕ) : Type 0 where
  pub content : Content
  pub of_records : HasContentOf o.format records content
  pub unstopped : stop_of content (start_of o) (surface_for o width height) ≡ None
  pub certificate : CertificateValue
  pub is_prepared : IsPrepared certificate o content width height
  pub is_text : bytes ≡ certificate_text o.rules certificate

-- a certificate is prepared only for a file that opens
abbrev pub PreparesIfOpened : Result OpenedValue Fault → List ℕ → ℕ → ℕ → List ℕ → Type 0
PreparesIfOpened (Err fault) file width height bytes = ⊥
PreparesIfOpened (Ok o) file width height bytes = PreparesRecords o (record_bytes o.format file) width height bytes

-- a certificate is for surfaces of at most this size
pub record HasBound (width height : ℕ) (c : CertificateValue) : Type 0 where
  pub wide : c.max_width ≡ width
  pub high : c.max_height ≡ height

-- the bytes are a certificate for surfaces of at most this size
abbrev pub IsForBound : ℕ → ℕ → List ℕ → Type 0
IsForBound width height bytes = ForOk (read_certificate bytes) (HasBound width height)

-- a surface may have this size
abbrev pub is_bound : ℕ → ℕ → Bool
is_bound width height = is_surface_side width && is_surface_side height

-- a certificate is prepared only for a valid bound
abbrev pub PreparesWithin : Bool → Rules → List ℕ → ℕ → ℕ → List ℕ → Type 0
PreparesWithin false rules file width height bytes = ⊥
PreparesWithin true rules file width height bytes = PreparesIfOpened (opened_by rules file) file width height bytes

-- The bytes are the certificate that is prepared for a file under rules at a bound.
abbrev pub Prepares : Rules → List ℕ → ℕ → ℕ → List ℕ → Type 0
Prepares rules file width height bytes = PreparesWithin (is_bound width height) rules file width height bytes

-- the fault of the bound, which lies in no record
pub record IsBoundFault (number : Option ℕ) (fault : Fault) : Type 0 where
  pub in_none : number ≡ None
  pub bad : fault ≡ BadBound

-- the fault of an invalid bound comes first
abbrev pub RejectsWithin : Bool → Rules → List ℕ → ℕ → ℕ → Option ℕ → Fault → Type 0
RejectsWithin false rules file width height number fault = IsBoundFault number fault
RejectsWithin true rules file width height number fault = Rejected rules file width height number fault

-- No certificate is prepared for a file under rules at a bound: the bound is invalid, or the file's run there is rejected
-- with this fault.
abbrev pub StopsPreparing : Rules → List ℕ → ℕ → ℕ → Refusal → Type 0
StopsPreparing rules file width height r = RejectsWithin (is_bound width height) rules file width height r.number r.fault

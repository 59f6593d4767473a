-- What is known of a file without a certificate.
use Rattle.std.specs.Prelude.{◌≡◌, ◌≤◌, ℕ, List, length, Option, Some, None, Result, Ok, Err, Bool, true, false, option_map, string_bytes}
use Rattle.mapping.specs.Image.{Image}
use Rattle.mapping.specs.Limits.{surface_side_limit}
use Rattle.draw_ops.specs.Content.{Content}
use Rattle.draw_ops.specs.declared.fault.Fault.{Fault}
use Rattle.draw_ops.specs.declared.rules.Rules.{Rules}
use Rattle.meta_headers.specs.File.{IsFile}
use Rattle.meta_headers.specs.Formats.{format_of}
use Rattle.meta_headers.specs.Headers.{OpenedValue}
use Rattle.meta_headers.specs.Opening.{opened}
use Rattle.preflight_cert.specs.After.{file_uses}
use Rattle.preflight_cert.specs.Answer.{Shows}
use Rattle.preflight_cert.specs.CertificateReading.{CertificateValue, read_certificate}
use Rattle.preflight_cert.specs.Preparation.{Prepares}
use Rattle.preflight_cert.specs.Run.{Rejected}
use Rattle.preflight_cert.specs.declared.uses.Uses.{Uses}
use Rattle.file_info.specs.Counting.{HasTotals}
use Rattle.file_info.specs.Description.{description_in}
use Rattle.file_info.specs.Paper.{dots_in, emf_frame_in, paper_in}
use Rattle.file_info.specs.Totals.{totals_of}
use Rattle.file_info.specs.declared.info.FileInfo.{FileInfo}
use Rattle.file_info.specs.declared.paper.Sizes.{Sizes}
use Rattle.file_info.specs.declared.playing.Playing.{Playing}
use Rattle.file_info.specs.declared.playing.Playing.TheVariants.{Plays, Stops}

-- the sizes in the headers of an opened file
abbrev pub sizes_of : List ℕ → OpenedValue → Sizes
sizes_of file o = record {
  frame_width = o.frame_width;
  frame_height = o.frame_height;
  dots = dots_in o.format file;
  paper = paper_in o.format file o.frame_width o.frame_height;
  emf_frame = emf_frame_in o.format file;
}

-- the sizes in a file's headers, if they have no fault
abbrev pub sizes_if : Result OpenedValue Fault → List ℕ → Option Sizes
sizes_if (Err fault) file = None
sizes_if (Ok o) file = Some (sizes_of file o)

-- a certificate is prepared for a file under rules at the largest bound, with an entry for each of this many drawings,
-- and this many places for objects; and the file's records use this of what the rules allow
pub record PlaysLargest (rules : Rules) (file : List ℕ) (drawings objects : ℕ) (uses : Uses) : Type 0 where
  pub bytes : List ℕ
  pub certificate : CertificateValue
  pub prepared : Prepares rules file surface_side_limit surface_side_limit bytes
  pub read : read_certificate bytes ≡ Ok certificate
  pub all : drawings ≡ length certificate.entries
  pub most : objects ≡ certificate.needs.slots
  pub headers : OpenedValue
  pub content : Content
  pub of_file : IsFile rules file headers content
  pub used : uses ≡ file_uses content headers

-- how a file's run under rules on the largest surface ends
abbrev pub IsPlaying : Rules → List ℕ → Playing → Type 0
IsPlaying rules file (Plays drawings objects uses) = PlaysLargest rules file drawings objects uses
IsPlaying rules file (Stops r) = Rejected rules file surface_side_limit surface_side_limit r.number r.fault

-- What is known of a file under rules: its format, the sizes and the text in its headers, the totals of its records, and
-- how its run on the largest surface ends.
pub record IsInfoOf (rules : Rules) (file : List ℕ) (info : FileInfo) : Type 0 where
  pub under : info.rules ≡ rules
  pub format : info.format ≡ format_of file
  pub sizes : info.sizes ≡ sizes_if (opened file) file
  pub description : option_map string_bytes info.description ≡ description_in (format_of file) file
  pub totals : HasTotals info.totals (totals_of rules file)
  pub playing : IsPlaying rules file info.playing

-- the file plays under rules on every surface, over any image
abbrev pub PlaysEverywhere : Rules → List ℕ → Type 0
PlaysEverywhere rules file =
    (width height : ℕ) (image : Image) → width ≤ surface_side_limit → height ≤ surface_side_limit → Shows rules file width height image

-- the file's run has no fault
abbrev pub is_playing : Playing → Bool
is_playing (Plays drawings objects uses) = true
is_playing (Stops r) = false

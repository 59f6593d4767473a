-- The line of `info` about a file.
use Rattle.std.specs.Prelude.{◌≡◌, ◌↔◌, ℕ, Bool, List, Option, codes, true, false}
use Rattle.draw_ops.specs.declared.rules.Rules.{Rules}
use Rattle.file_info.specs.Info.{IsInfoOf, PlaysEverywhere, is_playing}
use Rattle.file_info.specs.InfoReport.{info_line, unread_data}
use Rattle.file_info.specs.declared.info.FileInfo.{FileInfo}
use Rattle.report_parts.specs.Parts.{report_text}
use Rattle.commands.specs.Inputs.{IsInput}
use Rattle.commands.specs.declared.command_end.CommandEnd.{CommandEnd}
use Rattle.commands.specs.declared.command_end.CommandEnd.TheVariants as end

-- The line about a file with this name and these bytes, under rules. It plays on every surface exactly if this is true.
pub record IsLineOfRead (rules : Rules) (name bytes : List ℕ) (plays : Bool) (text : List ℕ) : Type 0 where
  pub info : FileInfo
  pub is : IsInfoOf rules bytes info
  pub playing : plays ≡ is_playing info.playing
  pub everywhere : plays ≡ true ↔ PlaysEverywhere rules bytes
  pub printed : text ≡ info_line name info

-- the line about a file that wasn't read in full, with the error
abbrev pub unread_line : Rules → List ℕ → List ℕ → List ℕ
unread_line rules name error = report_text (unread_data rules name error)

-- the line about a file that wasn't read in full, by how the work on it ends
abbrev pub IsUnreadLine : Rules → List ℕ → CommandEnd → List ℕ → Type 0
IsUnreadLine rules name end.CannotRead text = text ≡ unread_line rules name (codes "cannot read")
IsUnreadLine rules name end.OutOfMemory text = text ≡ unread_line rules name (codes "OutOfMemory")
IsUnreadLine rules name ending text = ⊥

-- the line about a file with these bytes, by how the work on it ends
abbrev pub IsLineOfBytes : CommandEnd → Rules → List ℕ → List ℕ → List ℕ → Type 0
IsLineOfBytes end.Done rules name bytes text = IsLineOfRead rules name bytes true text
IsLineOfBytes end.Rejected rules name bytes text = IsLineOfRead rules name bytes false text
IsLineOfBytes ending rules name bytes text = IsUnreadLine rules name ending text

-- how the work on a file ends that was read
abbrev pub read_end : Bool → CommandEnd
read_end true = end.Done
read_end false = end.Rejected

-- the line of `info` about a file with this name, for some bytes of it
pub record IsInfoLine (ending : CommandEnd) (rules : Rules) (name : List ℕ) (input : Option (List ℕ)) (text : List ℕ) : Type 0 where
  pub bytes : List ℕ
  pub read : IsInput name input bytes
  pub line : IsLineOfBytes ending rules name bytes text

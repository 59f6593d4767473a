-- The line about one file.
use Rattle.std.proofs.Common.{◌≡◌, ◌↔◌, sym, refl, ℕ, Bool, true, false, List, [], Option, Some, None, unwrap_or}
use Rattle.draw_ops.specs.declared.rules.Rules.{Rules}
use Rattle.file_info.specs.Info.{IsInfoOf, PlaysEverywhere, is_playing}
use Rattle.file_info.specs.InfoReport.{info_line}
use Rattle.file_info.specs.declared.info.FileInfo.{FileInfo}
use Rattle.commands.specs.Faults.{fault_text, input_end}
use Rattle.commands.specs.InfoLines.{IsInfoLine, IsLineOfBytes, IsUnreadLine, read_end, unread_line}
use Rattle.commands.specs.Inputs.{IsInput}
use Rattle.commands.specs.declared.command_end.CommandEnd.{CommandEnd}
use Rattle.commands.specs.declared.command_end.CommandEnd.TheVariants as end
use Rattle.commands.specs.declared.input.InputFault.{InputFault}
use Rattle.commands.specs.declared.input.InputFault.TheVariants as fault

-- a file was read
pub read_line : (rules : Rules) (name bytes text : List ℕ) (info : FileInfo) (e : CommandEnd) → IsInfoOf rules bytes info → (is_playing info.playing ≡ true ↔ PlaysEverywhere rules bytes) → text ≡ info_line name info
    → e ≡ read_end (is_playing info.playing) → IsLineOfBytes e rules name bytes text
read_line rules name bytes text info e is everywhere printed ends = go (is_playing info.playing) refl
  where
    go : (plays : Bool) → is_playing info.playing ≡ plays → IsLineOfBytes e rules name bytes text
    go true p = rw (ends, p) (record { info = info; is = is; playing = sym p; everywhere = rw p at everywhere; printed = printed })
    go false p = rw (ends, p) (record { info = info; is = is; playing = sym p; everywhere = rw p at everywhere; printed = printed })

-- a file wasn't read
pub not_read : (rules : Rules) (name text : List ℕ) (f : InputFault) (e : CommandEnd) → e ≡ input_end f → text ≡ unread_line rules name (fault_text f) → IsUnreadLine rules name e text
not_read rules name text fault.CannotRead e ends printed = rw ends printed
not_read rules name text fault.OutOfMemory e ends printed = rw ends printed

-- whatever its bytes are
pub unread_of_bytes : (rules : Rules) (name bytes text : List ℕ) (e : CommandEnd) → IsUnreadLine rules name e text → IsLineOfBytes e rules name bytes text
unread_of_bytes rules name bytes text end.CannotRead line = line
unread_of_bytes rules name bytes text end.OutOfMemory line = line
unread_of_bytes rules name bytes text end.Done line = absurd line
unread_of_bytes rules name bytes text end.Rejected line = absurd line
unread_of_bytes rules name bytes text end.CannotWrite line = absurd line
unread_of_bytes rules name bytes text end.CannotStore line = absurd line
unread_of_bytes rules name bytes text end.WrongUsage line = absurd line
unread_of_bytes rules name bytes text end.Help line = absurd line
unread_of_bytes rules name bytes text end.OutIsFile line = absurd line

-- there are bytes that an input may have
any_input : (name : List ℕ) (input : Option (List ℕ)) → IsInput name input (unwrap_or input [])
any_input name None same = tt
any_input name (Some all) same = refl

pub line_by : (rules : Rules) (name bytes text : List ℕ) (input : Option (List ℕ)) (e : CommandEnd) → IsInput name input bytes → IsLineOfBytes e rules name bytes text → IsInfoLine e rules name input text
line_by rules name bytes text input e read line = record { bytes = bytes; read = read; line = line }

pub unread_by : (rules : Rules) (name text : List ℕ) (input : Option (List ℕ)) (e : CommandEnd) → IsUnreadLine rules name e text → IsInfoLine e rules name input text
unread_by rules name text input e line = record { bytes = unwrap_or input []; read = any_input name input; line = unread_of_bytes rules name (unwrap_or input []) text e line }

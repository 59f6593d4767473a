-- The tables of faults and notes: each code and name is unique, and none is left out.
use Rattle.std.specs.Prelude.{◌≡◌, ◌↔◌, ◌⊎◌, ℕ, ◌<◌, ◌≤◌}
use Rattle.draw_ops.specs.Fault.{IsInRecord, record_kind_of}
use Rattle.draw_ops.specs.FaultTable.{fault_row}
use Rattle.draw_ops.specs.NoteTable.{note_row_of}
use Rattle.draw_ops.specs.declared.fault.Fault.{Fault}
use Rattle.draw_ops.specs.declared.note.Note.{Note}

-- a number is from `first` to `last`
pub record IsFromTo (first last number : ℕ) : Type 0 where
  pub low : first ≤ number
  pub high : number ≤ last

-- a fault has this code
pub record IsCode (code : ℕ) : Type 0 where
  pub fault : Fault
  pub has_it : (fault_row fault).code ≡ code

-- a kind of note has this index
pub record IsIndex (index : ℕ) : Type 0 where
  pub note : Note
  pub has_it : (note_row_of note).index ≡ index

-- a code is one of those of faults that lie in a record
abbrev pub IsRecordCode : ℕ → Type 0
IsRecordCode code = IsFromTo 10 39 code ⊎ IsFromTo 46 48 code

-- The codes of faults are 1 to 48, and each is that of a fault. A code, with the kind of record that the fault refers
-- to, determines the fault, and so does a name. The codes of faults that lie in a record are 10 to 39 and 46 to 48.
pub record FaultTableLaws : Type 0 where
  pub within : (fault : Fault) → IsFromTo 1 48 (fault_row fault).code
  pub none_left_out : (code : ℕ) → IsFromTo 1 48 code → IsCode code
  pub one_code :
      (fault other : Fault) → (fault_row fault).code ≡ (fault_row other).code
      → record_kind_of fault ≡ record_kind_of other → fault ≡ other
  pub one_name :
      (fault other : Fault) → (fault_row fault).name ≡ (fault_row other).name
      → record_kind_of fault ≡ record_kind_of other → fault ≡ other
  pub in_record : (fault : Fault) → IsInRecord fault ↔ IsRecordCode (fault_row fault).code

-- The indexes of notes are below 9, and each is that of a kind. An index determines the kind, and so does a name.
pub record NoteTableLaws : Type 0 where
  pub within : (note : Note) → (note_row_of note).index < 9
  pub none_left_out : (index : ℕ) → index < 9 → IsIndex index
  pub one_index : (note other : Note) → (note_row_of note).index ≡ (note_row_of other).index → note ≡ other
  pub one_name : (note other : Note) → (note_row_of note).name ≡ (note_row_of other).name → note ≡ other

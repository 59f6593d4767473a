-- The tables of faults and of notes, computed row by row.
use Rattle.std.proofs.Common.{◌≡◌, ◌↔◌, ℕ, zero, suc, ◌+◌, ◌-◌, ◌<◌, ◌≤◌, Bool, true, false, ◌&&◌, ◌||◌, ◌==◌, cond, nat_le, nat_lt, List, [], ◌∷◌, length, inl, inr, Option, Some, None, refl, ap, sym, ◌∙◌, arith}
use Rattle.std.proofs.lemmas.Bool.{and_from, and_parts, cases_eq, or_left, or_right, le-leb, leb-true, ltb-true}
use Rattle.mapping.specs.TestLaws.{by_either}
use Rattle.draw_ops.specs.Fault.{IsInRecord, record_kind_of}
use Rattle.draw_ops.specs.FaultTable.{fault_row}
use Rattle.draw_ops.specs.NoteTable.{note_row_of}
use Rattle.draw_ops.specs.TableLaws.{FaultTableLaws, IsCode, IsFromTo, IsIndex, IsRecordCode, NoteTableLaws}
use Rattle.draw_ops.specs.declared.fault.Fault.{Fault}
use Rattle.draw_ops.specs.declared.fault.Fault.TheVariants.{TooLong, NotMetafile, ShortHeader, BadHeader, NoFrame, NotCertificate, ShortCertificate, BadBound, TrailingBytes, Record, NeedTooSmall, BudgetTooSmall, SurfaceTooLarge, BadImage, WriteFault, OutOfMemory}
use Rattle.draw_ops.specs.declared.note.Note.{Note}
use Rattle.draw_ops.specs.declared.note.Note.TheVariants.{PlaceableChecksum, PlaceableFields, SizeField, AfterEnd, DashedPen, WidePen, Isotropic, EmfPlus, Skipped}
use Rattle.draw_ops.specs.declared.record_fault.RecordFault.TheVariants.{NoEnd, ShortRecord, PastEnd, TooManyRecords, UnknownRecord, Unsupported, BadParams, BadValue, PaletteColour, MetricMode, BadDib, CompressedDib, ShortDib, TableFull, HandleTaken, NoSuchHandle, WrongKind, HeldObject, NoSavedState, DepthLimit, TooManyCuts, ZeroExtent, OffPlane, SourceMissing, SourceOutside, PathState, TooManyEdges, TooManyPieces, WrongEntry, BoxTooSmall, NibTooWide, NibTooSmall, EmfPlusAlone}

-- the same codes of a name
abbrev same_name : List ℕ → List ℕ → Bool
same_name [] [] = true
same_name [] (c ∷ cs) = false
same_name (c ∷ cs) [] = false
same_name (c ∷ cs) (d ∷ ds) = c == d && same_name cs ds

-- the faults in the order of their codes, those that speak of a kind of record with this one
abbrev faults : ℕ → List Fault
faults kind = TooLong ∷ NotMetafile ∷ ShortHeader ∷ BadHeader ∷ NoFrame ∷ NotCertificate ∷ ShortCertificate ∷ BadBound ∷ TrailingBytes ∷ (Record NoEnd) ∷ (Record ShortRecord) ∷ (Record PastEnd) ∷ (Record TooManyRecords) ∷ (Record (UnknownRecord kind)) ∷ (Record (Unsupported kind)) ∷ (Record BadParams) ∷ (Record BadValue) ∷ (Record PaletteColour) ∷ (Record MetricMode) ∷ (Record BadDib) ∷ (Record CompressedDib) ∷ (Record ShortDib) ∷ (Record TableFull) ∷ (Record HandleTaken) ∷ (Record NoSuchHandle) ∷ (Record WrongKind) ∷ (Record HeldObject) ∷ (Record NoSavedState) ∷ (Record DepthLimit) ∷ (Record TooManyCuts) ∷ (Record ZeroExtent) ∷ (Record OffPlane) ∷ (Record SourceMissing) ∷ (Record SourceOutside) ∷ (Record PathState) ∷ (Record TooManyEdges) ∷ (Record TooManyPieces) ∷ (Record WrongEntry) ∷ (Record BoxTooSmall) ∷ NeedTooSmall ∷ BudgetTooSmall ∷ SurfaceTooLarge ∷ BadImage ∷ WriteFault ∷ OutOfMemory ∷ (Record NibTooWide) ∷ (Record NibTooSmall) ∷ (Record EmfPlusAlone) ∷ []

-- the place of a fault in a list, or 0
abbrev nth : {A : Type 0} → A → List A → ℕ → A
nth first [] n = first
nth first (a ∷ rest) zero = a
nth first (a ∷ rest) (suc n) = nth first rest n

abbrev kind_or_0 : Option ℕ → ℕ
kind_or_0 None = 0
kind_or_0 (Some kind) = kind

abbrev fault_at : ℕ → Option ℕ → Fault
fault_at code kind = nth TooLong (faults (kind_or_0 kind)) (code - 1)

abbrev code_named : ℕ → List Fault → List ℕ → ℕ
code_named code [] name = 0
code_named code (fault ∷ rest) name = cond (same_name name (fault_row fault).name) code (code_named (suc code) rest name)

-- a code is one of those of faults that lie in a record
abbrev is_record_code : ℕ → Bool
is_record_code code = (nat_le 10 code && nat_le code 39) || (nat_le 46 code && nat_le code 48)

-- what is computed of each fault
record Facts (fault : Fault) : Type 0 where
  at : fault_at (fault_row fault).code (record_kind_of fault) ≡ fault
  named : code_named 1 (faults 0) (fault_row fault).name ≡ (fault_row fault).code
  within : nat_le 1 (fault_row fault).code && nat_le (fault_row fault).code 48 ≡ true
  place : IsInRecord fault ↔ (is_record_code (fault_row fault).code ≡ true)

facts : (fault : Fault) → Facts fault
facts TooLong = record { at = refl; named = refl; within = refl; place = (λ h. absurd h, λ h. cc) }
facts NotMetafile = record { at = refl; named = refl; within = refl; place = (λ h. absurd h, λ h. cc) }
facts ShortHeader = record { at = refl; named = refl; within = refl; place = (λ h. absurd h, λ h. cc) }
facts BadHeader = record { at = refl; named = refl; within = refl; place = (λ h. absurd h, λ h. cc) }
facts NoFrame = record { at = refl; named = refl; within = refl; place = (λ h. absurd h, λ h. cc) }
facts NotCertificate = record { at = refl; named = refl; within = refl; place = (λ h. absurd h, λ h. cc) }
facts ShortCertificate = record { at = refl; named = refl; within = refl; place = (λ h. absurd h, λ h. cc) }
facts BadBound = record { at = refl; named = refl; within = refl; place = (λ h. absurd h, λ h. cc) }
facts TrailingBytes = record { at = refl; named = refl; within = refl; place = (λ h. absurd h, λ h. cc) }
facts (Record NoEnd) = record { at = refl; named = refl; within = refl; place = (λ h. refl, λ h. tt) }
facts (Record ShortRecord) = record { at = refl; named = refl; within = refl; place = (λ h. refl, λ h. tt) }
facts (Record PastEnd) = record { at = refl; named = refl; within = refl; place = (λ h. refl, λ h. tt) }
facts (Record TooManyRecords) = record { at = refl; named = refl; within = refl; place = (λ h. refl, λ h. tt) }
facts (Record (UnknownRecord kind)) = record { at = refl; named = refl; within = refl; place = (λ h. refl, λ h. tt) }
facts (Record (Unsupported kind)) = record { at = refl; named = refl; within = refl; place = (λ h. refl, λ h. tt) }
facts (Record BadParams) = record { at = refl; named = refl; within = refl; place = (λ h. refl, λ h. tt) }
facts (Record BadValue) = record { at = refl; named = refl; within = refl; place = (λ h. refl, λ h. tt) }
facts (Record PaletteColour) = record { at = refl; named = refl; within = refl; place = (λ h. refl, λ h. tt) }
facts (Record MetricMode) = record { at = refl; named = refl; within = refl; place = (λ h. refl, λ h. tt) }
facts (Record BadDib) = record { at = refl; named = refl; within = refl; place = (λ h. refl, λ h. tt) }
facts (Record CompressedDib) = record { at = refl; named = refl; within = refl; place = (λ h. refl, λ h. tt) }
facts (Record ShortDib) = record { at = refl; named = refl; within = refl; place = (λ h. refl, λ h. tt) }
facts (Record TableFull) = record { at = refl; named = refl; within = refl; place = (λ h. refl, λ h. tt) }
facts (Record HandleTaken) = record { at = refl; named = refl; within = refl; place = (λ h. refl, λ h. tt) }
facts (Record NoSuchHandle) = record { at = refl; named = refl; within = refl; place = (λ h. refl, λ h. tt) }
facts (Record WrongKind) = record { at = refl; named = refl; within = refl; place = (λ h. refl, λ h. tt) }
facts (Record HeldObject) = record { at = refl; named = refl; within = refl; place = (λ h. refl, λ h. tt) }
facts (Record NoSavedState) = record { at = refl; named = refl; within = refl; place = (λ h. refl, λ h. tt) }
facts (Record DepthLimit) = record { at = refl; named = refl; within = refl; place = (λ h. refl, λ h. tt) }
facts (Record TooManyCuts) = record { at = refl; named = refl; within = refl; place = (λ h. refl, λ h. tt) }
facts (Record ZeroExtent) = record { at = refl; named = refl; within = refl; place = (λ h. refl, λ h. tt) }
facts (Record OffPlane) = record { at = refl; named = refl; within = refl; place = (λ h. refl, λ h. tt) }
facts (Record SourceMissing) = record { at = refl; named = refl; within = refl; place = (λ h. refl, λ h. tt) }
facts (Record SourceOutside) = record { at = refl; named = refl; within = refl; place = (λ h. refl, λ h. tt) }
facts (Record PathState) = record { at = refl; named = refl; within = refl; place = (λ h. refl, λ h. tt) }
facts (Record TooManyEdges) = record { at = refl; named = refl; within = refl; place = (λ h. refl, λ h. tt) }
facts (Record TooManyPieces) = record { at = refl; named = refl; within = refl; place = (λ h. refl, λ h. tt) }
facts (Record WrongEntry) = record { at = refl; named = refl; within = refl; place = (λ h. refl, λ h. tt) }
facts (Record BoxTooSmall) = record { at = refl; named = refl; within = refl; place = (λ h. refl, λ h. tt) }
facts NeedTooSmall = record { at = refl; named = refl; within = refl; place = (λ h. absurd h, λ h. cc) }
facts BudgetTooSmall = record { at = refl; named = refl; within = refl; place = (λ h. absurd h, λ h. cc) }
facts SurfaceTooLarge = record { at = refl; named = refl; within = refl; place = (λ h. absurd h, λ h. cc) }
facts BadImage = record { at = refl; named = refl; within = refl; place = (λ h. absurd h, λ h. cc) }
facts WriteFault = record { at = refl; named = refl; within = refl; place = (λ h. absurd h, λ h. cc) }
facts OutOfMemory = record { at = refl; named = refl; within = refl; place = (λ h. absurd h, λ h. cc) }
facts (Record NibTooWide) = record { at = refl; named = refl; within = refl; place = (λ h. refl, λ h. tt) }
facts (Record NibTooSmall) = record { at = refl; named = refl; within = refl; place = (λ h. refl, λ h. tt) }
facts (Record EmfPlusAlone) = record { at = refl; named = refl; within = refl; place = (λ h. refl, λ h. tt) }

is_from_to : (first last n : ℕ) → nat_le first n && nat_le n last ≡ true → IsFromTo first last n
is_from_to first last n h = let parts = and_parts (nat_le first n) (nat_le n last) h in record { low = leb-true _ _ parts.0; high = leb-true _ _ parts.1 }

tested : (first last n : ℕ) → IsFromTo first last n → nat_le first n && nat_le n last ≡ true
tested first last n h = and_from (nat_le first n) (nat_le n last) (le-leb _ _ h.low) (le-leb _ _ h.high)

-- the codes of faults that lie in a record
code_from : (code : ℕ) → is_record_code code ≡ true → IsRecordCode code
code_from code t =
    by_either (nat_le 10 code && nat_le code 39) (nat_le 46 code && nat_le code 48) t (λ h. inl (is_from_to 10 39 code h)) (λ h. inr (is_from_to 46 48 code h))

code_tested : (code : ℕ) → IsRecordCode code → is_record_code code ≡ true
code_tested code (inl h) = or_left (nat_le 10 code && nat_le code 39) (nat_le 46 code && nat_le code 48) (tested 10 39 code h)
code_tested code (inr h) = or_right (nat_le 10 code && nat_le code 39) (nat_le 46 code && nat_le code 48) (tested 46 48 code h)

-- faults whose codes count up
abbrev CountUp : ℕ → List Fault → Type 0
CountUp code [] = Unit
CountUp code (fault ∷ rest) = ((fault_row fault).code ≡ code) × CountUp (suc code) rest

has_code : (rest : List Fault) (n code : ℕ) → CountUp code rest → code ≤ n → n < code + length rest → IsCode n
has_code [] n code up a b = absurd (omega (arith, a, b))
has_code (fault ∷ rest) n code up a b = elim (cases_eq n code) [
  | inl same ↦ record { fault = fault; has_it = up.0 ∙ sym same }
  | inr other ↦ has_code rest n (suc code) up.1 (omega (arith, a, other)) (omega (arith, b))
]

all_count_up : CountUp 1 (faults 0)
all_count_up = (refl, (refl, (refl, (refl, (refl, (refl, (refl, (refl, (refl, (refl, (refl, (refl, (refl, (refl, (refl, (refl, (refl, (refl, (refl, (refl, (refl, (refl, (refl, (refl, (refl, (refl, (refl, (refl, (refl, (refl, (refl, (refl, (refl, (refl, (refl, (refl, (refl, (refl, (refl, (refl, (refl, (refl, (refl, (refl, (refl, (refl, (refl, (refl, tt))))))))))))))))))))))))))))))))))))))))))))))))

same_fault : (fault other : Fault) → (fault_row fault).code ≡ (fault_row other).code → record_kind_of fault ≡ record_kind_of other → fault ≡ other
same_fault fault other code kind =
    sym (facts fault).at ∙ ap (λ (n : ℕ). fault_at n (record_kind_of fault)) code ∙ ap (λ (k : Option ℕ). fault_at (fault_row other).code k) kind ∙ (facts other).at

pub fault_table : FaultTableLaws
fault_table = record {
  within = λ fault. is_from_to 1 48 _ (facts fault).within;
  none_left_out = λ code h. has_code (faults 0) code 1 all_count_up h.low (let high = h.high in omega (arith, high));
  one_code = λ fault other code kind. same_fault fault other code kind;
  one_name = λ fault other name kind. same_fault fault other (sym (facts fault).named ∙ ap (code_named 1 (faults 0)) name ∙ (facts other).named) kind;
  in_record = λ fault. (λ h. code_from (fault_row fault).code ((facts fault).place.0 h), λ h. (facts fault).place.1 (code_tested (fault_row fault).code h));
}

-- the kinds of notes in the order of their indexes
abbrev notes : List Note
notes = PlaceableChecksum ∷ PlaceableFields ∷ SizeField ∷ AfterEnd ∷ DashedPen ∷ WidePen ∷ Isotropic ∷ EmfPlus ∷ Skipped ∷ []

abbrev index_named : ℕ → List Note → List ℕ → ℕ
index_named index [] name = 0
index_named index (note ∷ rest) name = cond (same_name name (note_row_of note).name) index (index_named (suc index) rest name)

record NoteFacts (note : Note) : Type 0 where
  at : nth PlaceableChecksum notes (note_row_of note).index ≡ note
  named : index_named 0 notes (note_row_of note).name ≡ (note_row_of note).index
  within : nat_lt (note_row_of note).index 9 ≡ true

note_facts : (note : Note) → NoteFacts note
note_facts PlaceableChecksum = record { at = refl; named = refl; within = refl }
note_facts PlaceableFields = record { at = refl; named = refl; within = refl }
note_facts SizeField = record { at = refl; named = refl; within = refl }
note_facts AfterEnd = record { at = refl; named = refl; within = refl }
note_facts DashedPen = record { at = refl; named = refl; within = refl }
note_facts WidePen = record { at = refl; named = refl; within = refl }
note_facts Isotropic = record { at = refl; named = refl; within = refl }
note_facts EmfPlus = record { at = refl; named = refl; within = refl }
note_facts Skipped = record { at = refl; named = refl; within = refl }

abbrev NotesCountUp : ℕ → List Note → Type 0
NotesCountUp index [] = Unit
NotesCountUp index (note ∷ rest) = ((note_row_of note).index ≡ index) × NotesCountUp (suc index) rest

has_index : (rest : List Note) (n index : ℕ) → NotesCountUp index rest → index ≤ n → n < index + length rest → IsIndex n
has_index [] n index up a b = absurd (omega (arith, a, b))
has_index (note ∷ rest) n index up a b = elim (cases_eq n index) [
  | inl same ↦ record { note = note; has_it = up.0 ∙ sym same }
  | inr other ↦ has_index rest n (suc index) up.1 (omega (arith, a, other)) (omega (arith, b))
]

notes_count_up : NotesCountUp 0 notes
notes_count_up = (refl, (refl, (refl, (refl, (refl, (refl, (refl, (refl, (refl, tt)))))))))

same_note : (note other : Note) → (note_row_of note).index ≡ (note_row_of other).index → note ≡ other
same_note note other index = sym (note_facts note).at ∙ ap (nth PlaceableChecksum notes) index ∙ (note_facts other).at

pub note_table : NoteTableLaws
note_table = record {
  within = λ note. ltb-true _ _ (note_facts note).within;
  none_left_out = λ index h. has_index notes index 0 notes_count_up (omega arith) (omega (arith, h));
  one_index = λ note other index. same_note note other index;
  one_name = λ note other name. same_note note other (sym (note_facts note).named ∙ ap (index_named 0 notes) name ∙ (note_facts other).named);
}

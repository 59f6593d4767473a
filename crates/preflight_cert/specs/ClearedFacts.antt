-- What holds for a file and a certificate that was accepted for it.
use Rattle.std.specs.Prelude.{ℕ, List}
use Rattle.meta_headers.specs.File.{IsOpenedFrom}
use Rattle.meta_headers.specs.OpenedOf.{opened_of}
use Rattle.preflight_cert.specs.Answer.{CountsRecords, Sound}
use Rattle.preflight_cert.specs.declared.cleared.Cleared.{Cleared}

-- the counts of a cleared file are those of its records, of its notes of each kind, and of what it uses
abbrev pub CountsItsRecords : Cleared → Type 0
CountsItsRecords c = CountsRecords (opened_of c.opened) c.opened.records.now c.records c.notes.counts c.uses

-- The file is sound, under the rules of its opening, within the certificate's bound and writes.
abbrev pub IsSoundFor : List ℕ → Cleared → Type 0
IsSoundFor file c = Sound c.opened.rules file c.certificate.max_width c.certificate.max_height c.certificate.writes

-- a cleared file is sound in this way, for any file that it was opened from
abbrev pub IsSoundWhereOpened : Cleared → Type 0
IsSoundWhereOpened c = (file : List ℕ) → IsOpenedFrom file c.opened → IsSoundFor file c

-- every cleared file is sound in this way, for any file that it was opened from
abbrev pub ClearedIsSound : Type 0
ClearedIsSound = (c : Cleared) → IsSoundWhereOpened c

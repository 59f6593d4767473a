-- A note that no record of WMF has.
use Rattle.std.specs.Prelude.{◌≡◌, ℕ, false, IfOk}
use Rattle.draw_ops.specs.NoteKinds.{is_noted}
use Rattle.draw_ops.specs.Records.{Record}
use Rattle.draw_ops.specs.declared.note.Note.TheVariants.{EmfPlus}
use Rattle.wmf_records.specs.Wmf.{wmf_meaning}

-- no record of WMF is noted to contain EMF+
abbrev pub NeverEmfPlus : Type 0
NeverEmfPlus = (number : ℕ) (r : Record) → IfOk (wmf_meaning number r) (λ decoded. is_noted decoded.notes EmfPlus ≡ false)

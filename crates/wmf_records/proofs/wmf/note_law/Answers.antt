-- The law, entry by entry.
use Rattle.wmf_records.proofs.NoteLemmas.{never_emf_plus}
use Rattle.wmf_records.proofs.wmf.note_law.Goals as goal

pub returns : goal.returns
returns c = never_emf_plus

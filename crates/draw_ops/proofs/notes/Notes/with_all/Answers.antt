-- Nothing is added for an empty set.
use Rattle.std.proofs.Common.{◌≡◌, ℕ, ap, sym, ◌∙◌, refl}
use Rattle.draw_ops.specs.NoteCounts.{added_notes, no_notes}
use Rattle.draw_ops.specs.NoteSet.{bits_of}
use Rattle.draw_ops.proofs.notes.Notes.with_all.Goals as goal

-- an empty set has no note of any kind
none_in : (n : ℕ) → n ≡ 0 → bits_of n ≡ no_notes
none_in n e = rw e refl

pub returns-then-set-eq0 : goal.returns-then-set-eq0
returns-then-set-eq0 c = sym (ap (added_notes c.args.self.counts) (none_in c.args.set.bits c.if-set-eq0.true) ∙ c.zeros_law.ensures)

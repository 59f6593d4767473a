use Rattle.draw_ops.proofs.NoteSetLemmas.{with_bit_at, with_bit_within}
use Rattle.draw_ops.proofs.note_set.NoteSet.with.Goals as goal

pub invariant_of-result : goal.invariant_of-result
invariant_of-result c = record { within = with_bit_within c.args.self.bits _ c.args.self.within c.row.ensures.below }

pub returns : goal.returns
returns c = with_bit_at c.args.note c.args.self.bits _ c.row.ensures.index

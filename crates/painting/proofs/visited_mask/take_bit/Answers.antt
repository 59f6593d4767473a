use Rattle.painting.proofs.VisitedMaskLemmas.{bit_is_set, word_within}
use Rattle.painting.proofs.visited_mask.take_bit.Goals as goal

pub bounds-words-at : goal.bounds-words-at
bounds-words-at c = rw c.requires.words (word_within c.args.number c.requires.number)

pub bounds-words-at-2 : goal.bounds-words-at-2
bounds-words-at-2 c = rw c.requires.words (word_within c.args.number c.requires.number)

pub returns-clause-bits : goal.returns-clause-bits
returns-clause-bits c = bit_is_set c.args.words.now c.args.number c.requires.words c.requires.number

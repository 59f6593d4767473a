-- The colour stands behind the word.
use Rattle.std.proofs.lemmas.List.{append_assoc}
use Rattle.listing.proofs.asked.put_background.Goals as goal

pub returns-clause-text : goal.returns-clause-text
returns-clause-text c = simp (c.put_colour.ensures.text, c.put.ensures, append_assoc)

-- One part behind another.
use Rattle.std.proofs.lemmas.List.{append_assoc}
use Rattle.listing.proofs.asked.put_pixel.Goals as goal

pub returns-clause-text : goal.returns-clause-text
returns-clause-text c = simp (c.put_colour.ensures.text, c.put-2.ensures, c.put_point.ensures.text, c.put.ensures, append_assoc)

-- One field behind another.
use Rattle.std.proofs.lemmas.List.{append_assoc}
use Rattle.listing.proofs.line.put_head.Goals as goal

pub returns-clause-text : goal.returns-clause-text
returns-clause-text c =
    simp (
      c.put-4.ensures,
      c.put-3.ensures,
      c.kind_name.ensures.name,
      c.put-2.ensures,
      c.put_kind.ensures.text,
      c.put.ensures,
      c.put_size.ensures.text,
      c.put_place.ensures.text,
      append_assoc,
    )

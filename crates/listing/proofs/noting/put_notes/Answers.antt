-- One name behind another.
use Rattle.std.proofs.lemmas.List.{append_assoc}
use Rattle.listing.proofs.noting.put_notes.Goals as goal

pub returns-clause-text : goal.returns-clause-text
returns-clause-text c =
    simp (
      c.put_note-9.ensures.text,
      c.put_note-8.ensures.text,
      c.put_note-7.ensures.text,
      c.put_note-6.ensures.text,
      c.put_note-5.ensures.text,
      c.put_note-4.ensures.text,
      c.put_note-3.ensures.text,
      c.put_note-2.ensures.text,
      c.put_note.ensures.text,
      append_assoc,
    )

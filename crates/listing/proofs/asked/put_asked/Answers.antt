-- What is put is what the operation asks for.
use Rattle.std.proofs.lemmas.List.{append_assoc}
use Rattle.listing.proofs.asked.put_asked.Goals as goal

pub returns-in-SetBackgroundMode-clause-text : goal.returns-in-SetBackgroundMode-clause-text
returns-in-SetBackgroundMode-clause-text c =
    simp (c.in-SetBackgroundMode.is, c.put_named_number.ensures.text, c.from.ensures, c.code.ensures, append_assoc)

pub returns-in-SetWindowOrigin-clause-text : goal.returns-in-SetWindowOrigin-clause-text
returns-in-SetWindowOrigin-clause-text c = simp (c.in-SetWindowOrigin.is, c.put_named_point.ensures.text, append_assoc)

pub returns-in-SetViewportExtent-clause-text : goal.returns-in-SetViewportExtent-clause-text
returns-in-SetViewportExtent-clause-text c =
    simp (c.in-SetViewportExtent.is, c.put_named_point-in-SetViewportExtent.ensures.text, append_assoc)

pub returns-in-OffsetWindowOrigin-clause-text : goal.returns-in-OffsetWindowOrigin-clause-text
returns-in-OffsetWindowOrigin-clause-text c =
    simp (c.in-OffsetWindowOrigin.is, c.put_named_point-in-OffsetWindowOrigin.ensures.text, append_assoc)

pub returns-in-OffsetViewportOrigin-clause-text : goal.returns-in-OffsetViewportOrigin-clause-text
returns-in-OffsetViewportOrigin-clause-text c =
    simp (c.in-OffsetViewportOrigin.is, c.put_named_point-in-OffsetViewportOrigin.ensures.text, append_assoc)

pub returns-in-CloseFigure-clause-text : goal.returns-in-CloseFigure-clause-text
returns-in-CloseFigure-clause-text c = rw c.in-CloseFigure.is c.put-in-CloseFigure.ensures

pub returns-in-StrokePath-clause-text : goal.returns-in-StrokePath-clause-text
returns-in-StrokePath-clause-text c = rw c.in-StrokePath.is c.put-in-StrokePath.ensures

-- The step is that of the format that the file has.
use Rattle.listing.proofs.line.step_in.Goals as goal

pub returns-in-Placeable : goal.returns-in-Placeable
returns-in-Placeable c = rw c.in-Placeable.is c.step.ensures

pub returns-in-Plain : goal.returns-in-Plain
returns-in-Plain c = rw c.in-Plain.is c.step-in-Plain.ensures

pub returns-in-Emf : goal.returns-in-Emf
returns-in-Emf c = rw c.in-Emf.is c.step-in-Emf.ensures

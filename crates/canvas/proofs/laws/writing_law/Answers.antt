use Rattle.canvas.proofs.WritingLawLemmas.{writing_laws}
use Rattle.canvas.proofs.laws.writing_law.Goals as goal

pub returns : goal.returns
returns c = writing_laws

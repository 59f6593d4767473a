-- The law of nibs.
use Rattle.mapping.proofs.NibLemmas as lemmas
use Rattle.mapping.proofs.nib.nib_law.Goals as goal

pub returns : goal.returns
returns c = lemmas.nib_laws

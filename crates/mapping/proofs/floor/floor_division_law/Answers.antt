use Rattle.mapping.proofs.FloorLemmas.{floor_is_greatest}
use Rattle.mapping.proofs.floor.floor_division_law.Goals as goal

pub returns : goal.returns
returns c = floor_is_greatest

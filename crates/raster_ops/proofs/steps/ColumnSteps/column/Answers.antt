use Rattle.raster_ops.proofs.StepLemmas.{quotient_below, quotient_is}
use Rattle.raster_ops.proofs.steps.ColumnSteps.column.Goals as goal

pub returns-clause-column : goal.returns-clause-column
returns-clause-column c = let s = c.args.self.now in quotient_is s.count s.side s.place s.quotient s.rest s.divided s.rest_below

pub returns-clause-within : goal.returns-clause-within
returns-clause-within c = λ within. let s = c.args.self.now in quotient_below s.count s.side s.place s.quotient s.rest s.divided s.rest_below s.some within

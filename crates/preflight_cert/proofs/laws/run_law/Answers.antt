use Rattle.preflight_cert.proofs.ObjectLemmas.{objects_in_order}
use Rattle.preflight_cert.proofs.RunLemmas.{run_ends, rejected_over_any, writes_are_one}
use Rattle.preflight_cert.proofs.laws.run_law.Goals as goal

pub returns-clause-end : goal.returns-clause-end
returns-clause-end c = run_ends c.file_law.ensures

pub returns-clause-refusal : goal.returns-clause-refusal
returns-clause-refusal c = rejected_over_any

pub returns-clause-writes : goal.returns-clause-writes
returns-clause-writes c = writes_are_one c.file_law.ensures

pub returns-clause-objects : goal.returns-clause-objects
returns-clause-objects c = objects_in_order c.order_law.ensures
